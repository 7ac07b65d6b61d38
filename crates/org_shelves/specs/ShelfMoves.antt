-- The moves that change what an organisation keeps on shelves, and with it the organisation's files.
use Rattle.std.specs.Prelude.{Bool, true, false, not, ◌&&◌, ◌||◌, ℕ, List, filter, Option, None}
use Rattle.std.specs.FinMap as finite
use Rattle.std.specs.List.{list_any}
use Rattle.std.specs.declared.cmp.Ordering.{Ordering}
use Rattle.org_shelves.specs.Editions.{names_sum}
use Rattle.doc_tree.specs.Doc.{Doc}
use Rattle.sandboxes.specs.Sandboxes.{Holding}
use Rattle.sandboxes.specs.Sums.{Sums}
use Rattle.shelves.specs.Shelves.{Store, put, value_at, without}
use Rattle.shelves.specs.SortedMap.{each_value}
use Rattle.org_shelves.specs.Shelved.{Assigned, Shelved, with_artifacts, with_cookbooks, with_groups, with_policies}
use Rattle.org_shelves.specs.declared.shelf_moves.ShelfMove.{ShelfMove}
use Rattle.org_shelves.specs.declared.shelf_moves.ShelfMove.TheVariants.{PutVersion, TakeVersion, PutArtifact, TakeArtifact, PutRevision, TakePolicy, PutGroup, TakeGroup}

-- a group's assignments without this policy's
abbrev pub unassigned : List ℕ → Assigned → Assigned
unassigned policy assigned = finite.remove assigned policy

-- the shelves after a move: a policy that goes takes its revisions along, and goes out of every group
abbrev pub after_shelf_move : ShelfMove → Shelved → Shelved
after_shelf_move (PutVersion name version manifest) s = with_cookbooks (put name version manifest s.cookbooks) s
after_shelf_move (TakeVersion name version) s = with_cookbooks (without name version s.cookbooks) s
after_shelf_move (PutArtifact name id manifest) s = with_artifacts (put name id manifest s.artifacts) s
after_shelf_move (TakeArtifact name id) s = with_artifacts (without name id s.artifacts) s
after_shelf_move (PutRevision policy revision lock) s = with_policies (put policy revision lock s.policies) s
after_shelf_move (TakePolicy policy) s = with_groups (each_value (unassigned policy) s.groups) (with_policies (finite.remove s.policies policy) s)
after_shelf_move (PutGroup name assigned) s = with_groups (finite.insert s.groups name assigned) s
after_shelf_move (TakeGroup name) s = with_groups (finite.remove s.groups name) s

-- something is put on a shelf, which takes room
abbrev pub puts_on_shelves : ShelfMove → Bool
puts_on_shelves (PutVersion name version manifest) = true
puts_on_shelves (TakeVersion name version) = false
puts_on_shelves (PutArtifact name id manifest) = true
puts_on_shelves (TakeArtifact name id) = false
puts_on_shelves (PutRevision policy revision lock) = true
puts_on_shelves (TakePolicy policy) = false
puts_on_shelves (PutGroup name assigned) = true
puts_on_shelves (TakeGroup name) = false

module _ {K : Type 0} {cmp : K → K → Ordering} where
  -- some manifest of one cookbook names a file of this checksum
  abbrev pub shelf_names : List ℕ → finite.FinMap cmp Doc → Bool
  shelf_names sum shelf = list_any (λ entry. names_sum entry.1 sum) (finite.entries shelf)

  -- some manifest of any cookbook does
  abbrev pub store_names : List ℕ → Store cmp Doc → Bool
  store_names sum store = list_any (λ shelf. shelf_names sum shelf.1) (finite.entries store)

-- some cookbook version or artifact names a file of this checksum
abbrev pub is_named : Shelved → List ℕ → Bool
is_named s sum = store_names sum s.cookbooks || store_names sum s.artifacts

-- the files but for those that were named before, and aren't named afterwards
abbrev pub dropped : (List ℕ → Bool) → (List ℕ → Bool) → Holding → Holding
dropped before after files =
    record { files = finite.retain_keys files.files (λ sum. not (before sum && not (after sum))); sandboxes = files.sandboxes; count = files.count }

-- the files after a move: one that was named, and that nothing names any more, is dropped
abbrev pub files_after_shelf_move : ShelfMove → Shelved → Holding → Holding
files_after_shelf_move move s files = dropped (is_named s) (is_named (after_shelf_move move s)) files

-- the manifest that stands where a move puts one or takes it
abbrev pub replaced_by : ShelfMove → Shelved → Option Doc
replaced_by (PutVersion name version manifest) s = value_at s.cookbooks name version
replaced_by (TakeVersion name version) s = value_at s.cookbooks name version
replaced_by (PutArtifact name id manifest) s = value_at s.artifacts name id
replaced_by (TakeArtifact name id) s = value_at s.artifacts name id
replaced_by (PutRevision policy revision lock) s = None
replaced_by (TakePolicy policy) s = None
replaced_by (PutGroup name assigned) s = None
replaced_by (TakeGroup name) s = None

-- those of these checksums that nothing on the shelves names
abbrev pub unnamed : Shelved → Sums → Sums
unnamed s sums = filter (λ sum. not (is_named s sum)) sums
