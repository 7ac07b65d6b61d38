-- A host: what stands at its paths.
use Rattle.std.specs.Prelude.{◌≡◌, ◌⊎◌, ℕ, Bool, true, List, Option, Some, None, ⊤, IsTrue, refl}
use Rattle.std.proofs.Common.{inl, inr}
use Rattle.std.specs.Cmp.Lexicographic.{slice_cmp}
use Rattle.std.specs.Coded.{Coded, code_by, coded_ℕ, coded_list, coded×, coded⊎}
use Rattle.std.specs.FinMap as finite
use Rattle.std.specs.List.{list_any}
use Rattle.std.specs.Ordering.{nat_cmp}
use Rattle.host_tree.specs.Paths.{is_normal, is_above}
use Rattle.host_tree.specs.declared.entry.Entry.{Entry}
use Rattle.host_tree.specs.declared.entry.Entry.TheVariants.{File, Directory, Link}

-- entries by their paths
abbrev pub Entries : Type 0
Entries = finite.FinMap (slice_cmp nat_cmp) Entry

-- what stands at a path
abbrev pub at : Entries → List ℕ → Option Entry
at host path = finite.get host path

-- a directory stands there
abbrev pub IsDirectory : Option Entry → Type 0
IsDirectory None = ⊥
IsDirectory (Some (File content mode)) = ⊥
IsDirectory (Some (Directory mode)) = ⊤
IsDirectory (Some (Link to)) = ⊥

-- each path is normal, and each of its proper prefixes is a directory
abbrev pub IsHost : Entries → Type 0
IsHost host = (path : List ℕ) (entry : Entry) → at host path ≡ Some entry → IsTrue (is_normal path) × ((above : List ℕ) → is_above above path ≡ true → IsDirectory (at host above))

-- something stands below this path
abbrev pub has_below : Entries → List ℕ → Bool
has_below host path = list_any (is_above path) (finite.keys host)

-- how the logic stores an entry

abbrev entry_to : Entry → (List ℕ × ℕ) ⊎ (ℕ ⊎ List ℕ)
entry_to (File content mode) = inl (content, mode)
entry_to (Directory mode) = inr (inl mode)
entry_to (Link to) = inr (inr to)

abbrev entry_back : (List ℕ × ℕ) ⊎ (ℕ ⊎ List ℕ) → Entry
entry_back (inl (content, mode)) = File content mode
entry_back (inr (inl mode)) = Directory mode
entry_back (inr (inr to)) = Link to

pub entry_back-to : (e : Entry) → entry_back (entry_to e) ≡ e
entry_back-to (File content mode) = refl
entry_back-to (Directory mode) = refl
entry_back-to (Link to) = refl

abbrev pub entry_code : Coded Entry
entry_code = code_by ((List ℕ × ℕ) ⊎ (ℕ ⊎ List ℕ)) (coded⊎ (coded× (coded_list coded_ℕ) coded_ℕ) (coded⊎ coded_ℕ (coded_list coded_ℕ))) entry_to entry_back entry_back-to

-- how the logic stores a host
abbrev pub entries_code : Coded Entries
entries_code = finite.code (coded_list coded_ℕ) entry_code
