use Rattle.std.proofs.Common.{ℕ, List, ◌++◌, Some, cond, is_eq, sym, ap, ◌∙◌}
use Rattle.attr_merge.specs.Merged.{origin_at, path_cmp}
use Rattle.attr_merge.specs.Nodes.{leaves_of, entries_of}
use Rattle.attr_merge.specs.declared.nodes.Leaf.{Leaf}
use Rattle.attr_merge.proofs.EntryLemmas.{origin-inserted, origin-moved}
use Rattle.attr_merge.proofs.merged.in_order.Goals as goal

pub loop-leaf-preserved-in_ok-insert : goal.loop-leaf-preserved-in_ok-insert
loop-leaf-preserved-in_ok-insert c = λ path.
    let leaf = c.in-Some.leaf in
    origin-moved path c.pop.new.self.items leaf (entries_of c.loop-leaf.found.entries) (entries_of c.insert.new.self.entries)
    (ap (λ es. origin_at path (entries_of es)) c.in_ok-insert.ensures.entries
    ∙ origin-inserted path c.without_room.result leaf.origin c.loop-leaf.found.entries
    ∙ ap (λ (keys : List (List ℕ)). cond (is_eq (path_cmp path keys)) (Some leaf.origin.items) (origin_at path (entries_of c.loop-leaf.found.entries))) c.without_room.ensures)
    ∙ ap (λ (xs : List Leaf). origin_at path (leaves_of xs ++ entries_of c.loop-leaf.found.entries)) (sym c.in-Some.ensures.items)
    ∙ c.loop-leaf.invariant path

pub loop-leaf-preserved : goal.loop-leaf-preserved
loop-leaf-preserved c = λ path.
    let leaf = c.in-Some.leaf in
    origin-moved path c.pop.new.self.items leaf (entries_of c.loop-leaf.found.entries) (entries_of c.insert.new.self.entries)
    (ap (λ es. origin_at path (entries_of es)) c.in_ok-insert.ensures.entries
    ∙ origin-inserted path c.without_room.result leaf.origin c.loop-leaf.found.entries
    ∙ ap (λ (keys : List (List ℕ)). cond (is_eq (path_cmp path keys)) (Some leaf.origin.items) (origin_at path (entries_of c.loop-leaf.found.entries))) c.without_room.ensures)
    ∙ ap (λ (xs : List Leaf). origin_at path (leaves_of xs ++ entries_of c.loop-leaf.found.entries)) (sym c.in-Some.ensures.items)
    ∙ c.loop-leaf.invariant path
