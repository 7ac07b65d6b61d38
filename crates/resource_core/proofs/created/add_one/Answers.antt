use Rattle.std.proofs.Common.{ℕ, List, sym, subst, ap, ◌∙◌, bytes_eq, codes}
use Rattle.doc_tree.specs.Tree.{doc_of}
use Rattle.resource_core.specs.Entries.{entry_by}
use Rattle.resource_core.specs.Titles.{Adds}
use Rattle.resource_core.proofs.CreatedLemmas.{one_created, adds_one}
use Rattle.resource_core.proofs.created.add_one.Goals as goal

-- the entry is to create, and its resource is added
pub returns-in_ok-insert : goal.returns-in_ok-insert
returns-in_ok-insert c =
    let entry = entry_by c.in-Some.stated in
    let creates = ap (λ (a : List ℕ). bytes_eq a (codes "create")) (sym c.as_str.ensures.value) ∙ sym c.if-eq.ensures in
    let one = one_created (doc_of c.args.tree.now) entry (sym c.in-Some.ensures) creates in
    subst (λ (ts : List (List ℕ)). Adds ts c.args.titles.now c.insert.new.self) (sym one)
    (adds_one c.args.titles.now c.insert.new.self c.in_ok-copy.field-0 entry.resource c.in_ok-copy.ensures c.in_ok-insert.ensures.updates.0)
