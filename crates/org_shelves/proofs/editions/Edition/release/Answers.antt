use Rattle.std.proofs.Common.{List, map, sym, subst, ◌∙◌}
use Rattle.std.specs.List.Sorted.{IsStrictlySortedBy}
use Rattle.doc_tree.specs.Text.{text_cmp}
use Rattle.doc_tree.specs.Tree.{doc_of}
use Rattle.version_rules.specs.declared.needs.Need.{Need}
use Rattle.org_shelves.proofs.NeedLemmas.{needs_rise}
use Rattle.org_shelves.proofs.editions.Edition.release.Goals as goal

pub invariant_of-result : goal.invariant_of-result
invariant_of-result c = record {
  in_order = subst (λ (needs : List Need). IsStrictlySortedBy text_cmp (map (λ (need : Need). need.name) needs)) (sym (c.in_ok-copy_needs.ensures ∙ c.self.invariant.needs_are)) (needs_rise (doc_of c.self.inside.whole) c.known.ensures);
}
