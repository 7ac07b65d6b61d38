use Rattle.std.proofs.Common.{Bor, ap, sym, ◌∙◌}
use Rattle.std.proofs.lemmas.List.{map_push}
use Rattle.std.specs.List.{list_any}
use Rattle.doc_tree.specs.declared.name.Name.{Name}
use Rattle.dep_solver.specs.declared.straight.Reached.{Reached}
use Rattle.dep_solver.specs.Names.{same_name}
use Rattle.dep_solver.specs.Search.{seen}
use Rattle.dep_solver.proofs.MarkLemmas.{any_reached, name_known, name_new}
use Rattle.dep_solver.proofs.straight.reach_name.Goals as goal

pub returns-in_ok-push-2-clause-names : goal.returns-in_ok-push-2-clause-names
returns-in_ok-push-2-clause-names c =
    let names = seen c.args.names.now.items in
    ap seen c.in_ok-push.ensures.items ∙ map_push (λ (n : Bor Name). n.now) c.args.names.now.items c.args.name
    ∙ sym (name_new names c.args.name.now (sym (any_reached c.args.name.now names c.args.reached.now.items c.requires)
    ∙ ap (list_any (λ (mark : Reached). same_name c.args.name.now mark.name.now)) (sym c.as_slice.ensures.value) ∙ sym c.is_reached.ensures ∙ c.if-not-is_reached.true))

pub returns-else-not-is_reached-clause-names : goal.returns-else-not-is_reached-clause-names
returns-else-not-is_reached-clause-names c =
    let names = seen c.args.names.now.items in
    sym (name_known names c.args.name.now (sym (any_reached c.args.name.now names c.args.reached.now.items c.requires)
    ∙ ap (list_any (λ (mark : Reached). same_name c.args.name.now mark.name.now)) (sym c.as_slice.ensures.value) ∙ sym c.is_reached.ensures ∙ c.if-not-is_reached.false))
