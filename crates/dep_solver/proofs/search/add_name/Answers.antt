use Rattle.std.proofs.Common.{Bor, ap, ◌∙◌}
use Rattle.std.specs.List.{list_any}
use Rattle.doc_tree.specs.declared.name.Name.{Name}
use Rattle.dep_solver.specs.Names.{same_name}
use Rattle.dep_solver.proofs.SeenLemmas.{name_added, name_there}
use Rattle.dep_solver.proofs.search.add_name.Goals as goal

pub returns-in_ok-push : goal.returns-in_ok-push
returns-in_ok-push c =
    name_added c.args.names.now.items c.args.name c.is_among.result (c.is_among.ensures ∙ ap (list_any (λ (n : Bor Name). same_name c.args.name.now n.now)) c.deref.ensures.value) c.if-not-is_among.true c.push.new.self.items c.in_ok-push.ensures.items

pub returns-else-not-is_among : goal.returns-else-not-is_among
returns-else-not-is_among c =
    name_there c.args.names.now.items c.args.name.now c.is_among.result (c.is_among.ensures ∙ ap (list_any (λ (n : Bor Name). same_name c.args.name.now n.now)) c.deref.ensures.value) c.if-not-is_among.false
