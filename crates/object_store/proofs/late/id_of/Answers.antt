use Rattle.std.proofs.Common.{ap, sym, ◌∙◌}
use Rattle.object_store.specs.Items.{behind_front, item_front}
use Rattle.object_store.proofs.LateLemmas.{id_found, id_absent}
use Rattle.object_store.proofs.late.id_of.Goals as goal

pub returns-then-is_of-clause-some : goal.returns-then-is_of-clause-some
returns-then-is_of-clause-some c =
    id_found c.args.bag.now c.args.its.now c.id_in.result (sym c.is_of.ensures ∙ c.if-is_of.true)
    (c.id_in.ensures ∙ ap (behind_front (item_front c.args.bag.now)) c.as_str.ensures.value)

pub returns-then-is_of-clause-none : goal.returns-then-is_of-clause-none
returns-then-is_of-clause-none c =
    id_absent c.args.bag.now c.args.its.now c.id_in.result (sym c.is_of.ensures ∙ c.if-is_of.true)
    (c.id_in.ensures ∙ ap (behind_front (item_front c.args.bag.now)) c.as_str.ensures.value)
