use Rattle.std.proofs.Common.{◌∙◌}
use Rattle.peer_wire.specs.Asks.{start_text}
use Rattle.peer_wire.proofs.TextLemmas.{seven_pieces}
use Rattle.peer_wire.proofs.texts.push_start.Goals as goal

-- the pieces in their order
pub returns : goal.returns
unfolding start_text
returns c =
    seven_pieces c.push-7.result _ _ _ _ _ _ _ _ _ _ _ _ _ _ _ _ _ _ _
    c.in_ok-push.ensures (c.as_bytes.ensures.value ∙ c.as_str.ensures)
    c.in_ok-push-2.ensures
    c.in_ok-push-3.ensures c.as_bytes-2.ensures.value
    c.in_ok-push-4.ensures
    c.in_ok-push-5.ensures c.as_bytes-3.ensures.value
    c.in_ok-push-6.ensures
    c.push-7.ensures (c.as_bytes-4.ensures.value ∙ c.format.ensures.text)
