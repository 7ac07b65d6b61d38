use Rattle.std.proofs.Common.{◌∙◌}
use Rattle.peer_wire.specs.Asks.{fields_text}
use Rattle.peer_wire.proofs.TextLemmas.{five_pieces}
use Rattle.peer_wire.proofs.texts.push_fields.Goals as goal

-- the pieces in their order
pub returns : goal.returns
unfolding fields_text
returns c =
    five_pieces c.push-5.result _ _ _ _ _ _ _ _ _ _ _ _ _
    c.in_ok-push.ensures
    c.in_ok-push-2.ensures c.as_bytes.ensures.value
    c.in_ok-push-3.ensures
    c.in_ok-push-4.ensures (c.as_bytes-2.ensures.value ∙ c.format.ensures.text)
    c.push-5.ensures
