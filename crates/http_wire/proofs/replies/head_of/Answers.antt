use Rattle.std.proofs.Common.{◌∙◌}
use Rattle.http_wire.specs.Replies.{head_text}
use Rattle.http_wire.proofs.ReplyLemmas.{nine_pieces}
use Rattle.http_wire.proofs.replies.head_of.Goals as goal

-- the pieces in their order
pub returns : goal.returns
unfolding head_text
returns c =
    nine_pieces _ _ _ _ _ _ _ _ _ _ _ _ _ _ _ _ _ _ _ _ _ _ _
    c.new-head.ensures c.push.ensures.items
    c.push-2.ensures.items (c.as_bytes.ensures.value ∙ c.format.ensures.text)
    c.push-3.ensures.items
    c.push-4.ensures.items (c.as_bytes-2.ensures.value ∙ c.phrase.ensures.text)
    c.push-5.ensures.items
    c.push-6.ensures.items (c.as_bytes-3.ensures.value ∙ c.content_type.ensures.text)
    c.push-7.ensures.items
    c.push-8.ensures.items (c.as_bytes-4.ensures.value ∙ c.format-2.ensures.text)
    c.push-9.ensures.items
