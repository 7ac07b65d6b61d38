use Rattle.std.proofs.Common.{[], sym, subst, ◌∙◌}
use Rattle.std.specs.Io.KnownBytes.{IsAtEnd}
use Rattle.http_wire.proofs.StreamLemmas.{IsAtEnd-behind}
use Rattle.std.proofs.KnownBytes.{prepend_known-nil}
use Rattle.outside_core.proofs.SinkLemmas.{OnErr-always}
use Rattle.http_wire.proofs.requests.read_message.Goals as goal

-- the stream is at its end, and so is the source
pub returns-in-None-clause-end : goal.returns-in-None-clause-end
returns-in-None-clause-end g c =
    let end = rw c.in-None.is at c.in_ok-frame.ensures.end in
    let room = c.begin_message.new.room in
    let left = g.S.Source.left c.begin_message.new.source in
    (end, IsAtEnd-behind room.held left (subst IsAtEnd (sym c.in_ok-frame.ensures.kept) end))

-- no head was found, and nothing is gone
pub returns-in_err-frame-clause-lost : goal.returns-in_err-frame-clause-lost
returns-in_err-frame-clause-lost g c =
    OnErr-always c.from_residual.result ([], sym c.in_err-frame.ensures.kept ∙ sym (prepend_known-nil _))

-- what was lost behind the head is gone
pub returns-in_err-read_framed-in-Some-clause-lost : goal.returns-in_err-read_framed-in-Some-clause-lost
returns-in_err-read_framed-in-Some-clause-lost g c =
    let lost = c.in_err-read_framed-in-Some.ensures.lost in
    OnErr-always c.from_residual-in_err-read_framed-in-Some.result (lost.0, sym c.in_ok-frame.ensures.kept ∙ lost.1)
