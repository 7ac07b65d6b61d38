use Rattle.std.proofs.Common.{OnErr, subst}
use Rattle.peer_wire.specs.Room.{stream}
use Rattle.http_wire.specs.Splits.{LosesFront}
use Rattle.peer_wire.proofs.replies.read_reply.Goals as goal

pub returns-clause-lost : goal.returns-clause-lost
returns-clause-lost g c =
    subst (λ s. OnErr c.end_reply.result (LosesFront s (stream c.end_reply.new.room (g.S.Source.left c.end_reply.new.source))))
    c.in_ok-frame.ensures.kept c.end_reply.ensures.lost
