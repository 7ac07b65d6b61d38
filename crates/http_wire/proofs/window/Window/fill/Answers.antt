use Rattle.outside_core.proofs.SinkLemmas.{OnErr-always}
use Rattle.http_wire.proofs.RoomLemmas.{stream_kept, stream_filled, window_refilled}
use Rattle.http_wire.proofs.window.Window.fill.Goals as goal

pub returns-in_err-count-clause-kept : goal.returns-in_err-count-clause-kept
returns-in_err-count-clause-kept g c =
    rw (← c.self.view_is)
    (stream_kept _ _ c.read_behind.new.bytes.items c.self.inside.start _ c.self.inside.count _ _
    c.make_room-self-inside.ensures.kept c.read_behind.ensures.front c.in_err-count.ensures.failed)

pub returns-in_err-count-clause-failed : goal.returns-in_err-count-clause-failed
returns-in_err-count-clause-failed g c =
    rw (← c.self.view_is)
    (OnErr-always c.from_residual.result (window_refilled _ _ c.read_behind.new.bytes.items c.self.inside.start _ c.self.inside.count
    c.make_room-self-inside.ensures.kept c.read_behind.ensures.front))

pub returns-clause-kept : goal.returns-clause-kept
returns-clause-kept g c =
    rw (← c.self.view_is)
    (stream_filled _ _ c.read_behind.new.bytes.items c.self.inside.start _ c.self.inside.count c.in_ok-count.count _ _
    c.make_room-self-inside.ensures.kept c.read_behind.ensures.front c.in_ok-count.ensures.bytes)
