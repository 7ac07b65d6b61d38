use Rattle.std.proofs.Common.{◌-◌, take, drop, refl, sym, take-append-drop}
use Rattle.outside_link.proofs.memory_link.MemLinkSink.write.Goals as goal

-- the front that fits was gained
pub returns-then-piece-free-clause-failed : goal.returns-then-piece-free-clause-failed
returns-then-piece-free-clause-failed c =
    let free = c.self.inside.room - c.len.result in
    rw (c.gain.ensures, ← c.self.view_is)
    (take free c.args.piece.now, drop free c.args.piece.now, sym (take-append-drop free c.args.piece.now), refl)
