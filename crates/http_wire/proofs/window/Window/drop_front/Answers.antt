use Rattle.std.proofs.Common.{◌≤◌, drop, arith}
use Rattle.std.proofs.lemmas.List.{length-take}
use Rattle.http_wire.proofs.RoomLemmas.{window_dropped}
use Rattle.http_wire.proofs.window.Window.drop_front.Goals as goal

pub returns : goal.returns
returns c =
    let asked = rw (← c.self.view_is) at c.requires in
    let window = drop c.self.inside.start c.self.inside.bytes.items in
    let within : c.args.count ≤ c.self.inside.count = omega (arith, asked, length-take c.self.inside.count window) in
    rw (← c.self.view_is)
    (window_dropped c.self.inside.bytes.items c.self.inside.start c.self.inside.count c.args.count within)
