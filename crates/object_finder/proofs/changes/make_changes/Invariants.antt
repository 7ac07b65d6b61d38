use Rattle.std.proofs.Common.{◌≡◌, option_map}
use Rattle.object_finder.specs.Changes.{HasRoomFor, after_changes}
use Rattle.object_finder.proofs.changes.make_changes.Given as goal

-- what is left of the changes leads to where all of them lead, and there is room for it
abbrev pub invariant-loop-change : goal.invariant-loop-change
invariant-loop-change g l =
    (option_map (after_changes l.change-iterator.rest.items) (g.F.Finder.held l.finder) ≡ option_map (after_changes l.fn.changes) (g.F.Finder.held l.fn.finder))
    × HasRoomFor (g.F.Finder.room l.finder) l.change-iterator.rest.items
    × (g.F.Finder.looks l.finder ≡ g.F.Finder.looks l.fn.finder)
