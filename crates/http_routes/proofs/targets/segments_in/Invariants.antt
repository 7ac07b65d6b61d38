use Rattle.std.proofs.Common.{◌≡◌, ◌==◌, ◌++◌, length, drop}
use Rattle.std.specs.Option.{option_map}
use Rattle.std.specs.List.{slice_split}
use Rattle.http_routes.specs.Targets.{segments_in}
use Rattle.http_routes.proofs.targets.segments_in.Given as goal

-- the segments so far, and then those of the pieces that are left, are the segments of all pieces
abbrev pub invariant-loop-piece : goal.invariant-loop-piece
invariant-loop-piece l =
    option_map (λ rest. l.segments ++ rest) (segments_in (drop (length l.yielded) (slice_split (λ b. b == 47) l.pieces)))
    ≡ segments_in (slice_split (λ b. b == 47) l.pieces)
