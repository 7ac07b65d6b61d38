-- Where there is room for an organisation's files there is a place for what is kept of it.
use Rattle.std.proofs.Common.{◌≡◌, ◌≤◌, ℕ, List, Option, unwrap_or, ap, arith}
use Rattle.std.specs.FinMap as finite
use Rattle.sandboxes.specs.Files.{Kept, KeptByName, HasPart, none, spare_of}

pub part_there : (files : KeptByName) (org : List ℕ) → 1 ≤ spare_of files org → HasPart files org
part_there files org room is =
    let empty : spare_of files org ≡ 0 = ap (λ (found : Option Kept). (unwrap_or found none).spare) is in
    absurd (omega (arith, room, empty))
