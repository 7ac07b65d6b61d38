-- Moves that another move may follow.
use Rattle.std.specs.Prelude.{List, [], ◌∷◌, Option, Some, None}
use Rattle.org_core.specs.declared.moves.Move.{Move}

-- a move, where there is one
abbrev pub if_there : Option Move → List Move
if_there None = []
if_there (Some one) = one ∷ []
