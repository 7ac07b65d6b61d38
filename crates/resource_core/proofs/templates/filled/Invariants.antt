-- The text so far, in front of what the pieces that are left make.
use Rattle.std.proofs.Common.{◌≡◌, drop, string_bytes}
use Rattle.resource_core.specs.Templates as spec
use Rattle.resource_core.specs.Templates.{text_first}
use Rattle.resource_core.proofs.templates.filled.Given as goal

abbrev pub invariant-loop-piece : goal.invariant-loop-piece
invariant-loop-piece l = spec.filled l.merged.document l.pieces ≡ text_first (string_bytes l.made) (spec.filled l.merged.document (drop l.piece-index l.piece-items))
