-- The pieces so far, in front of those of the text that is left, which grows shorter.
use Rattle.std.proofs.Common.{◌≡◌, IsUtf8, ◌<◌, ◌++◌, ℕ, length, option_map}
use Rattle.resource_core.specs.Templates as spec
use Rattle.resource_core.proofs.templates.pieces_of.Given as goal

abbrev pub invariant-loop-plain : goal.invariant-loop-plain
invariant-loop-plain l = IsUtf8 l.left × (n : ℕ) × (length l.left < n) × (spec.pieces_of l.text ≡ option_map (λ more. l.pieces ++ more) (spec.pieces_within n l.left))

abbrev pub decreases-loop-plain : goal.decreases-loop-plain
decreases-loop-plain l = length l.left
