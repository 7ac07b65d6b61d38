-- The keys so far, in front of those of the text that is left, which grows shorter.
use Rattle.std.proofs.Common.{◌≡◌, IsUtf8, ◌≤◌, [], ℕ, length, option_map}
use Rattle.resource_core.specs.Templates as spec
use Rattle.resource_core.proofs.TemplateLemmas.{keys_first}
use Rattle.resource_core.proofs.templates.keys_at.Given as goal

abbrev pub invariant-loop-key : goal.invariant-loop-key
invariant-loop-key l = IsUtf8 l.left × ((l.fn.path ≡ []) → (n : ℕ) × (length l.left ≤ n) × (spec.keys_at (length l.text) l.text ≡ option_map (keys_first l.path) (spec.keys_at n l.left)))

abbrev pub decreases-loop-key : goal.decreases-loop-key
decreases-loop-key l = length l.left
