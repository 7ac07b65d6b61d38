use Rattle.std.proofs.Common.{◌≡◌, ◌+◌, drop, length}
use Rattle.yaml_subset.specs.Tokens.{before_sign}
use Rattle.yaml_subset.proofs.token.sign_place.Given as goal

abbrev pub invariant-loop-index : goal.invariant-loop-index
invariant-loop-index l = l.index + length (before_sign (drop l.index l.text)) ≡ length (before_sign l.text)
