use Rattle.std.proofs.Common.{◌≡◌, drop}
use Rattle.search_index.specs.Bounds.{is_plain}
use Rattle.search_index.proofs.bounds.is_plain.Given as goal

-- the rest decides
abbrev pub invariant-loop-sign : goal.invariant-loop-sign
invariant-loop-sign l = is_plain (drop l.sign-index l.signs) ≡ is_plain l.signs
