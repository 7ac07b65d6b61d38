use Rattle.std.proofs.Common.{◌≡◌, ◌++◌, drop}
use Rattle.search_index.specs.Bounds.{front_of}
use Rattle.search_index.proofs.bounds.front_of.Given as goal

-- the bytes so far, and those with which the rest begins
abbrev pub invariant-loop-sign : goal.invariant-loop-sign
invariant-loop-sign l = l.front.items ++ front_of (drop l.sign-index l.signs) ≡ front_of l.signs
