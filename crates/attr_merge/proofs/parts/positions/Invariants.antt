use Rattle.std.proofs.Common.{◌≡◌, take, map}
use Rattle.attr_merge.specs.declared.parts.Part.{Part}
use Rattle.attr_merge.proofs.parts.positions.Given as goal

-- the positions so far
abbrev pub invariant-loop-part : goal.invariant-loop-part
invariant-loop-part l = l.found.items ≡ map (λ (p : Part). p.position) (take l.part-index l.parts)
