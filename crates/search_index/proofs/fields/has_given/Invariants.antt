-- No term so far gives what is wanted.
use Rattle.std.proofs.Common.{ℕ, take}
use Rattle.ordered_keys.specs.Numbers.{Among}
use Rattle.search_index.specs.Seeking.{Gives}
use Rattle.search_index.proofs.fields.has_given.Given as goal

abbrev pub invariant-loop-term : goal.invariant-loop-term
invariant-loop-term l = (j : ℕ) → Among (take l.term-index l.term-items) j → Gives l.terms l.scope l.field l.wanted j → ⊥
