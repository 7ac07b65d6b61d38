-- The first value of all levels is the first of those that are left.
use Rattle.std.proofs.Common.{◌≡◌, map, drop}
use Rattle.search_query.specs.Parts as spec
use Rattle.search_query.proofs.parts.in_levels.Given as goal

abbrev pub invariant-loop-level : goal.invariant-loop-level
invariant-loop-level l =
    spec.in_levels (map (λ level. level.now) l.levels) l.path l.object ≡ spec.in_levels (map (λ level. level.now) (drop l.level-index l.levels)) l.path l.object
