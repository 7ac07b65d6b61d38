use Rattle.std.proofs.Common.{◌≡◌, ◌++◌, map, drop}
use Rattle.std.specs.Prelude.{string_bytes}
use Rattle.std.specs.Vec.Iter.{into_iter_items}
use Rattle.chefsite.proofs.words_of.Given as goal

-- the words so far, and those still to come, are all but the first argument
abbrev pub invariant-loop-argument : goal.invariant-loop-argument
invariant-loop-argument l =
    l.words.items ++ map string_bytes (into_iter_items l.argument-iterator) ≡ map string_bytes (drop 1 (into_iter_items l.fn.arguments))
