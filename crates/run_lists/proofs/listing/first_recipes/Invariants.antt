-- The keys and the names of the recipes so far, each once.
use Rattle.std.proofs.Common.{map, take, None}
use Rattle.run_lists.specs.declared.names.RecipeName.{RecipeName}
use Rattle.run_lists.specs.declared.walk.Run as code
use Rattle.run_lists.specs.Keys.{key_of, same_key}
use Rattle.run_lists.proofs.FirstsLemmas.{Noted}
use Rattle.run_lists.proofs.listing.first_recipes.Given as goal

abbrev pub invariant-loop-run : goal.invariant-loop-run
invariant-loop-run l =
    Noted same_key (λ (n : RecipeName). key_of n None) (λ (n : RecipeName). n) (map (λ (r : code.Run). r.name.now) (take l.run-index l.runs)) l.seen.keys l.names
