-- The names so far, each once.
use Rattle.std.proofs.Common.{ℕ, List, map, take, bytes_eq}
use Rattle.run_lists.proofs.FirstsLemmas.{Noted}
use Rattle.run_lists.proofs.listing.first_names.Given as goal

abbrev pub invariant-loop-name : goal.invariant-loop-name
invariant-loop-name l = Noted bytes_eq (λ (n : List ℕ). n) (λ (n : List ℕ). n) (map (λ name. name.now) (take l.name-index l.all)) l.seen.keys l.names
