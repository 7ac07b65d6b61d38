-- Which sandboxes are complete.
use Rattle.std.proofs.Common.{◌≡◌, ℕ, Bool, true, false, not, cond, List, [], ◌∷◌, Option, Some, None, option_map, unwrap_or, ap, refl, ◌∙◌}
use Rattle.std.proofs.lemmas.Bool.{and_parts}
use Rattle.std.specs.FinMap as finite
use Rattle.std.specs.List.{list_all}
use Rattle.sandboxes.specs.Sandboxes.{Holding, has_file, missing, missing_from}
use Rattle.sandboxes.specs.Sums.{Sums}
use Rattle.org_core.specs.FileMoves.{has_all, is_complete}

-- ---- complete sandboxes

skipped : (b : Bool) (sum : List ℕ) (rest : Sums) → b ≡ true → cond (not b) (sum ∷ rest) rest ≡ rest
skipped true sum rest there = refl
skipped false sum rest there = cc

none_missing : (files : Holding) (sums : Sums) → list_all (has_file files) sums ≡ true → missing files sums ≡ []
none_missing files [] all = refl
none_missing files (sum ∷ rest) all =
    let parts = and_parts (has_file files sum) (list_all (has_file files) rest) all in
    skipped (has_file files sum) sum (missing files rest) parts.0 ∙ none_missing files rest parts.1

found_misses_none : (files : Holding) (found : Option Sums) → unwrap_or (option_map (has_all files) found) false ≡ true → option_map (missing files) found ≡ Some []
found_misses_none files None complete = cc
found_misses_none files (Some sums) complete = ap Some (none_missing files sums complete)

-- no file is missing from a complete sandbox
pub complete_misses_none : (files : Holding) (id : List ℕ) → is_complete id files ≡ true → missing_from files id ≡ Some []
complete_misses_none files id complete = found_misses_none files (finite.get files.sandboxes id) complete
