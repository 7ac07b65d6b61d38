-- What is read of each, one by one.
use Rattle.std.proofs.Common.{◌≡◌, ◌<◌, ◌+◌, ℕ, List, ◌∷◌, ◌++◌, map, length, drop, get_or, Option, Some, None, option_map, option_and_then, refl, sym, ap, ◌∙◌, append_assoc}
use Rattle.std.proofs.lemmas.List.{drop_more}
use Rattle.std.specs.List.{flat_map}
use Rattle.doc_tree.specs.Doc.{Doc}
use Rattle.run_lists.specs.Reading.{each_of}
use Rattle.knife_errands.specs.Bodies.{cookbooks_of, of_cookbook, versions_at, versions_in}

gone_on : {Y : Type 0} (made more : List Y) (left : Option (List Y)) → option_map (λ later. made ++ later) (option_map (λ later. more ++ later) left) ≡ option_map (λ later. (made ++ more) ++ later) left
gone_on made more None = refl
gone_on made more (Some later) = ap Some (sym (append_assoc made more later))

abbrev flat : List (List (List ℕ)) → List (List ℕ)
flat names = flat_map (λ ns. ns) names

-- the lines of the first of these cookbooks, and then of the others
first_then : (entry : List ℕ × Doc) (entries : List (List ℕ × Doc)) (versions : List (List ℕ)) → versions_at entry.1 ≡ Some versions → cookbooks_of (entry ∷ entries) ≡ option_map (λ later. of_cookbook entry.0 versions ++ later) (cookbooks_of entries)
first_then entry entries versions is =
    ap (λ o. option_map flat (option_and_then (λ y. option_map (λ ys. y ∷ ys) (each_of versions_in entries)) (option_map (of_cookbook entry.0) o))) is
    ∙ by (each_of versions_in entries)
  where
    by : (o : Option (List (List (List ℕ)))) → option_map flat (option_map (λ ys. of_cookbook entry.0 versions ∷ ys) o) ≡ option_map (λ later. of_cookbook entry.0 versions ++ later) (option_map flat o)
    by None = refl
    by (Some names) = refl

-- after one more cookbook, the lines are those before with its own, and then those of the cookbooks that are left
pub cookbooks_more : {C : Type 0} (view : C → List ℕ × Doc) (all : Option (List (List ℕ))) (cs : List C) (i : ℕ) (c : C) (made after versions : List (List ℕ)) → i < length cs → c ≡ get_or cs i c → versions_at (view c).1 ≡ Some versions
    → after ≡ made ++ of_cookbook (view c).0 versions → all ≡ option_map (λ later. made ++ later) (cookbooks_of (map view (drop i cs))) → all ≡ option_map (λ later. after ++ later) (cookbooks_of (map view (drop (i + 1) cs)))
cookbooks_more view all cs i c made after versions within is found pushed so_far =
    let rest = cookbooks_of (map view (drop (i + 1) cs)) in
    let here : cookbooks_of (map view (drop i cs)) ≡ option_map (λ later. of_cookbook (view c).0 versions ++ later) rest =
    ap (λ ds. cookbooks_of (map view ds)) (drop_more cs i c within)
    ∙ ap (λ d. cookbooks_of (view d ∷ map view (drop (i + 1) cs))) (sym is)
    ∙ first_then (view c) (map view (drop (i + 1) cs)) versions found in
    so_far ∙ ap (option_map (λ later. made ++ later)) here ∙ gone_on made (of_cookbook (view c).0 versions) rest ∙ ap (λ ys. option_map (λ later. ys ++ later) rest) (sym pushed)
