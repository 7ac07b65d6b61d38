-- Releases from the greatest to the least.
use Rattle.std.proofs.Common.{◌≡◌, List, [], ◌∷◌, ◌++◌, map, reverse, Contains, Less, refl, sym, subst, ◌∙◌, inl, inr}
use Rattle.std.proofs.lemmas.List.{reverse-append}
use Rattle.std.proofs.lemmas.List.Elements.{All-contains, All-from_recursion, Contains-push_cases}
use Rattle.std.proofs.lemmas.List.Sorted.{Contains-permutation, IsPermutation-reverse, IsPermutation-sym}
use Rattle.std.proofs.lemmas.Map.Keys.{sorted_head, sorted_tail}
use Rattle.std.specs.List.Sorted.{IsStrictlySortedBy}
use Rattle.version_rules.specs.Order.{IsBelow, version_cmp}
use Rattle.dep_solver.specs.declared.universe.Release.{Release}
use Rattle.dep_solver.specs.declared.universe.Universe.{Universe}
use Rattle.dep_solver.specs.Names.{CookbookName}
use Rattle.dep_solver.specs.Universes.{releases_in}
use Rattle.dep_solver.proofs.ListLemmas.{contains_map, here, nowhere, there}
use Rattle.dep_solver.proofs.ReleaseLemmas.{rises}
use Rattle.dep_solver.proofs.VersionLemmas.{below_from_less}

-- each release is above those after it
abbrev pub Falls : List Release → Type 0
Falls [] = Unit {0}
Falls (r ∷ rs) = ((q : Release) → Contains rs q → IsBelow q.version r.version) × Falls rs

falls_push : (rs : List Release) (x : Release) → Falls rs → ((q : Release) → Contains rs q → IsBelow x.version q.version) → Falls (rs ++ x ∷ [])
falls_push [] x falls below = (λ q h. absurd (nowhere q h), tt)
falls_push (r ∷ rs) x falls below = (
  λ q h. elim (Contains-push_cases rs x q h) [
    | inl old ↦ falls.0 q old
    | inr new ↦ subst (λ (z : Release). IsBelow z.version r.version) new (below r (here r rs))
  ],
  falls_push rs x falls.1 (λ q h. below q (there r rs q h)),
)

reverse_one : (x : Release) → reverse (x ∷ []) ≡ x ∷ []
reverse_one x = refl

reverse_first : (x : Release) (xs : List Release) → reverse (x ∷ xs) ≡ reverse xs ++ x ∷ []
reverse_first x xs = reverse-append (x ∷ []) xs ∙ (λ i. reverse xs ++ reverse_one x i)

pub in_reverse : (xs : List Release) (x : Release) → Contains xs x → Contains (reverse xs) x
in_reverse xs x h = Contains-permutation xs (reverse xs) x (IsPermutation-reverse xs) h

from_reverse : (xs : List Release) (x : Release) → Contains (reverse xs) x → Contains xs x
from_reverse xs x h = Contains-permutation (reverse xs) xs x (IsPermutation-sym xs (reverse xs) (IsPermutation-reverse xs)) h

falls_reverse : (xs : List Release) → IsStrictlySortedBy version_cmp (map (λ (r : Release). r.version) xs) → Falls (reverse xs)
falls_reverse [] up = tt
falls_reverse (x ∷ xs) up =
    let versions = map (λ (r : Release). r.version) xs in
    subst Falls (sym (reverse_first x xs))
    (falls_push (reverse xs) x (falls_reverse xs (sorted_tail version_cmp x.version versions up))
    (λ q h. below_from_less x.version q.version
    (All-contains (λ v. version_cmp x.version v ≡ Less) versions q.version
    (All-from_recursion (λ v. version_cmp x.version v ≡ Less) versions (sorted_head version_cmp x.version versions up))
    (contains_map (λ (r : Release). r.version) xs q (from_reverse xs q h)))))

-- the releases of a name fall from the last to the first
pub falls : (universe : Universe) (name : CookbookName) → Falls (reverse (releases_in universe name))
falls universe name = falls_reverse (releases_in universe name) (rises universe name)
