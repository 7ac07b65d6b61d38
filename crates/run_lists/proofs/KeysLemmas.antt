-- Keys of recipes are compared by an equivalence, and the loops note each key once.
use Rattle.std.proofs.Common.{◌≡◌, ℕ, Bool, true, false, ◌&&◌, List, [], ◌∷◌, ◌++◌, map, take, length, ◌<◌, ◌+◌, get_or, Option, Some, None, refl, sym, ap, subst, ◌∙◌, bytes_eq, cond, ◌≤◌}
use Rattle.std.proofs.lemmas.List.{take_more, take_all, map-append}
use Rattle.std.specs.Option.{option_eq}
use Rattle.std.specs.Cmp.{IsEquivalence, on_equiv, and_equiv, nat_eq_equiv}
use Rattle.std.specs.Cmp.Lexicographic.{nat_list_eq_equiv}
use Rattle.version_rules.specs.declared.versions.Version.{Version}
use Rattle.run_lists.specs.declared.names.RecipeName.{RecipeName}
use Rattle.run_lists.specs.declared.keys.RunKey.{RunKey}
use Rattle.run_lists.specs.declared.walk.Run as code
use Rattle.std.specs.List.{list_any}
use Rattle.indexmap.specs.IndexSet.{insert_key}
use Rattle.run_lists.specs.Visits.{Run}
use Rattle.run_lists.specs.Keys.{key_of, run_of, same_key}
use Rattle.dep_solver.specs.Universes.{same_version}
use Rattle.run_lists.specs.Expansions.{same_recipe}
use Rattle.run_lists.specs.Firsts.{firsts}
use Rattle.run_lists.proofs.FirstsLemmas.{Noted, one_more}

-- what is the same or missing on both sides is compared by an equivalence
option_equiv : {K : Type 0} {E : K → K → Bool} → IsEquivalence E → IsEquivalence (option_eq E)
option_equiv {K} {E} e = record { refl = same; symm = either; congr = both }
  where
    same : (x : Option K) → option_eq E x x ≡ true
    same None = refl
    same (Some x) = e.refl x

    either : (x y : Option K) → option_eq E x y ≡ option_eq E y x
    either None None = refl
    either None (Some y) = refl
    either (Some x) None = refl
    either (Some x) (Some y) = e.symm x y

    both : (x y z : Option K) → option_eq E x y ≡ true → option_eq E x z ≡ option_eq E y z
    both None None z h = refl
    both None (Some y) z h = absurd (cc)
    both (Some x) None z h = absurd (cc)
    both (Some x) (Some y) None h = refl
    both (Some x) (Some y) (Some z) h = e.congr x y z h

version_equiv : IsEquivalence same_version
version_equiv = and_equiv (on_equiv (λ (v : Version). v.major) nat_eq_equiv) (and_equiv (on_equiv (λ (v : Version). v.minor) nat_eq_equiv) (on_equiv (λ (v : Version). v.patch) nat_eq_equiv))

pub same_key_equiv : IsEquivalence same_key
same_key_equiv = and_equiv (on_equiv (λ (k : RunKey). k.cookbook) nat_list_eq_equiv) (and_equiv (on_equiv (λ (k : RunKey). k.recipe) nat_list_eq_equiv) (on_equiv (λ (k : RunKey). k.version) (option_equiv version_equiv)))

-- without versions the keys are the same where the recipes are
and-true : (b : Bool) → (b && true) ≡ b
and-true true = refl
and-true false = refl

pub firsts-recipes : (names : List RecipeName) → firsts (λ a b. same_key (key_of a None) (key_of b None)) names ≡ firsts same_recipe names
firsts-recipes names = ap (λ same. firsts same names) (λ i (a b : RecipeName). bytes_eq a.cookbook b.cookbook && and-true (bytes_eq a.recipe b.recipe) i)

-- one more of these was noted
pub noted_more : {C A K B : Type 0} (eq : K → K → Bool) (laws : IsEquivalence eq) (key : A → K) (out : A → B) (view : C → A) (cs : List C) (i : ℕ) (c : C) (keys after : List K) (outs made : List B)
    → i < length cs → c ≡ get_or cs i c → Noted eq key out (map view (take i cs)) keys outs → after ≡ insert_key eq keys (key (view c))
    → made ≡ cond (list_any (eq (key (view c))) keys) outs (outs ++ out (view c) ∷ []) → Noted eq key out (map view (take (i + 1) cs)) after made
noted_more eq laws key out view cs i c keys after outs made within is noted keyed put =
    let more : map view (take (i + 1) cs) ≡ map view (take i cs) ++ view c ∷ [] =
    ap (map view) (take_more cs i c within ∙ ap (λ d. take i cs ++ d ∷ []) (sym is)) ∙ map-append view (take i cs) (c ∷ []) in
    subst (λ xs. Noted eq key out xs after made) (sym more) (one_more eq laws key out (map view (take i cs)) (view c) keys after outs made noted keyed put)

-- nothing is noted at first
pub noted_none : {A K B : Type 0} (eq : K → K → Bool) (key : A → K) (out : A → B) (keys : List K) (outs : List B) → keys ≡ [] → outs ≡ [] → Noted eq key out [] keys outs
noted_none eq key out keys outs no_keys no_outs = record { keys_are = no_keys; outs_are = no_outs }

-- and at last all
pub noted_all : {C A K B : Type 0} (eq : K → K → Bool) (key : A → K) (out : A → B) (view : C → A) (cs : List C) (i : ℕ) (keys : List K) (outs : List B)
    → length cs ≤ i → Noted eq key out (map view (take i cs)) keys outs → outs ≡ map out (firsts (λ a b. eq (key a) (key b)) (map view cs))
noted_all eq key out view cs i keys outs past noted = noted.outs_are ∙ ap (λ xs. map out (firsts (λ a b. eq (key a) (key b)) (map view xs))) (take_all i cs past)

pub map-id : {A : Type 0} (xs : List A) → map (λ (x : A). x) xs ≡ xs
map-id [] = refl
map-id (x ∷ xs) = ap (λ rest. x ∷ rest) (map-id xs)

-- the names of the recipes
pub names_of_runs : (runs : List code.Run) → map (λ (r : code.Run). r.name.now) runs ≡ map (λ (r : Run). r.name) (map run_of runs)
names_of_runs [] = refl
names_of_runs (r ∷ runs) = ap (λ rest. r.name.now ∷ rest) (names_of_runs runs)

-- the recipes, each once
pub recipes_firsts : (runs : List code.Run) (names : List RecipeName) → names ≡ map (λ (n : RecipeName). n) (firsts (λ a b. same_key (key_of a None) (key_of b None)) (map (λ (r : code.Run). r.name.now) runs))
    → names ≡ firsts same_recipe (map (λ (r : Run). r.name) (map run_of runs))
recipes_firsts runs names e = e ∙ map-id _ ∙ firsts-recipes (map (λ (r : code.Run). r.name.now) runs) ∙ ap (firsts same_recipe) (names_of_runs runs)
