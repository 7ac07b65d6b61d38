-- How much is left to try, and that the walk of what is allowed is no longer than the universe.
use Rattle.std.proofs.Common.{◌≡◌, ℕ, zero, suc, ◌+◌, ◌-◌, ◌*◌, ◌^◌, ◌<◌, ◌≤◌, Bool, true, false, cond, List, [], ◌∷◌, ◌++◌, length, map, find, Some, Contains, arith, refl, sym, subst, ◌∙◌, mul-le-mul_right, pow-suc, mul-pos}
use Rattle.std.proofs.Math.Nat.{pow-zero}
use Rattle.std.proofs.lemmas.List.{length-map}
use Rattle.std.proofs.lemmas.Map.Made.{length-le_from_is_member}
use Rattle.std.proofs.lemmas.Map.Views.{Contains-from_any, list_any-from_Contains}
use Rattle.std.specs.Cmp.Lexicographic.{nat_list_eq_equiv}
use Rattle.std.specs.List.{IsDistinct}
use Rattle.dep_solver.specs.declared.roots.Pin.{Pin}
use Rattle.dep_solver.specs.declared.universe.Cookbook.{Cookbook}
use Rattle.dep_solver.specs.declared.universe.Release.{Release}
use Rattle.dep_solver.specs.declared.universe.Universe.{Universe}
use Rattle.dep_solver.specs.Names.{CookbookName, same_name}
use Rattle.dep_solver.specs.Universes.{releases_in, releases_of}
use Rattle.dep_solver.proofs.ListLemmas.{here, map_contains, nowhere, there}
use Rattle.dep_solver.proofs.WalkLemmas.{name_from_same}

-- ---- how much is left to try, where each name has at most b releases and there are d names

abbrev pub left_to_try : ℕ → ℕ → List ℕ → ℕ → ℕ
left_to_try b d [] g = (b - g) * (b + 1) ^ d
left_to_try b d (t ∷ ts) g = (b - t) * (b + 1) ^ d + left_to_try b (d - 1) ts g

-- it falls where one more of the next name is tried and a further name is begun
fewer : (b t g q x : ℕ) → g < t → t ≤ b → x ≡ q * (b + 1) → 0 < q → (b - t) * x + b * q < (b - g) * x
fewer b t g q x h k e pos =
    let up : (b - t + 1) * x ≤ (b - g) * x = mul-le-mul_right x (omega arith) in
    let more : (b - t + 1) * x ≡ (b - t) * x + x = omega arith in
    let wide : x ≡ q * b + q = e ∙ omega arith in
    let turned : b * q ≡ q * b = omega arith in
    omega arith

powers : (b d : ℕ) → 0 < (b + 1) ^ d
powers b zero = subst (λ n. 0 < n) (sym (pow-zero (b + 1))) (omega arith)
powers b (suc d) = subst (λ n. 0 < n) (sym (pow-suc (b + 1) d)) (mul-pos (powers b d) (omega arith))

pub try_falls : (b d : ℕ) (ts : List ℕ) (t g : ℕ) → length ts < d → g < t → t ≤ b → left_to_try b d (ts ++ t ∷ []) 0 < left_to_try b d ts g
try_falls b zero [] t g h k l = absurd (omega arith)
try_falls b (suc d) [] t g h k l =
    let less : suc d - 1 ≡ d = omega arith in
    let all : b - 0 ≡ b = omega arith in
    let pos : 0 < (b + 1) ^ d = powers b d in
    subst (λ m. (b - t) * (b + 1) ^ suc d + (b - 0) * (b + 1) ^ m < (b - g) * (b + 1) ^ suc d) (sym less)
    (subst (λ m. (b - t) * (b + 1) ^ suc d + m * (b + 1) ^ d < (b - g) * (b + 1) ^ suc d) (sym all)
    (fewer b t g ((b + 1) ^ d) ((b + 1) ^ suc d) k l (pow-suc (b + 1) d) pos))
try_falls b d (s ∷ ts) t g h k l =
    let rest = try_falls b (d - 1) ts t g (omega arith) k l in omega arith

pub try_stays : (b d : ℕ) (ts : List ℕ) (t g : ℕ) → left_to_try b d ts t ≤ left_to_try b d (ts ++ t ∷ []) g
try_stays b d [] t g = omega arith
try_stays b d (s ∷ ts) t g = let rest = try_stays b (d - 1) ts t g in omega arith

-- ---- how many releases and names there are

abbrev pub count_all : List Cookbook → ℕ
count_all [] = 0
count_all (c ∷ cookbooks) = length c.releases + count_all cookbooks

abbrev pub release_count : Universe → ℕ
release_count universe = count_all universe.cookbooks

few_of : (cookbooks : List Cookbook) (test : Cookbook → Bool) → length (releases_of (find test cookbooks)) ≤ count_all cookbooks
few_of [] test = omega arith
few_of (c ∷ cookbooks) test = by (test c) (few_of cookbooks test)
  where
    by : (b : Bool) → length (releases_of (find test cookbooks)) ≤ count_all cookbooks
        → length (releases_of (cond b (Some c) (find test cookbooks))) ≤ length c.releases + count_all cookbooks
    by true rest = omega arith
    by false rest = omega arith

pub few_releases : (universe : Universe) (name : CookbookName) → length (releases_in universe name) ≤ release_count universe
few_releases universe name = few_of universe.cookbooks (λ c. same_name c.name name)

-- a name that has a release is that of a cookbook
released_name : (cookbooks : List Cookbook) (name : CookbookName) (r : Release) → Contains (releases_of (find (λ c. same_name c.name name) cookbooks)) r → Contains (map (λ (c : Cookbook). c.name) cookbooks) name
released_name [] name r h = absurd (nowhere r h)
released_name (c ∷ cookbooks) name r h = by (same_name c.name name) refl h (released_name cookbooks name r)
  where
    by : (b : Bool) → same_name c.name name ≡ b → Contains (releases_of (cond b (Some c) (find (λ c. same_name c.name name) cookbooks))) r
        → (Contains (releases_of (find (λ c. same_name c.name name) cookbooks)) r → Contains (map (λ (c : Cookbook). c.name) cookbooks) name)
        → Contains (c.name ∷ map (λ (c : Cookbook). c.name) cookbooks) name
    by true is h rest = subst (λ n. Contains (c.name ∷ map (λ (c : Cookbook). c.name) cookbooks) n) (name_from_same c.name name is) (here c.name (map (λ (c : Cookbook). c.name) cookbooks))
    by false is h rest = there c.name (map (λ (c : Cookbook). c.name) cookbooks) name (rest h)

-- places of distinct names that have releases are no more than the cookbooks
pub few_places : (universe : Universe) (places : List Pin) → IsDistinct same_name (map (λ (p : Pin). p.name) places)
    → ((p : Pin) → Contains places p → Contains (map (λ (r : Release). r.version) (releases_in universe p.name)) p.version) → length places ≤ length universe.cookbooks
few_places universe places distinct released =
    let names = map (λ (p : Pin). p.name) places in
    let all = map (λ (c : Cookbook). c.name) universe.cookbooks in
    let inside : length names ≤ length all =
    length-le_from_is_member nat_list_eq_equiv names all distinct
    (λ q h.
    let at = map_contains (λ (p : Pin). p.name) places q (Contains-from_any name_from_same q names h) in
    let found = map_contains (λ (r : Release). r.version) (releases_in universe at.0.name) at.0.version (released at.0 at.1) in
    list_any-from_Contains nat_list_eq_equiv q all (subst (λ n. Contains all n) at.2 (released_name universe.cookbooks at.0.name found.0 found.1))) in
    omega (arith, inside, length-map places (λ (p : Pin). p.name), length-map universe.cookbooks (λ (c : Cookbook). c.name))
