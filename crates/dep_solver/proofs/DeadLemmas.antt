-- Flags of releases that are in no solution.
use Rattle.std.proofs.Common.{◌≡◌, ℕ, zero, suc, ◌+◌, ◌<◌, Bool, true, false, not, cond, List, [], ◌∷◌, ◌++◌, length, get_or, slice_get, find, Some, Contains, arith, ap, refl, sym, subst, ◌∙◌, inl, inr, true≢false}
use Rattle.std.proofs.lemmas.List.{length-append}
use Rattle.std.proofs.lemmas.Option.{none-some, same_Some, slice_get_read, slice_get_within}
use Rattle.dep_solver.specs.declared.roots.Roots.{Roots}
use Rattle.dep_solver.specs.declared.rules.EnvRules.{EnvRules}
use Rattle.dep_solver.specs.declared.universe.Cookbook.{Cookbook}
use Rattle.dep_solver.specs.declared.universe.Release.{Release}
use Rattle.dep_solver.specs.declared.universe.Universe.{Universe}
use Rattle.dep_solver.specs.Names.{CookbookName, same_name}
use Rattle.dep_solver.specs.Search.{AreFlagsOf, AreNeverChosen, Flags, IsFlag, Zips, flags_of, is_set}
use Rattle.dep_solver.specs.Universes.{releases_of}
use Rattle.dep_solver.proofs.ListLemmas.{slice_get_at_end}
use Rattle.dep_solver.proofs.OrderLemmas.{three}
use Rattle.dep_solver.proofs.ReleaseLemmas.{needs_at}
use Rattle.dep_solver.proofs.SearchLemmas.{solution_can}

none_of : (cookbooks : List Cookbook) (name : CookbookName) → flags_of cookbooks [] name ≡ []
none_of [] name = refl
none_of (c ∷ cookbooks) name = refl

-- where there are no flags, none is set
pub none_dead : (universe : Universe) (rules : EnvRules) (roots : Roots) (dead : Flags) → dead ≡ [] → AreNeverChosen universe rules roots dead
none_dead universe rules roots dead e name index release stands set choice solution has =
    true≢false (sym set ∙ ap (λ fs. is_set (flags_of universe.cookbooks fs name) index) e ∙ ap (λ fs. is_set fs index) (none_of universe.cookbooks name))

module _ {A B : Type 0} (R : A → B → Type 0) where
  pub record ZipsBefore (xs : List A) (i : ℕ) (ys : List B) : Type 0 where
    pub long : length ys ≡ i
    pub zips : Zips R xs ys

  pub zips_none : (xs : List A) (ys : List B) → ys ≡ [] → ZipsBefore xs 0 ys
  zips_none xs ys e = record { long = ap length e; zips = λ k x y a b. absurd (none-some y (ap (λ zs. slice_get zs k) (sym e) ∙ b)) }

  pub zips_more : (xs : List A) (i : ℕ) (x : A) (ys more : List B) (y : B) → i < length xs → x ≡ get_or xs i x → ZipsBefore xs i ys → R x y → more ≡ ys ++ y ∷ [] → ZipsBefore xs (i + 1) more
  zips_more xs i x ys more y within is before now e = record {
    long = ap length e ∙ length-append ys (y ∷ []) ∙ ap (λ n. n + 1) before.long;
    zips = λ k one other a b.
        let in' : slice_get (ys ++ y ∷ []) k ≡ Some other = ap (λ zs. slice_get zs k) (sym e) ∙ b in
        let below : k < length (ys ++ y ∷ []) = slice_get_within (ys ++ y ∷ []) k other in' in
        let long : length (ys ++ y ∷ []) ≡ length ys + 1 = length-append ys (y ∷ []) in
        elim (three k i) [
          | inl lt ↦ before.zips k one other a (in_front ys y k other (omega (arith, lt, before.long)) in')
          | inr h ↦ elim h [
            | inl same ↦
                let first : x ≡ one = same_Some x one (sym (slice_get_read xs (length xs) i x refl within is) ∙ ap (slice_get xs) (sym same) ∙ a) in
                let at : k ≡ length ys = same ∙ sym before.long in
                let second : y ≡ other = same_Some y other (sym (slice_get_at_end ys y []) ∙ ap (slice_get (ys ++ y ∷ [])) (sym at) ∙ in') in
                subst (λ z. R z other) first (subst (λ z. R x z) second now)
            | inr gt ↦ absurd (omega (arith, gt, below, long, before.long))
          ]
        ];
  }
    where
      in_front : (ys : List B) (y : B) (k : ℕ) (other : B) → k < length ys → slice_get (ys ++ y ∷ []) k ≡ Some other → slice_get ys k ≡ Some other
      in_front [] y k other h e = absurd (omega arith)
      in_front (z ∷ ys) y zero other h e = e
      in_front (z ∷ ys) y (suc k) other h e = in_front ys y k other (omega arith) e

set_at : (flags : List Bool) (k : ℕ) → is_set flags k ≡ true → slice_get flags k ≡ Some true
set_at [] k e = absurd (true≢false (sym e))
set_at (f ∷ flags) zero e = ap Some e
set_at (f ∷ flags) (suc k) e = set_at flags k e

-- a set flag of a name's release is that of its cookbook
flags_tell : (R : Release → Bool → Type 0) (cookbooks : List Cookbook) (flags : Flags) (name : CookbookName) (index : ℕ) (release : Release) → Zips (λ (c : Cookbook) (fs : List Bool). Zips R c.releases fs) cookbooks flags
    → slice_get (releases_of (find (λ c. same_name c.name name) cookbooks)) index ≡ Some release → is_set (flags_of cookbooks flags name) index ≡ true → R release true
flags_tell R [] flags name index release zips stands set = absurd (none-some release stands)
flags_tell R (c ∷ cookbooks) [] name index release zips stands set = absurd (true≢false (sym set))
flags_tell R (c ∷ cookbooks) (f ∷ flags) name index release zips stands set =
    by (same_name c.name name) stands set (zips 0 c f refl refl) (λ a b. flags_tell R cookbooks flags name index release (λ k one other x y. zips (suc k) one other x y) a b)
  where
    by : (b : Bool) → slice_get (releases_of (cond b (Some c) (find (λ c. same_name c.name name) cookbooks))) index ≡ Some release → is_set (cond b f (flags_of cookbooks flags name)) index ≡ true → Zips R c.releases f
        → (slice_get (releases_of (find (λ c. same_name c.name name) cookbooks)) index ≡ Some release → is_set (flags_of cookbooks flags name) index ≡ true → R release true) → R release true
    by true stands set own rest = own index release true stands (set_at f index set)
    by false stands set own rest = rest stands set

-- what needs flagged releases alone is in no solution
pub never_next : (universe : Universe) (rules : EnvRules) (roots : Roots) (dead new : Flags) → AreNeverChosen universe rules roots dead → Zips (AreFlagsOf universe rules roots dead) universe.cookbooks new
    → AreNeverChosen universe rules roots new
never_next universe rules roots dead new never zips name index release stands set choice solution has =
    let flag = flags_tell (IsFlag universe rules roots dead) universe.cookbooks new name index release zips stands set in
    let needs = needs_at universe name index release stands in
    flag refl (λ need n. solution_can universe rules roots dead never choice need solution (solution.meets_needs name release.version has need (subst (λ ns. Contains ns need) (sym needs) n)))

pub off_from_not : (b : Bool) → not b ≡ true → b ≡ true → ⊥
off_from_not true h e = true≢false (sym h)
off_from_not false h e = true≢false (sym e)
