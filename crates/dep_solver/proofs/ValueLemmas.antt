-- The value of a version: where it stands among the releases.
use Rattle.std.proofs.Common.{◌≡◌, ℕ, zero, suc, ◌+◌, ◌-◌, ◌<◌, ◌≤◌, min, Bool, true, false, cond, List, [], ◌∷◌, length, get_or, slice_get, Some, arith, ap, refl, sym, subst, ◌∙◌, inl, inr}
use Rattle.std.proofs.lemmas.Option.{none-some, same_Some, slice_get_read, slice_get_within}
use Rattle.std.specs.Int.{bit_at}
use Rattle.version_rules.specs.declared.versions.Version.{Version}
use Rattle.dep_solver.specs.declared.universe.Release.{Release}
use Rattle.dep_solver.specs.Universes.{same_version}
use Rattle.dep_solver.specs.Values.{index_of}
use Rattle.dep_solver.proofs.EachLemmas.{NoneBefore}
use Rattle.dep_solver.proofs.OrderLemmas.{three}
use Rattle.dep_solver.proofs.VersionLemmas.{same_version_itself, version_from_same}

-- a release at the index has the version
abbrev pub HasVersion : Version → ℕ → Release → Type 0
HasVersion version index release = release.version ≡ version

other_version : (release : Release) (version : Version) → (release.version ≡ version → ⊥) → same_version release.version version ≡ false
other_version release version apart = by (same_version release.version version) refl
  where
    by : (b : Bool) → same_version release.version version ≡ b → same_version release.version version ≡ false
    by true is = absurd (apart (version_from_same release.version version is))
    by false is = is

pub same_is : (v w : Version) → v ≡ w → same_version v w ≡ true
same_is v w e = ap (same_version v) (sym e) ∙ same_version_itself v

pub index_first : (releases : List Release) (version : Version) (i : ℕ) (release : Release) → slice_get releases i ≡ Some release → release.version ≡ version → NoneBefore (HasVersion version) releases i → index_of releases version ≡ i
index_first [] version i release stands is none = absurd (none-some release stands)
index_first (x ∷ releases) version zero release stands is none =
    ap (λ b. cond b 0 (suc (index_of releases version))) (same_is x.version version (ap (λ (z : Release). z.version) (same_Some x release stands) ∙ is))
index_first (x ∷ releases) version (suc i) release stands is none =
    ap (λ b. cond b 0 (suc (index_of releases version))) (other_version x version (λ e. none 0 x (omega arith) refl e))
    ∙ ap suc (index_first releases version i release stands is (λ k y below e. none (suc k) y (omega arith) e))

pub index_none : (releases : List Release) (version : Version) → ((k : ℕ) (release : Release) → slice_get releases k ≡ Some release → release.version ≡ version → ⊥) → index_of releases version ≡ length releases
index_none [] version none = refl
index_none (x ∷ releases) version none =
    ap (λ b. cond b 0 (suc (index_of releases version))) (other_version x version (λ e. none 0 x refl e))
    ∙ ap suc (index_none releases version (λ k y e. none (suc k) y e))

pub value_none : (releases : List Release) (version : Version) → index_of releases version ≡ length releases → 0 ≡ min (length releases - index_of releases version) 63
value_none releases version e = omega (arith, e)

-- ---- bits of what holds

-- of the first i elements, each of which P holds has its bit
abbrev pub BitsBefore : {A : Type 0} → (ℕ → A → Type 0) → List A → ℕ → ℕ → Type 0
BitsBefore {A} P xs i values = (k : ℕ) (x : A) → k < i → slice_get xs k ≡ Some x → P k x → bit_at values (min (length xs - k) 63) ≡ 1

module _ {A : Type 0} (P : ℕ → A → Type 0) (xs : List A) where
  pub bits_more : (i : ℕ) (x : A) (old new : ℕ) → i < length xs → x ≡ get_or xs i x → BitsBefore P xs i old → ((n : ℕ) → bit_at old n ≡ 1 → bit_at new n ≡ 1) → (P i x → bit_at new (min (length xs - i) 63) ≡ 1)
      → BitsBefore P xs (i + 1) new
  bits_more i x old new within is before keeps now k y h e p = elim (three k i) [
    | inl below ↦ keeps (min (length xs - k) 63) (before k y below e p)
    | inr r ↦ elim r [
      | inl same ↦
          let one : y ≡ x = same_Some y x (sym e ∙ ap (slice_get xs) same ∙ slice_get_read xs (length xs) i x refl within is) in
          subst (λ (n : ℕ). bit_at new (min (length xs - n) 63) ≡ 1) (sym same) (now (subst (λ n. P n x) same (subst (P k) one p)))
      | inr g ↦ absurd (omega arith)
    ]
  ]

  pub bits_all : (i values : ℕ) → length xs ≤ i → BitsBefore P xs i values → (k : ℕ) (x : A) → slice_get xs k ≡ Some x → P k x → bit_at values (min (length xs - k) 63) ≡ 1
  bits_all i values past before k x e p = before k x (omega (arith, slice_get_within xs k x e)) e p
