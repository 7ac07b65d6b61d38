-- Bases under their numbers: how often each is used, and which list it has.
use Rattle.std.proofs.Common.{◌≡◌, ◌+◌, ◌<◌, ℕ, zero, suc, Bool, true, cond, if◌then◌else◌, List, [], ◌∷◌, map, get_or, count_by, Option, None, Some, option_map, is_some, MutBor, refl, sym, ap, subst, ◌∙◌, true≢false, arith}
use Rattle.std.proofs.lemmas.List.Sums.{sum_by-cons}
use Rattle.std.proofs.Math.ListN.{get_or-map}
use Rattle.slab.specs.Slab.{RetainsFrom}
use Rattle.access_lists.specs.declared.acl.Acl.{Acl}
use Rattle.object_store.specs.declared.bases.Base.{Base}
use Rattle.object_store.specs.Bases.{Bases, uses_of, with_acl, Changes}

same_base : (a b : Base) → Some a ≡ Some b → a ≡ b
same_base a b is = ap (λ o. pick o) is
  where
    pick : Option Base → Base
    pick None = a
    pick (Some base) = base

-- what is used is there
pub there-used : (o : Option Base) → 0 < uses_of o → is_some o ≡ true
there-used None used = absurd (omega (arith, used))
there-used (Some base) used = refl

-- and what is there is some base
pub base-there : (o : Option Base) → is_some o ≡ true → (base : Base) × (o ≡ Some base)
base-there None is = absurd (true≢false (sym is))
base-there (Some base) is = (base, refl)

module _ {F : Type 0} (step : F → ℕ → MutBor Base → Bool → MutBor Base → F → Type 0) (change : Acl → Acl) (P : Acl → Type 0) (f : F)
    (says : (key : ℕ) (shown : MutBor Base) (keep : Bool) (left : MutBor Base) (next : F) → step f key shown keep left next → (keep ≡ true) × (left.now ≡ with_acl change shown.now) × (next ≡ f) × P shown.now.acl) where
  -- a closure that keeps each base and changes its list leaves each changed
  pub retained : (key : ℕ) (slots kept : List (Option Base)) → RetainsFrom step f key slots kept → kept ≡ map (option_map (with_acl change)) slots
  retained key [] kept r = r
  retained key (None ∷ rest) kept r = r.1 ∙ ap (λ l. None ∷ l) (retained (key + 1) rest r.0 r.2)
  retained key (Some old ∷ rest) kept r =
      let says_here = says key r.3.shown r.0 r.3.left r.2 r.3.called in
      let changed : r.1 ≡ with_acl change old = sym r.3.leaves ∙ says_here.1 ∙ ap (with_acl change) r.3.shows in
      let later : r.4 ≡ map (option_map (with_acl change)) rest = retained (key + 1) rest r.4 (subst (λ g. RetainsFrom step g (key + 1) rest r.4) says_here.2 r.6) in
      r.5 ∙ (λ i. (if says_here.0 i then Some (changed i) else None) ∷ later i)

  -- and was shown each
  pub shown-each : (key : ℕ) (slots kept : List (Option Base)) → RetainsFrom step f key slots kept → (n : ℕ) (base : Base) → get_or slots n None ≡ Some base → P base.acl
  shown-each key [] kept r n base is = absurd (true≢false (sym (ap is_some is)))
  shown-each key (None ∷ rest) kept r zero base is = absurd (true≢false (sym (ap is_some is)))
  shown-each key (None ∷ rest) kept r (suc n) base is = shown-each (key + 1) rest r.0 r.2 n base is
  shown-each key (Some old ∷ rest) kept r zero base is =
      let says_here = says key r.3.shown r.0 r.3.left r.2 r.3.called in
      subst (λ (b : Base). P b.acl) (r.3.shows ∙ same_base old base is) says_here.3
  shown-each key (Some old ∷ rest) kept r (suc n) base is =
      let says_here = says key r.3.shown r.0 r.3.left r.2 r.3.called in
      shown-each (key + 1) rest r.4 (subst (λ g. RetainsFrom step g (key + 1) rest r.4) says_here.2 r.6) n base is

count-map : (g : Base → Base) (slots : List (Option Base)) → count_by is_some (map (option_map g) slots) ≡ count_by is_some slots
count-map g [] = refl
count-map g (slot ∷ rest) =
    let first = sum_by-cons (λ (o : Option Base). cond (is_some o) 1 0) (option_map g slot) (map (option_map g) rest) in
    let second = sum_by-cons (λ (o : Option Base). cond (is_some o) 1 0) slot rest in
    let heads : is_some (option_map g slot) ≡ is_some slot = either slot in
    first ∙ (λ i. cond (heads i) 1 0 + count-map g rest i) ∙ sym second
  where
    either : (o : Option Base) → is_some (option_map g o) ≡ is_some o
    either None = refl
    either (Some base) = refl

-- slots that are each changed
pub changes : (change : Acl → Acl) (old new : Bases) → new.slots ≡ map (option_map (with_acl change)) old.slots → new.capacity ≡ old.capacity → Changes change old new
changes change old new slots capacity = record {
  each = λ n. ap (λ l. get_or l n None) slots ∙ get_or-map (option_map (with_acl change)) old.slots n None;
  capacity = capacity;
  len = ap (count_by is_some) slots ∙ count-map (with_acl change) old.slots;
}

-- a change of the lists leaves how often each is used
pub uses-changed : (change : Acl → Acl) (o : Option Base) → uses_of (option_map (with_acl change) o) ≡ uses_of o
uses-changed change None = refl
uses-changed change (Some base) = refl
