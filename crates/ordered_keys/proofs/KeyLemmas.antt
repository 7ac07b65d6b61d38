-- Each key under one number.
use Rattle.std.proofs.Common.{◌≡◌, ℕ, inl, inr, Some, refl, sym, ap, ◌∙◌, arith}
use Rattle.std.specs.Cmp.{IsTotalOrder, tied_itself}
use Rattle.std.specs.declared.cmp.Ordering.{Ordering}
use Rattle.std.specs.declared.cmp.Ordering.TheVariants.{Equal}
use Rattle.std.proofs.lemmas.Bool.{cases_eq}
use Rattle.ordered_keys.specs.Keys.{Keys, key_of, IsAt, IsAbsent, IsOnce, Inserts, Numbers}
use Rattle.ordered_keys.proofs.ItemLemmas.{none_not_some}

module _ {K : Type 0} (cmp : K → K → Ordering) (o : IsTotalOrder cmp) where
  pub numbers_found : (keys : Keys K) (k : K) (id : ℕ) → ((x y : K) → cmp x y ≡ Equal → x ≡ y) → IsOnce keys → IsAt cmp keys k id → Numbers keys keys k id
  numbers_found keys k id alike once at = record {
    put = at.there ∙ ap Some (alike at.key k at.equal);
    kept = λ j y is. is;
    from = λ j y is. inl is;
    once = once;
    room = omega arith;
    size = refl;
  }

  pub numbers_new : (old new : Keys K) (k : K) (id : ℕ) → IsOnce old → IsAbsent cmp old k → Inserts old new k id → Numbers old new k id
  numbers_new old new k id once absent inserts = record {
    put = inserts.put;
    kept = λ j y is. inserts.others j (λ e. none_not_some (key_of old j) y (ap (key_of old) e ∙ inserts.free) is) ∙ is;
    from = λ j y is. elim (cases_eq j id) [
      | inl e ↦ inr (e, (let mine : key_of new j ≡ Some k = ap (key_of new) e ∙ inserts.put in let same : y ≡ k = cc in same))
      | inr differs ↦ inl (sym (inserts.others j differs) ∙ is)
    ];
    once = λ i j x one two. elim (cases_eq i id) [
      | inl e ↦ elim (cases_eq j id) [
        | inl f ↦ e ∙ sym f
        | inr other ↦ absurd (twice i j x e one (sym (inserts.others j other) ∙ two))
      ]
      | inr differs ↦ elim (cases_eq j id) [
        | inl f ↦ absurd (twice j i x f two (sym (inserts.others i differs) ∙ one))
        | inr other ↦ once i j x (sym (inserts.others i differs) ∙ one) (sym (inserts.others j other) ∙ two)
      ]
    ];
    room = omega (arith, inserts.less);
    size = inserts.size;
  }
    where
      twice : (i j : ℕ) (x : K) → i ≡ id → key_of new i ≡ Some x → key_of old j ≡ Some x → ⊥
      twice i j x e one two =
          let mine : key_of new i ≡ Some k = ap (key_of new) e ∙ inserts.put in
          let same : x ≡ k = cc in
          absent j x two (ap (λ z. cmp z k) same ∙ tied_itself o k)
