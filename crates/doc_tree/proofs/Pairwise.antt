-- Two lists that are compared item by item.
use Rattle.std.proofs.Common.{◌≡◌, ℕ, zero, suc, ◌<◌, List, [], ◌∷◌, map, take, length, get_or, slice_get, Some, option_map, refl, sym, ap, ap₂, ◌∙◌}
use Rattle.std.proofs.lemmas.Option.{slice_get-map, slice_get_read, same_Some}

module _ {A B : Type 0} (f : A → B) where
  -- what a clause sees of the item that was read at an index
  pub slice_get_view : (xs : List A) (seen : List B) (i : ℕ) (x : A) → map f xs ≡ seen → i < length xs → x ≡ get_or xs i x → slice_get seen i ≡ Some (f x)
  slice_get_view xs seen i x view within is =
      ap (λ (l : List B). slice_get l i) (sym view) ∙ slice_get-map f xs i ∙ ap (option_map f) (slice_get_read xs (length xs) i x refl within is)

module _ {B : Type 0} where
  -- one more item is the same
  pub take_same : (xs ys : List B) (i : ℕ) (a b : B) → slice_get xs i ≡ Some a → slice_get ys i ≡ Some b → a ≡ b → take i xs ≡ take i ys → take (suc i) xs ≡ take (suc i) ys
  take_same [] ys i a b p q same before = cc
  take_same (x ∷ xs) [] i a b p q same before = cc
  take_same (x ∷ xs) (y ∷ ys) zero a b p q same before = cc
  take_same (x ∷ xs) (y ∷ ys) (suc i) a b p q same before =
      let first : x ≡ y = cc in
      let rest : take i xs ≡ take i ys = cc in
      ap₂ (λ z zs. z ∷ zs) first (take_same xs ys i a b p q same rest)

  -- equal lists have equal items
  pub same_item : (xs ys : List B) (i : ℕ) (a b : B) → slice_get xs i ≡ Some a → slice_get ys i ≡ Some b → xs ≡ ys → a ≡ b
  same_item xs ys i a b p q same = same_Some a b (sym p ∙ ap (λ (l : List B). slice_get l i) same ∙ q)
