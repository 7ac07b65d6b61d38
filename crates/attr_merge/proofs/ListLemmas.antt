-- Lists that are turned, mapped and joined.
use Rattle.std.proofs.Common.{◌≡◌, ◌≤◌, ◌<◌, ◌-◌, ℕ, zero, suc, List, [], ◌∷◌, ◌++◌, map, reverse, take, drop, length, get_or, refl, sym, ap, ◌∙◌, arith}
use Rattle.std.proofs.lemmas.List.{reverse-append}
use Rattle.doc_tree.specs.Doc.{Doc}
use Rattle.attr_merge.specs.Elements.{with_element, with_elements}

module _ {X Y : Type 0} (f : X → Y) where
  pub map-join : (xs ys : List X) → map f (xs ++ ys) ≡ map f xs ++ map f ys
  map-join [] ys = refl
  map-join (x ∷ xs) ys = ap (λ (rest : List Y). f x ∷ rest) (map-join xs ys)

  pub reverse-map : (xs : List X) → reverse (map f xs) ≡ map f (reverse xs)
  reverse-map [] = refl
  reverse-map (x ∷ xs) =
      reverse-append (f x ∷ []) (map f xs)
      ∙ ap (λ (l : List Y). l ++ f x ∷ []) (reverse-map xs)
      ∙ sym (map-join (reverse xs) (x ∷ []))
      ∙ ap (map f) (sym (reverse-append (x ∷ []) xs))

pub map-map : {X Y Z : Type 0} (f : X → Y) (g : Y → Z) (xs : List X) → map g (map f xs) ≡ map (λ (x : X). g (f x)) xs
map-map f g [] = refl
map-map f g (x ∷ xs) = ap (λ rest. g (f x) ∷ rest) (map-map f g xs)

pub with_elements-append : (ds xs ys : List Doc) → with_elements ds (xs ++ ys) ≡ with_elements (with_elements ds xs) ys
with_elements-append ds [] ys = refl
with_elements-append ds (x ∷ xs) ys = with_elements-append (with_element ds x) xs ys

module _ {X : Type 0} where
  pub take-whole : (xs : List X) (n : ℕ) → length xs ≤ n → take n xs ≡ xs
  take-whole [] zero h = refl
  take-whole [] (suc n) h = refl
  take-whole (x ∷ xs) zero h = absurd (omega arith)
  take-whole (x ∷ xs) (suc n) h = ap (λ (rest : List X). x ∷ rest) (take-whole xs n (omega arith))

  pub drop-whole : (xs : List X) (n : ℕ) → length xs ≤ n → drop n xs ≡ []
  drop-whole [] zero h = refl
  drop-whole [] (suc n) h = refl
  drop-whole (x ∷ xs) zero h = absurd (omega arith)
  drop-whole (x ∷ xs) (suc n) h = drop-whole xs n (omega arith)

  pub map-self : (xs : List X) → map (λ (x : X). x) xs ≡ xs
  map-self [] = refl
  map-self (x ∷ xs) = ap (λ (rest : List X). x ∷ rest) (map-self xs)

  pub head-split : (xs : List X) (top : X) → 0 < length xs → top ≡ get_or xs 0 top → xs ≡ top ∷ drop 1 xs
  head-split [] top some is = absurd (omega arith)
  head-split (x ∷ xs) top some is = ap (λ (y : X). y ∷ xs) (sym is)

  pub rest-whole : (xs : List X) → take (length xs - 1) (drop 1 xs) ≡ drop 1 xs
  rest-whole [] = refl
  rest-whole (x ∷ xs) = take-whole xs (length (x ∷ xs) - 1) (omega arith)

  pub none-long : (xs : List X) → length xs ≡ 0 → xs ≡ []
  none-long [] h = refl
  none-long (x ∷ xs) h = absurd (omega arith)
