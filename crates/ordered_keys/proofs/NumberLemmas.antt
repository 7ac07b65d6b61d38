-- Lists of numbers: which are among them, and lists of which none is there twice.
use Rattle.std.proofs.Common.{◌≡◌, ◌⊎◌, ℕ, inl, inr, List, [], ◌∷◌, ◌++◌, refl, sym, ap, subst}
use Rattle.ordered_keys.specs.Numbers.{Among, AreApart}

pub Among-left : (xs ys : List ℕ) (x : ℕ) → Among xs x → Among (xs ++ ys) x
Among-left [] ys x h = absurd h
Among-left (z ∷ xs) ys x (inl e) = inl e
Among-left (z ∷ xs) ys x (inr h) = inr (Among-left xs ys x h)

pub Among-right : (xs ys : List ℕ) (x : ℕ) → Among ys x → Among (xs ++ ys) x
Among-right [] ys x h = h
Among-right (z ∷ xs) ys x h = inr (Among-right xs ys x h)

pub Among-split : (xs ys : List ℕ) (x : ℕ) → Among (xs ++ ys) x → Among xs x ⊎ Among ys x
Among-split [] ys x h = inr h
Among-split (z ∷ xs) ys x (inl e) = inl (inl e)
Among-split (z ∷ xs) ys x (inr h) = elim (Among-split xs ys x h) [ inl a ↦ inl (inr a) | inr b ↦ inr b ]

pub nothing_behind : (xs : List ℕ) → xs ≡ xs ++ []
nothing_behind [] = refl
nothing_behind (x ∷ xs) = ap (λ z. x ∷ z) (nothing_behind xs)

pub apart_pop : (xs : List ℕ) (x : ℕ) → AreApart (xs ++ x ∷ []) → AreApart xs × (Among xs x → ⊥)
apart_pop [] x h = (tt, λ a. a)
apart_pop (y ∷ xs) x h =
    let rest = apart_pop xs x h.1 in
    ((λ a. h.0 (Among-left xs (x ∷ []) y a), rest.0), elim [ inl e ↦ h.0 (Among-right xs (x ∷ []) y (inl (sym e))) | inr a ↦ rest.1 a ])

pub apart_insert : (xs ys : List ℕ) (x : ℕ) → AreApart (xs ++ ys) → (Among (xs ++ ys) x → ⊥) → AreApart (xs ++ x ∷ ys)
apart_insert [] ys x h out = (out, h)
apart_insert (y ∷ xs) ys x h out = (
  λ a. elim (Among-split xs (x ∷ ys) y a) [ inl b ↦ h.0 (Among-left xs ys y b) | inr (inl e) ↦ out (inl (sym e)) | inr (inr b) ↦ h.0 (Among-right xs ys y b) ],
  apart_insert xs ys x h.1 (λ a. out (inr a)),
)

pub apart_remove : (xs ys : List ℕ) (x : ℕ) → AreApart (xs ++ x ∷ ys) → AreApart (xs ++ ys) × (Among (xs ++ ys) x → ⊥)
apart_remove [] ys x h = (h.1, h.0)
apart_remove (y ∷ xs) ys x h =
    let rest = apart_remove xs ys x h.1 in (
      (λ a. h.0 (elim (Among-split xs ys y a) [ inl b ↦ Among-left xs (x ∷ ys) y b | inr b ↦ Among-right xs (x ∷ ys) y (inr b) ]), rest.0),
      elim [ inl e ↦ h.0 (Among-right xs (x ∷ ys) y (inl (sym e))) | inr a ↦ rest.1 a ],
    )

-- of two lists that are apart together each is, and they have no number in common
pub record Parting (xs ys : List ℕ) : Type 0 where
  pub left : AreApart xs
  pub right : AreApart ys
  pub across : (i : ℕ) → Among xs i → Among ys i → ⊥

pub apart_parts : (xs ys : List ℕ) → AreApart (xs ++ ys) → Parting xs ys
apart_parts [] ys h = record { left = tt; right = h; across = λ i a b. absurd a }
apart_parts (x ∷ xs) ys h =
    let rest = apart_parts xs ys h.1 in
    record {
      left = (λ a. h.0 (Among-left xs ys x a), rest.left);
      right = rest.right;
      across = λ i. elim [ inl e ↦ λ b. h.0 (Among-right xs ys x (subst (λ z. Among ys z) (sym e) b)) | inr a ↦ λ b. rest.across i a b ];
    }

pub apart_join : (xs ys : List ℕ) → AreApart xs → AreApart ys → ((i : ℕ) → Among xs i → Among ys i → ⊥) → AreApart (xs ++ ys)
apart_join [] ys one two across = two
apart_join (x ∷ xs) ys one two across = (λ a. elim (Among-split xs ys x a) [ inl b ↦ one.0 b | inr b ↦ across x (inl refl) b ], apart_join xs ys one.1 two (λ i a b. across i (inr a) b))
