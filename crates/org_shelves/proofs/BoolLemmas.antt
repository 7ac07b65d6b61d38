-- Tests joined by `and` and `or`.
use Rattle.std.proofs.Common.{◌≡◌, Bool, true, false, not, ◌&&◌, ◌||◌, ◌⊎◌, inl, inr, refl, sym, ap, ◌∙◌}

-- one of the two holds
pub either : (a b : Bool) → (a || b) ≡ true → (a ≡ true) ⊎ (b ≡ true)
either true b is = inl refl
either false b is = inr is

pub and_false : (b : Bool) → (b && false) ≡ false
and_false true = refl
and_false false = refl

or_false : (b : Bool) → (b || false) ≡ b
or_false true = refl
or_false false = refl

-- nothing holds and doesn't
pub never : (b : Bool) → false ≡ (b && not b)
never true = refl
never false = refl

-- where `freed` and `before` agree but for what holds after, they do beside what holds before and after
pub beside_right : (freed before after other : Bool) → (freed && not after) ≡ (before && not after) → (freed && not (after || other)) ≡ ((before || other) && not (after || other))
beside_right freed before true other is = and_false freed ∙ sym (and_false (before || other))
beside_right freed before false true is = and_false freed ∙ sym (and_false (before || true))
beside_right freed before false false is = is ∙ ap (λ b. b && true) (sym (or_false before))

pub beside_left : (freed before after other : Bool) → (freed && not after) ≡ (before && not after) → (freed && not (other || after)) ≡ ((other || before) && not (other || after))
beside_left freed before after true is = and_false freed
beside_left freed before after false is = is
