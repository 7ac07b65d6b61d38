-- The number that decimal digits write, read one by one up to a limit, and the values of one header name.
use Rattle.std.proofs.Common.{◌≡◌, ℕ, ◌+◌, ◌*◌, ◌≤◌, Bool, true, false, ◌&&◌, cond, List, [], ◌∷◌, ◌++◌, length, map, take, drop, get_or, drop-cons, suc, inl, inr, Some, None, nat_le, ◌<◌, refl, sym, ap, ◌∙◌, arith}
use Rattle.std.proofs.lemmas.List.{take_more, map-append, drop_all}
use Rattle.std.proofs.lemmas.Bool.{le-leb, lt-leb}
use Rattle.std.proofs.lemmas.Bool.Decides.{leb_tells}
use Rattle.std.proofs.Math.Bool.{and-false}
use Rattle.std.specs.declared.option.Option.{Option}
use Rattle.std.specs.List.{list_all}
use Rattle.std.specs.Char.{is_ascii_digit, digit_value}
use Rattle.std.specs.Str.Parse.{digits_value_after}
use Rattle.http_wire.specs.Fields.{is_named, values_named}

-- the number with these digits behind it, up to the limit
abbrev pub number_after : ℕ → List ℕ → Option ℕ
number_after n [] = Some n
number_after n (d ∷ ds) = cond (is_ascii_digit d && nat_le (n * 10 + digit_value d) 67108864) (number_after (n * 10 + digit_value d) ds) None

-- digits behind a number make it no smaller
pub digits_value_after-le : (n : ℕ) (ds : List ℕ) → n ≤ digits_value_after 10 n ds
digits_value_after-le n [] = omega arith
digits_value_after-le n (d ∷ ds) = omega (arith, digits_value_after-le (n * 10 + digit_value d) ds)

-- a digit that is too much, or after which the rest is read
digit_read : (next : ℕ) (ds : List ℕ)
    → (next ≤ 67108864 → number_after next ds ≡ cond (list_all is_ascii_digit ds && nat_le (digits_value_after 10 next ds) 67108864) (Some (digits_value_after 10 next ds)) None)
    → cond (nat_le next 67108864) (number_after next ds) None
    ≡ cond (list_all is_ascii_digit ds && nat_le (digits_value_after 10 next ds) 67108864) (Some (digits_value_after 10 next ds)) None
digit_read next ds rest = elim (leb_tells next 67108864) [
  | inl small ↦ rw small.0 (rest small.1)
  | inr large ↦ let no : nat_le (digits_value_after 10 next ds) 67108864 ≡ false = lt-leb _ _ (omega (arith, digits_value_after-le next ds, large.1)) in rw (large.0, no, and-false) refl
]

-- read one by one, they are the digits that the definition of a length reads at once
pub number_after-is : (n : ℕ) (ds : List ℕ) → n ≤ 67108864
    → number_after n ds ≡ cond (list_all is_ascii_digit ds && nat_le (digits_value_after 10 n ds) 67108864) (Some (digits_value_after 10 n ds)) None
number_after-is n [] le = rw (le-leb n 67108864 le) refl
number_after-is n (d ∷ ds) le =
    let next = n * 10 + digit_value d in
    elim (is_ascii_digit d) as (λ b. cond (b && nat_le next 67108864) (number_after next ds) None ≡ cond ((b && list_all is_ascii_digit ds) && nat_le (digits_value_after 10 next ds) 67108864) (Some (digits_value_after 10 next ds)) None)
    [ true ↦ digit_read next ds (number_after-is next ds) | false ↦ refl ]

-- the values of one name in headers behind others
pub values_named-append : (name : List ℕ) (hs ks : List (List ℕ × List ℕ))
    → values_named name (hs ++ ks) ≡ values_named name hs ++ values_named name ks
values_named-append name [] ks = refl
values_named-append name (h ∷ hs) ks =
    elim (is_named name h) as (λ b. cond b (h.1 ∷ values_named name (hs ++ ks)) (values_named name (hs ++ ks)) ≡ cond b (h.1 ∷ values_named name hs) (values_named name hs) ++ values_named name ks)
    [ true ↦ ap (λ vs. h.1 ∷ vs) (values_named-append name hs ks) | false ↦ values_named-append name hs ks ]

-- the values of one name in one more of some headers
pub values_named-more : {X : Type 0} (name : List ℕ) (f : X → List ℕ × List ℕ) (hs : List X) (i : ℕ) (d : X) → i < length hs
    → values_named name (map f (take i hs)) ++ values_named name (f (get_or hs i d) ∷ []) ≡ values_named name (map f (take (i + 1) hs))
values_named-more name f hs i d lt =
    sym (values_named-append name (map f (take i hs)) (f (get_or hs i d) ∷ []))
    ∙ ap (values_named name) (sym (ap (map f) (take_more hs i d lt) ∙ map-append f (take i hs) (get_or hs i d ∷ [])))

-- what a definition of a length says where the digits end
pub digits_end : (n i : ℕ) (ds : List ℕ) → length ds ≤ i → number_after n (drop i ds) ≡ number_after 0 ds
    → Some n ≡ cond (list_all is_ascii_digit ds && nat_le (digits_value_after 10 0 ds) 67108864) (Some (digits_value_after 10 0 ds)) None
digits_end n i ds le same =
    sym (ap (number_after n) (drop_all i ds le)) ∙ same ∙ number_after-is 0 ds (omega arith)

-- a test that failed, where its success would have given a value
no_test : (b : Bool) (x : ℕ) (other : Option ℕ) → None ≡ cond b (Some x) None → cond b other None ≡ None
no_test true x other e = absurd (cc)
no_test false x other e = refl

-- and where a digit is no digit, or too much
pub digits_stop : (n i : ℕ) (ds : List ℕ) → i < length ds
    → None ≡ cond (is_ascii_digit (get_or ds i 0) && nat_le (n * 10 + digit_value (get_or ds i 0)) 67108864) (Some (n * 10 + digit_value (get_or ds i 0))) None
    → number_after n (drop i ds) ≡ number_after 0 ds
    → None ≡ cond (list_all is_ascii_digit ds && nat_le (digits_value_after 10 0 ds) 67108864) (Some (digits_value_after 10 0 ds)) None
digits_stop n i ds lt stop same =
    let cut : number_after n (drop i ds) ≡ None =
    ap (number_after n) (drop-cons ds i 0 lt) ∙ no_test _ _ (number_after (n * 10 + digit_value (get_or ds i 0)) (drop (suc i) ds)) stop in
    sym cut ∙ same ∙ number_after-is 0 ds (omega arith)
