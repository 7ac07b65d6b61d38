-- What is made of each: one by one, and made again.
use Rattle.std.proofs.Common.{◌≡◌, ◌<◌, ◌+◌, ℕ, Bool, true, false, cond, List, [], ◌∷◌, ◌++◌, map, length, drop, get_or, Option, Some, None, option_map, option_and_then, refl, sym, ap, ◌∙◌, append_assoc}
use Rattle.std.proofs.lemmas.List.{drop_more}
use Rattle.run_lists.specs.ByName.{kept_if}
use Rattle.run_lists.specs.Reading.{each_of}

abbrev from_some : {A : Type 0} → A → Option A → A
from_some other (Some x) = x
from_some other None = other

pub same_some : {A : Type 0} (x y : A) → Some x ≡ Some y → x ≡ y
same_some x y e = ap (from_some x) e

-- behind something that was found the next was
pub then_found : {A B : Type 0} (o : Option A) (next : A → Option B) (y : B) → option_and_then next o ≡ Some y → (x : A) × (o ≡ Some x) × (next x ≡ Some y)
then_found (Some x) next y is = (x, refl, is)
then_found None next y is = cc

pub map_found : {A B : Type 0} (o : Option A) (f : A → B) (y : B) → option_map f o ≡ Some y → (x : A) × (o ≡ Some x) × (f x ≡ y)
map_found (Some x) f y is = (x, refl, same_some (f x) y is)
map_found None f y is = cc

-- a text that was kept passed the test
pub kept_found : (test : List ℕ → Bool) (text kept : List ℕ) → kept_if test text ≡ Some kept → (test text ≡ true) × (text ≡ kept)
kept_found test text kept is = by (test text) is
  where
    by : (b : Bool) → cond b (Some text) None ≡ Some kept → (b ≡ true) × (text ≡ kept)
    by true is = (refl, same_some text kept is)
    by false is = cc

pub keeps_again : (test : List ℕ → Bool) (text : List ℕ) → test text ≡ true → kept_if test text ≡ Some text
keeps_again test text passes = ap (λ b. cond b (Some text) None) passes

-- ---- one by one

gone_on : {Y : Type 0} (made : List Y) (y : Y) (left : Option (List Y)) → option_map (λ later. made ++ later) (option_map (λ later. y ∷ later) left) ≡ option_map (λ later. (made ++ y ∷ []) ++ later) left
gone_on made y None = refl
gone_on made y (Some later) = ap Some (sym (append_assoc made (y ∷ []) later))

-- after one more, what is made is what was made with its own, and then that of those that are left
pub made_more : {C X Y : Type 0} (make : X → Option Y) (view : C → X) (all : Option (List Y)) (cs : List C) (i : ℕ) (c : C) (made after : List Y) (y : Y) → i < length cs → c ≡ get_or cs i c → make (view c) ≡ Some y
    → after ≡ made ++ y ∷ [] → all ≡ option_map (λ later. made ++ later) (each_of make (map view (drop i cs))) → all ≡ option_map (λ later. after ++ later) (each_of make (map view (drop (i + 1) cs)))
made_more make view all cs i c made after y within is makes pushed so_far =
    let rest = each_of make (map view (drop (i + 1) cs)) in
    let here : each_of make (map view (drop i cs)) ≡ option_map (λ later. y ∷ later) rest =
    ap (λ ds. each_of make (map view ds)) (drop_more cs i c within)
    ∙ ap (λ d. option_and_then (λ first. option_map (λ later. first ∷ later) rest) (make (view d))) (sym is)
    ∙ ap (option_and_then (λ first. option_map (λ later. first ∷ later) rest)) makes in
    so_far ∙ ap (option_map (λ later. made ++ later)) here ∙ gone_on made y rest ∙ ap (λ ys. option_map (λ later. ys ++ later) rest) (sym pushed)

-- ---- made again

-- what was made of a first and of the others
pub record Made {X Y : Type 0} (make : X → Option Y) (x : X) (xs : List X) (ys : List Y) : Type 0 where
  pub first : Y
  pub others : List Y
  pub first_is : make x ≡ Some first
  pub others_are : each_of make xs ≡ Some others
  pub all : first ∷ others ≡ ys

pub each_made : {X Y : Type 0} (make : X → Option Y) (x : X) (xs : List X) (ys : List Y) → each_of make (x ∷ xs) ≡ Some ys → Made make x xs ys
each_made {X} {Y} make x xs ys is =
    let one = then_found (make x) (λ (y : Y). option_map (λ later. y ∷ later) (each_of make xs)) ys is in
    let rest = map_found (each_of make xs) (λ (later : List Y). one.0 ∷ later) ys one.2 in
    record { first = one.0; others = rest.0; first_is = one.1; others_are = rest.1; all = rest.2 }

-- what was made of each is made of each again, where each is
pub each_again : {X Y Z : Type 0} (make : X → Option Y) (again : Z → Option Y) (back : Y → Z) → ((x : X) (y : Y) → make x ≡ Some y → again (back y) ≡ Some y) → (xs : List X) (ys : List Y) → each_of make xs ≡ Some ys
    → each_of again (map back ys) ≡ Some ys
each_again make again back one [] ys is = ap (λ zs. each_of again (map back zs)) (sym (same_some [] ys is)) ∙ is
each_again {X} {Y} make again back one (x ∷ xs) ys is =
    let made = each_made make x xs ys is in
    let first = one x made.first made.first_is in
    let others = each_again make again back one xs made.others made.others_are in
    ap (λ zs. each_of again (map back zs)) (sym made.all)
    ∙ ap (option_and_then (λ (y : Y). option_map (λ later. y ∷ later) (each_of again (map back made.others)))) first
    ∙ ap (option_map (λ (later : List Y). made.first ∷ later)) others
    ∙ ap Some made.all

-- what each is told by stays
pub each_told : {X Y K : Type 0} (make : X → Option Y) (told : X → K) (tells : Y → K) → ((x : X) (y : Y) → make x ≡ Some y → tells y ≡ told x) → (xs : List X) (ys : List Y) → each_of make xs ≡ Some ys
    → map tells ys ≡ map told xs
each_told make told tells one [] ys is = ap (map tells) (sym (same_some [] ys is))
each_told {K = K} make told tells one (x ∷ xs) ys is =
    let made = each_made make x xs ys is in
    ap (map tells) (sym made.all)
    ∙ ap (λ (k : K). k ∷ map tells made.others) (one x made.first made.first_is)
    ∙ ap (λ (ks : List K). told x ∷ ks) (each_told make told tells one xs made.others made.others_are)
