-- A text is cut at its line feeds, and its fronts.
use Rattle.std.proofs.Common.{◌≡◌, ◌==◌, ◌-◌, ◌||◌, ℕ, zero, suc, cond, Bool, true, false, List, [], ◌∷◌, ◌++◌, length, take, drop, get_or, if◌then◌else◌, refl, ap, ◌∙◌}
use Rattle.std.proofs.lemmas.Bool.{and_parts, and_from, or_parts, cond-false, false≢true}
use Rattle.std.proofs.lemmas.List.Splits.{slice_split-cons_no}
use Rattle.std.specs.List.{list_all, onto_first, slice_split}
use Rattle.std.specs.Str.Lines.{lines, lines_of_parts, strip_carriage_return}

pub drop_front : {X : Type 0} (xs ys : List X) → drop (length xs) (xs ++ ys) ≡ ys
drop_front [] ys = refl
drop_front (x ∷ xs) ys = drop_front xs ys

pub take_front : {X : Type 0} (xs ys : List X) → take (length xs) (xs ++ ys) ≡ xs
take_front [] ys = refl
take_front {X} (x ∷ xs) ys = ap (λ (l : List X). x ∷ l) (take_front xs ys)

-- ---- tests of all bytes

pub all_append : (f : ℕ → Bool) (xs ys : List ℕ) → list_all f xs ≡ true → list_all f ys ≡ true → list_all f (xs ++ ys) ≡ true
all_append f [] ys one two = two
all_append f (x ∷ xs) ys one two = let p = and_parts _ _ one in and_from _ _ p.0 (all_append f xs ys p.1 two)

pub all_weaker : (f g : ℕ → Bool) → ((b : ℕ) → f b ≡ true → g b ≡ true) → (xs : List ℕ) → list_all f xs ≡ true → list_all g xs ≡ true
all_weaker f g h [] all = refl
all_weaker f g h (x ∷ xs) all = let p = and_parts _ _ all in and_from _ _ (h x p.0) (all_weaker f g h xs p.1)

-- ---- lines

-- a byte that ends no line
abbrev pub is_inline : ℕ → Bool
is_inline b = if b == 10 || b == 13 then false else true

-- a test of which the opposite holds
pub none_if : (t : Bool) → (if t then false else true) ≡ true → t ≡ false
none_if true h = absurd (false≢true h)
none_if false h = refl

inline_parts : (b : ℕ) → is_inline b ≡ true → ((b == 10) ≡ false) × ((b == 13) ≡ false)
inline_parts b h = or_parts _ _ (none_if (b == 10 || b == 13) h)

cut_parts : (line text : List ℕ) → list_all is_inline line ≡ true → slice_split (λ b. b == 10) (line ++ 10 ∷ text) ≡ line ∷ slice_split (λ b. b == 10) text
cut_parts [] text all = refl
cut_parts (b ∷ line) text all =
    let p = and_parts _ _ all in
    slice_split-cons_no (λ b. b == 10) b (line ++ 10 ∷ text) (inline_parts b p.0).0 ∙ ap (onto_first b) (cut_parts line text p.1)

inline_at : (line : List ℕ) (i : ℕ) → list_all is_inline line ≡ true → (get_or line i 0 == 13) ≡ false
inline_at [] i all = refl
inline_at (b ∷ line) zero all = (inline_parts b (and_parts _ _ all).0).1
inline_at (b ∷ line) (suc i) all = inline_at line i (and_parts _ _ all).1

strip_inline : (line : List ℕ) → list_all is_inline line ≡ true → strip_carriage_return line ≡ line
strip_inline line all = cond-false _ _ _ (inline_at line (length line - 1) all)

first_part : (line : List ℕ) (parts : List (List ℕ)) (part : List ℕ) (more : List (List ℕ)) → parts ≡ part ∷ more → lines_of_parts (line ∷ parts) ≡ strip_carriage_return line ∷ lines_of_parts parts
first_part line [] part more is = cc
first_part line (p ∷ ps) part more is = refl

first_onto : (b : ℕ) (parts : List (List ℕ)) → (part : List ℕ) × (more : List (List ℕ)) × (onto_first b parts ≡ part ∷ more)
first_onto b [] = (b ∷ [], [], refl)
first_onto b (p ∷ ps) = (b ∷ p, ps, refl)

first_cond : (t : Bool) (b : ℕ) (parts : List (List ℕ)) → (part : List ℕ) × (more : List (List ℕ)) × (cond t ([] ∷ parts) (onto_first b parts) ≡ part ∷ more)
first_cond true b parts = ([], parts, refl)
first_cond false b parts = first_onto b parts

has_part : (text : List ℕ) → (part : List ℕ) × (more : List (List ℕ)) × (slice_split (λ b. b == 10) text ≡ part ∷ more)
has_part [] = ([], [], refl)
has_part (b ∷ text) = first_cond (b == 10) b (slice_split (λ b. b == 10) text)

-- the first line, up to its line feed
pub next_line : (line text : List ℕ) → list_all is_inline line ≡ true → lines (line ++ 10 ∷ text) ≡ line ∷ lines text
next_line line text all =
    let p = has_part text in
    ap lines_of_parts (cut_parts line text all) ∙ first_part line (slice_split (λ b. b == 10) text) p.0 p.1 p.2
    ∙ ap (λ (l : List ℕ). l ∷ lines_of_parts (slice_split (λ b. b == 10) text)) (strip_inline line all)
