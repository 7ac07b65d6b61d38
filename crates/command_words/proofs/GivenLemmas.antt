-- What is given so far and what the words that are left give, taken together.
use Rattle.std.proofs.Common.{◌≡◌, ℕ, List, [], ◌∷◌, Option, Some, None, option_map, refl, sym, ap, append_assoc, ◌-◌, ◌≤◌, length, take, drop, get_or, take_all, arith}
use Rattle.command_words.specs.Words.{Given, Part, words_alone, given_by, and_more, given_in}
use Rattle.command_words.specs.Gathering.{with_left}

and_more-assoc : (a b c : Given) → and_more (and_more a b) c ≡ and_more a (and_more b c)
and_more-assoc a b c =
    rw (append_assoc a.servers b.servers c.servers, append_assoc a.orgs b.orgs c.orgs, append_assoc a.users b.users c.users, append_assoc a.words b.words c.words) refl

more_behind : (a d : Given) (more : Option Given) → option_map (and_more (and_more a d)) more ≡ option_map (and_more a) (option_map (and_more d) more)
more_behind a d None = refl
more_behind a d (Some more) = ap (λ g. Some g) (and_more-assoc a d more)

-- a part, and the words behind it
pub goes_on : (a new : Given) (part : Part) (words behind : List (List ℕ))
    → option_map (and_more (given_by part)) (given_in behind) ≡ given_in words → new ≡ and_more a (given_by part) → with_left a words ≡ with_left new behind
goes_on a new part words behind gives is =
    rw (sym gives, is) (sym (more_behind a (given_by part) (given_in behind)))

-- nothing so far
pub begins : (words : List (List ℕ)) → with_left (words_alone []) words ≡ given_in words
begins words = elim (given_in words) as (λ (g : Option Given). option_map (and_more (words_alone [])) g ≡ g) [ None ↦ refl | Some g ↦ refl ]

-- the words that are left, as the first of them and those behind it
pub parted_words : (left : List (List ℕ)) (word other : List ℕ) → 1 ≤ length left → word ≡ get_or left 0 other → word ∷ take (length left - 1) (drop 1 left) ≡ left
parted_words [] word other some is = absurd (omega arith)
parted_words (first ∷ rest) word other some is = rw is (ap (λ (r : List (List ℕ)). first ∷ r) (take_all (length (first ∷ rest) - 1) rest (omega arith)))
