-- What std's calls on text say in the words of `Items` and `Names`.
use Rattle.std.proofs.Common.{◌≡◌, ℕ, ◌-◌, true, false, List, length, drop, Option, Some, None, MatchOption, nat_eq, sym, subst, refl, arith, codes, option_copied, inl, inr}
use Rattle.std.proofs.lemmas.Bool.{cases_Bool}
use Rattle.std.specs.Borrow.{Bor}
use Rattle.std.specs.List.{starts_with}
use Rattle.std.specs.Str.{IsCharBoundary}
use Rattle.std.specs.Str.Pattern.{FindsText, FindsTextPrefix, FindsTextSuffix, SplitsAroundMatch, StripsPrefix, StripsSuffix}
use Rattle.std.proofs.lemmas.Str.Pattern.{starts_text, ends_text}
use Rattle.run_lists.specs.Items.{behind_front, before_bracket, reads_item, recipe_in}
use Rattle.run_lists.specs.Names.{recipe_of}
use Rattle.run_lists.proofs.NameLemmas.{parted-found, parted-none}

-- `strip_prefix` at a text
pub behind_front-strip : (n s : List ℕ) (r : Option (Bor (List ℕ)))
    → MatchOption r (FindsTextPrefix n s None) (λ x. StripsPrefix (FindsTextPrefix n) s x.now) → option_copied r ≡ behind_front n s
behind_front-strip n s None none = rw (sym (starts_text false n s none)) refl
behind_front-strip n s (Some x) (k, finds, is, fits) =
    let B : ℕ → Type 0 = λ j. IsCharBoundary s j in
    let starts = starts_text true n s (k, finds, subst B (sym finds.0) finds.2) in
    rw (sym starts, is, finds.0) refl

-- `strip_suffix` at `]`
pub before_bracket-strip : (s : List ℕ) (r : Option (Bor (List ℕ)))
    → MatchOption r (FindsTextSuffix (codes "]") s None) (λ x. StripsSuffix (FindsTextSuffix (codes "]")) s x.now) → option_copied r ≡ before_bracket s
before_bracket-strip s None none = rw (sym (ends_text false (codes "]") s none)) refl
before_bracket-strip s (Some x) (k, finds, is, fits) =
    let B : ℕ → Type 0 = λ j. IsCharBoundary s (length s - j) in
    let ends = ends_text true (codes "]") s (k, finds, omega arith, subst B (sym finds.0) finds.2) in
    rw (sym ends, is, finds.0) refl

-- `split_once` at `::`, where it is found and where it is not
pub recipe_of-split : (name front back : List ℕ) → SplitsAroundMatch (FindsText (codes "::")) name front back
    → recipe_of name ≡ record { cookbook = front; recipe = back }
recipe_of-split name front back (i, j, finds, is_front, is_back, _, _, _) =
    let found = parted-found name i (drop j name) finds.0 finds.1.split in
    rw (found, is_front, is_back) refl

pub recipe_of-whole : (name : List ℕ) → FindsText (codes "::") name None → recipe_of name ≡ record { cookbook = name; recipe = codes "default" }
recipe_of-whole name none = rw (parted-none name none) refl

-- nothing stands behind a front with which a text does not begin
starts_with-none : (front text : List ℕ) → behind_front front text ≡ None → starts_with nat_eq text front ≡ false
starts_with-none front text none = elim (cases_Bool (starts_with nat_eq text front)) [
  | inl begins ↦ cc (rw begins at none)
  | inr other ↦ other
]

-- an item that begins with neither word is a bare recipe
pub reads_item-bare : (text : List ℕ) → behind_front (codes "recipe[") text ≡ None → behind_front (codes "role[") text ≡ None → reads_item text ≡ recipe_in text
reads_item-bare text recipe role =
    rw (starts_with-none (codes "recipe[") text recipe, starts_with-none (codes "role[") text role) refl
