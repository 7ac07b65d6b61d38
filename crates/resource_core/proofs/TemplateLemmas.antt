-- Where the first `#{` parts a text, and how the text that is left grows shorter.
use Rattle.std.proofs.Common.{◌≡◌, ◌≢◌, ℕ, zero, suc, ◌+◌, ◌<◌, ◌≤◌, ◌&&◌, ◌==◌, Bool, true, false, cond, nat_eq, nat_lt, List, [], ◌∷◌, ◌++◌, length, take, drop, codes, Option, Some, None, MatchOption, option_map, option_and_then, option_copied, refl, sym, ap, subst, ◌∙◌, arith, inl, inr, append_assoc}
use borrow.Author.Tests.{ltb-true}
use Rattle.std.specs.Borrow.{Bor}
use Rattle.std.specs.List.{starts_with, position_or_len, before_first, after_first}
use Rattle.std.specs.Option.{option_or}
use Rattle.std.specs.Str.{IsCharBoundary}
use Rattle.std.specs.Str.Pattern.{FindsText, FindsTextPrefix, SplitsAroundMatch, StripsPrefix}
use Rattle.std.proofs.lemmas.Bool.{and_parts, cases_Bool, eqb-true}
use Rattle.std.proofs.lemmas.List.{length-drop}
use Rattle.std.proofs.lemmas.Str.Pattern.{starts_text}
use Rattle.resource_core.specs.Templates.{behind, parted, in_front, cut_at, key_between, key_at, key_first, keys_at, path_at, pieces_first, pieces_within, text_first}
use Rattle.resource_core.specs.declared.templates.Piece.{Piece}
use Rattle.resource_core.specs.declared.templates.Piece.TheVariants.{Plain}
use Rattle.resource_core.specs.Views.{cut_of}
use Rattle.resource_core.specs.declared.templates.Stated.{Stated}
use Rattle.resource_core.specs.declared.templates.Stated.TheVariants as stated

-- the first `#{` parts a text
parted-found : (text : List ℕ) (i : ℕ) (rest : List ℕ) → ((k : ℕ) → k < i → (r : List ℕ) → drop k text ≢ 35 ∷ 123 ∷ r)
    → drop i text ≡ 35 ∷ 123 ∷ rest → parted text ≡ Some (take i text, rest)
parted-found [] zero rest none e = cc e
parted-found [] (suc i) rest none e = cc e
parted-found (b ∷ []) zero rest none e = cc e
parted-found (b ∷ []) (suc zero) rest none e = cc e
parted-found (b ∷ []) (suc (suc i)) rest none e = cc e
parted-found (b ∷ c ∷ r) zero rest none e =
    let first : b ≡ 35 = cc e in
    let second : c ≡ 123 = cc e in
    let same : r ≡ rest = cc e in
    rw (first, second, same) refl
parted-found (b ∷ c ∷ r) (suc i) rest none e = elim (cases_Bool (b == 35 && c == 123)) [
  | inl both ↦
      let parts = and_parts (b == 35) (c == 123) both in
      let first = eqb-true b 35 parts.0 in
      let second = eqb-true c 123 parts.1 in
      absurd (none 0 (omega arith) r (rw (first, second) refl))
  | inr other ↦
      let more = parted-found (c ∷ r) i rest (λ k below t f. none (suc k) (omega arith) t f) e in
      rw (other, more) refl
]

-- where there is none, the text is not parted
parted-none : (text : List ℕ) → ((k : ℕ) → k ≤ length text → (r : List ℕ) → drop k text ≢ 35 ∷ 123 ∷ r) → parted text ≡ None
parted-none [] none = refl
parted-none (b ∷ []) none = refl
parted-none (b ∷ c ∷ r) none = elim (cases_Bool (b == 35 && c == 123)) [
  | inl both ↦
      let parts = and_parts (b == 35) (c == 123) both in
      let first = eqb-true b 35 parts.0 in
      let second = eqb-true c 123 parts.1 in
      absurd (none 0 (omega arith) r (rw (first, second) refl))
  | inr other ↦
      let more = parted-none (c ∷ r) (λ k within t f. none (suc k) (omega arith) t f) in
      rw (other, more) refl
]

-- `split_once` at `#{`
pub parted-split : (text : List ℕ) (r : Option (Bor (List ℕ) × Bor (List ℕ)))
    → MatchOption r (FindsText (codes "#{") text None) (λ x. SplitsAroundMatch (FindsText (codes "#{")) text x.0.now x.1.now) → option_map cut_of r ≡ parted text
parted-split text None none = sym (parted-none text none)
parted-split text (Some x) (i, j, finds, is_front, is_back, _, _, _) =
    let found = parted-found text i (drop j text) finds.0 finds.1.split in
    rw (found, is_front, is_back) refl

-- `strip_prefix` at a text
pub behind-strip : (n s : List ℕ) (r : Option (Bor (List ℕ)))
    → MatchOption r (FindsTextPrefix n s None) (λ x. StripsPrefix (FindsTextPrefix n) s x.now) → option_copied r ≡ behind n s
behind-strip n s None none = rw (sym (starts_text false n s none)) refl
behind-strip n s (Some x) (k, finds, is, fits) =
    let B : ℕ → Type 0 = λ j. IsCharBoundary s j in
    let starts = starts_text true n s (k, finds, subst B (sym finds.0) finds.2) in
    rw (sym starts, is, finds.0) refl

-- keys before others
abbrev pub keys_first : List (List ℕ) → List (List ℕ) × List ℕ → List (List ℕ) × List ℕ
keys_first keys more = (keys ++ more.0, more.1)

-- texts in front of others, one after the other
pub text_first-append : (a b : List ℕ) (s : Stated) → text_first (a ++ b) s ≡ text_first a (text_first b s)
text_first-append a b stated.NotThere = refl
text_first-append a b stated.Malformed = refl
text_first-append a b (stated.Missing path) = refl
text_first-append a b (stated.Words text) = ap stated.Words (append_assoc a b text)

some_same : {A : Type 0} {x y : A} → Some x ≡ Some y → x ≡ y
some_same h = cc h

-- what a text that is parted leaves is shorter
pub parted-shorter : (text : List ℕ) (p : List ℕ × List ℕ) → parted text ≡ Some p → length p.1 < length text
parted-shorter [] p e = cc e
parted-shorter (b ∷ []) p e = cc e
parted-shorter (b ∷ c ∷ rest) p e = let less = by_test (λ q h. let shorter = parted-shorter (c ∷ rest) q h in omega arith) (b == 35 && c == 123) e in omega arith
  where
    later : ((q : List ℕ × List ℕ) → parted (c ∷ rest) ≡ Some q → length q.1 < 1 + length rest) → (found : Option (List ℕ × List ℕ)) → parted (c ∷ rest) ≡ found → option_map (in_front b) found ≡ Some p → length p.1 < 2 + length rest
    later shorter None is h = cc h
    later shorter (Some q) is h =
        let less = shorter q is in
        let bound : length q.1 ≡ length p.1 = ap (λ (o : List ℕ × List ℕ). length o.1) (some_same h) in
        omega arith

    by_test : ((q : List ℕ × List ℕ) → parted (c ∷ rest) ≡ Some q → length q.1 < 1 + length rest) → (test : Bool) → cond test (Some ([], rest)) (option_map (in_front b) (parted (c ∷ rest))) ≡ Some p → length p.1 < 2 + length rest
    by_test shorter true h = let bound : length rest ≡ length p.1 = ap (λ (o : List ℕ × List ℕ). length o.1) (some_same h) in omega arith
    by_test shorter false h = later shorter (parted (c ∷ rest)) refl h

-- what stands behind a front is no longer
pub behind-shorter : (front text rest : List ℕ) → behind front text ≡ Some rest → length rest ≤ length text
behind-shorter front text rest e = by_test (starts_with nat_eq text front) e
  where
    by_test : (test : Bool) → cond test (Some (drop (length front) text)) None ≡ Some rest → length rest ≤ length text
    by_test true h = let same : length (drop (length front) text) ≡ length rest = ap length (some_same h) in omega (arith, length-drop (length front) text)
    by_test false h = cc h

-- what a byte leaves is shorter
cut_at-shorter : (q : ℕ) (text : List ℕ) (p : List ℕ × List ℕ) → cut_at q text ≡ Some p → length p.1 < length text
cut_at-shorter q text p e = by_test (nat_lt (position_or_len (λ b. b == q) text) (length text)) refl e
  where
    by_test : (test : Bool) → nat_lt (position_or_len (λ b. b == q) text) (length text) ≡ test
        → cond test (Some (before_first (λ b. b == q) text, after_first (λ b. b == q) text)) None ≡ Some p → length p.1 < length text
    by_test true within h =
        let bound : length (after_first (λ b. b == q) text) ≡ length p.1 = ap (λ (o : List ℕ × List ℕ). length o.1) (some_same h) in
        omega (arith, ltb-true _ _ within, length-drop (position_or_len (λ b. b == q) text + 1) text)
    by_test false within h = cc h

-- what stands behind a key is shorter
key_between-shorter : (opening : List ℕ) (q : ℕ) (text : List ℕ) (p : List ℕ × List ℕ) → key_between opening q text ≡ Some p → length p.1 < length text
key_between-shorter opening q text p e = opened (behind opening text) refl e
  where
    closed : (inner : List ℕ) (parts : List ℕ × List ℕ) (found : Option (List ℕ)) → length inner ≤ length text → length parts.1 < length inner → behind (codes "]") parts.1 ≡ found
        → option_map (λ rest. (parts.0, rest)) found ≡ Some p → length p.1 < length text
    closed inner parts None bound less is h = cc h
    closed inner parts (Some rest) bound less is h =
        let last = behind-shorter (codes "]") parts.1 rest is in
        let same : length rest ≡ length p.1 = ap (λ (o : List ℕ × List ℕ). length o.1) (some_same h) in
        omega arith

    cut : (inner : List ℕ) (found : Option (List ℕ × List ℕ)) → length inner ≤ length text → cut_at q inner ≡ found
        → option_and_then (λ parts. option_map (λ rest. (parts.0, rest)) (behind (codes "]") parts.1)) found ≡ Some p → length p.1 < length text
    cut inner None bound is h = cc h
    cut inner (Some parts) bound is h = closed inner parts (behind (codes "]") parts.1) bound (cut_at-shorter q inner parts is) refl h

    opened : (found : Option (List ℕ)) → behind opening text ≡ found
        → option_and_then (λ inner. option_and_then (λ parts. option_map (λ rest. (parts.0, rest)) (behind (codes "]") parts.1)) (cut_at q inner)) found ≡ Some p → length p.1 < length text
    opened None is h = cc h
    opened (Some inner) is h = cut inner (cut_at q inner) (behind-shorter opening text inner is) refl h

pub key_at-shorter : (text : List ℕ) (p : List ℕ × List ℕ) → key_at text ≡ Some p → length p.1 < length text
key_at-shorter text p e = either (key_between (codes "['") 39 text) refl e
  where
    either : (found : Option (List ℕ × List ℕ)) → key_between (codes "['") 39 text ≡ found → option_or found (key_between (codes "[\"") 34 text) ≡ Some p → length p.1 < length text
    either None is h = key_between-shorter (codes "[\"") 34 text p h
    either (Some x) is h = key_between-shorter (codes "['") 39 text p (is ∙ h)

-- what stands behind keys is no longer
keys_at-shorter : (n : ℕ) (text : List ℕ) (r : List (List ℕ) × List ℕ) → keys_at n text ≡ Some r → length r.1 ≤ length text
keys_at-shorter zero text r e = cc e
keys_at-shorter (suc n) text r e = found_key (λ q o h. keys_at-shorter n q o h) (key_at text) refl e
  where
    more_keys : ((q : List ℕ) (o : List (List ℕ) × List ℕ) → keys_at n q ≡ Some o → length o.1 ≤ length q) → (p : List ℕ × List ℕ) (more : Option (List (List ℕ) × List ℕ)) → length p.1 < length text → keys_at n p.1 ≡ more → option_map (key_first p.0) more ≡ Some r → length r.1 ≤ length text
    more_keys ih p None less is h = cc h
    more_keys ih p (Some m) less is h =
        let rest = ih p.1 m is in
        let same : length m.1 ≡ length r.1 = ap (λ (o : List (List ℕ) × List ℕ). length o.1) (some_same h) in
        omega arith

    closing : ((q : List ℕ) (o : List (List ℕ) × List ℕ) → keys_at n q ≡ Some o → length o.1 ≤ length q) → (p : List ℕ × List ℕ) (end : Option (List ℕ)) → length p.1 < length text → behind (codes "}") p.1 ≡ end
        → option_or (option_map (λ rest. (p.0 ∷ [], rest)) end) (option_map (key_first p.0) (keys_at n p.1)) ≡ Some r → length r.1 ≤ length text
    closing ih p None less is h = more_keys ih p (keys_at n p.1) less refl h
    closing ih p (Some rest) less is h =
        let last = behind-shorter (codes "}") p.1 rest is in
        let same : length rest ≡ length r.1 = ap (λ (o : List (List ℕ) × List ℕ). length o.1) (some_same h) in
        omega arith

    found_key : ((q : List ℕ) (o : List (List ℕ) × List ℕ) → keys_at n q ≡ Some o → length o.1 ≤ length q) → (found : Option (List ℕ × List ℕ)) → key_at text ≡ found
        → option_and_then (λ p. option_or (option_map (λ rest. (p.0 ∷ [], rest)) (behind (codes "}") p.1)) (option_map (key_first p.0) (keys_at n p.1))) found ≡ Some r → length r.1 ≤ length text
    found_key ih None is h = cc h
    found_key ih (Some p) is h = closing ih p (behind (codes "}") p.1) (key_at-shorter text p is) refl h

pub path_at-shorter : (text : List ℕ) (r : List (List ℕ) × List ℕ) → path_at text ≡ Some r → length r.1 ≤ length text
path_at-shorter text r e = opened (behind (codes "node") text) refl e
  where
    opened : (found : Option (List ℕ)) → behind (codes "node") text ≡ found → option_and_then (λ keys. keys_at (length keys) keys) found ≡ Some r → length r.1 ≤ length text
    opened None is h = cc h
    opened (Some keys) is h =
        let first = behind-shorter (codes "node") text keys is in
        let last = keys_at-shorter (length keys) keys r h in
        omega arith

keys_first-key : (path : List (List ℕ)) (key : List ℕ) (found : Option (List (List ℕ) × List ℕ)) → option_map (keys_first path) (option_map (key_first key) found) ≡ option_map (keys_first (path ++ key ∷ [])) found
keys_first-key path key None = refl
keys_first-key path key (Some more) = λ i. Some (sym (append_assoc path (key ∷ []) more.0) i, more.1)

module _ (whole : Option (List (List ℕ) × List ℕ)) (path : List (List ℕ)) (left : List ℕ) where
  -- one more key, and more are to come
  pub keys_on : (n : ℕ) (path' : List (List ℕ)) (p : List ℕ × List ℕ) → length left ≤ n → whole ≡ option_map (keys_first path) (keys_at n left) → key_at left ≡ Some p → behind (codes "}") p.1 ≡ None
      → path' ≡ path ++ p.0 ∷ [] → (m : ℕ) × (length p.1 ≤ m) × (whole ≡ option_map (keys_first path') (keys_at m p.1))
  keys_on zero path' p bound so_far is unclosed pushed = let less = key_at-shorter left p is in absurd (omega arith)
  keys_on (suc m) path' p bound so_far is unclosed pushed =
      let less = key_at-shorter left p is in
      let here : keys_at (suc m) left ≡ option_map (key_first p.0) (keys_at m p.1) = rw (is, unclosed) refl in
      (m, omega arith, so_far ∙ ap (option_map (keys_first path)) here ∙ keys_first-key path p.0 (keys_at m p.1) ∙ ap (λ ks. option_map (keys_first ks) (keys_at m p.1)) (sym pushed))

  -- the last key
  pub keys_end : (n : ℕ) (path' : List (List ℕ)) (p : List ℕ × List ℕ) (rest : List ℕ) → length left ≤ n → whole ≡ option_map (keys_first path) (keys_at n left) → key_at left ≡ Some p → behind (codes "}") p.1 ≡ Some rest
      → path' ≡ path ++ p.0 ∷ [] → Some (path', rest) ≡ whole
  keys_end zero path' p rest bound so_far is closed pushed = let less = key_at-shorter left p is in absurd (omega arith)
  keys_end (suc m) path' p rest bound so_far is closed pushed =
      let here : keys_at (suc m) left ≡ Some (p.0 ∷ [], rest) = rw (is, closed) refl in
      ap (λ ks. Some (ks, rest)) pushed ∙ sym (so_far ∙ ap (option_map (keys_first path)) here)

  -- no key
  pub keys_none : (n : ℕ) → whole ≡ option_map (keys_first path) (keys_at n left) → key_at left ≡ None → None ≡ whole
  keys_none zero so_far is = sym so_far
  keys_none (suc m) so_far is = let here : keys_at (suc m) left ≡ None = rw is refl in sym (so_far ∙ ap (option_map (keys_first path)) here)

pieces_on-more : (made : List Piece) (plain : List ℕ) (path : List (List ℕ)) (found : Option (List Piece))
    → option_map (λ more. made ++ more) (option_map (pieces_first plain path) found) ≡ option_map (λ more. (made ++ pieces_first plain path []) ++ more) found
pieces_on-more made plain path None = refl
pieces_on-more made plain path (Some more) = ap Some (sym (append_assoc made (pieces_first plain path []) more))

module _ (whole : Option (List Piece)) (made : List Piece) (left : List ℕ) where
  -- two more pieces
  pub pieces_on : (n : ℕ) (made' : List Piece) (p : List ℕ × List ℕ) (r : List (List ℕ) × List ℕ) → length left < n → whole ≡ option_map (λ more. made ++ more) (pieces_within n left) → parted left ≡ Some p → path_at p.1 ≡ Some r
      → made' ≡ made ++ pieces_first p.0 r.0 [] → (m : ℕ) × (length r.1 < m) × (whole ≡ option_map (λ more. made' ++ more) (pieces_within m r.1))
  pieces_on zero made' p r bound so_far is found pushed = absurd (omega arith)
  pieces_on (suc m) made' p r bound so_far is found pushed =
      let less = parted-shorter left p is in
      let last = path_at-shorter p.1 r found in
      let here : pieces_within (suc m) left ≡ option_map (pieces_first p.0 r.0) (pieces_within m r.1) = rw (is, found) refl in
      (m, omega arith, so_far ∙ ap (option_map (λ more. made ++ more)) here ∙ pieces_on-more made p.0 r.0 (pieces_within m r.1) ∙ ap (λ ps. option_map (λ more. ps ++ more) (pieces_within m r.1)) (sym pushed))

  -- no path
  pub pieces_none : (n : ℕ) (p : List ℕ × List ℕ) → whole ≡ option_map (λ more. made ++ more) (pieces_within n left) → parted left ≡ Some p → path_at p.1 ≡ None → None ≡ whole
  pieces_none zero p so_far is none = sym so_far
  pieces_none (suc m) p so_far is none = let here : pieces_within (suc m) left ≡ None = rw (is, none) refl in sym (so_far ∙ ap (option_map (λ more. made ++ more)) here)

  -- the last piece
  pub pieces_end : (n : ℕ) → length left < n → whole ≡ option_map (λ more. made ++ more) (pieces_within n left) → parted left ≡ None → whole ≡ Some (made ++ Plain left ∷ [])
  pieces_end zero bound so_far is = absurd (omega arith)
  pieces_end (suc m) bound so_far is = let here : pieces_within (suc m) left ≡ Some (Plain left ∷ []) = rw is refl in so_far ∙ ap (option_map (λ more. made ++ more)) here
