-- What is encoded has only bytes that a target may have.
use Rattle.std.proofs.Common.{◌≡◌, ◌<◌, ◌≤◌, inl, inr, ◌==◌, ◌/◌, ◌%◌, ◌&&◌, ◌||◌, ℕ, Bool, true, false, not, nat_eq, List, [], ◌∷◌, ◌++◌, if◌then◌else◌, refl, sym, ◌∙◌, arith, codes}
use Rattle.std.proofs.lemmas.Bool.{agree_below, agree_below_at, and_cases, both_ways, or_from, cases_lt, ne_eqb}
use Rattle.std.proofs.lemmas.List.Folds.{list_all-append}
use Rattle.std.proofs.lemmas.Nat.{mod_below}
use Rattle.std.specs.Char.{is_ascii_alphanumeric}
use Rattle.std.specs.Fmt.{digit_glyph}
use Rattle.std.specs.List.{flat_map, starts_with}
use Rattle.form_urlencoded.specs.Form.{append_pair, byte_serialize, is_unchanged, serialize_byte}
use Rattle.percent_encoding.specs.Percent.{percent_encode_byte}
use Rattle.peer_wire.specs.declared.asks.Whom.{Whom}
use Rattle.knife_errands.specs.Requests.{request_of}
use Rattle.knife_errands.specs.Targets.{IsClean, encoded, encoded_byte, is_kept_in_name, is_kept_in_target, named, path, place_of, place_of_listing, raw_front, raw_target, search_target, target}
use Rattle.knife_errands.specs.declared.errands.Step.{Step}
use Rattle.knife_errands.specs.declared.errands.Step.TheVariants.{List as Lists, Show, Create, Delete, Search, Raw}
use Rattle.knife_errands.specs.Kinds.{collection}
use Rattle.knife_errands.proofs.TargetLemmas.{none_past}

both : (x y : Bool) → x ≡ true → y ≡ true → (x && y) ≡ true
both true y first second = second
both false y first second = first

joined : (xs ys : List ℕ) → IsClean xs → IsClean ys → IsClean (xs ++ ys)
joined xs ys first second = list_all-append is_kept_in_target xs ys ∙ both _ _ first second

each_clean : {X : Type 0} (f : X → List ℕ) → ((x : X) → IsClean (f x)) → (xs : List X) → IsClean (flat_map f xs)
each_clean f clean [] = refl
each_clean f clean (x ∷ xs) = joined (f x) (flat_map f xs) (clean x) (each_clean f clean xs)

-- ---- a byte

glyph_kept : (d : ℕ) → d < 16 → is_kept_in_target (digit_glyph true d) ≡ true
glyph_kept d less = agree_below_at (λ d. is_kept_in_target (digit_glyph true d)) (λ d. true) 16 d refl less

escape_clean : (b : ℕ) → IsClean (percent_encode_byte b)
unfolding percent_encode_byte
escape_clean b =
    let high = glyph_kept (b / 16 % 16) (mod_below (b / 16) 16 (omega arith)) in
    let low = glyph_kept (b % 16) (mod_below b 16 (omega arith)) in
    both _ _ high (both _ _ low refl)

one_clean : (b : ℕ) → is_kept_in_target b ≡ true → IsClean (b ∷ [])
one_clean b kept = both _ _ kept refl

chosen : (test : Bool) (xs ys : List ℕ) → (test ≡ true → IsClean xs) → (test ≡ false → IsClean ys) → IsClean (if test then xs else ys)
chosen true xs ys first second = first refl
chosen false xs ys first second = second refl

byte_clean : (is_kept : ℕ → Bool) → ((b : ℕ) → is_kept b ≡ true → is_kept_in_target b ≡ true) → (b : ℕ) → IsClean (encoded_byte is_kept b)
byte_clean is_kept within b = chosen (is_kept b) (b ∷ []) (percent_encode_byte b) (λ kept. one_clean b (within b kept)) (λ _. escape_clean b)

-- a test that passes no byte past ASCII, and below that only bytes that the other passes
within_by_table : (f g : ℕ → Bool) → ((b : ℕ) → 128 ≤ b → f b ≡ false) → agree_below (λ b. f b && not (g b)) (λ b. false) 128 ≡ true → (b : ℕ) → f b ≡ true → g b ≡ true
within_by_table f g past table b is = elim (cases_lt b 128) [
  | inl low ↦ elim (and_cases (f b) (not (g b)) (agree_below_at (λ b. f b && not (g b)) (λ b. false) 128 b table low)) [
    | inl no_ ↦ absurd (both_ways (f b) no_ is)
    | inr kept ↦ turned (g b) kept
  ]
  | inr high ↦ absurd (both_ways (f b) (past b high) is)
]
  where
    turned : (x : Bool) → not x ≡ false → x ≡ true
    turned true is = refl
    turned false is = sym is

name_within : (b : ℕ) → is_kept_in_name b ≡ true → is_kept_in_target b ≡ true
name_within b is = within_by_table is_kept_in_name is_kept_in_target (λ b large. none_past (codes "_-.:") b refl large) refl b is

-- ---- a form

not_left : (x : Bool) → (x || false) ≡ false → x ≡ false
not_left true is = is
not_left false is = refl

unchanged_past : (b : ℕ) → 128 ≤ b → is_unchanged b ≡ false
unchanged_past b large =
    or_from _ _ (or_from _ _ (or_from _ _ (or_from _ _ (not_left (is_ascii_alphanumeric b) (none_past [] b refl large)) (ne_eqb b 42 (λ e. omega arith))) (ne_eqb b 45 (λ e. omega arith))) (ne_eqb b 46 (λ e. omega arith))) (ne_eqb b 95 (λ e. omega arith))

unchanged_within : (b : ℕ) → is_unchanged b ≡ true → is_kept_in_target b ≡ true
unchanged_within b is = within_by_table is_unchanged is_kept_in_target unchanged_past refl b is

serialized_clean : (b : ℕ) → IsClean (serialize_byte b)
serialized_clean b =
    chosen (is_unchanged b) (b ∷ []) _ (λ kept. one_clean b (unchanged_within b kept)) (λ _. chosen (b == 32) (43 ∷ []) (percent_encode_byte b) (λ _. refl) (λ _. escape_clean b))

form_clean : (text : List ℕ) → IsClean (byte_serialize text)
unfolding byte_serialize
form_clean text = each_clean serialize_byte serialized_clean text

-- ---- targets

named_clean : (name : List ℕ) → IsClean (named name)
named_clean name = joined (codes "/") (encoded is_kept_in_name name) refl (each_clean (encoded_byte is_kept_in_name) (byte_clean is_kept_in_name name_within) name)

pub target_clean : (whom : Whom) (names : List (List ℕ)) → IsClean (target whom names)
target_clean whom names = each_clean named named_clean (codes "organizations" ∷ whom.org ∷ names)

search_clean : (whom : Whom) (index query : List ℕ) → IsClean (search_target whom index query)
search_clean whom index query =
    let front = target whom (codes "search" ∷ index ∷ []) in
    let pair = joined (byte_serialize (codes "q") ++ (61 ∷ [])) (byte_serialize query) (joined (byte_serialize (codes "q")) (61 ∷ []) (form_clean (codes "q")) refl) (form_clean query) in
    joined (front ++ codes "?") (append_pair [] (codes "q") query) (joined front (codes "?") (target_clean whom (codes "search" ∷ index ∷ [])) refl) pair

raw_clean : (whom : Whom) (text : List ℕ) → IsClean (raw_target whom text)
raw_clean whom text =
    joined (raw_front whom text) (encoded is_kept_in_target text)
    (chosen (starts_with nat_eq text (codes "/")) [] (target whom [] ++ codes "/") (λ _. refl) (λ _. joined (target whom []) (codes "/") (target_clean whom []) refl))
    (each_clean (encoded_byte is_kept_in_target) (byte_clean is_kept_in_target (λ b kept. kept)) text)

pub request_clean : (step : Step) (whom : Whom) → IsClean (request_of step whom).target
request_clean (Lists listing) whom = target_clean whom (place_of_listing listing)
request_clean (Show thing) whom = target_clean whom (place_of thing)
request_clean (Create kind name) whom = target_clean whom (collection kind ∷ [])
request_clean (Delete thing) whom = target_clean whom (place_of thing)
request_clean (Search index query) whom = search_clean whom index query
request_clean (Raw path) whom = raw_clean whom path
