-- What is percent-encoded by a set of the library is what the definition says.
use Rattle.std.proofs.Common.{◌≡◌, ◌<◌, ◌≤◌, ◌⊎◌, inl, inr, ◌==◌, ◌&&◌, ◌||◌, ℕ, Bool, true, false, not, nat_le, nat_lt, List, [], ◌∷◌, ◌++◌, if◌then◌else◌, refl, sym, ap, ◌∙◌, arith, codes}
use Rattle.std.proofs.lemmas.Bool.{agree_below, agree_below_at, and_parts, and_right, or_from, cases_lt, lt-leb, ltb-true, le-ltb, ne_eqb}
use Rattle.std.specs.Char.{is_ascii_alphanumeric}
use Rattle.std.specs.List.{flat_map, list_all, list_any}
use Rattle.percent_encoding.specs.AsciiSet.{contains, should_percent_encode}
use Rattle.percent_encoding.specs.Percent.{encode_byte, percent_encode, percent_encode_byte}
use Rattle.percent_encoding.specs.declared.ascii_set.AsciiSet.{AsciiSet}
use Rattle.knife_errands.specs.Targets.{encoded, encoded_byte, is_kept_in_name, is_kept_in_target}
use Rattle.knife_errands.specs.declared.targets.TheConstants.{IN_NAMES, IN_TARGETS}

-- ---- bytes past ASCII

past_range : (low high b : ℕ) → high < b → (nat_le low b && nat_le b high) ≡ false
past_range low high b less = and_right _ _ (lt-leb b high less)

-- no large number is one of small numbers
none_large : (cs : List ℕ) (b : ℕ) → 128 ≤ b → list_all (λ c. nat_lt c 128) cs ≡ true → list_any (λ c. c == b) cs ≡ false
none_large [] b large small = refl
none_large (c ∷ cs) b large small =
    let parts = and_parts _ _ small in
    let first : c < 128 = ltb-true c 128 parts.0 in
    or_from _ _ (ne_eqb c b (λ e. omega arith)) (none_large cs b large parts.1)

-- no byte past ASCII is a letter, a digit or one of these signs
pub none_past : (signs : List ℕ) (b : ℕ) → list_all (λ c. nat_lt c 128) signs ≡ true → 128 ≤ b → (is_ascii_alphanumeric b || list_any (λ c. c == b) signs) ≡ false
none_past signs b small large =
    or_from _ _
    (or_from _ _ (or_from _ _ (past_range 48 57 b (omega arith)) (past_range 65 90 b (omega arith))) (past_range 97 122 b (omega arith)))
    (none_large signs b large small)

-- ---- a byte

-- where the one test is the other turned about, the branches change places
turned : (escapes kept : Bool) (xs ys : List ℕ) → escapes ≡ not kept → (if escapes then xs else ys) ≡ (if kept then ys else xs)
turned escapes true xs ys is = ap (λ b. if b then xs else ys) is
turned escapes false xs ys is = ap (λ b. if b then xs else ys) is

past_ascii : (set : AsciiSet) (b : ℕ) → 128 ≤ b → should_percent_encode set b ≡ true
unfolding should_percent_encode
past_ascii set b large = ap (λ t. not t || contains set b) (le-ltb b 128 large)

-- by a table below 128, and by one answer from there on
pub byte_is : (set : AsciiSet) (is_kept : ℕ → Bool) → agree_below (should_percent_encode set) (λ b. not (is_kept b)) 128 ≡ true → ((b : ℕ) → 128 ≤ b → is_kept b ≡ false) → (b : ℕ) → encode_byte set b ≡ encoded_byte is_kept b
byte_is set is_kept table past b =
    turned (should_percent_encode set b) (is_kept b) (percent_encode_byte b) (b ∷ []) (by (cases_lt b 128))
  where
    by : (b < 128) ⊎ (128 ≤ b) → should_percent_encode set b ≡ not (is_kept b)
    by (inl low) = agree_below_at (should_percent_encode set) (λ b. not (is_kept b)) 128 b table low
    by (inr high) = past_ascii set b high ∙ ap not (sym (past b high))

-- ---- a text

same_bytes : (set : AsciiSet) (is_kept : ℕ → Bool) → ((b : ℕ) → encode_byte set b ≡ encoded_byte is_kept b) → (text : List ℕ) → flat_map (encode_byte set) text ≡ encoded is_kept text
same_bytes set is_kept one [] = refl
same_bytes set is_kept one (b ∷ text) = ap (λ front. front ++ flat_map (encode_byte set) text) (one b) ∙ ap (λ rest. encoded_byte is_kept b ++ rest) (same_bytes set is_kept one text)

encoded_is : (set : AsciiSet) (is_kept : ℕ → Bool) → ((b : ℕ) → encode_byte set b ≡ encoded_byte is_kept b) → (text : List ℕ) → percent_encode set text ≡ encoded is_kept text
unfolding percent_encode
encoded_is set is_kept one text = same_bytes set is_kept one text

names_table : agree_below (should_percent_encode IN_NAMES) (λ b. not (is_kept_in_name b)) 128 ≡ true
unfolding should_percent_encode
names_table = refl

pub name_is : (text : List ℕ) → percent_encode IN_NAMES text ≡ encoded is_kept_in_name text
name_is text = encoded_is IN_NAMES is_kept_in_name (byte_is IN_NAMES is_kept_in_name names_table (λ b large. none_past (codes "_-.:") b refl large)) text

targets_table : agree_below (should_percent_encode IN_TARGETS) (λ b. not (is_kept_in_target b)) 128 ≡ true
unfolding should_percent_encode
targets_table = refl

pub target_is : (text : List ℕ) → percent_encode IN_TARGETS text ≡ encoded is_kept_in_target text
target_is text = encoded_is IN_TARGETS is_kept_in_target (byte_is IN_TARGETS is_kept_in_target targets_table (λ b large. none_past (codes "-._~!$&'()*+,;=:@/?%") b refl large)) text
