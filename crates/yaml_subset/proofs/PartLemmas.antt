-- Scalars, dashes and keys as they are written read back, each on its line.
use Rattle.std.proofs.Common.{◌≡◌, ◌==◌, ◌+◌, ◌&&◌, ◌||◌, ℕ, Bool, true, false, List, [], ◌∷◌, ◌++◌, length, take, drop, Option, Some, None, option_map, IsUtf8, chars, if◌then◌else◌, inl, inr, refl, ap, ap₂, sym, subst, ◌∙◌, arith, append_assoc, length-append}
use Rattle.std.proofs.lemmas.Bool.{and_parts, and_from, and_left, or_from, cond-true, cond-false, both_ways, eqb-true, cases_Bool}
use Rattle.std.specs.List.{list_all}
use Rattle.doc_tree.specs.Doc.{Doc, null, boolean, whole, words, list, dict, no_docs, then_doc, no_pairs, then_pair}
use Rattle.doc_tree.specs.Valid.{IsDoc}
use Rattle.yaml_subset.specs.Quoted.{text_in}
use Rattle.yaml_subset.specs.Scalar.{is_plain, plain_doc}
use Rattle.yaml_subset.specs.Said.{content, content_with, literal_of, quoted_value, rest_of, said_at, value_doc}
use Rattle.yaml_subset.specs.Says.{a_said, is_colon, key_of, plain_key, quoted_key}
use Rattle.yaml_subset.specs.Signs.{colon_at, is_apart, is_marker, is_quote, is_tail, later, trimmed}
use Rattle.yaml_subset.specs.Written.{escaped, is_bare, is_block, is_inner, scalar_text, words_text}
use Rattle.yaml_subset.specs.declared.mark.Mark.{Mark}
use Rattle.yaml_subset.specs.declared.mark.Mark.TheVariants.{Dash, Key}
use Rattle.yaml_subset.specs.declared.said.Rest.TheVariants.{Nothing, Scalar}
use Rattle.yaml_subset.proofs.CutLemmas.{all_append, all_weaker, drop_front, is_inline, take_front}
use Rattle.yaml_subset.proofs.EscapedLemmas.{escaped_inline, quoted_back}
use Rattle.yaml_subset.proofs.PlainLemmas.{Bare, Begins, apart_by_table, bare_back, bare_begins, bare_parts, colon_none, colon_tight, first_ascii, inner_ascii, is_first, is_tight, number_back, plain_is, tight_parts, trimmed_tight, trimmed_whole}
use Rattle.yaml_subset.proofs.TextsLemmas.{text_in_is}

-- ---- how a line goes on behind its indent

-- the text of a scalar is read as this document, behind dashes and keys and alone
pub record Reads (text : List ℕ) (d : Doc) : Type 0 where
  pub first : ℕ
  pub after : List ℕ
  pub is : text ≡ first ∷ after
  pub space : (first == 32) ≡ false
  pub hash : (first == 35) ≡ false
  pub tab : (first == 9) ≡ false
  pub bar : (first == 124) ≡ false
  pub dash : (first == 45 && is_apart after) ≡ false
  pub key : key_of (first ∷ after) ≡ None
  pub value : value_doc first after ≡ Some d
  pub marker : is_marker (first ∷ after) ≡ false
  pub inline : list_all is_inline text ≡ true

pub rest_at : (b : ℕ) (text : List ℕ) (d : Doc) → (b == 32) ≡ false → (b == 35) ≡ false → (b == 124) ≡ false → value_doc b text ≡ Some d → rest_of (b ∷ text) ≡ Some (Scalar d)
rest_at b text d space hash bar value =
    cond-false (b == 32) (rest_of text) _ space ∙ cond-false (b == 35) (Some Nothing) _ hash ∙ cond-false (b == 124) (literal_of text) _ bar ∙ ap (option_map Scalar) value

pub rest_back : (text : List ℕ) (d : Doc) → Reads text d → rest_of text ≡ Some (Scalar d)
rest_back text d r = ap rest_of r.is ∙ rest_at r.first r.after d r.space r.hash r.bar r.value

pub said_content : (above c b : ℕ) (text : List ℕ) → (b == 32) ≡ false → (b == 35) ≡ false → (b == 45 && is_apart text) ≡ false → said_at above c (b ∷ text) ≡ content above c (b ∷ text)
said_content above c b text space hash dash = cond-false (b == 32) _ _ space ∙ cond-false (b == 35) _ _ hash ∙ cond-false (b == 45 && is_apart text) _ _ dash

pub said_back : (above c : ℕ) (text : List ℕ) (d : Doc) → Reads text d → said_at above c text ≡ Some (a_said [] above (Scalar d))
said_back above c text d r =
    ap (said_at above c) r.is ∙ said_content above c r.first r.after r.space r.hash r.dash
    ∙ ap (λ (o : Option (List ℕ × ℕ)). content_with o above c (r.first ∷ r.after)) r.key ∙ ap (option_map (a_said [] above)) (rest_at r.first r.after d r.space r.hash r.bar r.value)

-- ---- plain scalars

marker_apart : (b : ℕ) (text : List ℕ) → (b == 45) ≡ false → (b == 46) ≡ false → is_marker (b ∷ text) ≡ false
marker_apart b text dash dot = or_from _ _ (and_left _ _ dash) (and_left _ _ dot)

plain_value : (b : ℕ) (text : List ℕ) (d : Doc) → Begins b text → plain_doc (b ∷ text) ≡ Some d → value_doc b text ≡ Some d
plain_value b text d h is =
    cond-false (is_quote b) _ _ h.quote ∙ cond-false (b == 91 || b == 123) _ _ h.bracket ∙ ap plain_doc (trimmed_whole (b ∷ text) h.tight) ∙ is

no_key : (b : ℕ) (text : List ℕ) → Begins b text → key_of (b ∷ text) ≡ None
no_key b text h =
    cond-false (is_quote b) _ _ h.quote ∙ ap (λ (t : List ℕ). plain_key (colon_at t) t) (trimmed_whole (b ∷ text) h.tight) ∙ ap (λ (o : Option ℕ). plain_key o (b ∷ text)) (colon_none (b ∷ text) h.tight)

tight_space : (b : ℕ) (text : List ℕ) → list_all is_tight (b ∷ text) ≡ true → (b == 32) ≡ false
tight_space b text all = (tight_parts b (and_parts (is_tight b) _ all).0).0

plain_reads : (b : ℕ) (text : List ℕ) (d : Doc) → Begins b text → plain_doc (b ∷ text) ≡ Some d → is_marker (b ∷ text) ≡ false → list_all is_inline (b ∷ text) ≡ true → Reads (b ∷ text) d
plain_reads b text d h is marker inline = record {
  first = b;
  after = text;
  is = refl;
  space = tight_space b text h.tight;
  hash = h.hash;
  tab = h.tab;
  bar = h.bar;
  dash = h.dash;
  key = no_key b text h;
  value = plain_value b text d h is;
  marker = marker;
  inline = inline;
}

inline_from : (b : ℕ) → (b == 10 || b == 13) ≡ false → is_inline b ≡ true
inline_from b no_ = cond-false (b == 10 || b == 13) false true no_

bare_inline : (b : ℕ) (s : List ℕ) → Bare b s → list_all is_inline (b ∷ s) ≡ true
bare_inline b s h =
    and_from _ _ (inline_from b (apart_by_table is_first (λ b. b == 10 || b == 13) first_ascii refl b h.first))
    (all_weaker is_inner is_inline (λ b is. inline_from b (apart_by_table is_inner (λ b. b == 10 || b == 13) inner_ascii refl b is)) s h.inner)

bare_reads : (b : ℕ) (s : List ℕ) → Bare b s → IsUtf8 (b ∷ s) → Reads (b ∷ s) (words (b ∷ s))
bare_reads b s h u =
    plain_reads b s (words (b ∷ s)) (bare_begins b s h) (bare_back b s h u)
    (marker_apart b s (apart_by_table is_first (λ b. b == 45) first_ascii refl b h.first) (apart_by_table is_first (λ b. b == 46) first_ascii refl b h.first)) (bare_inline b s h)

-- ---- quoted scalars

-- a text in double quotes, up to where it ends
abbrev quotes : List ℕ → List ℕ → List ℕ
quotes s rest = 34 ∷ (escaped (chars s) ++ 34 ∷ rest)

drop_quoted : (xs rest : List ℕ) → drop (length xs + 1) (xs ++ 34 ∷ rest) ≡ rest
drop_quoted xs rest =
    ap₂ (λ (n : ℕ) (l : List ℕ). drop n l) (sym (length-append xs (34 ∷ []))) (sym (append_assoc xs (34 ∷ []) rest)) ∙ drop_front (xs ++ 34 ∷ []) rest

quotes_value : (s : List ℕ) → IsUtf8 s → value_doc 34 (escaped (chars s) ++ 34 ∷ []) ≡ Some (words s)
quotes_value s u =
    ap (λ (o : Option (List ℕ × ℕ)). quoted_value o (escaped (chars s) ++ 34 ∷ [])) (quoted_back s [] u)
    ∙ ap (λ (l : List ℕ). if is_tail l then Some (words s) else None) (drop_quoted (escaped (chars s)) [])

quotes_no_key : (s : List ℕ) → IsUtf8 s → key_of (quotes s []) ≡ None
quotes_no_key s u =
    ap (λ (o : Option (List ℕ × ℕ)). quoted_key o (escaped (chars s) ++ 34 ∷ [])) (quoted_back s [] u)
    ∙ ap (λ (l : List ℕ). if is_colon l then Some (s, (length (escaped (chars s)) + 1) + 2) else None) (drop_quoted (escaped (chars s)) [])

quotes_inline : (s : List ℕ) → list_all is_inline (quotes s []) ≡ true
quotes_inline s = all_append is_inline (escaped (chars s)) (34 ∷ []) (escaped_inline (chars s)) refl

quotes_reads : (s : List ℕ) → IsUtf8 s → Reads (quotes s []) (words s)
quotes_reads s u = record {
  first = 34;
  after = escaped (chars s) ++ 34 ∷ [];
  is = refl;
  space = refl;
  hash = refl;
  tab = refl;
  bar = refl;
  dash = refl;
  key = quotes_no_key s u;
  value = quotes_value s u;
  marker = refl;
  inline = quotes_inline s;
}

-- ---- scalars

bare_words : (s : List ℕ) → is_bare s ≡ true → IsUtf8 s → Reads s (words s)
bare_words [] bare u = absurd (both_ways false refl bare)
bare_words (b ∷ s) bare u = bare_reads b s (bare_parts b s bare) u

words_reads : (s : List ℕ) → IsUtf8 s → Reads (words_text s) (words s)
words_reads s u = elim (cases_Bool (is_bare s)) [
  | inl bare ↦ subst (λ (t : List ℕ). Reads t (words s)) (sym (cond-true (is_bare s) s (quotes s []) bare)) (bare_words s bare u)
  | inr other ↦ subst (λ (t : List ℕ). Reads t (words s)) (sym (cond-false (is_bare s) s (quotes s []) other)) (quotes_reads s u)
]

-- the text of a scalar, or of an empty list or dict, is read as that
pub scalar_reads : (d : Doc) → IsDoc d → is_block d ≡ false → Reads (scalar_text d) d
scalar_reads null v no_ = record { first = 110; after = _; is = refl; space = refl; hash = refl; tab = refl; bar = refl; dash = refl; key = refl; value = refl; marker = refl; inline = refl }
scalar_reads (boolean true) v no_ = record { first = 116; after = _; is = refl; space = refl; hash = refl; tab = refl; bar = refl; dash = refl; key = refl; value = refl; marker = refl; inline = refl }
scalar_reads (boolean false) v no_ = record { first = 102; after = _; is = refl; space = refl; hash = refl; tab = refl; bar = refl; dash = refl; key = refl; value = refl; marker = refl; inline = refl }
scalar_reads (whole z) v no_ = let n = number_back z v in subst (λ (t : List ℕ). Reads t (whole z)) (sym n.is) (plain_reads n.first n.after (whole z) n.begins n.back n.marker n.inline)
scalar_reads (words s) v no_ = words_reads s v
scalar_reads (list no_docs) v no_ = record { first = 91; after = _; is = refl; space = refl; hash = refl; tab = refl; bar = refl; dash = refl; key = refl; value = refl; marker = refl; inline = refl }
scalar_reads (list (then_doc d ds)) v no_ = absurd (both_ways true no_ refl)
scalar_reads (dict no_pairs) v no_ = record { first = 123; after = _; is = refl; space = refl; hash = refl; tab = refl; bar = refl; dash = refl; key = refl; value = refl; marker = refl; inline = refl }
scalar_reads (dict (then_pair k d ps)) v no_ = absurd (both_ways true no_ refl)

-- ---- keys

-- a text begins with this key and its colon, behind which the rest stands
pub record Names (text k rest : List ℕ) : Type 0 where
  pub first : ℕ
  pub after : List ℕ
  pub is : text ≡ first ∷ after
  pub space : (first == 32) ≡ false
  pub hash : (first == 35) ≡ false
  pub tab : (first == 9) ≡ false
  pub dash : (first == 45) ≡ false
  pub dot : (first == 46) ≡ false
  pub taken : ℕ
  pub key : key_of text ≡ Some (k, taken)
  pub behind : drop taken text ≡ rest

apart_if : (t : Bool) (text : List ℕ) → is_apart (if t then [] else 32 ∷ text) ≡ true
apart_if true text = refl
apart_if false text = refl

pub apart_trimmed : (rest : List ℕ) → is_apart rest ≡ true → is_apart (trimmed rest) ≡ true
apart_trimmed [] apart = refl
apart_trimmed (b ∷ rest) apart = subst (λ (n : ℕ). is_apart (trimmed (n ∷ rest)) ≡ true) (sym (eqb-true b 32 apart)) (apart_if (is_tail (32 ∷ rest)) (trimmed rest))

drop_colon : (xs rest : List ℕ) (n : ℕ) → n ≡ length xs + 1 → drop n (xs ++ 58 ∷ rest) ≡ rest
drop_colon xs rest n is =
    ap₂ (λ (n : ℕ) (l : List ℕ). drop n l) (is ∙ sym (length-append xs (58 ∷ []))) (sym (append_assoc xs (58 ∷ []) rest)) ∙ drop_front (xs ++ 58 ∷ []) rest

bare_key : (b : ℕ) (s rest : List ℕ) → Bare b s → IsUtf8 (b ∷ s) → is_apart rest ≡ true → key_of (b ∷ (s ++ 58 ∷ rest)) ≡ Some (b ∷ s, (length (b ∷ s) + 0) + 1)
bare_key b s rest h u apart =
    let begins = bare_begins b s h in
    let cut : trimmed (b ∷ (s ++ 58 ∷ rest)) ≡ (b ∷ s) ++ 58 ∷ trimmed rest = trimmed_tight (b ∷ s) (58 ∷ rest) begins.tight in
    let colon : colon_at ((b ∷ s) ++ 58 ∷ trimmed rest) ≡ Some (length (b ∷ s) + 0) =
    colon_tight (b ∷ s) (58 ∷ trimmed rest) begins.tight ∙ ap (later (length (b ∷ s))) (cond-true (is_apart (trimmed rest)) (Some 0) (later 1 (colon_at (trimmed rest))) (apart_trimmed rest apart)) in
    let long : length (b ∷ s) + 0 ≡ length (b ∷ s) = omega arith in
    let front : trimmed (take (length (b ∷ s) + 0) ((b ∷ s) ++ 58 ∷ trimmed rest)) ≡ b ∷ s =
    ap (λ (n : ℕ). trimmed (take n ((b ∷ s) ++ 58 ∷ trimmed rest))) long ∙ ap trimmed (take_front (b ∷ s) (58 ∷ trimmed rest)) ∙ trimmed_whole (b ∷ s) begins.tight in
    cond-false (is_quote b) _ _ begins.quote ∙ ap (λ (t : List ℕ). plain_key (colon_at t) t) cut
    ∙ ap (λ (o : Option ℕ). plain_key o ((b ∷ s) ++ 58 ∷ trimmed rest)) colon
    ∙ ap (λ (k : List ℕ). if is_plain k then option_map (λ k. (k, (length (b ∷ s) + 0) + 1)) (text_in k) else None) front
    ∙ cond-true (is_plain (b ∷ s)) _ _ (plain_is b s begins) ∙ ap (option_map (λ k. (k, (length (b ∷ s) + 0) + 1))) (text_in_is (b ∷ s) u)

bare_names : (b : ℕ) (s rest : List ℕ) → Bare b s → IsUtf8 (b ∷ s) → is_apart rest ≡ true → Names ((b ∷ s) ++ 58 ∷ rest) (b ∷ s) rest
bare_names b s rest h u apart = record {
  first = b;
  after = s ++ 58 ∷ rest;
  is = refl;
  space = apart_by_table is_first (λ b. b == 32) first_ascii refl b h.first;
  hash = apart_by_table is_first (λ b. b == 35) first_ascii refl b h.first;
  tab = apart_by_table is_first (λ b. b == 9) first_ascii refl b h.first;
  dash = apart_by_table is_first (λ b. b == 45) first_ascii refl b h.first;
  dot = apart_by_table is_first (λ b. b == 46) first_ascii refl b h.first;
  taken = (length (b ∷ s) + 0) + 1;
  key = bare_key b s rest h u apart;
  behind = drop_colon (b ∷ s) rest ((length (b ∷ s) + 0) + 1) (omega arith);
}

quotes_key : (s rest : List ℕ) → IsUtf8 s → is_apart rest ≡ true → key_of (quotes s (58 ∷ rest)) ≡ Some (s, (length (escaped (chars s)) + 1) + 2)
quotes_key s rest u apart =
    ap (λ (o : Option (List ℕ × ℕ)). quoted_key o (escaped (chars s) ++ 34 ∷ 58 ∷ rest)) (quoted_back s (58 ∷ rest) u)
    ∙ ap (λ (l : List ℕ). if is_colon l then Some (s, (length (escaped (chars s)) + 1) + 2) else None) (drop_quoted (escaped (chars s)) (58 ∷ rest))
    ∙ cond-true (is_apart rest) _ _ apart

quotes_names : (s rest : List ℕ) → IsUtf8 s → is_apart rest ≡ true → Names (quotes s [] ++ 58 ∷ rest) s rest
quotes_names s rest u apart =
    let again : quotes s [] ++ 58 ∷ rest ≡ quotes s (58 ∷ rest) = ap (λ (l : List ℕ). 34 ∷ l) (append_assoc (escaped (chars s)) (34 ∷ []) (58 ∷ rest)) in
    record {
      first = 34;
      after = (escaped (chars s) ++ 34 ∷ []) ++ 58 ∷ rest;
      is = refl;
      space = refl;
      hash = refl;
      tab = refl;
      dash = refl;
      dot = refl;
      taken = (length (escaped (chars s)) + 1) + 2;
      key = ap key_of again ∙ quotes_key s rest u apart;
      behind = drop_colon (quotes s []) rest ((length (escaped (chars s)) + 1) + 2) (omega (arith, length-append (escaped (chars s)) (34 ∷ [])));
    }

bare_words_name : (s rest : List ℕ) → is_bare s ≡ true → IsUtf8 s → is_apart rest ≡ true → Names (s ++ 58 ∷ rest) s rest
bare_words_name [] rest bare u apart = absurd (both_ways false refl bare)
bare_words_name (b ∷ s) rest bare u apart = bare_names b s rest (bare_parts b s bare) u apart

-- a key and its colon
pub key_names : (s rest : List ℕ) → IsUtf8 s → is_apart rest ≡ true → Names (words_text s ++ 58 ∷ rest) s rest
key_names s rest u apart = elim (cases_Bool (is_bare s)) [
  | inl bare ↦ subst (λ (t : List ℕ). Names (t ++ 58 ∷ rest) s rest) (sym (cond-true (is_bare s) s (quotes s []) bare)) (bare_words_name s rest bare u apart)
  | inr other ↦ subst (λ (t : List ℕ). Names (t ++ 58 ∷ rest) s rest) (sym (cond-false (is_bare s) s (quotes s []) other)) (quotes_names s rest u apart)
]

pub key_said : (text k rest : List ℕ) (above c : ℕ) → Names text k rest → said_at above c text ≡ option_map (a_said (Key c k ∷ []) (c + 1)) (rest_of rest)
key_said text k rest above c n =
    ap (said_at above c) n.is ∙ said_content above c n.first n.after n.space n.hash (and_left _ _ n.dash) ∙ ap (content above c) (sym n.is)
    ∙ ap (λ (o : Option (List ℕ × ℕ)). content_with o above c text) n.key ∙ ap (λ (l : List ℕ). option_map (a_said (Key c k ∷ []) (c + 1)) (rest_of l)) n.behind

words_inline : (s : List ℕ) → IsUtf8 s → list_all is_inline (words_text s) ≡ true
words_inline s u = (words_reads s u).inline

-- ---- dashes and keys

-- a dash, or a key and its colon, at this column: how it is read alone, and with a scalar behind it
pub record IsHead (c : ℕ) (head : List ℕ) (mark : Mark) : Type 0 where
  pub first : ℕ
  pub after : List ℕ
  pub is : head ≡ first ∷ after
  pub space : (first == 32) ≡ false
  pub hash : (first == 35) ≡ false
  pub tab : (first == 9) ≡ false
  pub marker : (rest : List ℕ) → is_apart rest ≡ true → is_marker (head ++ rest) ≡ false
  pub inline : list_all is_inline head ≡ true
  pub above : ℕ
  pub alone : said_at 0 c head ≡ Some (a_said (mark ∷ []) above Nothing)
  pub full : (text : List ℕ) (d : Doc) → Reads text d → said_at 0 c (head ++ 32 ∷ text) ≡ Some (a_said (mark ∷ []) above (Scalar d))

dash_marker : (rest : List ℕ) → is_apart rest ≡ true → is_marker (45 ∷ rest) ≡ false
dash_marker [] apart = refl
dash_marker (b ∷ rest) apart = let is = eqb-true b 32 apart in subst (λ (n : ℕ). is_marker (45 ∷ n ∷ rest) ≡ false) (sym is) refl

pub dash_head : (c : ℕ) → IsHead c (45 ∷ []) (Dash c)
dash_head c = record {
  first = 45;
  after = [];
  is = refl;
  space = refl;
  hash = refl;
  tab = refl;
  marker = dash_marker;
  inline = refl;
  above = c + 1;
  alone = refl;
  full = λ text d r. ap (option_map (λ s. a_said ((Dash c ∷ []) ++ s.heads) s.above s.rest)) (said_back (c + 1) ((c + 1) + 1) text d r);
}

pub key_head : (c : ℕ) (k : List ℕ) → IsUtf8 k → IsHead c (words_text k ++ 58 ∷ []) (Key c k)
key_head c k u =
    let n = key_names k [] u refl in
    record {
      first = n.first;
      after = n.after;
      is = n.is;
      space = n.space;
      hash = n.hash;
      tab = n.tab;
      marker = λ rest apart. ap (λ (t : List ℕ). is_marker (t ++ rest)) n.is ∙ marker_apart n.first (n.after ++ rest) n.dash n.dot;
      inline = all_append is_inline (words_text k) (58 ∷ []) (words_inline k u) refl;
      above = c + 1;
      alone = key_said (words_text k ++ 58 ∷ []) k [] 0 c n;
      full = λ text d r. ap (said_at 0 c) (append_assoc (words_text k) (58 ∷ []) (32 ∷ text)) ∙ key_said (words_text k ++ 58 ∷ 32 ∷ text) k (32 ∷ text) 0 c (key_names k (32 ∷ text) u refl) ∙ ap (option_map (a_said (Key c k ∷ []) (c + 1))) (rest_back text d r);
    }
