-- What a line says is what it is read to.
use Rattle.std.proofs.Common.{◌≡◌, ◌==◌, ◌+◌, ◌&&◌, ◌||◌, ◌⊎◌, ℕ, zero, suc, Bool, true, false, is_some, List, [], ◌∷◌, ◌++◌, take, drop, Option, Some, None, option_map, option_and_then, if◌then◌else◌, inl, inr, refl, ap, sym, subst, ◌∙◌}
use Rattle.std.proofs.lemmas.Bool.{and_left, and_parts, both_ways, cases_Bool, cond-true, cond-false, eqb-true, or_cases, or_from, or_parts}
use Rattle.std.proofs.lemmas.Option.{same_Some}
use Rattle.doc_tree.specs.Doc.{Doc, words}
use Rattle.yaml_subset.specs.Signs.{colon_at, is_apart, is_indicator, is_passed, is_quote, is_tail, trimmed}
use Rattle.yaml_subset.specs.Quoted.{quoted_text}
use Rattle.yaml_subset.specs.Scalar.{doc_with, is_plain, meaning, plain_doc}
use Rattle.yaml_subset.specs.Tokens.{tokens}
use Rattle.yaml_subset.specs.Flow.{flow_doc, flow_over, flow_run}
use Rattle.yaml_subset.specs.Said.{behind_marks, content_with, literal_of, quoted_value, rest_of, said_at, value_doc}
use Rattle.yaml_subset.specs.Says.{Says, space, dash, key, value, Stands, blank, gap, plain, quoted, flow, literal, bare_literal, a_said, is_colon, is_opener, key_of, plain_key, quoted_key}
use Rattle.yaml_subset.specs.declared.token.Token.{Token}
use Rattle.yaml_subset.specs.declared.flow.Flowing.{Flowing}
use Rattle.yaml_subset.specs.declared.flow.Flowing.TheVariants.{Before, Within, Over}
use Rattle.yaml_subset.specs.declared.mark.Mark.TheVariants.{Dash, Key}
use Rattle.yaml_subset.specs.declared.said.Rest.{Rest}
use Rattle.yaml_subset.specs.declared.said.Rest.TheVariants.{Nothing, Scalar, Literal}
use Rattle.yaml_subset.specs.declared.said.Said.{Said}
use Rattle.yaml_subset.proofs.FlowRuns.{tokens_run}
use Rattle.yaml_subset.proofs.FlowSound.{run_tokens}
use Rattle.yaml_subset.proofs.PartLemmas.{apart_trimmed, rest_at, said_content}

-- ---- tests

-- a byte that passes a test is none that doesn't
other : (f : ℕ → Bool) (n b : ℕ) → f n ≡ false → f b ≡ true → (b == n) ≡ false
other f n b no_ is = elim (cases_Bool (b == n)) [
  | inl same ↦ absurd (both_ways (f n) no_ (sym (ap f (eqb-true b n same)) ∙ is))
  | inr apart ↦ apart
]

apart_from : (f : ℕ → Bool) (n b : ℕ) → f n ≡ true → f b ≡ false → (b == n) ≡ false
apart_from f n b is no_ = elim (cases_Bool (b == n)) [
  | inl same ↦ absurd (both_ways (f b) no_ (ap f (eqb-true b n same) ∙ is))
  | inr apart ↦ apart
]

or_left : (x y : Bool) → x ≡ true → (x || y) ≡ true
or_left x y is = rw is refl

or_right : (x y : Bool) → y ≡ true → (x || y) ≡ true
or_right true y is = refl
or_right false y is = is

pub split_if : {A : Type 0} (t : Bool) (x y z : A) → (if t then x else y) ≡ z → ((t ≡ true) × (x ≡ z)) ⊎ ((t ≡ false) × (y ≡ z))
split_if true x y z is = inl (refl, is)
split_if false x y z is = inr (refl, is)

either : {A : Type 0} (P : A → Type 0) (t : Bool) (x y : A) → P x → P y → P (if t then x else y)
either P true x y one two = one
either P false x y one two = two

pub map_parts : {A B : Type 0} (f : A → B) (o : Option A) (y : B) → option_map f o ≡ Some y → (x : A) × (o ≡ Some x) × (f x ≡ y)
map_parts f None y is = cc
map_parts f (Some x) y is = (x, refl, same_Some (f x) y is)

-- ---- what begins no plain scalar

abbrev unplain : List ℕ → Bool
unplain [] = true
unplain (b ∷ text) = is_indicator b || (b == 45 && is_apart text)

unplain_is : (text : List ℕ) → unplain text ≡ true → is_plain text ≡ false
unplain_is [] no_ = refl
unplain_is (b ∷ text) no_ = elim (or_cases (is_indicator b) (b == 45 && is_apart text) no_) [
  | inl sign ↦ cond-true (is_indicator b) _ _ sign
  | inr dashed ↦ let (is, apart) = and_parts (b == 45) (is_apart text) dashed in subst (λ (n : ℕ). is_plain (n ∷ text) ≡ false) (sym (eqb-true b 45 is)) (cond-true (is_apart text) _ _ apart)
]

apart_take : (i : ℕ) (text : List ℕ) → is_apart text ≡ true → is_apart (take i text) ≡ true
apart_take zero [] apart = refl
apart_take zero (b ∷ text) apart = refl
apart_take (suc i) [] apart = refl
apart_take (suc i) (b ∷ text) apart = apart

unplain_more : (b : ℕ) (text new : List ℕ) → (is_apart text ≡ true → is_apart new ≡ true) → unplain (b ∷ text) ≡ true → unplain (b ∷ new) ≡ true
unplain_more b text new aparts no_ = elim (or_cases (is_indicator b) (b == 45 && is_apart text) no_) [
  | inl sign ↦ or_left (is_indicator b) (b == 45 && is_apart new) sign
  | inr dashed ↦ let (is, apart) = and_parts (b == 45) (is_apart text) dashed in or_right (is_indicator b) (b == 45 && is_apart new) (rw (is, aparts apart) refl)
]

unplain_take : (i : ℕ) (text : List ℕ) → unplain text ≡ true → unplain (take i text) ≡ true
unplain_take zero [] no_ = refl
unplain_take zero (b ∷ text) no_ = refl
unplain_take (suc i) [] no_ = refl
unplain_take (suc i) (b ∷ text) no_ = unplain_more b text (take i text) (apart_take i text) no_

unplain_trimmed : (text : List ℕ) → unplain text ≡ true → unplain (trimmed text) ≡ true
unplain_trimmed [] no_ = refl
unplain_trimmed (b ∷ text) no_ = either (λ (l : List ℕ). unplain l ≡ true) (is_tail (b ∷ text)) [] (b ∷ trimmed text) refl (unplain_more b text (trimmed text) (apart_trimmed text) no_)

plain_none : (o : Option ℕ) (text : List ℕ) → unplain text ≡ true → plain_key o text ≡ None
plain_none None text no_ = refl
plain_none (Some i) text no_ = cond-false (is_plain (trimmed (take i text))) _ _ (unplain_is (trimmed (take i text)) (unplain_trimmed (take i text) (unplain_take i text no_)))

no_key : (b : ℕ) (text : List ℕ) → is_quote b ≡ false → unplain (b ∷ text) ≡ true → key_of (b ∷ text) ≡ None
no_key b text quote no_ = cond-false (is_quote b) _ _ quote ∙ plain_none (colon_at (trimmed (b ∷ text))) (trimmed (b ∷ text)) (unplain_trimmed (b ∷ text) no_)

-- ---- what is no dash, no key and no comment

record IsContent (text : List ℕ) (rest : Rest) : Type 0 where
  pub first : ℕ
  pub after : List ℕ
  pub is : text ≡ first ∷ after
  pub space : (first == 32) ≡ false
  pub hash : (first == 35) ≡ false
  pub dash : (first == 45 && is_apart after) ≡ false
  pub key : key_of (first ∷ after) ≡ None
  pub says : rest_of (first ∷ after) ≡ Some rest

none_of : (o : Option ℕ) → is_some o ≡ false → o ≡ None
none_of None is = refl
none_of (Some i) is = cc

no_colon : (text : List ℕ) → is_plain text ≡ true → colon_at text ≡ None
no_colon [] is = cc
no_colon (b ∷ text) is = elim (split_if (is_indicator b) false _ true is) [
  | inl sign ↦ let no_ = sign.1 in cc
  | inr h ↦ inner h.1
]
  where
    last : (if is_some (colon_at (b ∷ text)) then false else true) ≡ true → colon_at (b ∷ text) ≡ None
    last is = elim (split_if (is_some (colon_at (b ∷ text))) false true true is) [
      | inl some ↦ let no_ = some.1 in cc
      | inr none ↦ none_of (colon_at (b ∷ text)) none.0
    ]

    inner : (if (b == 45 || (b == 63 || b == 58)) && is_apart text then false else (if is_some (colon_at (b ∷ text)) then false else true)) ≡ true → colon_at (b ∷ text) ≡ None
    inner is = elim (split_if ((b == 45 || (b == 63 || b == 58)) && is_apart text) false _ true is) [
      | inl sign ↦ let no_ = sign.1 in cc
      | inr h ↦ last h.1
    ]

is_plain_of : (text : List ℕ) (d : Doc) → plain_doc text ≡ Some d → is_plain text ≡ true
is_plain_of text d is = elim (split_if (is_plain text) (doc_with (meaning text) text) None (Some d) is) [
  | inl h ↦ h.0
  | inr h ↦ let no_ = h.1 in cc
]

plain_first : (b : ℕ) (text : List ℕ) → is_plain (trimmed (b ∷ text)) ≡ true → unplain (b ∷ text) ≡ false
plain_first b text is = elim (cases_Bool (unplain (b ∷ text))) [
  | inl no_ ↦ absurd (both_ways (is_plain (trimmed (b ∷ text))) (unplain_is (trimmed (b ∷ text)) (unplain_trimmed (b ∷ text) no_)) is)
  | inr h ↦ h
]

plain_content : (text : List ℕ) (d : Doc) → is_apart text ≡ false → plain_doc (trimmed text) ≡ Some d → IsContent text (Scalar d)
plain_content [] d apart is = cc
plain_content (b ∷ text) d apart is =
    let is_plain_ = is_plain_of (trimmed (b ∷ text)) d is in
    let (sign, dashed) = or_parts (is_indicator b) (b == 45 && is_apart text) (plain_first b text is_plain_) in
    let quote : is_quote b ≡ false = or_from (b == 34) (b == 39) (apart_from is_indicator 34 b refl sign) (apart_from is_indicator 39 b refl sign) in
    let bracket : (b == 91 || b == 123) ≡ false = or_from (b == 91) (b == 123) (apart_from is_indicator 91 b refl sign) (apart_from is_indicator 123 b refl sign) in
    let hash = apart_from is_indicator 35 b refl sign in
    let doc : value_doc b text ≡ Some d = cond-false (is_quote b) _ _ quote ∙ cond-false (b == 91 || b == 123) _ _ bracket ∙ is in
    record {
      first = b;
      after = text;
      is = refl;
      space = apart;
      hash = hash;
      dash = dashed;
      key = cond-false (is_quote b) _ _ quote ∙ ap (λ (o : Option ℕ). plain_key o (trimmed (b ∷ text))) (no_colon (trimmed (b ∷ text)) is_plain_);
      says = rest_at b text d apart hash (apart_from is_indicator 124 b refl sign) doc;
    }

tail_colon : (text : List ℕ) → is_tail text ≡ true → is_colon text ≡ false
tail_colon [] tail = refl
tail_colon (b ∷ text) tail = and_left (b == 58) (is_apart text) (other (λ (n : ℕ). n == 32) 58 b refl (and_parts (b == 32) (is_passed text) tail).0)

quoted_content : (mark length : ℕ) (inner s : List ℕ) → is_quote mark ≡ true → quoted_text mark inner ≡ Some (s, length) → is_tail (drop length inner) ≡ true → IsContent (mark ∷ inner) (Scalar (words s))
quoted_content mark length inner s quote found tail =
    let apart = other is_quote 32 mark refl quote in
    let hash = other is_quote 35 mark refl quote in
    let doc : value_doc mark inner ≡ Some (words s) = cond-true (is_quote mark) _ _ quote ∙ ap (λ (o : Option (List ℕ × ℕ)). quoted_value o inner) found ∙ cond-true (is_tail (drop length inner)) _ _ tail in
    record {
      first = mark;
      after = inner;
      is = refl;
      space = apart;
      hash = hash;
      dash = and_left (mark == 45) (is_apart inner) (other is_quote 45 mark refl quote);
      key = cond-true (is_quote mark) _ _ quote ∙ ap (λ (o : Option (List ℕ × ℕ)). quoted_key o inner) found ∙ cond-false (is_colon (drop length inner)) _ _ (tail_colon (drop length inner) tail);
      says = rest_at mark inner (words s) apart hash (other is_quote 124 mark refl quote) doc;
    }

opener_sign : (b : ℕ) → is_opener b ≡ true → is_indicator b ≡ true
opener_sign b is = elim (or_cases (b == 91) (b == 123) is) [
  | inl same ↦ ap is_indicator (eqb-true b 91 same)
  | inr same ↦ ap is_indicator (eqb-true b 123 same)
]

flow_is : (text : List ℕ) (found : List Token) (d : Doc) → tokens 0 text ≡ Some found → flow_run (Some Before) found ≡ Some (Over d) → flow_doc text ≡ Some d
flow_is text found d is runs = ap (λ (o : Option (List Token)). option_and_then flow_over (option_and_then (flow_run (Some Before)) o)) is ∙ ap (option_and_then flow_over) runs

flow_content : (b : ℕ) (text : List ℕ) (d : Doc) → is_opener b ≡ true → flow_doc (b ∷ text) ≡ Some d → IsContent (b ∷ text) (Scalar d)
flow_content b text d opens is =
    let apart = other is_opener 32 b refl opens in
    let hash = other is_opener 35 b refl opens in
    let quote : is_quote b ≡ false = or_from (b == 34) (b == 39) (other is_opener 34 b refl opens) (other is_opener 39 b refl opens) in
    let doc : value_doc b text ≡ Some d = cond-false (is_quote b) _ _ quote ∙ cond-true (is_opener b) _ _ opens ∙ is in
    record {
      first = b;
      after = text;
      is = refl;
      space = apart;
      hash = hash;
      dash = and_left (b == 45) (is_apart text) (other is_opener 45 b refl opens);
      key = no_key b text quote (or_left (is_indicator b) (b == 45 && is_apart text) (opener_sign b opens));
      says = rest_at b text d apart hash (other is_opener 124 b refl opens) doc;
    }

literal_keeps : (text : List ℕ) → is_tail text ≡ true → literal_of text ≡ Some (Literal true)
literal_keeps [] tail = refl
literal_keeps (b ∷ text) tail = cond-true (is_tail (b ∷ text)) _ _ tail

literal_content : (text : List ℕ) (keeps : Bool) → literal_of text ≡ Some (Literal keeps) → IsContent (124 ∷ text) (Literal keeps)
literal_content text keeps is = record {
  first = 124;
  after = text;
  is = refl;
  space = refl;
  hash = refl;
  dash = refl;
  key = no_key 124 text refl refl;
  says = is;
}

-- ---- where a line says it, it is read

passed_rest : (text : List ℕ) → is_passed text ≡ true → rest_of text ≡ Some Nothing
passed_rest [] is = refl
passed_rest (b ∷ text) is = go (split_if (b == 32) (is_passed text) (b == 35) true is) (passed_rest text)
  where
    go : (((b == 32) ≡ true) × (is_passed text ≡ true)) ⊎ (((b == 32) ≡ false) × ((b == 35) ≡ true)) → (is_passed text ≡ true → rest_of text ≡ Some Nothing) → rest_of (b ∷ text) ≡ Some Nothing
    go (inl h) more = cond-true (b == 32) _ _ h.0 ∙ more h.1
    go (inr h) more = cond-false (b == 32) _ _ h.0 ∙ cond-true (b == 35) _ _ h.1

passed_said : (text : List ℕ) (above c : ℕ) → is_passed text ≡ true → said_at above c text ≡ Some (a_said [] above Nothing)
passed_said [] above c is = refl
passed_said (b ∷ text) above c is = go (split_if (b == 32) (is_passed text) (b == 35) true is) (passed_said text above (c + 1))
  where
    go : (((b == 32) ≡ true) × (is_passed text ≡ true)) ⊎ (((b == 32) ≡ false) × ((b == 35) ≡ true)) → (is_passed text ≡ true → said_at above (c + 1) text ≡ Some (a_said [] above Nothing)) → said_at above c (b ∷ text) ≡ Some (a_said [] above Nothing)
    go (inl h) more = cond-true (b == 32) _ _ h.0 ∙ more h.1
    go (inr h) more = cond-false (b == 32) _ _ h.0 ∙ cond-true (b == 35) _ _ h.1

content_rest : (text : List ℕ) (rest : Rest) → IsContent text rest → rest_of text ≡ Some rest
content_rest text rest h = ap rest_of h.is ∙ h.says

content_said : (text : List ℕ) (rest : Rest) (above c : ℕ) → IsContent text rest → said_at above c text ≡ Some (a_said [] above rest)
content_said text rest above c h =
    ap (said_at above c) h.is ∙ said_content above c h.first h.after h.space h.hash h.dash
    ∙ ap (λ (o : Option (List ℕ × ℕ)). content_with o above c (h.first ∷ h.after)) h.key ∙ ap (option_map (a_said [] above)) h.says

stands_rest : {text : List ℕ} {rest : Rest} → Stands text rest → rest_of text ≡ Some rest
stands_rest (blank {text = text} is) = passed_rest text is
stands_rest (gap s) = stands_rest s
stands_rest (plain {text = text} {d = d} apart is) = content_rest text (Scalar d) (plain_content text d apart is)
stands_rest (quoted {mark = mark} {length = length} {inner = inner} {s = s} quote found tail) = content_rest (mark ∷ inner) (Scalar (words s)) (quoted_content mark length inner s quote found tail)
stands_rest (flow {opener = b} {text = text} {found = found} {d = d} opens is spells) = content_rest (b ∷ text) (Scalar d) (flow_content b text d opens (flow_is (b ∷ text) found d is (tokens_run found d spells)))
stands_rest (literal {text = text} tail) = content_rest (124 ∷ text) (Literal true) (literal_content text true (literal_keeps text tail))
stands_rest (bare_literal {text = text} tail) = content_rest (124 ∷ 45 ∷ text) (Literal false) (literal_content (45 ∷ text) false (cond-true (is_tail text) _ _ tail))

stands_said : {text : List ℕ} {rest : Rest} → Stands text rest → (above c : ℕ) → said_at above c text ≡ Some (a_said [] above rest)
stands_said (blank {text = text} is) above c = passed_said text above c is
stands_said (gap s) above c = stands_said s above (c + 1)
stands_said (plain {text = text} {d = d} apart is) above c = content_said text (Scalar d) above c (plain_content text d apart is)
stands_said (quoted {mark = mark} {length = length} {inner = inner} {s = s} quote found tail) above c = content_said (mark ∷ inner) (Scalar (words s)) above c (quoted_content mark length inner s quote found tail)
stands_said (flow {opener = b} {text = text} {found = found} {d = d} opens is spells) above c = content_said (b ∷ text) (Scalar d) above c (flow_content b text d opens (flow_is (b ∷ text) found d is (tokens_run found d spells)))
stands_said (literal {text = text} tail) above c = content_said (124 ∷ text) (Literal true) above c (literal_content text true (literal_keeps text tail))
stands_said (bare_literal {text = text} tail) above c = content_said (124 ∷ 45 ∷ text) (Literal false) above c (literal_content (45 ∷ text) false (cond-true (is_tail text) _ _ tail))

key_hash : (b : ℕ) (text : List ℕ) (p : List ℕ × ℕ) → key_of (b ∷ text) ≡ Some p → (b == 35) ≡ false
key_hash b text p is = elim (cases_Bool (b == 35)) [
  | inl same ↦ let none = ap (λ (n : ℕ). key_of (n ∷ text)) (eqb-true b 35 same) ∙ no_key 35 text refl refl in absurd (let no_ = sym is ∙ none in cc)
  | inr apart ↦ apart
]

key_dash : (b : ℕ) (text : List ℕ) (p : List ℕ × ℕ) → key_of (b ∷ text) ≡ Some p → (b == 45 && is_apart text) ≡ false
key_dash b text p is = elim (cases_Bool (b == 45 && is_apart text)) [
  | inl dashed ↦ let (same, apart) = and_parts (b == 45) (is_apart text) dashed in
      let none = ap (λ (n : ℕ). key_of (n ∷ text)) (eqb-true b 45 same) ∙ no_key 45 text refl apart in absurd (let no_ = sym is ∙ none in cc)
  | inr other_ ↦ other_
]

key_said : (above c length : ℕ) (text k : List ℕ) (rest : Rest) → is_apart text ≡ false → key_of text ≡ Some (k, length) → rest_of (drop length text) ≡ Some rest
    → said_at above c text ≡ Some (a_said (Key c k ∷ []) (c + 1) rest)
key_said above c length [] k rest apart is stands = cc
key_said above c length (b ∷ text) k rest apart is stands =
    said_content above c b text apart (key_hash b text (k, length) is) (key_dash b text (k, length) is)
    ∙ ap (λ (o : Option (List ℕ × ℕ)). content_with o above c (b ∷ text)) is ∙ ap (option_map (a_said (Key c k ∷ []) (c + 1))) stands

-- what a line says, it is read to say
pub says_said : {above c : ℕ} {text : List ℕ} {s : Said} → Says above c text s → said_at above c text ≡ Some s
says_said (space n) = says_said n
says_said (dash {column = c} {text = text} apart n) = cond-true (is_apart text) _ _ apart ∙ ap (behind_marks (Dash c ∷ [])) (says_said n)
says_said (key {above = above} {column = c} {length = length} {text = text} {k = k} {rest = rest} apart is stands) = key_said above c length text k rest apart is (stands_rest stands)
says_said (value {above = above} {column = c} stands) = stands_said stands above c

-- ---- where it is read, the line says it

quoted_stands : (b : ℕ) (text : List ℕ) (d : Doc) (o : Option (List ℕ × ℕ)) → is_quote b ≡ true → quoted_text b text ≡ o → quoted_value o text ≡ Some d → Stands (b ∷ text) (Scalar d)
quoted_stands b text d None quote found is = cc
quoted_stands b text d (Some p) quote found is = elim (split_if (is_tail (drop p.1 text)) (Some (words p.0)) None (Some d) is) [
  | inl h ↦ subst (λ (x : Doc). Stands (b ∷ text) (Scalar x)) (same_Some (words p.0) d h.1) (quoted quote found h.0)
  | inr h ↦ let no_ = h.1 in cc
]

over_is : (o : Option Flowing) (d : Doc) → option_and_then flow_over o ≡ Some d → o ≡ Some (Over d)
over_is None d is = cc
over_is (Some Before) d is = cc
over_is (Some (Within w)) d is = cc
over_is (Some (Over x)) d is = ap (λ (y : Doc). Some (Over y)) (same_Some x d is)

flow_stands : (b : ℕ) (text : List ℕ) (d : Doc) (o : Option (List Token)) → is_opener b ≡ true → tokens 0 (b ∷ text) ≡ o → option_and_then flow_over (option_and_then (flow_run (Some Before)) o) ≡ Some d → Stands (b ∷ text) (Scalar d)
flow_stands b text d None opens found is = cc
flow_stands b text d (Some ts) opens found is = flow opens found (run_tokens ts d (over_is (flow_run (Some Before) ts) d is))

value_stands : (b : ℕ) (text : List ℕ) (d : Doc) → (b == 32) ≡ false → value_doc b text ≡ Some d → Stands (b ∷ text) (Scalar d)
value_stands b text d apart is = elim (split_if (is_quote b) _ _ (Some d) is) [
  | inl h ↦ quoted_stands b text d (quoted_text b text) h.0 refl h.1
  | inr h ↦ elim (split_if (b == 91 || b == 123) _ _ (Some d) h.1) [
    | inl f ↦ flow_stands b text d (tokens 0 (b ∷ text)) f.0 refl f.1
    | inr p ↦ plain apart p.1
  ]
]

literal_stands : (text : List ℕ) (rest : Rest) → literal_of text ≡ Some rest → Stands (124 ∷ text) rest
literal_stands [] rest is = subst (λ (r : Rest). Stands (124 ∷ []) r) (same_Some (Literal true) rest is) (literal refl)
literal_stands (b ∷ text) rest is = elim (split_if (is_tail (b ∷ text)) _ _ (Some rest) is) [
  | inl h ↦ subst (λ (r : Rest). Stands (124 ∷ b ∷ text) r) (same_Some (Literal true) rest h.1) (literal h.0)
  | inr h ↦ elim (split_if (b == 45 && is_tail text) _ _ (Some rest) h.1) [
    | inl f ↦ let (same, tail) = and_parts (b == 45) (is_tail text) f.0 in
        subst (λ (r : Rest). Stands (124 ∷ b ∷ text) r) (same_Some (Literal false) rest f.1) (subst (λ (n : ℕ). Stands (124 ∷ n ∷ text) (Literal false)) (sym (eqb-true b 45 same)) (bare_literal tail))
    | inr f ↦ let no_ = f.1 in cc
  ]
]

scalar_stands : (b : ℕ) (text : List ℕ) (rest : Rest) → (b == 32) ≡ false → option_map Scalar (value_doc b text) ≡ Some rest → Stands (b ∷ text) rest
scalar_stands b text rest apart is =
    let (d, found, same) = map_parts Scalar (value_doc b text) rest is in
    subst (λ (r : Rest). Stands (b ∷ text) r) same (value_stands b text d apart found)

rest_first : (b : ℕ) (text : List ℕ) (rest : Rest) → (rest_of text ≡ Some rest → Stands text rest) → rest_of (b ∷ text) ≡ Some rest → Stands (b ∷ text) rest
rest_first b text rest more is = elim (split_if (b == 32) _ _ (Some rest) is) [
  | inl h ↦ subst (λ (n : ℕ). Stands (n ∷ text) rest) (sym (eqb-true b 32 h.0)) (gap (more h.1))
  | inr h ↦ elim (split_if (b == 35) _ _ (Some rest) h.1) [
    | inl f ↦ subst (λ (r : Rest). Stands (b ∷ text) r) (same_Some Nothing rest f.1) (blank (cond-false (b == 32) (is_passed text) (b == 35) h.0 ∙ f.0))
    | inr f ↦ elim (split_if (b == 124) _ _ (Some rest) f.1) [
      | inl g ↦ subst (λ (n : ℕ). Stands (n ∷ text) rest) (sym (eqb-true b 124 g.0)) (literal_stands text rest g.1)
      | inr g ↦ scalar_stands b text rest h.0 g.1
    ]
  ]
]

rest_stands : (text : List ℕ) (rest : Rest) → rest_of text ≡ Some rest → Stands text rest
rest_stands [] rest is = subst (λ (r : Rest). Stands [] r) (same_Some Nothing rest is) (blank refl)
rest_stands (b ∷ text) rest is = rest_first b text rest (rest_stands text rest) is

content_says : (above c : ℕ) (text : List ℕ) (s : Said) (o : Option (List ℕ × ℕ)) → is_apart text ≡ false → key_of text ≡ o → content_with o above c text ≡ Some s → Says above c text s
content_says above c text s None apart found is =
    let (rest, stands, same) = map_parts (a_said [] above) (rest_of text) s is in
    subst (λ (x : Said). Says above c text x) same (value (rest_stands text rest stands))
content_says above c text s (Some p) apart found is =
    let (rest, stands, same) = map_parts (a_said (Key c p.0 ∷ []) (c + 1)) (rest_of (drop p.1 text)) s is in
    subst (λ (x : Said). Says above c text x) same (key apart found (rest_stands (drop p.1 text) rest stands))

dash_says : (above c : ℕ) (text : List ℕ) (s : Said) → is_apart text ≡ true → ((s : Said) → said_at (c + 1) (c + 1) text ≡ Some s → Says (c + 1) (c + 1) text s)
    → behind_marks (Dash c ∷ []) (said_at (c + 1) (c + 1) text) ≡ Some s → Says above c (45 ∷ text) s
dash_says above c text s apart more is =
    let (x, found, same) = map_parts (λ (x : Said). a_said ((Dash c ∷ []) ++ x.heads) x.above x.rest) (said_at (c + 1) (c + 1) text) s is in
    subst (λ (y : Said). Says above c (45 ∷ text) y) same (dash apart (more x found))

said_first : (b : ℕ) (text : List ℕ) (above c : ℕ) (s : Said) → ((above c : ℕ) (s : Said) → said_at above c text ≡ Some s → Says above c text s) → said_at above c (b ∷ text) ≡ Some s → Says above c (b ∷ text) s
said_first b text above c s more is = elim (split_if (b == 32) _ _ (Some s) is) [
  | inl h ↦ subst (λ (n : ℕ). Says above c (n ∷ text) s) (sym (eqb-true b 32 h.0)) (space (more above (c + 1) s h.1))
  | inr h ↦ elim (split_if (b == 35) _ _ (Some s) h.1) [
    | inl f ↦ subst (λ (x : Said). Says above c (b ∷ text) x) (same_Some (a_said [] above Nothing) s f.1) (value (blank (cond-false (b == 32) (is_passed text) (b == 35) h.0 ∙ f.0)))
    | inr f ↦ elim (split_if (b == 45 && is_apart text) _ _ (Some s) f.1) [
      | inl g ↦ let (same, apart) = and_parts (b == 45) (is_apart text) g.0 in subst (λ (n : ℕ). Says above c (n ∷ text) s) (sym (eqb-true b 45 same)) (dash_says above c text s apart (more (c + 1) (c + 1)) g.1)
      | inr g ↦ content_says above c (b ∷ text) s (key_of (b ∷ text)) h.0 refl g.1
    ]
  ]
]

-- what a line is read to say, it says
pub said_says : (text : List ℕ) (above c : ℕ) (s : Said) → said_at above c text ≡ Some s → Says above c text s
said_says [] above c s is = subst (λ (x : Said). Says above c [] x) (same_Some (a_said [] above Nothing) s is) (value (blank refl))
said_says (b ∷ text) above c s is = said_first b text above c s (λ above c s is. said_says text above c s is) is
