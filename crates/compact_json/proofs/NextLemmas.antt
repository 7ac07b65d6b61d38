-- What stands where a document, the documents of a list or the pairs of a dict are next.
use Rattle.std.proofs.Common.{◌≡◌, ℕ, ◌<◌, ◌≤◌, max, List, [], ◌∷◌, ◌++◌, length, drop, get_or, Bool, true, false, cond, bytes_eq, IsUtf8, Option, Some, None, option_map, ℤ, pos, negsuc, refl, sym, ap, ◌∙◌, subst, arith, append_assoc, append-nil, length-append, true≢false}
use Rattle.std.proofs.lemmas.Option.{some_pair_parts, same_Some}
use Rattle.std.specs.Fmt.{signed_decimal}
use Rattle.json.specs.Json.{after_end_array, read_key, skip_value, value}
use Rattle.json.specs.Lex.{tokens}
use Rattle.json.specs.Print.{print_from, token_text, separator, ends, IsNumber, IsPrintable, ArePrintable}
use Rattle.json.specs.Token.{Token}
use Rattle.json.specs.Token as token
use Rattle.json.specs.Tree.{depth}
use Rattle.json.specs.Word.{after_number}
use Rattle.json.proofs.Printed.Trees.{value-json_tokens}
use Rattle.serde_json.specs.Find.{of_integer}
use Rattle.serde_json.specs.Written.{number_text, outline}
use Rattle.doc_tree.specs.Data.{data_of}
use Rattle.doc_tree.specs.Doc.{Doc, null, boolean, whole, words, list, dict, Docs, no_docs, then_doc, Pairs, no_pairs, then_pair}
use Rattle.doc_tree.specs.Part.{pair_at, part_at}
use Rattle.doc_tree.specs.Tokens.{doc_tokens, docs_tokens, pairs_tokens}
use Rattle.doc_tree.specs.Valid.{IsDoc, AreDocs, ArePairs}
use Rattle.compact_json.specs.Compact.{first_doc, spelled, IsCompact}
use Rattle.compact_json.specs.Next.{AtDoc, AtDocs, PairsAt, AtDict, begins_value, begins_object}
use Rattle.compact_json.specs.Whole.{IsWholeText}
use Rattle.compact_json.proofs.CompactLemmas.{depth-json, first_doc-doc_tokens, text-tokens, print-tokens, ArePrintable-doc}

-- ---- tokens, told apart

-- a number for each kind of token that is first, and one where there is none
abbrev kind : List Token → ℕ
kind [] = 0
kind (token.begin_object ∷ ts) = 1
kind (token.end_object ∷ ts) = 2
kind (token.begin_array ∷ ts) = 3
kind (token.end_array ∷ ts) = 4
kind (token.key s ∷ ts) = 5
kind (token.string s ∷ ts) = 6
kind (token.number s ∷ ts) = 7
kind (token.boolean b ∷ ts) = 8
kind (token.null ∷ ts) = 9
kind (token.bad ∷ ts) = 10

-- the text in a token that is first
abbrev within : List Token → List ℕ
within [] = []
within (token.begin_object ∷ ts) = []
within (token.end_object ∷ ts) = []
within (token.begin_array ∷ ts) = []
within (token.end_array ∷ ts) = []
within (token.key s ∷ ts) = s
within (token.string s ∷ ts) = s
within (token.number s ∷ ts) = s
within (token.boolean b ∷ ts) = []
within (token.null ∷ ts) = []
within (token.bad ∷ ts) = []

abbrev first_of : Token → List Token → Token
first_of t ts = get_or ts 0 t

-- ---- a document is next

-- tokens of a document are there
some_token : (d : Doc) → 0 < length (doc_tokens d)
some_token null = omega arith
some_token (boolean b) = omega arith
some_token (whole z) = omega arith
some_token (words s) = omega arith
some_token (list ds) = omega arith
some_token (dict ps) = omega arith

-- what follows a document is shorter than what begins with it
pub shorter : (d : Doc) (ts rest : List Token) → ts ≡ doc_tokens d ++ rest → length rest < length ts
shorter d ts rest is = let all = ap (λ (us : List Token). length us) is in omega (arith, all, some_token d, length-append (doc_tokens d) rest)

-- after documents that both are next the same tokens follow
pub same_rest : (d e : Doc) (r s : List Token) → doc_tokens d ++ r ≡ doc_tokens e ++ s → r ≡ s
same_rest d e r s is =
    let j = outline (data_of d) in
    let k = outline (data_of e) in
    let limit = max (depth j) (depth k) in
    let both = sym (value-json_tokens j limit r (omega arith)) ∙ ap (value limit) is ∙ value-json_tokens k limit s (omega arith) in
    (some_pair_parts _ _ _ _ both).1

-- the document that tokens begin with
pub first_is : (d : Doc) (ts rest : List Token) → IsDoc d → ts ≡ doc_tokens d ++ rest → first_doc ts ≡ d
first_is d ts rest v is = ap first_doc is ∙ first_doc-doc_tokens d rest v

pub AtDoc-from : (d : Doc) (ts rest : List Token) → IsDoc d → ts ≡ doc_tokens d ++ rest → AtDoc ts
AtDoc-from d ts rest v is =
    let same = first_is d ts rest v is in
    (subst IsDoc (sym same) v, (rest, is ∙ ap (λ e. doc_tokens e ++ rest) (sym same)))

-- a document is next, so tokens are
pub not_at_end : (d : Doc) (ts rest : List Token) → ts ≡ [] → ts ≡ doc_tokens d ++ rest → ⊥
not_at_end d ts rest none is =
    let all = ap (λ (us : List Token). length us) (sym none ∙ is) in
    absurd (omega (arith, all, some_token d, length-append (doc_tokens d) rest))

pub begins_value-first : (d : Doc) (t : Token) (ts rest : List Token) → t ∷ ts ≡ doc_tokens d ++ rest → begins_value t ≡ true
begins_value-first null t ts rest is = ap (λ us. begins_value (first_of t us)) is
begins_value-first (boolean b) t ts rest is = ap (λ us. begins_value (first_of t us)) is
begins_value-first (whole z) t ts rest is = ap (λ us. begins_value (first_of t us)) is
begins_value-first (words s) t ts rest is = ap (λ us. begins_value (first_of t us)) is
begins_value-first (list ds) t ts rest is = ap (λ us. begins_value (first_of t us)) is
begins_value-first (dict ps) t ts rest is = ap (λ us. begins_value (first_of t us)) is

-- ---- what is behind the first token of a document

pub AtDocs-behind : (d : Doc) (ts rest : List Token) → IsDoc d → token.begin_array ∷ ts ≡ doc_tokens d ++ rest → AtDocs ts
AtDocs-behind null ts rest v is = let k = ap kind is in absurd (omega (arith, k))
AtDocs-behind (boolean b) ts rest v is = let k = ap kind is in absurd (omega (arith, k))
AtDocs-behind (whole z) ts rest v is = let k = ap kind is in absurd (omega (arith, k))
AtDocs-behind (words s) ts rest v is = let k = ap kind is in absurd (omega (arith, k))
AtDocs-behind (list ds) ts rest v is = (ds, v, (rest, ap (drop 1) is))
AtDocs-behind (dict ps) ts rest v is = let k = ap kind is in absurd (omega (arith, k))

pub AtDict-behind : (d : Doc) (ts rest : List Token) → IsDoc d → token.begin_object ∷ ts ≡ doc_tokens d ++ rest → AtDict ts
AtDict-behind null ts rest v is = let k = ap kind is in absurd (omega (arith, k))
AtDict-behind (boolean b) ts rest v is = let k = ap kind is in absurd (omega (arith, k))
AtDict-behind (whole z) ts rest v is = let k = ap kind is in absurd (omega (arith, k))
AtDict-behind (words s) ts rest v is = let k = ap kind is in absurd (omega (arith, k))
AtDict-behind (list ds) ts rest v is = let k = ap kind is in absurd (omega (arith, k))
AtDict-behind (dict ps) ts rest v is = (ps, v, (rest, ap (drop 1) is))

number_text-of_integer : (z : ℤ) → number_text (of_integer z) ≡ signed_decimal z
number_text-of_integer (pos n) = refl
number_text-of_integer (negsuc n) = refl

pub IsWholeText-first : (d : Doc) (digits : List ℕ) (ts rest : List Token) → IsDoc d → token.number digits ∷ ts ≡ doc_tokens d ++ rest → IsWholeText digits
IsWholeText-first null digits ts rest v is = let k = ap kind is in absurd (omega (arith, k))
IsWholeText-first (boolean b) digits ts rest v is = let k = ap kind is in absurd (omega (arith, k))
IsWholeText-first (whole z) digits ts rest v is = (z, v, ap within is ∙ number_text-of_integer z)
IsWholeText-first (words s) digits ts rest v is = let k = ap kind is in absurd (omega (arith, k))
IsWholeText-first (list ds) digits ts rest v is = let k = ap kind is in absurd (omega (arith, k))
IsWholeText-first (dict ps) digits ts rest v is = let k = ap kind is in absurd (omega (arith, k))

-- the token of a number is that of its digits
pub whole-token : (z : ℤ) (digits : List ℕ) (ts all : List Token) → digits ≡ signed_decimal z → all ≡ token.number digits ∷ ts → all ≡ doc_tokens (whole z) ++ ts
whole-token z digits ts all is first = first ∙ ap (λ s. token.number s ∷ ts) (is ∙ sym (number_text-of_integer z))

-- ---- what is behind the brace that opens a dict

pub dict-behind : (d : Doc) (t : Token) (ts rest : List Token) → IsDoc d → t ∷ ts ≡ doc_tokens d ++ rest → begins_object t ≡ true
    → (ps : Pairs) × (d ≡ dict ps) × IsDoc (dict ps) × PairsAt ps ts
dict-behind null t ts rest v is opens = absurd (true≢false (sym opens ∙ ap (λ us. begins_object (first_of t us)) is))
dict-behind (boolean b) t ts rest v is opens = absurd (true≢false (sym opens ∙ ap (λ us. begins_object (first_of t us)) is))
dict-behind (whole z) t ts rest v is opens = absurd (true≢false (sym opens ∙ ap (λ us. begins_object (first_of t us)) is))
dict-behind (words s) t ts rest v is opens = absurd (true≢false (sym opens ∙ ap (λ us. begins_object (first_of t us)) is))
dict-behind (list ds) t ts rest v is opens = absurd (true≢false (sym opens ∙ ap (λ us. begins_object (first_of t us)) is))
dict-behind (dict ps) t ts rest v is opens = (ps, refl, v, (rest, ap (drop 1) is))

pub no_part : (q : List ℕ) (d : Doc) (t : Token) (ts rest : List Token) → t ∷ ts ≡ doc_tokens d ++ rest → begins_object t ≡ false → part_at q d ≡ None
no_part q null t ts rest is other = refl
no_part q (boolean b) t ts rest is other = refl
no_part q (whole z) t ts rest is other = refl
no_part q (words s) t ts rest is other = refl
no_part q (list ds) t ts rest is other = refl
no_part q (dict ps) t ts rest is other = absurd (true≢false (sym (ap (λ us. begins_object (first_of t us)) is) ∙ other))

-- ---- the documents of a list, one by one

abbrev IsNone : {A : Type 0} → Option A → Type 0
IsNone None = Unit {0}
IsNone (Some a) = ⊥

pub AtDoc-first : (ds : Docs) (ts rest : List Token) → AreDocs ds → ts ≡ docs_tokens ds ++ rest → after_end_array ts ≡ None → AtDoc ts
AtDoc-first no_docs ts rest v is more = absurd (subst IsNone (sym more ∙ ap after_end_array is) tt)
AtDoc-first (then_doc d ds) ts rest v is more = AtDoc-from d ts (docs_tokens ds ++ rest) v.0 (is ∙ append_assoc (doc_tokens d) (docs_tokens ds) rest)

pub AtDocs-later : (ds : Docs) (ts rest after : List Token) (e : Doc) → AreDocs ds → ts ≡ docs_tokens ds ++ rest → after_end_array ts ≡ None → ts ≡ doc_tokens e ++ after → AtDocs after
AtDocs-later no_docs ts rest after e v is more read = absurd (subst IsNone (sym more ∙ ap after_end_array is) tt)
AtDocs-later (then_doc d ds) ts rest after e v is more read =
    (ds, v.1, (rest, same_rest e d after (docs_tokens ds ++ rest) (sym read ∙ is ∙ append_assoc (doc_tokens d) (docs_tokens ds) rest)))

-- ---- the pairs of a dict, one by one

-- the key and the document that stand first, and the pairs after them
pub record Member (ps : Pairs) (k : List ℕ) (after : List Token) : Type 0 where
  pub doc : Doc
  pub more : Pairs
  pub all : ps ≡ then_pair k doc more
  pub key : IsUtf8 k
  pub valid : IsDoc doc
  pub later : ArePairs more
  pub rest : List Token
  pub is : after ≡ doc_tokens doc ++ (pairs_tokens more ++ rest)

pub member : (ps : Pairs) (ts rest after : List Token) (k : List ℕ) → ArePairs ps → ts ≡ pairs_tokens ps ++ rest → ts ≡ token.key k ∷ after → Member ps k after
member no_pairs ts rest after k v is first = let e = ap kind (sym first ∙ is) in absurd (omega (arith, e))
member (then_pair l d ps) ts rest after k v is first =
    let both = sym first ∙ is in
    let same : k ≡ l = ap within both in
    record {
      doc = d;
      more = ps;
      all = ap (λ s. then_pair s d ps) (sym same);
      key = subst (λ s. IsUtf8 s) (sym same) v.0;
      valid = v.1;
      later = v.2;
      rest = rest;
      is = ap (drop 1) both ∙ append_assoc (doc_tokens d) (pairs_tokens ps) rest;
    }

-- no pair stands before the brace that closes the dict
pub no_more : (ps : Pairs) (ts rest after : List Token) → ts ≡ pairs_tokens ps ++ rest → ts ≡ token.end_object ∷ after → ps ≡ no_pairs
no_more no_pairs ts rest after is first = refl
no_more (then_pair l d ps) ts rest after is first = let e = ap kind (sym first ∙ is) in absurd (omega (arith, e))

-- a key is next, or the brace that closes the dict
pub has_key : (ps : Pairs) (ts rest : List Token) → ts ≡ pairs_tokens ps ++ rest → read_key ts ≡ None → ⊥
has_key no_pairs ts rest is none = subst IsNone (sym none ∙ ap read_key is) tt
has_key (then_pair k d ps) ts rest is none = subst IsNone (sym none ∙ ap read_key is) tt

-- the pair that stands first has the key, or hasn't
pub pair_at-here : (k q : List ℕ) (d : Doc) (ps : Pairs) → bytes_eq k q ≡ true → pair_at q (then_pair k d ps) ≡ Some d
pair_at-here k q d ps same = ap (λ b. cond b (Some d) (pair_at q ps)) same

pub pair_at-there : (k q : List ℕ) (d : Doc) (ps : Pairs) → bytes_eq k q ≡ false → pair_at q (then_pair k d ps) ≡ pair_at q ps
pair_at-there k q d ps other = ap (λ b. cond b (Some d) (pair_at q ps)) other

-- ---- the text of a document has at least as many bytes as tokens

some_digit : (s : List ℕ) → IsNumber s → 0 < length s
unfolding after_number
some_digit [] number = absurd (subst IsNone number tt)
some_digit (b ∷ s) number = omega arith

some_byte : (t : Token) → IsPrintable t → 0 < length (token_text t)
some_byte token.begin_object p = omega arith
some_byte token.end_object p = omega arith
some_byte token.begin_array p = omega arith
some_byte token.end_array p = omega arith
some_byte (token.key s) p = omega arith
some_byte (token.string s) p = omega arith
some_byte (token.number s) p = some_digit s p
some_byte (token.boolean true) p = omega arith
some_byte (token.boolean false) p = omega arith
some_byte token.null p = omega arith
some_byte token.bad p = absurd p

length-print_from : (c : Bool) (ts : List Token) → ArePrintable ts → length ts ≤ length (print_from c ts)
unfolding ArePrintable print_from
length-print_from c [] p = omega arith
length-print_from c (t ∷ ts) p =
    let later = print_from (ends t) ts in
    omega (arith, some_byte t p.0, length-print_from (ends t) ts p.1, length-append (token_text t) later, length-append (separator c t) (token_text t ++ later))

-- ---- a whole text

text_tokens : (bytes : List ℕ) → IsCompact bytes → tokens bytes ≡ doc_tokens (spelled bytes)
text_tokens bytes c = ap tokens (sym c.is) ∙ text-tokens (spelled bytes) c.doc

pub AtDoc-text : (bytes : List ℕ) → IsCompact bytes → AtDoc (tokens bytes)
AtDoc-text bytes c = AtDoc-from (spelled bytes) (tokens bytes) [] c.doc (text_tokens bytes c ∙ sym (append-nil (doc_tokens (spelled bytes))))

pub length-tokens : (bytes : List ℕ) → IsCompact bytes → length (tokens bytes) ≤ length bytes
length-tokens bytes c =
    let d = spelled bytes in
    let few = length-print_from false (doc_tokens d) (ArePrintable-doc d c.doc) in
    let one = ap (λ (ts : List Token). length ts) (text_tokens bytes c) in
    let two = ap (λ (bs : List ℕ). length bs) (print-tokens d ∙ c.is) in
    omega (arith, few, one, two)

-- ---- a document is passed over

passed : (d : Doc) (limit : ℕ) (ts rest : List Token) → ts ≡ doc_tokens d ++ rest → length ts ≤ limit → skip_value limit ts ≡ Some rest
passed d limit ts rest is few =
    let j = outline (data_of d) in
    let all = ap (λ (us : List Token). length us) is in
    let shallow : depth j ≤ limit = omega (arith, few, all, depth-json j, length-append (doc_tokens d) rest) in
    ap (skip_value limit) is ∙ ap (option_map (λ p. p.1)) (value-json_tokens j limit rest shallow)

pub not_skipped : (d : Doc) (limit : ℕ) (ts rest : List Token) → ts ≡ doc_tokens d ++ rest → length ts ≤ limit → skip_value limit ts ≡ None → ⊥
not_skipped d limit ts rest is few none = subst IsNone (sym none ∙ passed d limit ts rest is few) tt

pub skips : (d : Doc) (limit : ℕ) (ts rest after : List Token) → ts ≡ doc_tokens d ++ rest → length ts ≤ limit → skip_value limit ts ≡ Some after → ts ≡ doc_tokens d ++ after
skips d limit ts rest after is few skipped = is ∙ ap (λ us. doc_tokens d ++ us) (same_Some rest after (sym (passed d limit ts rest is few) ∙ skipped))
