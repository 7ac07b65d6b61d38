-- The text of a document reads back as that document, and tells it from every other.
use Rattle.std.proofs.Common.{◌≡◌, ℕ, suc, ◌^◌, ◌<◌, ◌≤◌, max, List, [], ◌∷◌, ◌++◌, Bool, true, false, ℤ, pos, negsuc, Some, option_map, option_and_then, Ok, Less, Greater, nat_cmp, IsUtf8, refl, sym, ap, ap₂, ◌∙◌, subst, arith, append_assoc, append-nil}
use Rattle.std.proofs.lemmas.Bool.{le-ltb}
use Rattle.std.proofs.lemmas.Cmp.{nat_list_cmp_total}
use Rattle.std.proofs.lemmas.Fmt.{IsAscii-signed, IsAscii-decimal}
use Rattle.std.proofs.lemmas.Int.{ints}
use Rattle.std.proofs.lemmas.Option.{some_pair_parts, same_Some}
use Rattle.std.proofs.lemmas.Str.{IsUtf8-append, IsUtf8-from_ascii, is_utf8-from_IsUtf8}
use Rattle.std.specs.Cmp.Lexicographic.{slice_cmp}
use Rattle.std.specs.Fmt.{signed_decimal}
use Rattle.std.specs.List.{AllByRecursion}
use Rattle.std.specs.List.Sorted.{IsStrictlySortedBy}
use Rattle.std.specs.Map.{keys_of}
use Rattle.std.specs.Ordering.{ordering_reverse}
use Rattle.json.specs.Json as tokens
use Rattle.json.specs.Lex.{tokens as lexed}
use Rattle.json.specs.Print.{print, IsNumber}
use Rattle.json.specs.Token.{Token}
use Rattle.json.specs.Tree.{HasNumbers, ItemsHaveNumbers, MembersHaveNumbers, depth as nesting, items_depth as items_nesting, members_depth as members_nesting}
use Rattle.json.proofs.Printed.Decimals.{IsNumber-decimal, IsNumber-signed_decimal}
use Rattle.json.proofs.Printed.Tokens.{tokens-print}
use Rattle.json.proofs.Printed.Trees.{value-json_tokens, ArePrintable-json_tokens}
use Rattle.json.proofs.Printed.Utf8.{IsUtf8-quoted, IsUtf8-are_ascii}
use Rattle.serde_json.specs.Data as json
use Rattle.serde_json.specs.Find.{of_integer}
use Rattle.serde_json.specs.Read.{of_json, of_items, of_members, read, number_of}
use Rattle.serde_json.specs.Written.{number_text, outline, items_outline, members_outline}
use Rattle.serde_json.proofs.Numbers.{number_of-decimal, number_of-negative}
use Rattle.serde_json.proofs.Texts.{print-outline}
use Rattle.doc_tree.specs.Data.{doc_in, data_of, items_of, members_of}
use Rattle.doc_tree.specs.Doc.{Doc, null, boolean, whole, words, list, dict, Docs, no_docs, then_doc, Pairs, no_pairs, then_pair, pairs_list, pairs_of, depth, docs_depth, pairs_depth}
use Rattle.doc_tree.specs.Number.{IsWhole}
use Rattle.doc_tree.specs.Read.{reads}
use Rattle.doc_tree.specs.Tokens.{doc_tokens}
use Rattle.doc_tree.specs.Valid.{IsDoc, AreDocs, ArePairs, InOrder}
use Rattle.doc_tree.specs.Written.{text, docs_text, pairs_text, comma_if}
use Rattle.doc_tree.proofs.Converted.{doc_in-data_of, depth-data_of, compact_text-data_of}
use Rattle.doc_tree.proofs.Docs.{pairs_of-pairs_list}

-- ---- numbers

below_top : (n : ℕ) → IsWhole (pos n) → n < 2 ^ 64
below_top n w = omega (arith, ints, w.1)

above_bottom : (n : ℕ) → IsWhole (negsuc n) → n < 2 ^ 63
above_bottom n w = omega (arith, ints, w.0)

IsNumber-whole : (z : ℤ) → IsWhole z → IsNumber (number_text (of_integer z))
IsNumber-whole (pos n) w = IsNumber-decimal n (below_top n w)
IsNumber-whole (negsuc n) w = IsNumber-signed_decimal (negsuc n) (above_bottom n w)

number_of-whole : (z : ℤ) → IsWhole z → number_of (number_text (of_integer z)) ≡ Some (of_integer z)
number_of-whole (pos n) w = number_of-decimal n (below_top n w)
number_of-whole (negsuc n) w = number_of-negative n (above_bottom n w)

IsUtf8-whole : (z : ℤ) → IsWhole z → IsUtf8 (signed_decimal z)
IsUtf8-whole (pos n) w = IsUtf8-from_ascii _ (IsAscii-decimal n (below_top n w))
IsUtf8-whole (negsuc n) w = IsUtf8-from_ascii _ (IsAscii-signed (negsuc n) (above_bottom n w))

mutual
  HasNumbers-doc : (d : Doc) → IsDoc d → HasNumbers (outline (data_of d))
  HasNumbers-doc null v = tt
  HasNumbers-doc (boolean b) v = tt
  HasNumbers-doc (whole z) v = IsNumber-whole z v
  HasNumbers-doc (words s) v = tt
  HasNumbers-doc (list ds) v = HaveNumbers-docs ds v
  HasNumbers-doc (dict ps) v = HaveNumbers-pairs ps v.0

  HaveNumbers-docs : (ds : Docs) → AreDocs ds → ItemsHaveNumbers (items_outline (items_of ds))
  HaveNumbers-docs no_docs v = tt
  HaveNumbers-docs (then_doc d ds) v = (HasNumbers-doc d v.0, HaveNumbers-docs ds v.1)

  HaveNumbers-pairs : (ps : Pairs) → ArePairs ps → MembersHaveNumbers (members_outline (members_of ps))
  HaveNumbers-pairs no_pairs v = tt
  HaveNumbers-pairs (then_pair k d ps) v = (HasNumbers-doc d v.1, HaveNumbers-pairs ps v.2)

-- ---- UTF-8

IsUtf8-comma : (later : Bool) → IsUtf8 (comma_if later)
IsUtf8-comma true = IsUtf8-are_ascii _ refl
IsUtf8-comma false = IsUtf8-are_ascii _ refl

mutual
  pub IsUtf8-text : (d : Doc) → IsDoc d → IsUtf8 (text d)
  IsUtf8-text null v = IsUtf8-are_ascii _ refl
  IsUtf8-text (boolean true) v = IsUtf8-are_ascii _ refl
  IsUtf8-text (boolean false) v = IsUtf8-are_ascii _ refl
  IsUtf8-text (whole z) v = IsUtf8-whole z v
  IsUtf8-text (words s) v = IsUtf8-quoted s v
  IsUtf8-text (list ds) v = IsUtf8-append (91 ∷ []) _ (IsUtf8-are_ascii _ refl) (IsUtf8-docs false ds v)
  IsUtf8-text (dict ps) v = IsUtf8-append (123 ∷ []) _ (IsUtf8-are_ascii _ refl) (IsUtf8-pairs false ps v.0)

  IsUtf8-docs : (later : Bool) (ds : Docs) → AreDocs ds → IsUtf8 (docs_text later ds)
  IsUtf8-docs later no_docs v = IsUtf8-are_ascii _ refl
  IsUtf8-docs later (then_doc d ds) v = IsUtf8-append _ _ (IsUtf8-comma later) (IsUtf8-append _ _ (IsUtf8-text d v.0) (IsUtf8-docs true ds v.1))

  IsUtf8-pairs : (later : Bool) (ps : Pairs) → ArePairs ps → IsUtf8 (pairs_text later ps)
  IsUtf8-pairs later no_pairs v = IsUtf8-are_ascii _ refl
  IsUtf8-pairs later (then_pair k d ps) v =
      IsUtf8-append _ _ (IsUtf8-comma later)
      (IsUtf8-append _ _ (IsUtf8-quoted k v.0) (IsUtf8-append (58 ∷ []) _ (IsUtf8-are_ascii _ refl) (IsUtf8-append _ _ (IsUtf8-text d v.1) (IsUtf8-pairs true ps v.2))))

-- ---- the members of an object go in one after another, each above those before it

below_later : (first : List ℕ) (done : List (List ℕ × Doc)) (p : List ℕ × Doc) (more : List (List ℕ × Doc)) → AllByRecursion (λ y. slice_cmp nat_cmp first y ≡ Less) (keys_of (done ++ p ∷ more))
    → slice_cmp nat_cmp first p.0 ≡ Less
below_later first [] p more h = h.0
below_later first (q ∷ done) p more h = below_later first done p more h.1

put_last : (done : List (List ℕ × Doc)) (k : List ℕ) (d : Doc) (more : List (List ℕ × Doc)) → InOrder (keys_of (done ++ (k, d) ∷ more))
    → json.put k (data_of d) (members_of (pairs_of done)) ≡ members_of (pairs_of (done ++ (k, d) ∷ []))
unfolding IsStrictlySortedBy
put_last [] k d more order = refl
put_last (p ∷ done) k d more order =
    let above : slice_cmp nat_cmp k p.0 ≡ Greater = nat_list_cmp_total.antisymm k p.0 ∙ ap ordering_reverse (below_later p.0 done (k, d) more order.0) in
    rw above (ap (json.member p.0 (data_of p.1)) (put_last done k d more order.1))

mutual
  of_json-outline : (d : Doc) → IsDoc d → of_json (outline (data_of d)) ≡ Some (data_of d)
  of_json-outline null v = refl
  of_json-outline (boolean b) v = refl
  of_json-outline (whole z) v = ap (option_map json.number) (number_of-whole z v)
  of_json-outline (words s) v = refl
  of_json-outline (list ds) v = ap (option_map json.array) (of_items-outline ds v)
  of_json-outline (dict ps) v = ap (option_map json.object) (of_members-outline ps [] v.0 v.1 ∙ ap (λ l. Some (members_of l)) (pairs_of-pairs_list ps))

  of_items-outline : (ds : Docs) → AreDocs ds → of_items (items_outline (items_of ds)) ≡ Some (items_of ds)
  of_items-outline no_docs v = refl
  of_items-outline (then_doc d ds) v = rw (of_json-outline d v.0, of_items-outline ds v.1)

  of_members-outline : (ps : Pairs) (done : List (List ℕ × Doc)) → ArePairs ps → InOrder (keys_of (done ++ pairs_list ps))
      → of_members (members_outline (members_of ps)) (members_of (pairs_of done)) ≡ Some (members_of (pairs_of (done ++ pairs_list ps)))
  of_members-outline no_pairs done v order = ap (λ l. Some (members_of (pairs_of l))) (sym (append-nil done))
  of_members-outline (then_pair k d ps) done v order =
      let again = append_assoc done ((k, d) ∷ []) (pairs_list ps) in
      let later = subst (λ (l : List (List ℕ × Doc)). InOrder (keys_of l)) (sym again) order in
      rw (of_json-outline d v.1, put_last done k d (pairs_list ps) order)
      (of_members-outline ps (done ++ (k, d) ∷ []) v.2 later ∙ ap (λ (l : List (List ℕ × Doc)). Some (members_of (pairs_of l))) again)

-- ---- how deep the tokens nest

mutual
  nesting-doc : (d : Doc) → nesting (outline (data_of d)) ≡ depth d
  nesting-doc null = refl
  nesting-doc (boolean b) = refl
  nesting-doc (whole z) = refl
  nesting-doc (words s) = refl
  nesting-doc (list ds) = ap suc (nesting-docs ds)
  nesting-doc (dict ps) = ap suc (nesting-pairs ps)

  nesting-docs : (ds : Docs) → items_nesting (items_outline (items_of ds)) ≡ docs_depth ds
  nesting-docs no_docs = refl
  nesting-docs (then_doc d ds) = ap₂ max (nesting-doc d) (nesting-docs ds)

  nesting-pairs : (ps : Pairs) → members_nesting (members_outline (members_of ps)) ≡ pairs_depth ps
  nesting-pairs no_pairs = refl
  nesting-pairs (then_pair k d ps) = ap₂ max (nesting-doc d) (nesting-pairs ps)

-- ---- the whole

text-tokens : (d : Doc) → IsDoc d → lexed (text d) ≡ doc_tokens d
text-tokens d v =
    ap lexed (sym (print-outline (data_of d) ∙ compact_text-data_of d)) ∙ tokens-print (doc_tokens d) (ArePrintable-json_tokens (outline (data_of d)) (HasNumbers-doc d v))

parsed : (d : Doc) (limit : ℕ) → depth d ≤ limit → tokens.value limit (doc_tokens d) ≡ Some (outline (data_of d), [])
parsed d limit shallow =
    ap (tokens.value limit) (sym (append-nil (doc_tokens d))) ∙ value-json_tokens (outline (data_of d)) limit [] (omega (arith, nesting-doc d))

read-text : (d : Doc) → IsDoc d → depth d ≤ 127 → read (text d) ≡ Some (data_of d)
read-text d v shallow =
    ap (λ ts. option_and_then of_json (option_and_then (λ p. tokens.if_last p.0 p.1) (tokens.value 127 ts))) (text-tokens d v)
    ∙ ap (λ o. option_and_then of_json (option_and_then (λ p. tokens.if_last p.0 p.1) o)) (parsed d 127 shallow) ∙ of_json-outline d v

-- the text of a document reads back as it
pub reads-text : (d : Doc) → IsDoc d → depth d ≤ 100 → reads (text d) ≡ Ok d
reads-text d v shallow =
    rw (is_utf8-from_IsUtf8 (text d) (IsUtf8-text d v), read-text d v (omega arith), depth-data_of d, le-ltb 100 (depth d) shallow, doc_in-data_of d)

-- documents of one text are one
pub text-inj : (d e : Doc) → IsDoc d → IsDoc e → text d ≡ text e → d ≡ e
text-inj d e v w same =
    let limit = max (depth d) (depth e) in
    let one : doc_tokens d ≡ doc_tokens e = sym (text-tokens d v) ∙ ap lexed same ∙ text-tokens e w in
    let both = sym (parsed d limit (omega arith)) ∙ ap (tokens.value limit) one ∙ parsed e limit (omega arith) in
    let lines : outline (data_of d) ≡ outline (data_of e) = (some_pair_parts _ _ _ _ both).0 in
    let values : Some (data_of d) ≡ Some (data_of e) = sym (of_json-outline d v) ∙ ap of_json lines ∙ of_json-outline e w in
    same_Some d e (sym (doc_in-data_of d) ∙ ap (option_and_then doc_in) values ∙ doc_in-data_of e)

-- the bytes that were written for a document's tokens are its text
pub print-doc_tokens : (bytes before : List ℕ) (ts : List Token) (d : Doc) → bytes ≡ before ++ print ts → before ≡ [] → ts ≡ doc_tokens d → bytes ≡ text d
print-doc_tokens bytes before ts d is none all = is ∙ ap₂ (λ a b. a ++ print b) none all ∙ print-outline (data_of d) ∙ compact_text-data_of d
