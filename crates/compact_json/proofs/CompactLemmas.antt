-- The compact text of a document spells that document, however deep it nests.
use Rattle.std.proofs.Common.{◌≡◌, ℕ, ◌≤◌, List, [], ◌∷◌, ◌++◌, length, ℤ, pos, negsuc, Some, option_map, option_and_then, unwrap_or, refl, sym, ap, ◌∙◌, subst, arith, append_assoc, append-nil, length-append}
use Rattle.std.specs.Map.{keys_of}
use Rattle.json.specs.Json.{Json, Items, Members, value}
use Rattle.json.specs.Json as parsed
use Rattle.json.specs.Lex.{tokens}
use Rattle.json.specs.Print.{print, ArePrintable}
use Rattle.json.specs.Token.{Token}
use Rattle.json.specs.Tree.{HasNumbers, ItemsHaveNumbers, MembersHaveNumbers, depth, items_depth, members_depth, json_tokens, items_tokens, members_tokens}
use Rattle.json.proofs.Printed.Tokens.{tokens-print}
use Rattle.json.proofs.Printed.Trees.{value-json_tokens, ArePrintable-json_tokens}
use Rattle.serde_json.specs.Data as json
use Rattle.serde_json.specs.Find.{as_integer, of_integer}
use Rattle.serde_json.specs.Read.{of_json, of_items, of_members}
use Rattle.serde_json.specs.Written.{outline, items_outline, members_outline}
use Rattle.doc_tree.specs.Data.{doc_in, docs_in, pairs_in, data_of, items_of, members_of}
use Rattle.doc_tree.specs.Doc.{Doc, null, boolean, whole, words, list, dict, Docs, no_docs, then_doc, Pairs, no_pairs, then_pair, docs_list, docs_of, pairs_list, pairs_of}
use Rattle.doc_tree.specs.Tokens.{doc_tokens}
use Rattle.doc_tree.specs.Valid.{IsDoc, AreDocs, ArePairs, InOrder}
use Rattle.doc_tree.specs.Written.{text}
use Rattle.doc_tree.proofs.Docs.{docs_of-docs_list, pairs_of-pairs_list}
use Rattle.doc_tree.proofs.RoundTrip.{print-doc_tokens}
use Rattle.compact_json.specs.Compact.{first_doc, spelled, IsCompact}
use Rattle.compact_json.proofs.MemberLemmas.{put_last}
use Rattle.compact_json.proofs.WholeLemmas.{IsNumber-whole, number_of-whole}

-- ---- the text's tokens are those of the document

mutual
  HasNumbers-doc : (d : Doc) → IsDoc d → HasNumbers (outline (data_of d))
  HasNumbers-doc null v = tt
  HasNumbers-doc (boolean b) v = tt
  HasNumbers-doc (whole z) v = IsNumber-whole z v
  HasNumbers-doc (words s) v = tt
  HasNumbers-doc (list ds) v = HaveNumbers-docs ds v
  HasNumbers-doc (dict ps) v = HaveNumbers-pairs ps v.0

  HaveNumbers-docs : (ds : Docs) → AreDocs ds → ItemsHaveNumbers (items_outline (items_of ds))
  HaveNumbers-docs no_docs v = tt
  HaveNumbers-docs (then_doc d ds) v = (HasNumbers-doc d v.0, HaveNumbers-docs ds v.1)

  HaveNumbers-pairs : (ps : Pairs) → ArePairs ps → MembersHaveNumbers (members_outline (members_of ps))
  HaveNumbers-pairs no_pairs v = tt
  HaveNumbers-pairs (then_pair k d ps) v = (HasNumbers-doc d v.1, HaveNumbers-pairs ps v.2)

-- the text of a document is what is printed for its tokens
pub print-tokens : (d : Doc) → print (doc_tokens d) ≡ text d
print-tokens d = print-doc_tokens (print (doc_tokens d)) [] (doc_tokens d) d refl refl refl

pub ArePrintable-doc : (d : Doc) → IsDoc d → ArePrintable (doc_tokens d)
ArePrintable-doc d v = ArePrintable-json_tokens (outline (data_of d)) (HasNumbers-doc d v)

pub text-tokens : (d : Doc) → IsDoc d → tokens (text d) ≡ doc_tokens d
text-tokens d v = ap tokens (sym (print-tokens d)) ∙ tokens-print (doc_tokens d) (ArePrintable-doc d v)

-- ---- a value nests at most as deep as it has tokens

mutual
  pub depth-json : (j : Json) → depth j ≤ length (json_tokens j)
  depth-json parsed.null = omega arith
  depth-json (parsed.boolean b) = omega arith
  depth-json (parsed.number s) = omega arith
  depth-json (parsed.string s) = omega arith
  depth-json (parsed.array js) = omega (arith, depth-items js)
  depth-json (parsed.object ms) = omega (arith, depth-members ms)

  depth-items : (js : Items) → items_depth js ≤ length (items_tokens js)
  depth-items parsed.no_items = omega arith
  depth-items (parsed.item j js) = omega (arith, depth-json j, depth-items js, length-append (json_tokens j) (items_tokens js))

  depth-members : (ms : Members) → members_depth ms ≤ length (members_tokens ms)
  depth-members parsed.no_members = omega arith
  depth-members (parsed.member k j ms) = omega (arith, depth-json j, depth-members ms, length-append (json_tokens j) (members_tokens ms))

-- ---- from the value to the document

as_integer-of_integer : (z : ℤ) → as_integer (of_integer z) ≡ Some z
as_integer-of_integer (pos n) = refl
as_integer-of_integer (negsuc n) = refl

mutual
  doc_in-data_of : (d : Doc) → doc_in (data_of d) ≡ Some d
  doc_in-data_of null = refl
  doc_in-data_of (boolean b) = refl
  doc_in-data_of (whole z) = ap (option_map whole) (as_integer-of_integer z)
  doc_in-data_of (words s) = refl
  doc_in-data_of (list ds) = ap (option_map (λ l. list (docs_of l))) (docs_in-items_of ds) ∙ ap (λ l. Some (list l)) (docs_of-docs_list ds)
  doc_in-data_of (dict ps) = ap (option_map (λ l. dict (pairs_of l))) (pairs_in-members_of ps) ∙ ap (λ l. Some (dict l)) (pairs_of-pairs_list ps)

  docs_in-items_of : (ds : Docs) → docs_in (items_of ds) ≡ Some (docs_list ds)
  docs_in-items_of no_docs = refl
  docs_in-items_of (then_doc d ds) = rw (doc_in-data_of d, docs_in-items_of ds)

  pairs_in-members_of : (ps : Pairs) → pairs_in (members_of ps) ≡ Some (pairs_list ps)
  pairs_in-members_of no_pairs = refl
  pairs_in-members_of (then_pair k d ps) = rw (doc_in-data_of d, pairs_in-members_of ps)

mutual
  of_json-outline : (d : Doc) → IsDoc d → of_json (outline (data_of d)) ≡ Some (data_of d)
  of_json-outline null v = refl
  of_json-outline (boolean b) v = refl
  of_json-outline (whole z) v = ap (option_map json.number) (number_of-whole z v)
  of_json-outline (words s) v = refl
  of_json-outline (list ds) v = ap (option_map json.array) (of_items-outline ds v)
  of_json-outline (dict ps) v = ap (option_map json.object) (of_members-outline ps [] v.0 v.1 ∙ ap (λ l. Some (members_of l)) (pairs_of-pairs_list ps))

  of_items-outline : (ds : Docs) → AreDocs ds → of_items (items_outline (items_of ds)) ≡ Some (items_of ds)
  of_items-outline no_docs v = refl
  of_items-outline (then_doc d ds) v = rw (of_json-outline d v.0, of_items-outline ds v.1)

  of_members-outline : (ps : Pairs) (done : List (List ℕ × Doc)) → ArePairs ps → InOrder (keys_of (done ++ pairs_list ps))
      → of_members (members_outline (members_of ps)) (members_of (pairs_of done)) ≡ Some (members_of (pairs_of (done ++ pairs_list ps)))
  of_members-outline no_pairs done v order = ap (λ l. Some (members_of (pairs_of l))) (sym (append-nil done))
  of_members-outline (then_pair k d ps) done v order =
      let again = append_assoc done ((k, d) ∷ []) (pairs_list ps) in
      let later = subst (λ (l : List (List ℕ × Doc)). InOrder (keys_of l)) (sym again) order in
      rw (of_json-outline d v.1, put_last done k d (pairs_list ps) order)
      (of_members-outline ps (done ++ (k, d) ∷ []) v.2 later ∙ ap (λ (l : List (List ℕ × Doc)). Some (members_of (pairs_of l))) again)

-- ---- the whole

-- the tokens of a document begin with it, whatever follows
pub first_doc-doc_tokens : (d : Doc) (rest : List Token) → IsDoc d → first_doc (doc_tokens d ++ rest) ≡ d
first_doc-doc_tokens d rest v =
    let j = outline (data_of d) in
    let shallow : depth j ≤ length (doc_tokens d ++ rest) = omega (arith, depth-json j, length-append (doc_tokens d) rest) in
    ap (λ o. unwrap_or (option_and_then doc_in (option_and_then of_json (option_map (λ p. p.0) o))) null) (value-json_tokens j (length (doc_tokens d ++ rest)) rest shallow)
    ∙ ap (λ o. unwrap_or (option_and_then doc_in o) null) (of_json-outline d v)
    ∙ ap (λ o. unwrap_or o null) (doc_in-data_of d)

-- the text of a document spells it
pub spelled-text : (d : Doc) → IsDoc d → spelled (text d) ≡ d
spelled-text d v = ap first_doc (text-tokens d v ∙ sym (append-nil (doc_tokens d))) ∙ first_doc-doc_tokens d [] v

-- the text of a document is compact
pub IsCompact-text : (d : Doc) (bytes : List ℕ) → IsDoc d → bytes ≡ text d → IsCompact bytes
IsCompact-text d bytes v is =
    let same : spelled bytes ≡ d = ap spelled is ∙ spelled-text d v in
    record {
      doc = subst IsDoc (sym same) v;
      is = ap text same ∙ sym is;
    }
