-- The texts of documents, as bodies.
use Rattle.std.proofs.Common.{◌≡◌, ℕ, pos, negsuc, List, Bool, true, false, bytes_eq, codes, IsUtf8, Option, Some, None, IfSome, refl, sym, ap, subst, ◌∙◌}
use Rattle.std.proofs.lemmas.Fmt.{IsAscii-decimal, IsAscii-signed}
use Rattle.std.proofs.lemmas.Str.{IsUtf8-append, IsUtf8-from_ascii, IsUtf8-nil}
use Rattle.std.specs.Cmp.Lexicographic.{bytes_decides}
use Rattle.json.proofs.Printed.Utf8.{IsUtf8-are_ascii, IsUtf8-quoted}
use Rattle.json.specs.Lex.{tokens}
use Rattle.json.specs.Token.{Token}
use Rattle.compact_json.specs.Compact.{IsCompact, spelled}
use Rattle.compact_json.specs.Next.{AtDoc}
use Rattle.compact_json.proofs.CompactLemmas.{IsCompact-text, spelled-text}
use Rattle.compact_json.proofs.NextLemmas.{AtDoc-text, first_is}
use Rattle.compact_json.proofs.WholeLemmas.{above_bottom, below_top}
use Rattle.doc_tree.specs.Doc.{Doc, null, boolean, whole, words, list, dict, Docs, no_docs, then_doc, Pairs, no_pairs, then_pair}
use Rattle.doc_tree.specs.Valid.{AreDocs, ArePairs, IsDoc}
use Rattle.doc_tree.specs.Written.{comma_if, docs_text, pairs_text, text}
use Rattle.row_reading.specs.Bodies.{IsTextOf}
use Rattle.row_reading.specs.Tokens.{TookDoc}

comma_utf8 : (later : Bool) → IsUtf8 (comma_if later)
comma_utf8 true = IsUtf8-are_ascii (codes ",") refl
comma_utf8 false = IsUtf8-nil

mutual
  -- the text of a document is UTF-8
  pub text_utf8 : (d : Doc) → IsDoc d → IsUtf8 (text d)
  text_utf8 null v = IsUtf8-are_ascii (codes "null") refl
  text_utf8 (boolean true) v = IsUtf8-are_ascii (codes "true") refl
  text_utf8 (boolean false) v = IsUtf8-are_ascii (codes "false") refl
  text_utf8 (whole (pos n)) v = IsUtf8-from_ascii _ (IsAscii-decimal n (below_top n v))
  text_utf8 (whole (negsuc n)) v = IsUtf8-from_ascii _ (IsAscii-signed (negsuc n) (above_bottom n v))
  text_utf8 (words s) v = IsUtf8-quoted s v
  text_utf8 (list ds) v = IsUtf8-append (codes "[") (docs_text false ds) (IsUtf8-are_ascii (codes "[") refl) (docs_utf8 false ds v)
  text_utf8 (dict ps) v = IsUtf8-append (codes "{") (pairs_text false ps) (IsUtf8-are_ascii (codes "{") refl) (pairs_utf8 false ps v.0)

  docs_utf8 : (later : Bool) (ds : Docs) → AreDocs ds → IsUtf8 (docs_text later ds)
  docs_utf8 later no_docs v = IsUtf8-are_ascii (codes "]") refl
  docs_utf8 later (then_doc d ds) v = IsUtf8-append (comma_if later) _ (comma_utf8 later) (IsUtf8-append (text d) (docs_text true ds) (text_utf8 d v.0) (docs_utf8 true ds v.1))

  pairs_utf8 : (later : Bool) (ps : Pairs) → ArePairs ps → IsUtf8 (pairs_text later ps)
  pairs_utf8 later no_pairs v = IsUtf8-are_ascii (codes "}") refl
  pairs_utf8 later (then_pair k d ps) v =
      IsUtf8-append (comma_if later) _ (comma_utf8 later)
      (IsUtf8-append _ _ (IsUtf8-quoted k v.0) (IsUtf8-append (codes ":") _ (IsUtf8-are_ascii (codes ":") refl) (IsUtf8-append (text d) (pairs_text true ps) (text_utf8 d v.1) (pairs_utf8 true ps v.2))))

-- and so is the compact text of one
pub compact_utf8 : (body : List ℕ) → IsCompact body → IsUtf8 body
compact_utf8 body c = subst IsUtf8 c.is (text_utf8 (spelled body) c.doc)

-- the text of a document is a body that says it
pub text_is_of : (d : Doc) (body : List ℕ) → IsDoc d → bytes_eq (text d) body ≡ true → IsTextOf d body
text_is_of d body v same =
    let is : body ≡ text d = sym ((bytes_decides (text d) body).0 same) in
    (IsCompact-text d body v is, ap spelled is ∙ spelled-text d v)

-- what was taken of the tokens of a compact text is the document that it spells
pub took_text : (body : List ℕ) (found : Option Doc) (ts left : List Token) → IsCompact body → ts ≡ tokens body → IfSome found IsDoc → (AtDoc ts → TookDoc found ts left) → found ≡ Some (spelled body)
took_text body None ts left c same known took = absurd (took (subst AtDoc (sym same) (AtDoc-text body c)))
took_text body (Some d) ts left c same known took =
    let is = took (subst AtDoc (sym same) (AtDoc-text body c)) in
    ap Some (sym (first_is d (tokens body) left known (sym same ∙ is)))
