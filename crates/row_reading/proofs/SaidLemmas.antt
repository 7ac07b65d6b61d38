-- What is found in the tree of a body, and written as the body, is what the body says.
use Rattle.std.proofs.Common.{◌≡◌, ℕ, ℤ, pos, negsuc, T, List, Bool, true, false, ◌&&◌, cond, bytes_eq, Option, Some, None, option_map, option_and_then, Result, Ok, Err, IfOk, IfSome, refl, sym, ap, subst, ◌∙◌, true≢false, arith}
use Rattle.std.proofs.lemmas.Bool.{and_parts}
use Rattle.std.proofs.lemmas.Int.{ints}
use Rattle.std.proofs.lemmas.Str.{IsUtf8-from_is_utf8}
use Rattle.std.specs.Cmp.Lexicographic.{bytes_decides}
use Rattle.std.specs.FinMap.Entries.{is_sorted}
use Rattle.std.specs.Str.{is_utf8}
use Rattle.compact_json.specs.Compact.{IsCompact, spelled}
use Rattle.doc_tree.specs.Doc.{Doc, null, boolean, whole, words, list, dict, Docs, no_docs, then_doc, Pairs, no_pairs, then_pair, pairs_list}
use Rattle.doc_tree.specs.Number.{IsWhole}
use Rattle.doc_tree.specs.Text.{text_cmp}
use Rattle.doc_tree.specs.Valid.{AreDocs, ArePairs, IsDoc}
use Rattle.doc_tree.specs.Written.{text}
use Rattle.org_shelves.specs.Rising.{sorted_rise}
use Rattle.org_rows.proofs.ContentLemmas.{doc_true}
use Rattle.org_rows.specs.Reading.{are_docs, are_pairs, document_in, if_stored, is_compact, is_doc, is_whole, said, stored_in, written_as}
use Rattle.row_reading.specs.Bodies.{IsTextOf}

-- ---- the test of compact texts

whole_is : (z : ℤ) → is_whole z ≡ true → IsWhole z
whole_is (pos n) is = (omega (arith, ints), grind (arith, ints, is))
whole_is (negsuc n) is = (grind (arith, ints, is), omega (arith, ints))

mutual
  doc_is : (d : Doc) → is_doc d ≡ true → IsDoc d
  doc_is null is = tt
  doc_is (boolean b) is = tt
  doc_is (whole z) is = whole_is z is
  doc_is (words s) is = IsUtf8-from_is_utf8 s is
  doc_is (list ds) is = docs_are ds is
  doc_is (dict ps) is =
      let parts = and_parts (are_pairs ps) (is_sorted text_cmp (pairs_list ps)) is in
      (pairs_are ps parts.0, sorted_rise text_cmp (pairs_list ps) (subst T (sym parts.1) tt))

  docs_are : (ds : Docs) → are_docs ds ≡ true → AreDocs ds
  docs_are no_docs is = tt
  docs_are (then_doc d ds) is = let parts = and_parts (is_doc d) (are_docs ds) is in (doc_is d parts.0, docs_are ds parts.1)

  pairs_are : (ps : Pairs) → are_pairs ps ≡ true → ArePairs ps
  pairs_are no_pairs is = tt
  pairs_are (then_pair k d ps) is =
      let parts = and_parts (is_utf8 k) (is_doc d && are_pairs ps) is in
      let rest = and_parts (is_doc d) (are_pairs ps) parts.1 in
      (IsUtf8-from_is_utf8 k parts.0, doc_is d rest.0, pairs_are ps rest.1)

compact_is : (body : List ℕ) → is_compact body ≡ true → IsCompact body
compact_is body is =
    let parts = and_parts (is_doc (spelled body)) (bytes_eq (text (spelled body)) body) is in
    record { doc = doc_is (spelled body) parts.0; is = (bytes_decides (text (spelled body)) body).0 parts.1 }

compact_true : (body : List ℕ) → IsCompact body → is_compact body ≡ true
compact_true body c = ap (λ b. b && bytes_eq (text (spelled body)) body) (doc_true (spelled body) c.doc) ∙ (bytes_decides (text (spelled body)) body).1 c.is

-- ---- what a reading of the document says

abbrev IsSomeOf : {X : Type 0} → Option X → Type 0
IsSomeOf None = ⊥
IsSomeOf (Some x) = Unit {0}

-- no document is none at all
not_none : {X : Type 0} (x : X) → ◌≡◌ {A = Option X} None (Some x) → ⊥
not_none x is = subst IsSomeOf (sym is) tt

some_is : {X : Type 0} (x y : X) → Some x ≡ Some y → x ≡ y
some_is x y is = cc is

module _ {X : Type 0} (answer : Doc → Option X) (body : List ℕ) where
  -- the answer on the document of the body, if it is a compact text
  abbrev pub answer_in : Bool → Option X
  answer_in compact = option_and_then answer (cond compact (Some (spelled body)) None)

  none_at : (compact : Bool) → is_compact body ≡ compact → (IsCompact body → None ≡ Some (spelled body)) → None ≡ answer_in compact
  none_at true is no_tree = absurd (not_none (spelled body) (no_tree (compact_is body is)))
  none_at false is no_tree = refl

  -- where no tree was found nothing is said
  pub none_of : (IsCompact body → None ≡ Some (spelled body)) → None ≡ option_and_then answer (document_in body)
  none_of no_tree = none_at (is_compact body) refl no_tree

  found_at : (compact : Bool) → is_compact body ≡ compact → (tree : Doc) (found : Option X) → (IsCompact body → Some tree ≡ Some (spelled body)) → (IsCompact body → found ≡ answer tree) → IfSome found (λ _. IsCompact body) → found ≡ answer_in compact
  found_at true is tree found same answered compact =
      let c = compact_is body is in
      answered c ∙ ap answer (some_is tree (spelled body) (same c))
  found_at false is tree None same answered compact = refl
  found_at false is tree (Some x) same answered compact = absurd (true≢false (sym (compact_true body compact) ∙ is))

  -- what is found in the tree of the body, where the body is compact, is what its document answers
  pub found_of : (tree : Doc) (found : Option X) → (IsCompact body → Some tree ≡ Some (spelled body)) → (IsCompact body → found ≡ answer tree) → IfSome found (λ _. IsCompact body) → found ≡ option_and_then answer (document_in body)
  found_of tree found same answered compact = found_at (is_compact body) refl tree found same answered compact

module _ {X : Type 0} (write : X → List ℕ) (read : Doc → Option X) (body : List ℕ) where
  pub none_said : (IsCompact body → None ≡ Some (spelled body)) → None ≡ said write read body
  none_said no_tree = none_of (λ doc. written_as write body (read doc)) body no_tree

  pub said_ok : {E : Type 0} (tree : Doc) (r : Result (Option X) E) → (IsCompact body → Some tree ≡ Some (spelled body)) → IfOk r (λ found. found ≡ written_as write body (read tree)) → IfOk r (λ found. IfSome found (λ _. IsCompact body)) → IfOk r (λ found. found ≡ said write read body)
  said_ok tree (Ok found) same written compact = found_of (λ doc. written_as write body (read doc)) body tree found same (λ _. written) compact
  said_ok tree (Err e) same written compact = tt

  as_some : {Y : Type 0} (f : Y → X) (found : Option Y) → IfSome found (λ _. IsCompact body) → IfSome (option_map f found) (λ _. IsCompact body)
  as_some f None compact = tt
  as_some f (Some y) compact = compact

  -- the same where what is found is another form of it
  pub said_ok_as : {Y E : Type 0} (f : Y → X) (tree : Doc) (r : Result (Option Y) E) → (IsCompact body → Some tree ≡ Some (spelled body)) → IfOk r (λ found. option_map f found ≡ written_as write body (read tree)) → IfOk r (λ found. IfSome found (λ _. IsCompact body)) → IfOk r (λ found. option_map f found ≡ said write read body)
  said_ok_as f tree (Ok found) same written compact = found_of (λ doc. written_as write body (read doc)) body tree (option_map f found) same (λ _. written) (as_some f found compact)
  said_ok_as f tree (Err e) same written compact = tt

-- ---- what is stored of itself

module _ (keep : Doc → Option Doc) (body : List ℕ) where
  pub none_stored : (IsCompact body → None ≡ Some (spelled body)) → None ≡ stored_in keep body
  none_stored no_tree = none_of (λ doc. if_stored body doc (keep doc)) body no_tree

  -- what is stored and has the body as its text is the document of the body
  own_doc : (doc : Doc) (found kept : Option Doc) → doc ≡ spelled body → kept ≡ written_as text body found → IfSome kept (λ doc. IsTextOf doc body) → kept ≡ if_stored body doc found
  own_doc doc found None own written is = ap (option_map (λ _. doc)) written
  own_doc doc found (Some kept) own written is = ap Some (sym is.1 ∙ sym own) ∙ ap (option_map (λ _. doc)) written

  text_compact : (kept : Option Doc) → IfSome kept (λ doc. IsTextOf doc body) → IfSome kept (λ _. IsCompact body)
  text_compact None is = tt
  text_compact (Some doc) is = is.0

  pub stored_ok : {E : Type 0} (tree : Doc) (r : Result (Option Doc) E) → (IsCompact body → Some tree ≡ Some (spelled body)) → IfOk r (λ found. found ≡ written_as text body (keep tree)) → IfOk r (λ found. IfSome found (λ doc. IsTextOf doc body)) → IfOk r (λ found. found ≡ stored_in keep body)
  stored_ok tree (Ok found) same written is =
      found_of (λ doc. if_stored body doc (keep doc)) body tree found same (λ c. own_doc tree (keep tree) found (some_is tree (spelled body) (same c)) written is) (text_compact found is)
  stored_ok tree (Err e) same written is = tt

  -- what was written was found
  was_found : (found : Option Doc) (doc : Doc) → Some doc ≡ written_as text body found → found ≡ Some doc
  was_found None doc is = absurd (not_none doc (sym is))
  was_found (Some kept) doc is = found_as (bytes_eq (text kept) body) is where
    found_as : (same : Bool) → Some doc ≡ cond same (Some kept) None → Some kept ≡ Some doc
    found_as true some = sym some
    found_as false none = absurd (not_none doc (sym none))

  kept_at : (tree : Doc) (P : Doc → Type 0) → ((doc : Doc) → keep doc ≡ Some doc → P doc) → (found : Option Doc) → (IsCompact body → Some tree ≡ Some (spelled body)) → found ≡ written_as text body (keep tree) → IfSome found (λ doc. IsTextOf doc body) → IfSome found P
  kept_at tree P each None same written is = tt
  kept_at tree P each (Some doc) same written is =
      let own : tree ≡ doc = some_is tree (spelled body) (same is.0) ∙ is.1 in
      each doc (ap keep (sym own) ∙ was_found (keep tree) doc written)

  -- what is found is stored of itself, and so is what all such documents are
  pub kept_ok : {E : Type 0} (P : Doc → Type 0) → ((doc : Doc) → keep doc ≡ Some doc → P doc) → (tree : Doc) (r : Result (Option Doc) E) → (IsCompact body → Some tree ≡ Some (spelled body)) → IfOk r (λ found. found ≡ written_as text body (keep tree)) → IfOk r (λ found. IfSome found (λ doc. IsTextOf doc body)) → IfOk r (λ found. IfSome found P)
  kept_ok P each tree (Ok found) same written is = kept_at tree P each found same written is
  kept_ok P each tree (Err e) same written is = tt
