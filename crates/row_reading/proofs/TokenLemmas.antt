-- What was taken of a list or a dict, and then what is left.
use Rattle.std.proofs.Common.{◌≡◌, ℕ, ℤ, List, [], ◌∷◌, ◌++◌, Less, Greater, false, Option, Some, None, option_map, nat_cmp, refl, sym, ap, subst, ◌∙◌, true≢false}
use Rattle.std.proofs.lemmas.Cmp.{nat_list_cmp_total}
use Rattle.std.specs.Cmp.Lexicographic.{slice_cmp}
use Rattle.std.specs.List.{AllByRecursion}
use Rattle.std.specs.List.Sorted.{IsStrictlySortedBy}
use Rattle.std.specs.Map.{keys_of}
use Rattle.std.specs.Ordering.{match_ordering, ordering_reverse}
use Rattle.json.specs.Json.{after_end_array, read_key}
use Rattle.json.specs.Token.{Token}
use Rattle.json.specs.Token as token
use Rattle.doc_tree.specs.Doc.{Doc, list, dict, whole, Pairs, docs_of, pairs_list, pairs_of}
use Rattle.doc_tree.specs.Part.{with_pair}
use Rattle.doc_tree.specs.Tokens.{doc_tokens}
use Rattle.doc_tree.specs.Valid.{ArePairs, InOrder}
use Rattle.compact_json.specs.Compact.{first_doc}
use Rattle.compact_json.specs.Next.{AtDict, AtDoc, AtDocs, PairsAt, begins_value}
use Rattle.compact_json.specs.Whole.{IsWholeText}
use Rattle.compact_json.proofs.NextLemmas.{AtDict-behind, AtDoc-first, AtDoc-from, AtDocs-behind, AtDocs-later, IsWholeText-first, Member, begins_value-first, has_key, member, same_rest, whole-token}
use Rattle.row_reading.specs.Tokens.{IsReadOf, TookDoc, TookDocs, TookPairs}
use Rattle.compact_json.proofs.ReadLemmas.{InOrder-more, docs_front, docs_front-more, pairs_front, pairs_front-more}

-- ---- the documents of a list

-- of these tokens the documents were taken, and these are left, with which a list goes on
abbrev pub DocsSoFar : List Token → List Doc → List Token → Type 0
DocsSoFar all taken left = AtDocs left × (all ≡ docs_front taken ++ left)

pub AtDoc-so_far : (all left : List Token) (taken : List Doc) → DocsSoFar all taken left → after_end_array left ≡ None → AtDoc left
AtDoc-so_far all left taken far more = AtDoc-first far.0.0 left far.0.2.0 far.0.1 far.0.2.1 more

-- one document more was taken
pub docs-more : (all left after : List Token) (taken new : List Doc) (d : Doc) → DocsSoFar all taken left → after_end_array left ≡ None → left ≡ doc_tokens d ++ after → new ≡ taken ++ d ∷ [] → DocsSoFar all new after
docs-more all left after taken new d far more read pushed = (AtDocs-later far.0.0 left far.0.2.0 after d far.0.1 far.0.2.1 more read, docs_front-more taken new d all left after far.1 read pushed)

-- ---- the fields of a dict

-- of these tokens the fields were taken, and these are left, with which a dict goes on
abbrev pub PairsSoFar : List Token → List (List ℕ × Doc) → List Token → Type 0
PairsSoFar all taken left = ((ps : Pairs) × ArePairs ps × InOrder (keys_of taken ++ keys_of (pairs_list ps)) × PairsAt ps left) × (all ≡ pairs_front taken ++ left)

pub below_later : (first : List ℕ) (done : List (List ℕ)) (k : List ℕ) (more : List (List ℕ)) → AllByRecursion (λ y. slice_cmp nat_cmp first y ≡ Less) (done ++ k ∷ more) → slice_cmp nat_cmp first k ≡ Less
below_later first [] k more h = h.0
below_later first (j ∷ done) k more h = below_later first done k more h.1

-- a field whose key is above those that are there goes to the end
pub put_last : (done : List (List ℕ × Doc)) (k : List ℕ) (d : Doc) (more : List (List ℕ)) → InOrder (keys_of done ++ k ∷ more) → with_pair k d done ≡ done ++ (k, d) ∷ []
unfolding IsStrictlySortedBy
put_last [] k d more order = refl
put_last (p ∷ done) k d more order =
    let above : slice_cmp nat_cmp k p.0 ≡ Greater = nat_list_cmp_total.antisymm k p.0 ∙ ap ordering_reverse (below_later p.0 (keys_of done) k more order.0) in
    ap (λ o. match_ordering o ((k, d) ∷ p ∷ done) ((p.0, d) ∷ done) (p ∷ with_pair k d done)) above ∙ ap (λ es. p ∷ es) (put_last done k d more order.1)

module _ (all left between : List Token) (taken : List (List ℕ × Doc)) (k : List ℕ) (far : PairsSoFar all taken left) (first : left ≡ token.key k ∷ between) where
  one_more : Member far.0.0 k between
  one_more = member far.0.0 left far.0.3.0 between k far.0.1 far.0.3.1 first

  pub AtDoc-behind : AtDoc between
  AtDoc-behind = AtDoc-from one_more.doc between _ one_more.valid one_more.is

  -- one field more was taken
  pub pairs-more : (after : List Token) (new : List (List ℕ × Doc)) (key : List ℕ) (d : Doc) → key ≡ k → between ≡ doc_tokens d ++ after → new ≡ with_pair key d taken → PairsSoFar all new after
  pairs-more after new key d same read put =
      let m = one_more in
      let order : InOrder (keys_of taken ++ k ∷ keys_of (pairs_list m.more)) = subst (λ qs. InOrder (keys_of taken ++ keys_of (pairs_list qs))) m.all far.0.2 in
      let pushed : new ≡ taken ++ (k, d) ∷ [] = put ∙ ap (λ s. with_pair s d taken) same ∙ put_last taken k d (keys_of (pairs_list m.more)) order in (
        (m.more, m.later, InOrder-more taken new k d (keys_of (pairs_list m.more)) order pushed, (m.rest, same_rest d m.doc after _ (sym read ∙ m.is))),
        pairs_front-more taken new k d all left between after far.1 first read pushed,
      )

-- a key is next, or the brace that closes the dict
pub pairs-going : (all left : List Token) (taken : List (List ℕ × Doc)) → PairsSoFar all taken left → read_key left ≡ None → ⊥
pairs-going all left taken far none = has_key far.0.0 left far.0.3.0 far.0.3.1 none

-- ---- a document

-- no document begins with the token
pub no_doc : (all left : List Token) (t : Token) → AtDoc all → all ≡ t ∷ left → begins_value t ≡ false → ⊥
no_doc all left t at first other = absurd (true≢false (sym (begins_value-first (first_doc all) t left at.1.0 (sym first ∙ at.1.1)) ∙ other))

number_of : (digits : List ℕ) (found : Option ℤ) (all left : List Token) → IsReadOf digits found → all ≡ token.number digits ∷ left → TookDoc (option_map whole found) all left
number_of digits None all left read first = read
number_of digits (Some z) all left read first = whole-token z digits left all read first

pub took_number : (digits : List ℕ) (found : Option ℤ) (seen : Option Doc) (all left : List Token) → AtDoc all → all ≡ token.number digits ∷ left → (IsWholeText digits → IsReadOf digits found) → seen ≡ option_map whole found → TookDoc seen all left
took_number digits found seen all left at first reads same =
    let text = IsWholeText-first (first_doc all) digits left at.1.0 at.0 (sym first ∙ at.1.1) in
    subst (λ o. TookDoc o all left) (sym same) (number_of digits found all left (reads text) first)

list_of : (found : Option (List Doc)) (all between left : List Token) → TookDocs found between left → all ≡ token.begin_array ∷ between → TookDoc (option_map (λ ds. list (docs_of ds)) found) all left
list_of None all between left took first = took
list_of (Some ds) all between left took first = first ∙ ap (λ ts. token.begin_array ∷ ts) took

pub took_list : (found : Option (List Doc)) (seen : Option Doc) (all between left : List Token) → AtDoc all → all ≡ token.begin_array ∷ between → (AtDocs between → TookDocs found between left) → seen ≡ option_map (λ ds. list (docs_of ds)) found → TookDoc seen all left
took_list found seen all between left at first takes same =
    let inner = AtDocs-behind (first_doc all) between at.1.0 at.0 (sym first ∙ at.1.1) in
    subst (λ o. TookDoc o all left) (sym same) (list_of found all between left (takes inner) first)

dict_of : (found : Option (List (List ℕ × Doc))) (all between left : List Token) → TookPairs found between left → all ≡ token.begin_object ∷ between → TookDoc (option_map (λ ps. dict (pairs_of ps)) found) all left
dict_of None all between left took first = took
dict_of (Some ps) all between left took first = first ∙ ap (λ ts. token.begin_object ∷ ts) took

pub took_dict : (found : Option (List (List ℕ × Doc))) (seen : Option Doc) (all between left : List Token) → AtDoc all → all ≡ token.begin_object ∷ between → (AtDict between → TookPairs found between left) → seen ≡ option_map (λ ps. dict (pairs_of ps)) found → TookDoc seen all left
took_dict found seen all between left at first takes same =
    let inner = AtDict-behind (first_doc all) between at.1.0 at.0 (sym first ∙ at.1.1) in
    subst (λ o. TookDoc o all left) (sym same) (dict_of found all between left (takes inner) first)
