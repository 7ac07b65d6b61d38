-- What the fields of a dict assign, one by one.
use Rattle.std.proofs.Common.{◌≡◌, ◌<◌, ◌+◌, ℕ, List, [], ◌∷◌, ◌++◌, map, length, take, drop, get_or, Greater, Option, Some, None, option_map, option_and_then, cond, refl, sym, ap, subst, ◌∙◌, append_assoc, append-nil}
use Rattle.std.proofs.lemmas.List.{drop_more, map-append, take-append-drop, take_more}
use Rattle.std.specs.Cmp.Lexicographic.{nat_list_cmp_total}
use Rattle.std.specs.FinMap as finite
use Rattle.std.specs.List.Sorted.{IsStrictlySortedBy}
use Rattle.std.specs.Map.{keys_of}
use Rattle.std.specs.Ordering.{is_eq, ordering_reverse}
use Rattle.doc_tree.specs.Doc.{Doc, words, pairs_of}
use Rattle.doc_tree.specs.Part.{with_pair}
use Rattle.doc_tree.specs.Text.{text_cmp, text_of}
use Rattle.doc_tree.specs.Tree.{doc_of, pair_of}
use Rattle.doc_tree.specs.Valid.{InOrder}
use Rattle.doc_tree.specs.declared.tree.Field.{Field}
use Rattle.org_shelves.specs.Shelved.{Assigned}
use Rattle.org_rows.specs.Bodies.{assigned_pair}
use Rattle.org_rows.specs.Reading.{texts_by_key}
use Rattle.shelves.proofs.ShelfLaws.{text_same}
use Rattle.row_reading.proofs.TokenLemmas.{below_later, put_last}

-- ---- reading

-- a key above others isn't among them
fresh : (es : List (List ℕ × List ℕ)) (k : List ℕ) (more : List (List ℕ)) → InOrder (keys_of es ++ k ∷ more) → finite.find text_cmp k es ≡ None
unfolding IsStrictlySortedBy
fresh [] k more order = refl
fresh (e ∷ es) k more order =
    let above : text_cmp k e.0 ≡ Greater = nat_list_cmp_total.antisymm k e.0 ∙ ap ordering_reverse (below_later e.0 (keys_of es) k more order.0) in
    ap (λ o. cond (is_eq o) (Some e.1) (finite.find text_cmp k es)) above ∙ fresh es k more order.1

-- what is assigned is what these texts say, and the whole dict says them and then what is left
pub record AssignedSoFar (fields : List Field) (i : ℕ) (assigned : Assigned) : Type 0 where
  pub texts : List (List ℕ × List ℕ)
  pub are : assigned ≡ finite.from_entries {R = text_cmp} texts
  pub order : InOrder (keys_of texts ++ keys_of (map pair_of (drop i fields)))
  pub whole : texts_by_key (pairs_of (map pair_of fields)) ≡ option_map (λ rest. texts ++ rest) (texts_by_key (pairs_of (map pair_of (drop i fields))))

pub assigned-init : (fields : List Field) (assigned : Assigned) → assigned ≡ finite.empty → InOrder (keys_of (map pair_of fields)) → AssignedSoFar fields 0 assigned
assigned-init fields assigned is order = record { texts = []; are = is; order = order; whole = unchanged (texts_by_key (pairs_of (map pair_of fields))) } where
  unchanged : (found : Option (List (List ℕ × List ℕ))) → found ≡ option_map (λ rest. [] ++ rest) found
  unchanged None = refl
  unchanged (Some rest) = refl

more-texts : (texts : List (List ℕ × List ℕ)) (e : List ℕ × List ℕ) (found : Option (List (List ℕ × List ℕ))) → option_map (λ rest. texts ++ rest) (option_map (λ rest. e ∷ rest) found) ≡ option_map (λ rest. (texts ++ e ∷ []) ++ rest) found
more-texts texts e None = refl
more-texts texts e (Some rest) = ap Some (sym (append_assoc texts (e ∷ []) rest))

-- the dict says of a field and those after it
said-here : (fields : List Field) (i : ℕ) (f : Field) → i < length fields → f ≡ get_or fields i f
    → texts_by_key (pairs_of (map pair_of (drop i fields))) ≡ option_and_then (λ text. option_map (λ texts. (f.key, text) ∷ texts) (texts_by_key (pairs_of (map pair_of (drop (i + 1) fields))))) (text_of (doc_of f.tree))
said-here fields i f within is =
    ap (λ fs. texts_by_key (pairs_of (map pair_of fs))) (drop_more fields i f within)
    ∙ ap (λ (g : Field). option_and_then (λ text. option_map (λ texts. (g.key, text) ∷ texts) (texts_by_key (pairs_of (map pair_of (drop (i + 1) fields))))) (text_of (doc_of g.tree))) (sym is)

-- one field more was read
pub assigned-more : (fields : List Field) (i : ℕ) (f : Field) (text : List ℕ) (assigned new : Assigned) → AssignedSoFar fields i assigned → i < length fields → f ≡ get_or fields i f → text_of (doc_of f.tree) ≡ Some text → new ≡ finite.insert assigned f.key text → AssignedSoFar fields (i + 1) new
assigned-more fields i f text assigned new far within is said put =
    let keys : keys_of (map pair_of (drop i fields)) ≡ f.key ∷ keys_of (map pair_of (drop (i + 1) fields)) = ap (λ fs. keys_of (map pair_of fs)) (drop_more fields i f within) ∙ ap (λ (g : Field). g.key ∷ keys_of (map pair_of (drop (i + 1) fields))) (sym is) in
    let order = subst (λ ks. InOrder (keys_of far.texts ++ ks)) keys far.order in
    let all : keys_of (far.texts ++ (f.key, text) ∷ []) ≡ keys_of far.texts ++ f.key ∷ [] = map-append (λ (e : List ℕ × List ℕ). e.0) far.texts ((f.key, text) ∷ []) in
    record {
      texts = far.texts ++ (f.key, text) ∷ [];
      are =
          put
          ∙ ap (λ a. finite.insert a f.key text) far.are
          ∙ sym (finite.from_entries_push nat_list_cmp_total text_same far.texts f.key text (fresh far.texts f.key (keys_of (map pair_of (drop (i + 1) fields))) order));
      order = subst (λ ks. InOrder ks) (sym (ap (λ ks. ks ++ keys_of (map pair_of (drop (i + 1) fields))) all ∙ append_assoc (keys_of far.texts) (f.key ∷ []) (keys_of (map pair_of (drop (i + 1) fields))))) order;
      whole =
          far.whole
          ∙ ap (option_map (λ rest. far.texts ++ rest)) (said-here fields i f within is ∙ ap (option_and_then (λ text. option_map (λ texts. (f.key, text) ∷ texts) (texts_by_key (pairs_of (map pair_of (drop (i + 1) fields)))))) said)
          ∙ more-texts far.texts (f.key, text) (texts_by_key (pairs_of (map pair_of (drop (i + 1) fields))));
    }

-- a field that is no text
pub assigned-none : (fields : List Field) (i : ℕ) (f : Field) (assigned : Assigned) → AssignedSoFar fields i assigned → i < length fields → f ≡ get_or fields i f → text_of (doc_of f.tree) ≡ None → texts_by_key (pairs_of (map pair_of fields)) ≡ None
assigned-none fields i f assigned far within is none =
    far.whole
    ∙ ap (option_map (λ rest. far.texts ++ rest)) (said-here fields i f within is ∙ ap (option_and_then (λ text. option_map (λ texts. (f.key, text) ∷ texts) (texts_by_key (pairs_of (map pair_of (drop (i + 1) fields)))))) none)

-- all fields were read
pub assigned-all : (fields : List Field) (i : ℕ) (assigned : Assigned) → AssignedSoFar fields i assigned → drop i fields ≡ [] → Some assigned ≡ option_map (λ texts. finite.from_entries {R = text_cmp} texts) (texts_by_key (pairs_of (map pair_of fields)))
assigned-all fields i assigned far end =
    let texts : texts_by_key (pairs_of (map pair_of fields)) ≡ Some far.texts =
    far.whole ∙ ap (λ fs. option_map (λ rest. far.texts ++ rest) (texts_by_key (pairs_of (map pair_of fs)))) end ∙ ap Some (append-nil far.texts) in
    ap Some far.are ∙ sym (ap (option_map (λ texts. finite.from_entries {R = text_cmp} texts)) texts)

-- ---- writing

same_keys : (es : List (List ℕ × List ℕ)) → keys_of (map assigned_pair es) ≡ keys_of es
same_keys [] = refl
same_keys (e ∷ es) = ap (λ ks. e.0 ∷ ks) (same_keys es)

-- the keys before one, and that one, rise
front_rise : (es : List (List ℕ × List ℕ)) (i : ℕ) (e : List ℕ × List ℕ) → i < length es → e ≡ get_or es i e → InOrder (keys_of es) → InOrder (keys_of (map assigned_pair (take i es)) ++ e.0 ∷ keys_of (drop (i + 1) es))
front_rise es i e within is order =
    let whole : keys_of es ≡ keys_of (map assigned_pair (take i es)) ++ e.0 ∷ keys_of (drop (i + 1) es) =
    ap (λ (fs : List (List ℕ × List ℕ)). keys_of fs) (sym (take-append-drop i es))
    ∙ map-append (λ (f : List ℕ × List ℕ). f.0) (take i es) (drop i es)
    ∙ ap (λ (fs : List (List ℕ × List ℕ)). keys_of (take i es) ++ keys_of fs) (drop_more es i e within)
    ∙ ap (λ (f : List ℕ × List ℕ). keys_of (take i es) ++ f.0 ∷ keys_of (drop (i + 1) es)) (sym is)
    ∙ ap (λ ks. ks ++ e.0 ∷ keys_of (drop (i + 1) es)) (sym (same_keys (take i es))) in
    subst (λ ks. InOrder ks) whole order

-- one assignment more was written
pub written-more : (es : List (List ℕ × List ℕ)) (i : ℕ) (e : List ℕ × List ℕ) (fields new : List (List ℕ × Doc)) → InOrder (keys_of es) → i < length es → e ≡ get_or es i e → fields ≡ map assigned_pair (take i es) → new ≡ with_pair e.0 (words e.1) fields
    → new ≡ map assigned_pair (take (i + 1) es)
written-more es i e fields new order within is so_far put =
    put
    ∙ ap (with_pair e.0 (words e.1)) so_far
    ∙ put_last (map assigned_pair (take i es)) e.0 (words e.1) (keys_of (drop (i + 1) es)) (front_rise es i e within is order)
    ∙ sym (map-append assigned_pair (take i es) (e ∷ []))
    ∙ ap (map assigned_pair) (ap (λ (f : List ℕ × List ℕ). take i es ++ f ∷ []) is ∙ sym (take_more es i e within))
