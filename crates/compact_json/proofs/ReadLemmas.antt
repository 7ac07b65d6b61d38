-- What was read of a list or a dict, and then what is left, is the whole.
use Rattle.std.proofs.Common.{◌≡◌, ℕ, List, [], ◌∷◌, ◌++◌, Less, nat_cmp, refl, sym, ap, ◌∙◌, subst, append_assoc, append-nil}
use Rattle.std.proofs.lemmas.List.{map-append}
use Rattle.std.specs.Cmp.Lexicographic.{slice_cmp}
use Rattle.std.specs.List.{AllByRecursion}
use Rattle.std.specs.List.Sorted.{IsStrictlySortedBy}
use Rattle.std.specs.Map.{keys_of}
use Rattle.json.specs.Token.{Token}
use Rattle.json.specs.Token as token
use Rattle.doc_tree.specs.Doc.{Doc, docs_of, pairs_of}
use Rattle.doc_tree.specs.Tokens.{doc_tokens, docs_tokens, pairs_tokens}
use Rattle.doc_tree.specs.Valid.{InOrder}

-- ---- the documents of a list

-- the tokens of a list's documents, before the bracket that closes it
abbrev pub docs_front : List Doc → List Token
docs_front [] = []
docs_front (d ∷ ds) = doc_tokens d ++ docs_front ds

docs_front-append : (ds : List Doc) (d : Doc) (r : List Token) → docs_front (ds ++ d ∷ []) ++ r ≡ docs_front ds ++ (doc_tokens d ++ r)
docs_front-append [] d r = ap (λ ts. ts ++ r) (append-nil (doc_tokens d))
docs_front-append (e ∷ ds) d r =
    append_assoc (doc_tokens e) (docs_front (ds ++ d ∷ [])) r
    ∙ ap (λ ts. doc_tokens e ++ ts) (docs_front-append ds d r)
    ∙ sym (append_assoc (doc_tokens e) (docs_front ds) (doc_tokens d ++ r))

-- one document more was read
pub docs_front-more : (ds new : List Doc) (d : Doc) (all ts after : List Token) → all ≡ docs_front ds ++ ts → ts ≡ doc_tokens d ++ after → new ≡ ds ++ d ∷ [] → all ≡ docs_front new ++ after
docs_front-more ds new d all ts after so_far read pushed =
    so_far ∙ ap (λ us. docs_front ds ++ us) read ∙ sym (docs_front-append ds d after) ∙ ap (λ es. docs_front es ++ after) (sym pushed)

docs_front-end : (ds : List Doc) (r : List Token) → docs_front ds ++ (token.end_array ∷ r) ≡ docs_tokens (docs_of ds) ++ r
docs_front-end [] r = refl
docs_front-end (d ∷ ds) r =
    append_assoc (doc_tokens d) (docs_front ds) (token.end_array ∷ r)
    ∙ ap (λ ts. doc_tokens d ++ ts) (docs_front-end ds r)
    ∙ sym (append_assoc (doc_tokens d) (docs_tokens (docs_of ds)) r)

-- the bracket was read
pub docs_read : (ds : List Doc) (all ts after : List Token) → all ≡ docs_front ds ++ ts → ts ≡ token.end_array ∷ after → all ≡ docs_tokens (docs_of ds) ++ after
docs_read ds all ts after so_far closed = so_far ∙ ap (λ us. docs_front ds ++ us) closed ∙ docs_front-end ds after

-- ---- the pairs of a dict

-- the tokens of a dict's pairs, before the brace that closes it
abbrev pub pairs_front : List (List ℕ × Doc) → List Token
pairs_front [] = []
pairs_front (p ∷ ps) = token.key p.0 ∷ (doc_tokens p.1 ++ pairs_front ps)

pairs_front-append : (ps : List (List ℕ × Doc)) (k : List ℕ) (d : Doc) (r : List Token) → pairs_front (ps ++ (k, d) ∷ []) ++ r ≡ pairs_front ps ++ (token.key k ∷ (doc_tokens d ++ r))
pairs_front-append [] k d r = ap (λ ts. token.key k ∷ (ts ++ r)) (append-nil (doc_tokens d))
pairs_front-append (p ∷ ps) k d r =
    ap (λ ts. token.key p.0 ∷ ts)
    (append_assoc (doc_tokens p.1) (pairs_front (ps ++ (k, d) ∷ [])) r
    ∙ ap (λ ts. doc_tokens p.1 ++ ts) (pairs_front-append ps k d r)
    ∙ sym (append_assoc (doc_tokens p.1) (pairs_front ps) (token.key k ∷ (doc_tokens d ++ r))))

-- one pair more was read
pub pairs_front-more : (ps new : List (List ℕ × Doc)) (k : List ℕ) (d : Doc) (all ts between after : List Token) → all ≡ pairs_front ps ++ ts → ts ≡ token.key k ∷ between → between ≡ doc_tokens d ++ after
    → new ≡ ps ++ (k, d) ∷ [] → all ≡ pairs_front new ++ after
pairs_front-more ps new k d all ts between after so_far first read pushed =
    so_far ∙ ap (λ us. pairs_front ps ++ us) (first ∙ ap (λ us. token.key k ∷ us) read) ∙ sym (pairs_front-append ps k d after) ∙ ap (λ qs. pairs_front qs ++ after) (sym pushed)

pairs_front-end : (ps : List (List ℕ × Doc)) (r : List Token) → pairs_front ps ++ (token.end_object ∷ r) ≡ pairs_tokens (pairs_of ps) ++ r
pairs_front-end [] r = refl
pairs_front-end (p ∷ ps) r =
    ap (λ ts. token.key p.0 ∷ ts)
    (append_assoc (doc_tokens p.1) (pairs_front ps) (token.end_object ∷ r)
    ∙ ap (λ ts. doc_tokens p.1 ++ ts) (pairs_front-end ps r)
    ∙ sym (append_assoc (doc_tokens p.1) (pairs_tokens (pairs_of ps)) r))

-- the brace was read
pub pairs_read : (ps : List (List ℕ × Doc)) (all ts after : List Token) → all ≡ pairs_front ps ++ ts → ts ≡ token.end_object ∷ after → all ≡ pairs_tokens (pairs_of ps) ++ after
pairs_read ps all ts after so_far closed = so_far ∙ ap (λ us. pairs_front ps ++ us) closed ∙ pairs_front-end ps after

-- ---- the order of the keys

all-front : (P : List ℕ → Type 0) (ks : List (List ℕ)) (k : List ℕ) (ls : List (List ℕ)) → AllByRecursion P (ks ++ k ∷ ls) → AllByRecursion P (ks ++ k ∷ [])
all-front P [] k ls all = (all.0, tt)
all-front P (j ∷ ks) k ls all = (all.0, all-front P ks k ls all.1)

-- the first keys are in order
pub InOrder-front : (ks : List (List ℕ)) (k : List ℕ) (ls : List (List ℕ)) → InOrder (ks ++ k ∷ ls) → InOrder (ks ++ k ∷ [])
unfolding IsStrictlySortedBy
InOrder-front [] k ls order = (tt, tt)
InOrder-front (j ∷ ks) k ls order = (all-front (λ l. slice_cmp nat_cmp j l ≡ Less) ks k ls order.0, InOrder-front ks k ls order.1)

-- the keys so far and those that are left are the same when one of these was read
pub InOrder-more : (ps new : List (List ℕ × Doc)) (k : List ℕ) (d : Doc) (ls : List (List ℕ)) → InOrder (keys_of ps ++ k ∷ ls) → new ≡ ps ++ (k, d) ∷ [] → InOrder (keys_of new ++ ls)
InOrder-more ps new k d ls order pushed =
    let keys : keys_of new ≡ keys_of ps ++ k ∷ [] = ap (λ qs. keys_of qs) pushed ∙ map-append (λ (p : List ℕ × Doc). p.0) ps ((k, d) ∷ []) in
    subst (λ (ks : List (List ℕ)). InOrder ks) (sym (ap (λ ks. ks ++ ls) keys ∙ append_assoc (keys_of ps) (k ∷ []) ls)) order
