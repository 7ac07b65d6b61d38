-- Something is seen at a path exactly where a leaf lies at it or below it.
use Rattle.std.proofs.Common.{◌≡◌, ◌<◌, ◌≤◌, ◌+◌, ℕ, zero, suc, List, [], ◌∷◌, ◌++◌, length, Some, None, inl, inr, refl, sym, ap, subst, ◌∙◌, arith}
use Rattle.std.proofs.lemmas.List.{append-nil}
use Rattle.doc_tree.specs.Doc.{Doc, null, boolean, whole, words, list, dict, no_pairs}
use Rattle.attr_merge.specs.Children.{children, pieces_depth}
use Rattle.attr_merge.specs.Effective.{Below, Decides, DecidesTop, NothingBelow}
use Rattle.attr_merge.specs.Families.{counting_below, joined, positions}
use Rattle.attr_merge.specs.Laws.{IsLeafAt, LeavesShowWhatIsBelow}
use Rattle.attr_merge.specs.Pieces.{Piece, seen}
use Rattle.attr_merge.proofs.SeenLemmas.{seen-children, children-less}

-- ---- nothing is seen at a path longer than what is there is deep

seen-none : (p : List (List ℕ)) → seen p [] ≡ []
seen-none p = refl

past-depth : (p : List (List ℕ)) (cs : List Piece) → pieces_depth cs < length p → seen p cs ≡ []
past-depth [] cs h = absurd (omega arith)
past-depth (k ∷ p) cs h =
    seen-children k p cs
    ∙ elim (children-less k cs) [ inl none ↦ ap (seen p) none | inr less ↦ past-depth p (children k cs) (omega (arith, less, h)) ]

-- ---- what decides a path is a leaf there, or a dict with something below

decided : (vs : List Piece) (below : Below) → ((value : Doc) (origin : List ℕ) → Decides vs below (Some value) (Some origin) → ⊥) → NothingBelow below → vs ≡ []
decided [] below no_leaf nothing = refl
decided (top ∷ rest) below no_leaf nothing = absurd (by_document top.document no_leaf)
  where
    by_document : (d : Doc) → ((value : Doc) (origin : List ℕ) → DecidesTop d top rest below (Some value) (Some origin) → ⊥) → ⊥
    by_document null none_of = none_of null (top.position ∷ []) (refl, refl)
    by_document (boolean b) none_of = none_of (boolean b) (top.position ∷ []) (refl, refl)
    by_document (whole z) none_of = none_of (whole z) (top.position ∷ []) (refl, refl)
    by_document (words s) none_of = none_of (words s) (top.position ∷ []) (refl, refl)
    by_document (list ds) none_of = none_of (joined top (counting_below top rest)) (positions (top ∷ counting_below top rest)) (refl, refl)
    by_document (dict ps) none_of = none_of (dict no_pairs) (top.position ∷ []) ((λ n. (refl, refl)), (λ s. absurd (s.2 (nothing s.0 s.1))))

longer : (p q : List (List ℕ)) (key : List ℕ) → suc (length p) ≤ length (p ++ key ∷ q)
longer [] q key = omega arith
longer (k ∷ p) q key = let rest = longer p q key in omega (arith, rest)

further : (p q r : List (List ℕ)) (key : List ℕ) → (p ++ key ∷ q) ++ r ≡ p ++ key ∷ (q ++ r)
further [] q r key = refl
further (k ∷ p) q r key = ap (λ (l : List (List ℕ)). k ∷ l) (further p q r key)

-- where no leaf lies at a path or below it, nothing is seen at it
shown : (n : ℕ) (cs : List Piece) (p : List (List ℕ)) → pieces_depth cs < n + length p
    → ((q : List (List ℕ)) (value : Doc) (origin : List ℕ) → IsLeafAt cs (p ++ q) value origin → ⊥) → seen p cs ≡ []
shown zero cs p deep no_leaf = past-depth p cs (omega arith)
shown (suc n) cs p deep no_leaf =
    decided (seen p cs) (λ key more. seen (p ++ key ∷ more) cs)
    (λ value origin leaf. no_leaf [] value origin (subst (λ (l : List (List ℕ)). IsLeafAt cs l value origin) (sym (append-nil p)) leaf))
    (λ key more.
    let far = longer p more key in
    shown n cs (p ++ key ∷ more) (omega (arith, far, deep))
    (λ q value origin leaf. no_leaf (key ∷ (more ++ q)) value origin (subst (λ (l : List (List ℕ)). IsLeafAt cs l value origin) (further p more q key) leaf)))

none-leaf : (vs : List Piece) (below : Below) (value : Doc) (origin : List ℕ) → vs ≡ [] → Decides vs below (Some value) (Some origin) → ⊥
none-leaf vs below value origin is leaf =
    let P : List Piece → Type 0 = λ us. Decides us below (Some value) (Some origin) in
    let nothing : P [] = subst P is leaf in
    not_some nothing.0
  where
    not_some : Some value ≡ None → ⊥
    not_some h = cc

pub leaves-show-what-is-below : LeavesShowWhatIsBelow
leaves-show-what-is-below cs p = (
  (λ nothing key more value origin leaf. none-leaf (seen (p ++ key ∷ more) cs) (λ k m. seen ((p ++ key ∷ more) ++ k ∷ m) cs) value origin (nothing key more) leaf),
  (λ no_leaf key more.
      shown (suc (pieces_depth cs)) cs (p ++ key ∷ more) (omega arith)
      (λ q value origin leaf. no_leaf key (more ++ q) value origin (subst (λ (l : List (List ℕ)). IsLeafAt cs l value origin) (further p more q key) leaf))),
)
