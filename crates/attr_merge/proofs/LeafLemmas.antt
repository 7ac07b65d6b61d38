-- What is decided at a path and below it, where the highest value is a scalar, an array or a dict.
use Rattle.std.proofs.Common.{◌≡◌, ◌≤◌, ℕ, List, [], ◌∷◌, ◌++◌, length, Bool, true, if◌then◌else◌, Option, Some, None, option_and_then, Result, Ok, Err, IfOk, ◌⊎◌, inl, inr, refl, sym, ap, subst, ◌∙◌, arith}
use Rattle.std.specs.Cmp.Lexicographic.{nat_list_eq_equiv}
use Rattle.doc_tree.specs.Doc.{Doc, null, boolean, whole, words, list, dict, Docs, Pairs, no_pairs, pairs_of}
use Rattle.doc_tree.specs.Part.{at, part_at, pair_at}
use Rattle.doc_tree.specs.Tree.{doc_of}
use Rattle.doc_tree.specs.declared.tree.Tree.{Tree}
use Rattle.doc_tree.specs.declared.tree.Tree.TheVariants as tree
use Rattle.attr_merge.specs.Children.{AreValues}
use Rattle.attr_merge.specs.Effective.{Below, Decides, DecidesTop, IsEffective, NothingBelow, SomethingBelow}
use Rattle.attr_merge.specs.Families.{joined, counting_below, positions}
use Rattle.attr_merge.specs.Merge.{AreEffective}
use Rattle.attr_merge.specs.Merged.{origin_at}
use Rattle.attr_merge.specs.Pieces.{Piece, seen, with_value, is_plain}

-- what holds of each outcome holds of what follows from it
pub ok-both : {T E : Type 0} {P Q R : T → Type 0} (r : Result T E) → IfOk r P → IfOk r Q → ((x : T) → P x → Q x → R x) → IfOk r R
ok-both (Ok x) p q step = step x p q
ok-both (Err e) p q step = tt

pub ok-one : {T E : Type 0} {P R : T → Type 0} (r : Result T E) → IfOk r P → ((x : T) → P x → R x) → IfOk r R
ok-one (Ok x) p step = step x p
ok-one (Err e) p step = tt

-- ---- below a value that is neither a dict nor null nothing is seen

plain-hides : (top : Piece) (rest : List Piece) (k : List ℕ) (p : List (List ℕ)) → is_plain top.document ≡ true → seen (k ∷ p) (top ∷ rest) ≡ []
plain-hides top rest k p plain = by_document top.document plain
  where
    by_document : (d : Doc) → is_plain d ≡ true → seen (k ∷ p) (record { position = top.position; level = top.level; document = d } ∷ rest) ≡ []
    by_document null h = cc
    by_document (boolean b) h = refl
    by_document (whole z) h = refl
    by_document (words s) h = refl
    by_document (list ds) h = refl
    by_document (dict ps) h = cc

-- ---- a leaf

-- a document without parts has nothing at a path
no_part : (d : Doc) (k : List ℕ) (p : List (List ℕ)) → part_at k d ≡ None → at (k ∷ p) d ≡ None
no_part d k p none = ap (option_and_then (at p)) none

pub leaf-effective : (cs : List Piece) (top : Piece) (rest : List Piece) (d : Doc) (origin : List ℕ) (leaves : List (List (List ℕ) × List ℕ))
    → cs ≡ top ∷ rest → AreValues cs → is_plain top.document ≡ true → ((k : List ℕ) → part_at k d ≡ None) → leaves ≡ ([], origin) ∷ []
    → ((below : Below) → DecidesTop top.document top rest below (Some d) (Some origin))
    → (path : List (List ℕ)) → IsEffective cs path (at path d) (origin_at path leaves)
leaf-effective cs top rest d origin leaves is values plain parts leaf decides [] =
    let P : List Piece → Type 0 = λ vs. Decides vs (λ key more. seen (key ∷ more) cs) (Some d) (origin_at [] leaves) in
    let Q : List (List (List ℕ) × List ℕ) → Type 0 = λ ls. Decides (top ∷ rest) (λ key more. seen (key ∷ more) cs) (Some d) (origin_at [] ls) in
    subst P (sym (values ∙ is)) (subst Q (sym leaf) (decides _))
leaf-effective cs top rest d origin leaves is values plain parts leaf decides (k ∷ p) =
    let nothing : seen (k ∷ p) cs ≡ [] = ap (seen (k ∷ p)) is ∙ plain-hides top rest k p plain in
    let P : List Piece → Type 0 = λ vs. Decides vs (λ key more. seen (k ∷ p ++ key ∷ more) cs) (at (k ∷ p) d) (origin_at (k ∷ p) leaves) in
    subst P (sym nothing) (no_part d k p (parts k), ap (origin_at (k ∷ p)) leaf)

-- ---- a scalar

seen-length : (cs : List Piece) → length (seen [] cs) ≤ length cs
seen-length [] = omega arith
seen-length (c ∷ cs) = let rest = seen-length cs in by_document c.document rest
  where
    by_document : (d : Doc) → length (seen [] cs) ≤ length cs → length (with_value c (Some d) (seen [] cs)) ≤ length (c ∷ cs)
    by_document null h = omega arith
    by_document (boolean b) h = omega arith
    by_document (whole z) h = omega arith
    by_document (words s) h = omega arith
    by_document (list ds) h = omega arith
    by_document (dict ps) h = omega arith

-- the first of values isn't null
not-null : (top : Piece) (rest : List Piece) → AreValues (top ∷ rest) → top.document ≡ null → ⊥
not-null top rest values is =
    let shorter : seen [] rest ≡ top ∷ rest = ap (λ (d : Doc). with_value top (Some d) (seen [] rest)) (sym is) ∙ values in
    let lengths = ap (λ (cs : List Piece). length cs) shorter in
    let bound = seen-length rest in
    omega (arith, lengths, bound)

pub scalar-effective : (cs : List Piece) (top : Piece) (rest : List Piece) (t : Tree) (leaves : List (List (List ℕ) × List ℕ))
    → cs ≡ top ∷ rest → AreValues cs → top.document ≡ doc_of t → ((ds : List Doc) → t ≡ tree.List ds → ⊥) → ((ps : List (List ℕ × Doc)) → t ≡ tree.Dict ps → ⊥)
    → leaves ≡ ([], top.position ∷ []) ∷ []
    → (path : List (List ℕ)) → IsEffective cs path (at path (doc_of t)) (origin_at path leaves)
scalar-effective cs top rest tree.Null leaves is values document no_list no_dict leaf = absurd (not-null top rest (subst AreValues is values) document)
scalar-effective cs top rest (tree.Bool b) leaves is values document no_list no_dict leaf =
    leaf-effective cs top rest (boolean b) (top.position ∷ []) leaves is values (ap is_plain document) (λ k. refl) leaf
    (λ below. subst (λ (d : Doc). DecidesTop d top rest below (Some (boolean b)) (Some (top.position ∷ []))) (sym document) (refl, refl))
scalar-effective cs top rest (tree.Whole z) leaves is values document no_list no_dict leaf =
    leaf-effective cs top rest (whole z) (top.position ∷ []) leaves is values (ap is_plain document) (λ k. refl) leaf
    (λ below. subst (λ (d : Doc). DecidesTop d top rest below (Some (whole z)) (Some (top.position ∷ []))) (sym document) (refl, refl))
scalar-effective cs top rest (tree.Words s) leaves is values document no_list no_dict leaf =
    leaf-effective cs top rest (words s) (top.position ∷ []) leaves is values (ap is_plain document) (λ k. refl) leaf
    (λ below. subst (λ (d : Doc). DecidesTop d top rest below (Some (words s)) (Some (top.position ∷ []))) (sym document) (refl, refl))
scalar-effective cs top rest (tree.List ds) leaves is values document no_list no_dict leaf = absurd (no_list ds refl)
scalar-effective cs top rest (tree.Dict ps) leaves is values document no_list no_dict leaf = absurd (no_dict ps refl)

-- ---- an array

joined-parts : (top : Piece) (ds : Docs) (more : List Piece) (k : List ℕ) → top.document ≡ list ds → part_at k (joined top more) ≡ None
joined-parts top ds [] k document = ap (part_at k) document
joined-parts top ds (next ∷ more) k document = refl

pub array-effective : (cs : List Piece) (top : Piece) (rest : List Piece) (ds : Docs) (d : Doc) (leaves : List (List (List ℕ) × List ℕ))
    → cs ≡ top ∷ rest → AreValues cs → top.document ≡ list ds → d ≡ joined top (counting_below top rest)
    → leaves ≡ ([], positions (top ∷ counting_below top rest)) ∷ []
    → (path : List (List ℕ)) → IsEffective cs path (at path d) (origin_at path leaves)
array-effective cs top rest ds d leaves is values document value leaf =
    leaf-effective cs top rest d (positions (top ∷ counting_below top rest)) leaves is values (ap is_plain document)
    (λ k. ap (part_at k) value ∙ joined-parts top ds (counting_below top rest) k document) leaf
    (λ below. subst (λ (e : Doc). DecidesTop e top rest below (Some d) (Some (positions (top ∷ counting_below top rest)))) (sym document) (ap Some value, refl))

-- ---- a dict

seen-or-not : (vs : List Piece) → (vs ≡ []) ⊎ (vs ≡ [] → ⊥)
seen-or-not [] = inl refl
seen-or-not (v ∷ vs) = inr (λ (h : v ∷ vs ≡ []). cc)

-- where it is not so that something is seen below, nothing is
nothing-below : (below : Below) → (SomethingBelow below → ⊥) → NothingBelow below
nothing-below below none key path = elim (seen-or-not (below key path)) [ inl h ↦ h | inr h ↦ absurd (none (key, path, h)) ]

some-none : (d : Doc) → None ≡ Some d → ⊥
some-none d h = cc

-- a value that decides nothing isn't there
pub none-decided : (vs : List Piece) (below : Below) (origin : Option (List ℕ)) → Decides vs below None origin → vs ≡ []
none-decided [] below origin h = refl
none-decided (top ∷ rest) below origin h = absurd (by_document top.document h)
  where
    by_document : (d : Doc) → DecidesTop d top rest below None origin → ⊥
    by_document null h = some-none null h.0
    by_document (boolean b) h = some-none (boolean b) h.0
    by_document (whole z) h = some-none (whole z) h.0
    by_document (words s) h = some-none (words s) h.0
    by_document (list ds) h = some-none (joined top (counting_below top rest)) h.0
    by_document (dict ps) h =
        let no_leaf : NothingBelow below → ⊥ = λ (n : NothingBelow below). some-none (dict no_pairs) (h.0 n).0 in
        let no_dict : SomethingBelow below → ⊥ = λ (s : SomethingBelow below). some-none (dict (h.1 s).0.0) (h.1 s).0.1 in
        no_leaf (nothing-below below no_dict)

-- nothing is seen below where the dict of what is merged there is empty
empty-below : (cs : List Piece) (leaves : List (List (List ℕ) × List ℕ)) → AreEffective cs (dict no_pairs) leaves → NothingBelow (λ key more. seen (key ∷ more) cs)
empty-below cs leaves all key path = none-decided (seen (key ∷ path) cs) (λ k more. seen (key ∷ path ++ k ∷ more) cs) (origin_at (key ∷ path) leaves) (all key path)

-- something is seen below where it isn't
some-below : (cs : List Piece) (f : List ℕ × Doc) (fs : List (List ℕ × Doc)) (leaves : List (List (List ℕ) × List ℕ)) → AreEffective cs (dict (pairs_of (f ∷ fs))) leaves
    → NothingBelow (λ key more. seen (key ∷ more) cs) → ⊥
some-below cs f fs leaves all nothing =
    let P : List Piece → Type 0 = λ vs. Decides vs (λ k more. seen (f.0 ∷ k ∷ more) cs) (at (f.0 ∷ []) (dict (pairs_of (f ∷ fs)))) (origin_at (f.0 ∷ []) leaves) in
    let decided : P [] = subst P (nothing f.0 []) (all f.0 []) in
    let here : at (f.0 ∷ []) (dict (pairs_of (f ∷ fs))) ≡ Some f.1 = ap (λ (b : Bool). option_and_then (at []) (if b then Some f.1 else pair_at f.0 (pairs_of fs))) (nat_list_eq_equiv.refl f.0) in
    some-none f.1 (sym decided.0 ∙ here)

empty-effective : (cs : List Piece) (top : Piece) (rest : List Piece) (ps : Pairs) (below_leaves : List (List (List ℕ) × List ℕ)) (d : Doc) (leaves : List (List (List ℕ) × List ℕ))
    → cs ≡ top ∷ rest → AreValues cs → top.document ≡ dict ps → AreEffective cs (dict no_pairs) below_leaves
    → d ≡ dict no_pairs → leaves ≡ ([], top.position ∷ []) ∷ []
    → (path : List (List ℕ)) → IsEffective cs path (at path d) (origin_at path leaves)
empty-effective cs top rest ps below_leaves d leaves is values document all value leaf [] =
    let below : Below = λ key more. seen (key ∷ more) cs in
    let P : List Piece → Type 0 = λ vs. Decides vs below (Some d) (origin_at [] leaves) in
    let R : Doc → Type 0 = λ e. DecidesTop e top rest below (Some d) (origin_at [] leaves) in
    let decided : R (dict ps) = (λ n. (ap Some value, ap (origin_at []) leaf), λ s. absurd (s.2 (empty-below cs below_leaves all s.0 s.1))) in
    subst P (sym (values ∙ is)) (subst R (sym document) decided)
empty-effective cs top rest ps below_leaves d leaves is values document all value leaf (k ∷ p) =
    let P : List Piece → Type 0 = λ vs. Decides vs (λ key more. seen (k ∷ p ++ key ∷ more) cs) (at (k ∷ p) d) (origin_at (k ∷ p) leaves) in
    subst P (sym (empty-below cs below_leaves all k p)) (ap (at (k ∷ p)) value, ap (origin_at (k ∷ p)) leaf)

filled-effective : (cs : List Piece) (top : Piece) (rest : List Piece) (ps : Pairs) (f : List ℕ × Doc) (fs : List (List ℕ × Doc)) (d : Doc) (leaves : List (List (List ℕ) × List ℕ))
    → cs ≡ top ∷ rest → AreValues cs → top.document ≡ dict ps → origin_at [] leaves ≡ None → AreEffective cs (dict (pairs_of (f ∷ fs))) leaves
    → d ≡ dict (pairs_of (f ∷ fs))
    → (path : List (List ℕ)) → IsEffective cs path (at path d) (origin_at path leaves)
filled-effective cs top rest ps f fs d leaves is values document root all value [] =
    let below : Below = λ key more. seen (key ∷ more) cs in
    let P : List Piece → Type 0 = λ vs. Decides vs below (Some d) (origin_at [] leaves) in
    let R : Doc → Type 0 = λ e. DecidesTop e top rest below (Some d) (origin_at [] leaves) in
    let decided : R (dict ps) = (λ n. absurd (some-below cs f fs leaves all n), λ s. ((pairs_of (f ∷ fs), ap Some value), root)) in
    subst P (sym (values ∙ is)) (subst R (sym document) decided)
filled-effective cs top rest ps f fs d leaves is values document root all value (k ∷ p) =
    subst (λ (e : Doc). IsEffective cs (k ∷ p) (at (k ∷ p) e) (origin_at (k ∷ p) leaves)) (sym value) (all k p)

pub dict-effective : (cs : List Piece) (top : Piece) (rest : List Piece) (ps : Pairs) (fields : List (List ℕ × Doc)) (below_leaves : List (List (List ℕ) × List ℕ)) (d : Doc) (leaves : List (List (List ℕ) × List ℕ))
    → cs ≡ top ∷ rest → AreValues cs → top.document ≡ dict ps → origin_at [] below_leaves ≡ None → AreEffective cs (dict (pairs_of fields)) below_leaves
    → ((fields ≡ [] → ⊥) → (d ≡ dict (pairs_of fields)) × (leaves ≡ below_leaves))
    → (fields ≡ [] → (d ≡ dict no_pairs) × (leaves ≡ ([], top.position ∷ []) ∷ []))
    → (path : List (List ℕ)) → IsEffective cs path (at path d) (origin_at path leaves)
dict-effective cs top rest ps [] below_leaves d leaves is values document root all some none =
    empty-effective cs top rest ps below_leaves d leaves is values document all (none refl).0 (none refl).1
dict-effective cs top rest ps (f ∷ fs) below_leaves d leaves is values document root all some none =
    let filled = some (λ (h : f ∷ fs ≡ []). cc) in
    filled-effective cs top rest ps f fs d leaves is values document (ap (origin_at []) filled.1 ∙ root)
    (subst (λ (ls : List (List (List ℕ) × List ℕ)). AreEffective cs (dict (pairs_of (f ∷ fs))) ls) (sym filled.1) all) filled.0
