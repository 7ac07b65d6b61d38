-- The titles of what is to be created, one by one.
use Rattle.std.proofs.Common.{◌≡◌, ◌<◌, ◌+◌, ℕ, Bool, true, false, ◌||◌, List, [], ◌∷◌, ◌++◌, map, length, take, get_or, refl, sym, ap, subst, ◌∙◌, bytes_eq, codes, cond, Some}
use Rattle.std.specs.List.{filter, filter_map, list_any}
use Rattle.std.specs.BTreeSet.{BTreeSet, contains}
use Rattle.std.specs.BTreeMap.{is_at}
use Rattle.std.specs.Cmp.Lexicographic.{slice_cmp, nat_list_eq_equiv}
use Rattle.std.proofs.lemmas.Map.Text.{is_eq-slice_cmp}
use Rattle.std.specs.Ordering.{nat_cmp}
use Rattle.std.proofs.lemmas.List.{take_more, map-append, append-nil}
use Rattle.std.proofs.lemmas.List.Elements.{filter-append, filter_map-append}
use Rattle.std.proofs.lemmas.Grind.{flat_map-append}
use Rattle.std.proofs.lemmas.List.Folds.{list_any-append}
use Rattle.doc_tree.specs.Doc.{Doc, Pairs}
use Rattle.resource_core.specs.Entries.{entry_of, is_to_create, created, created_by}
use Rattle.resource_core.specs.Titles.{Adds, HasTitles}
use Rattle.resource_core.specs.declared.entries.Entry.{Entry}

-- the resources that the entries among these documents are to create
abbrev pub resources_to_create : List Doc → List (List ℕ)
resources_to_create ds = map (λ (e : Entry). e.resource) (filter is_to_create (filter_map entry_of ds))

or-assoc : (a b c : Bool) → ((a || b) || c) ≡ (a || (b || c))
or-assoc true b c = refl
or-assoc false b c = refl

or-false : (a : Bool) → (a || false) ≡ a
or-false true = refl
or-false false = refl

-- nothing is added
pub adds_none : (set : BTreeSet (List ℕ)) → Adds [] set set
adds_none set text = sym (or-false (contains (slice_cmp nat_cmp) set text))

-- these are added, and then those
pub adds_then : (xs ys : List (List ℕ)) (old mid new : BTreeSet (List ℕ)) → Adds xs old mid → Adds ys mid new → Adds (xs ++ ys) old new
adds_then xs ys old mid new first second text =
    second text ∙ ap (λ b. b || list_any (bytes_eq text) ys) (first text)
    ∙ or-assoc (contains (slice_cmp nat_cmp) old text) (list_any (bytes_eq text) xs) (list_any (bytes_eq text) ys)
    ∙ ap (λ b. contains (slice_cmp nat_cmp) old text || b) (sym (list_any-append (bytes_eq text) xs ys))

pub resources_to_create-append : (ds es : List Doc) → resources_to_create (ds ++ es) ≡ resources_to_create ds ++ resources_to_create es
resources_to_create-append ds es =
    ap (λ xs. map (λ (e : Entry). e.resource) (filter is_to_create xs)) (filter_map-append entry_of ds es)
    ∙ ap (map (λ (e : Entry). e.resource)) (filter-append is_to_create (filter_map entry_of ds) (filter_map entry_of es))
    ∙ map-append (λ (e : Entry). e.resource) (filter is_to_create (filter_map entry_of ds)) (filter is_to_create (filter_map entry_of es))

-- one more document's
pub adds_more : {C : Type 0} (view : C → Doc) (cs : List C) (i : ℕ) (c : C) (old mid new : BTreeSet (List ℕ)) → i < length cs → c ≡ get_or cs i c
    → Adds (resources_to_create (map view (take i cs))) old mid → Adds (resources_to_create (view c ∷ [])) mid new → Adds (resources_to_create (map view (take (i + 1) cs))) old new
adds_more view cs i c old mid new within is before one =
    let whole : map view (take (i + 1) cs) ≡ map view (take i cs) ++ view c ∷ [] =
    ap (map view) (take_more cs i c within) ∙ map-append view (take i cs) (get_or cs i c ∷ []) ∙ ap (λ x. map view (take i cs) ++ view x ∷ []) (sym is) in
    subst (λ xs. Adds xs old new) (sym (ap resources_to_create whole ∙ resources_to_create-append (map view (take i cs)) (view c ∷ [])))
    (adds_then (resources_to_create (map view (take i cs))) (resources_to_create (view c ∷ [])) old mid new before one)

-- a set that holds nothing
pub has_none : (set : BTreeSet (List ℕ)) → ((text : List ℕ) → contains (slice_cmp nat_cmp) set text ≡ false) → HasTitles [] set
has_none set empty text = empty text

-- one more resource's
pub has_more : {C : Type 0} (view : C → Pairs) (cs : List C) (i : ℕ) (c : C) (mid new : BTreeSet (List ℕ)) → i < length cs → c ≡ get_or cs i c
    → HasTitles (created (map view (take i cs))) mid → Adds (created_by (view c)) mid new → HasTitles (created (map view (take (i + 1) cs))) new
has_more view cs i c mid new within is before one text =
    let whole : map view (take (i + 1) cs) ≡ map view (take i cs) ++ view c ∷ [] =
    ap (map view) (take_more cs i c within) ∙ map-append view (take i cs) (get_or cs i c ∷ []) ∙ ap (λ x. map view (take i cs) ++ view x ∷ []) (sym is) in
    one text ∙ ap (λ b. b || list_any (bytes_eq text) (created_by (view c))) (before text)
    ∙ sym (list_any-append (bytes_eq text) (created (map view (take i cs))) (created_by (view c)))
    ∙ ap (list_any (bytes_eq text)) (sym (ap created whole ∙ flat_map-append created_by (map view (take i cs)) (view c ∷ []) ∙ ap (λ xs. created (map view (take i cs)) ++ xs) (append-nil (created_by (view c)))))

-- an entry that is to create
pub one_created : (d : Doc) (e : Entry) → entry_of d ≡ Some e → bytes_eq e.action (codes "create") ≡ true → resources_to_create (d ∷ []) ≡ e.resource ∷ []
one_created d e is creates = rw (is, creates) refl

-- one title is added
pub adds_one : (old new : BTreeSet (List ℕ)) (key title : List ℕ) → key ≡ title → ((q : List ℕ) → contains (slice_cmp nat_cmp) new q ≡ cond (is_at (slice_cmp nat_cmp key) q) true (contains (slice_cmp nat_cmp) old q)) → Adds (title ∷ []) old new
adds_one old new key title same updates text =
    updates text
    ∙ ap (λ b. cond b true (contains (slice_cmp nat_cmp) old text)) (is_eq-slice_cmp key text ∙ nat_list_eq_equiv.symm key text ∙ ap (bytes_eq text) same)
    ∙ either (bytes_eq text title) (contains (slice_cmp nat_cmp) old text)
  where
    either : (a b : Bool) → cond a true b ≡ (b || (a || false))
    either true true = refl
    either true false = refl
    either false true = refl
    either false false = refl
