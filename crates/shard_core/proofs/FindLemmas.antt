-- What the index finds is what is found by a look at each object.
use Rattle.std.proofs.Common.{◌≡◌, ◌∙◌, ◌↔◌, ◌&&◌, ◌||◌, ℕ, Bool, true, false, cond, List, [], ◌∷◌, Option, Some, None, IsTrue, arith, bytes_eq, is_some, option_map, unwrap_or, ap, refl, subst, sym, Result, Ok, Err, IfOk}
use Rattle.std.specs.Cmp.Lexicographic.{slice_cmp}
use Rattle.std.specs.FinMap as finite
use Rattle.std.specs.List.{cons_option, filter_map, list_any}
use Rattle.std.specs.Ordering.{nat_cmp}
use Rattle.std.proofs.lemmas.Bool.{false≢true}
use Rattle.std.proofs.lemmas.List.Kept.{IsStrictlySortedBy-filter}
use Rattle.doc_tree.proofs.Maps.{bytes_eq-symm, eq_by_cmp-text}
use Rattle.doc_tree.specs.Doc.{Doc}
use Rattle.doc_tree.specs.Valid.{InOrder}
use Rattle.doc_tree.specs.declared.kind.Kind.{Kind}
use Rattle.doc_tree.specs.declared.kind.Kind.TheVariants as kind
use Rattle.doc_tree.specs.declared.no_memory.NoMemory.{NoMemory}
use Rattle.object_finder.proofs.LawLemmas.{meeting_told}
use Rattle.object_finder.specs.Exact.{HoldsExactly, IsExact}
use Rattle.object_finder.specs.Found.{finds, found_in, is_found}
use Rattle.object_finder.specs.Indexes.{found_by, index_of, is_plain, key_in, kind_of, names_of, object_at}
use Rattle.object_finder.specs.Looks.{Looked}
use Rattle.object_finder.specs.Meeting.{meets}
use Rattle.object_finder.specs.declared.indexes.Index.{Index}
use Rattle.object_finder.specs.declared.indexes.Index.TheVariants.{Nodes, Roles, Environments, Clients, Bag}
use Rattle.object_store.proofs.ItemsLemmas.{names_item, names_no_item, rests-order}
use Rattle.object_store.proofs.ListingLemmas.{same_in_order}
use Rattle.object_store.proofs.NamesLemmas.{names_in-has, names_in-order}
use Rattle.object_store.specs.Items.{behind_front, item_front, item_name}
use Rattle.object_store.specs.Keys.{key_cmp}
use Rattle.object_store.specs.Objects.{Objects, names_in}
use Rattle.query_text.specs.Query.{Ors}
use Rattle.search_index.proofs.CallerLemmas.{listed_member}
use Rattle.search_index.specs.Arena.{ArePairs, Contents, HasObject}
use Rattle.search_index.specs.Names.{lists_name}
use Rattle.search_index.specs.declared.scope.Scope.{Scope}
use Rattle.search_query.specs.Matching.{Meets}
use Rattle.search_query.specs.Pair.{Pair, lists}
use Rattle.search_query.specs.Pairs.{pairs_of}
use Rattle.shard_core.specs.Holding.{held_of, is_posted, is_there, nothing, scope_of}
use Rattle.shard_core.proofs.HoldingLemmas.{posted_told, there_told}
use Rattle.shard_core.proofs.SlotLemmas.{any_filtered, itself_told, never_told, one_test}

-- ---- the names of an index

id_by : (bag id name : List ℕ) (names : List (List ℕ)) (rest : Option (List ℕ)) → behind_front (item_front bag) name ≡ rest
    → list_any (bytes_eq id) (filter_map (behind_front (item_front bag)) names) ≡ list_any (bytes_eq (item_name bag id)) names
    → list_any (bytes_eq id) (cons_option rest (filter_map (behind_front (item_front bag)) names)) ≡ (bytes_eq (item_name bag id) name || list_any (bytes_eq (item_name bag id)) names)
id_by bag id name names None is more = more ∙ ap (λ b. b || list_any (bytes_eq (item_name bag id)) names) (sym (names_no_item bag name id is))
id_by bag id name names (Some rest) is more =
    ap (λ b. bytes_eq id rest || b) more
    ∙ ap (λ b. b || list_any (bytes_eq (item_name bag id)) names) (bytes_eq-symm id rest ∙ names_item bag name id rest is)

-- an id is among those of a bag where the name of its item is among all
ids_has : (bag id : List ℕ) (names : List (List ℕ)) → list_any (bytes_eq id) (filter_map (behind_front (item_front bag)) names) ≡ list_any (bytes_eq (item_name bag id)) names
ids_has bag id [] = refl
ids_has bag id (name ∷ names) = id_by bag id name names (behind_front (item_front bag) name) refl (ids_has bag id names)

-- a name is among those of an index where its object is there
names_has : (index : Index) (objects : Objects) (name : List ℕ) → list_any (bytes_eq name) (names_of index objects) ≡ is_some (object_at index objects name)
names_has Nodes objects name = names_in-has kind.Node name objects
names_has Roles objects name = names_in-has kind.Role name objects
names_has Environments objects name = names_in-has kind.Environment name objects
names_has Clients objects name = names_in-has kind.Client name objects
names_has (Bag bag) objects name = ids_has bag name (names_in kind.Item objects) ∙ names_in-has kind.Item (item_name bag name) objects

-- they are in order
names_order : (index : Index) (objects : Objects) → InOrder (names_of index objects)
names_order Nodes objects = names_in-order kind.Node objects
names_order Roles objects = names_in-order kind.Role objects
names_order Environments objects = names_in-order kind.Environment objects
names_order Clients objects = names_in-order kind.Client objects
names_order (Bag bag) objects = rests-order (item_front bag) (names_in kind.Item objects) (names_in-order kind.Item objects)

-- ---- what is found

there_and_found : (query : Ors) (kind : Kind) (object : Option Doc) → (is_some object && finds query kind object) ≡ finds query kind object
there_and_found query kind None = refl
there_and_found query kind (Some object) = refl

-- a name is found where its object is there and meets the query
found_has : (index : Index) (query : Ors) (objects : Objects) (name : List ℕ) → list_any (bytes_eq name) (found_in index query objects) ≡ finds query (kind_of index) (object_at index objects name)
found_has index query objects name =
    any_filtered (is_found index query objects) (names_of index objects) name
    ∙ ap (λ b. b && is_found index query objects name) (names_has index objects name)
    ∙ there_and_found query (kind_of index) (object_at index objects name)

lists_as_bytes : (names : List (List ℕ)) (name : List ℕ) → list_any (bytes_eq name) names ≡ lists_name names name
lists_as_bytes [] name = refl
lists_as_bytes (x ∷ names) name = λ i. sym (eq_by_cmp-text name x) i || lists_as_bytes names name i

-- the names that a search of a scope gives: of each object that is there, it is told whether its pairs meet the query, and no others
pub record Gives (c : Contents) (org index : List ℕ) (query : Ors) (names : List (List ℕ)) : Type 0 where
  pub found : (name : List ℕ) (pairs : List Pair) → HasObject c (scope_of org index) name → ArePairs c (scope_of org index) name pairs → IsTrue (lists_name names name) ↔ Meets query pairs
  pub objects : (name : List ℕ) → IsTrue (lists_name names name) → HasObject c (scope_of org index) name

-- the pairs of an object for which the index is exact
exact_pairs : (c : Contents) (org index name : List ℕ) (pairs : List Pair) → ((p : Pair) → is_posted c (scope_of org index) name p ≡ lists pairs p) → ArePairs c (scope_of org index) name pairs
exact_pairs c org index name pairs same p = (
  λ m. (posted_told c (scope_of org index) name p).0 (same p ∙ (listed_member pairs p).1 m),
  λ h. (listed_member pairs p).0 (sym (same p) ∙ (posted_told c (scope_of org index) name p).1 h),
)

-- a name is given where its object, if it is there, meets the query
given_by : (c : Contents) (org index : List ℕ) (query : Ors) (names : List (List ℕ)) (name : List ℕ) (kind : Kind) (object : Option Doc) → Gives c org index query names
    → is_there c (scope_of org index) name ≡ is_some object → ((p : Pair) → is_posted c (scope_of org index) name p ≡ lists (unwrap_or (option_map (pairs_of kind) object) []) p)
    → lists_name names name ≡ finds query kind object
given_by c org index query names name kind None gives there pairs =
    never_told (lists_name names name) (itself_told (lists_name names name)) (λ is. false≢true (sym there ∙ (there_told c (scope_of org index) name).1 (gives.objects name is)))
given_by c org index query names name kind (Some object) gives there pairs =
    one_test (lists_name names name) (meets query (pairs_of kind object))
    (gives.found name (pairs_of kind object) ((there_told c (scope_of org index) name).0 there) (exact_pairs c org index name (pairs_of kind object) pairs))
    (meeting_told query (pairs_of kind object))
    (λ met. met, λ met. met)

-- of a word that has an index
plain_found : (index name : List ℕ) (objects : Objects) → is_plain index ≡ true → found_by index name objects ≡ object_at (index_of index) objects name
plain_found index name objects plain = ap (λ b. cond b (object_at (index_of index) objects name) None) plain

-- what the index gives where it is exact for the objects is what is found among them
pub found_same : (c : Contents) (org index : List ℕ) (query : Ors) (objects : Objects) (names : List (List ℕ)) → HoldsExactly (held_of c) org objects → is_plain index ≡ true → Gives c org index query names → InOrder names
    → names ≡ found_in (index_of index) query objects
unfolding held_of
found_same c org index query objects names exact plain gives rising =
    same_in_order names (found_in (index_of index) query objects) rising
    (IsStrictlySortedBy-filter (slice_cmp nat_cmp) (is_found (index_of index) query objects) (names_of (index_of index) objects) (names_order (index_of index) objects))
    (λ name.
    lists_as_bytes names name
    ∙ given_by c org index query names name (kind_of (index_of index)) (found_by index name objects) gives (exact.there index name) (λ p. exact.pairs index name p)
    ∙ ap (finds query (kind_of (index_of index))) (plain_found index name objects plain)
    ∙ sym (found_has (index_of index) query objects name))

-- so is it of what a search answers, if it answers
pub found_told : {E : Type 0} (c : Contents) (scope : Scope) (org index : List ℕ) (query : Ors) (objects : Objects) (result : Result (List (List ℕ)) E) → scope ≡ scope_of org index → HoldsExactly (held_of c) org objects → is_plain index ≡ true
    → IfOk result (λ names. (name : List ℕ) (pairs : List Pair) → HasObject c scope name → ArePairs c scope name pairs → IsTrue (lists_name names name) ↔ Meets query pairs)
    → IfOk result (λ names. (name : List ℕ) → IsTrue (lists_name names name) → HasObject c scope name) → IfOk result InOrder
    → IfOk result (λ names. names ≡ found_in (index_of index) query objects)
found_told c scope org index query objects (Ok names) same exact plain found there rising =
    found_same c org index query objects names exact plain (record {
      found = subst (λ (s : Scope). (name : List ℕ) (pairs : List Pair) → HasObject c s name → ArePairs c s name pairs → IsTrue (lists_name names name) ↔ Meets query pairs) same found;
      objects = subst (λ (s : Scope). (name : List ℕ) → IsTrue (lists_name names name) → HasObject c s name) same there;
    }) rising
found_told c scope org index query objects (Err cause) same exact plain found there rising = tt

-- where no step was taken, no object was looked at
pub unlooked : {T : Type 0} (result : Result T NoMemory) (steps : ℕ) → Looked result 0 steps steps
unlooked (Ok value) steps = omega arith
unlooked (Err cause) steps = (omega arith, omega arith)

-- ---- nothing

nothing_found : (query_kind : Kind) (object : Option Doc) → object ≡ None → (p : Pair) → false ≡ lists (unwrap_or (option_map (pairs_of query_kind) object) []) p
nothing_found kind object none p = ap (λ (o : Option Doc). lists (unwrap_or (option_map (pairs_of kind) o) []) p) (sym none)

where_there : (plain : Bool) (object : Option Doc) → object ≡ None → cond plain object None ≡ None
where_there true object none = none
where_there false object none = refl

nothing_by : (word name : List ℕ) → found_by word name finite.empty ≡ None
nothing_by word name = where_there (is_plain word) (finite.get finite.empty (key_in (index_of word) name)) (finite.get-empty key_cmp (key_in (index_of word) name))

-- a finder that holds nothing is exact for an organisation without objects
pub nothing_is_exact : (org : List ℕ) → IsExact (Some nothing) org finite.empty
nothing_is_exact org = record {
  there = λ word name. ap is_some (sym (nothing_by word name));
  pairs = λ word name p. nothing_found (kind_of (index_of word)) (found_by word name finite.empty) (nothing_by word name) p;
}
