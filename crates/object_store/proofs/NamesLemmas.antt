-- The names of the objects of a kind.
use Rattle.std.proofs.Common.{◌≡◌, ◌||◌, ◌&&◌, T, ℕ, Bool, true, false, cond, List, [], ◌∷◌, map, bytes_eq, is_some, sym, ap, refl, ◌∙◌, eqb-true}
use Rattle.std.specs.declared.cmp.Ordering.{Ordering}
use Rattle.std.specs.declared.cmp.Ordering.TheVariants.{Less, Equal, Greater}
use Rattle.std.specs.Ordering.{nat_cmp, is_lt, ordering_then}
use Rattle.std.specs.Cmp.{tied_itself, nat_cmp_total}
use Rattle.std.specs.Cmp.Lexicographic.{slice_cmp}
use Rattle.std.specs.FinMap as finite
use Rattle.std.specs.FinMap.Entries.{below_all, is_sorted}
use Rattle.std.specs.List.{AllByRecursion, filter, list_any}
use Rattle.std.specs.List.Sorted.{IsStrictlySortedBy}
use Rattle.std.specs.Map.{keys_of}
use Rattle.doc_tree.specs.Text.{text_cmp}
use Rattle.doc_tree.specs.Doc.{Doc}
use Rattle.doc_tree.specs.Valid.{InOrder}
use Rattle.doc_tree.specs.declared.kind.Kind.{Kind}
use Rattle.object_store.specs.declared.key.Key.{Key}
use Rattle.object_store.specs.Keys.{key, position_of, key_cmp, same_key, is_of, names_of}
use Rattle.object_store.specs.Objects.{Objects, names_in}
use Rattle.object_store.proofs.KeysLemmas.{same_key-key}

one : (a b : Bool) → T (a && b) → T a
one true b h = tt
one false b h = absurd h

other : (a b : Bool) → T (a && b) → T b
other true b h = h
other false b h = absurd h

less : (r : Ordering) → T (is_lt r) → r ≡ Less
less Less h = refl
less Equal h = absurd h
less Greater h = absurd h

-- of two keys of a kind the lower has the name below
below_name : (kind : Kind) (k l : Key) → is_of kind k ≡ true → is_of kind l ≡ true → key_cmp k l ≡ Less → text_cmp k.name l.name ≡ Less
below_name kind k l of_k of_l below =
    let positions : position_of k.kind ≡ position_of l.kind = sym (eqb-true (position_of kind) (position_of k.kind) of_k) ∙ eqb-true (position_of kind) (position_of l.kind) of_l in
    let tied : nat_cmp (position_of k.kind) (position_of l.kind) ≡ Equal = ap (λ n. nat_cmp n (position_of l.kind)) positions ∙ tied_itself nat_cmp_total (position_of l.kind) in
    ap (λ r. ordering_then r (text_cmp k.name l.name)) (sym tied) ∙ below

-- a key below all has a name below all of its kind
below_names : (kind : Kind) (k : Key) (es : List (Key × Doc)) → is_of kind k ≡ true → T (below_all key_cmp k es)
    → AllByRecursion (λ name. text_cmp k.name name ≡ Less) (names_of kind (keys_of es))
below_names kind k [] of_k below = tt
below_names kind k (e ∷ es) of_k below =
    let rest = below_names kind k es of_k (other _ _ below) in
    elim (is_of kind e.0) as (λ b. is_of kind e.0 ≡ b → AllByRecursion (λ name. text_cmp k.name name ≡ Less) (map (λ (x : Key). x.name) (cond b (e.0 ∷ filter (is_of kind) (keys_of es)) (filter (is_of kind) (keys_of es))))) [
      | true ↦ λ of_e. (below_name kind k e.0 of_k of_e (less _ (one _ _ below)), rest)
      | false ↦ λ of_e. rest
    ] refl

-- where keys rise, the names of a kind are in order
names-rise : (kind : Kind) (es : List (Key × Doc)) → T (is_sorted key_cmp es) → InOrder (names_of kind (keys_of es))
unfolding IsStrictlySortedBy
names-rise kind [] sorted = tt
names-rise kind (e ∷ es) sorted =
    let rest = names-rise kind es (other _ _ sorted) in
    elim (is_of kind e.0) as (λ b. is_of kind e.0 ≡ b → InOrder (map (λ (x : Key). x.name) (cond b (e.0 ∷ filter (is_of kind) (keys_of es)) (filter (is_of kind) (keys_of es))))) [
      | true ↦ λ of_e. (below_names kind e.0 es of_e (one _ _ sorted), rest)
      | false ↦ λ of_e. rest
    ] refl

-- the names of a kind are in order
pub names_in-order : (kind : Kind) (objects : Objects) → InOrder (names_in kind objects)
names_in-order kind objects = names-rise kind (finite.entries objects) (finite.entries_sorted objects)

-- a name is among those of a kind where one of the keys is of that kind and name
names_of-has : (kind : Kind) (name : List ℕ) (ks : List Key) → list_any (bytes_eq name) (names_of kind ks) ≡ list_any (same_key (key kind name)) ks
names_of-has kind name [] = refl
names_of-has kind name (k ∷ ks) =
    let rest = names_of-has kind name ks in
    elim (is_of kind k) as (λ b. list_any (bytes_eq name) (map (λ (x : Key). x.name) (cond b (k ∷ filter (is_of kind) ks) (filter (is_of kind) ks))) ≡ ((b && bytes_eq name k.name) || list_any (same_key (key kind name)) ks)) [
      | true ↦ ap (λ r. bytes_eq name k.name || r) rest
      | false ↦ rest
    ] ∙ ap (λ b. b || list_any (same_key (key kind name)) ks) (sym (same_key-key kind name k))

-- a name is among those of a kind where there is an object of that kind and name
pub names_in-has : (kind : Kind) (name : List ℕ) (objects : Objects) → list_any (bytes_eq name) (names_in kind objects) ≡ is_some (finite.get objects (key kind name))
names_in-has kind name objects = names_of-has kind name (finite.keys objects) ∙ sym (finite.contains_key-keys objects (key kind name))
