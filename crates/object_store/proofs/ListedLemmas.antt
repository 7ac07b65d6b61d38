-- Listings against the objects that are seen.
use Rattle.std.proofs.Common.{◌≡◌, ◌||◌, ℕ, Bool, false, List, [], ◌∷◌, Option, None, Some, is_some, Result, Ok, Err, IfOk, bytes_eq, sym, ap, refl, ◌∙◌}
use Rattle.std.specs.BTreeSet.{BTreeSet}
use Rattle.std.specs.Cmp.Lexicographic.{nat_list_eq_equiv}
use Rattle.std.specs.List.{list_any, filter_map, cons_option}
use Rattle.std.specs.Option.{option_or}
use Rattle.doc_tree.specs.Valid.{InOrder}
use Rattle.doc_tree.specs.declared.kind.Kind.{Kind}
use Rattle.doc_tree.specs.declared.kind.Kind.TheVariants as kind
use Rattle.doc_tree.specs.Doc.{Doc}
use Rattle.object_store.specs.Items.{behind_front, item_front, item_name, ids_in}
use Rattle.object_store.specs.Keys.{key}
use Rattle.object_store.specs.Objects.{names_in}
use Rattle.object_store.specs.Kept.{Late, Shelves, found, objects_in, has}
use Rattle.object_store.proofs.ItemsLemmas.{names_item, names_no_item, rests-order}
use Rattle.object_store.proofs.ListingLemmas.{same_in_order}
use Rattle.object_store.proofs.NamesLemmas.{names_in-has, names_in-order}
use Rattle.object_store.proofs.ViewLemmas.{get-objects_in}

-- what was gathered of those that came late and then of those on the shelves
pub gathered : (none late all : Bool) (x y : Option Doc) → none ≡ false → late ≡ (none || is_some x) → all ≡ (late || is_some y) → all ≡ is_some (option_or x y)
gathered none late all x y empty first second =
    second ∙ ap (λ b. b || is_some y) (first ∙ ap (λ b. b || is_some x) empty) ∙ either x
  where
    either : (o : Option Doc) → ((false || is_some o) || is_some y) ≡ is_some (option_or o y)
    either None = refl
    either (Some t) = refl

-- a name is seen where an object of it is found
seen : (kind : Kind) (name : List ℕ) (late : Late) (shelves : Shelves) → list_any (bytes_eq name) (names_in kind (objects_in late shelves)) ≡ is_some (found late shelves (key kind name))
seen kind name late shelves =
    names_in-has kind name (objects_in late shelves)
    ∙ ap is_some (get-objects_in late shelves (key kind name))

-- the names that were gathered, in order, are the names that are seen
pub names-listed : {E : Type 0} (r : Result (List (List ℕ)) E) (kind : Kind) (late : Late) (shelves : Shelves) (names : BTreeSet (List ℕ))
    → IfOk r (λ list. (name : List ℕ) → list_any (bytes_eq name) list ≡ has names name) → IfOk r InOrder
    → ((name : List ℕ) → has names name ≡ is_some (found late shelves (key kind name)))
    → IfOk r (λ list. list ≡ names_in kind (objects_in late shelves))
names-listed (Ok list) kind late shelves names there order all =
    same_in_order list (names_in kind (objects_in late shelves)) order (names_in-order kind (objects_in late shelves))
    (λ name. there name ∙ all name ∙ sym (seen kind name late shelves))
names-listed (Err e) kind late shelves names there order all = tt

-- an id is among what stands behind a bag where the item's name is among the names
ids-among : (bag id : List ℕ) (names : List (List ℕ)) → list_any (bytes_eq id) (filter_map (behind_front (item_front bag)) names) ≡ list_any (bytes_eq (item_name bag id)) names
ids-among bag id [] = refl
ids-among bag id (x ∷ xs) = by_front (behind_front (item_front bag) x) refl (ids-among bag id xs)
  where
    by_front : (o : Option (List ℕ)) → behind_front (item_front bag) x ≡ o
        → list_any (bytes_eq id) (filter_map (behind_front (item_front bag)) xs) ≡ list_any (bytes_eq (item_name bag id)) xs
        → list_any (bytes_eq id) (cons_option o (filter_map (behind_front (item_front bag)) xs)) ≡ (bytes_eq (item_name bag id) x || list_any (bytes_eq (item_name bag id)) xs)
    by_front None is rest = rest ∙ ap (λ b. b || list_any (bytes_eq (item_name bag id)) xs) (sym (names_no_item bag x id is))
    by_front (Some z) is rest =
        ap (λ b. b || list_any (bytes_eq id) (filter_map (behind_front (item_front bag)) xs)) (nat_list_eq_equiv.symm id z ∙ names_item bag x id z is)
        ∙ ap (λ b. bytes_eq (item_name bag id) x || b) rest

-- the ids that were gathered, in order, are the ids that are seen
pub ids-listed : {E : Type 0} (r : Result (List (List ℕ)) E) (bag : List ℕ) (late : Late) (shelves : Shelves) (ids : BTreeSet (List ℕ))
    → IfOk r (λ list. (id : List ℕ) → list_any (bytes_eq id) list ≡ has ids id) → IfOk r InOrder
    → ((id : List ℕ) → has ids id ≡ is_some (found late shelves (key kind.Item (item_name bag id))))
    → IfOk r (λ list. list ≡ ids_in bag (objects_in late shelves))
ids-listed (Ok list) bag late shelves ids there order all =
    let names = names_in kind.Item (objects_in late shelves) in
    same_in_order list (ids_in bag (objects_in late shelves)) order (rests-order (item_front bag) names (names_in-order kind.Item (objects_in late shelves)))
    (λ id. there id ∙ all id ∙ sym (ids-among bag id names ∙ seen kind.Item (item_name bag id) late shelves))
ids-listed (Err e) bag late shelves ids there order all = tt

-- what is said of the objects that are seen is said of the value
pub told : {E : Type 0} {Store : Type 0} (r : Result (List (List ℕ)) E) (f : Store → List (List ℕ)) (inside value : Store) → inside ≡ value → IfOk r (λ list. list ≡ f inside) → IfOk r (λ list. list ≡ f value)
told (Ok list) f inside value same is = is ∙ ap f same
told (Err e) f inside value same is = tt
