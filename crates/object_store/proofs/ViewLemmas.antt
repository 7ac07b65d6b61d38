-- The objects that are seen, against what is found.
use Rattle.std.proofs.Common.{◌≡◌, ◌&&◌, ◌||◌, Bool, true, false, cond, List, [], ◌∷◌, ◌++◌, map, Option, None, Some, option_map, is_some, bytes_eq, string_bytes, sym, ap, subst, refl, ◌∙◌}
use mathlib.Core.Bool.{true≢false}
use Rattle.std.specs.Cmp.{eq_by_cmp_equiv}
use Rattle.std.specs.Cmp.Lexicographic.{bytes_decides}
use Rattle.std.specs.FinMap as finite
use Rattle.std.specs.List.{list_any, flat_map, filter_map, cons_option}
use Rattle.std.specs.Map.{lookup}
use Rattle.std.specs.Option.{option_or}
use Rattle.std.specs.declared.alloc.Global.{Global}
use Rattle.std.specs.declared.string.String.{String}
use Rattle.indexmap.specs.IndexMap.{get, get_by_text, keys}
use Rattle.doc_tree.specs.Doc.{Doc}
use Rattle.object_store.specs.declared.key.Key.{Key}
use Rattle.object_store.specs.Keys.{key_cmp, key_cmp_total, key_cmp_ties, same_key}
use Rattle.object_store.specs.Shelving.{shelf_of, name_on, key_at}
use Rattle.object_store.specs.Kept.{Late, Shelf, Shelves, settled, found, keys_on, all_keys, with_doc, objects_in}
use Rattle.object_store.proofs.FoundLemmas.{any-key, shelf-found}
use Rattle.object_store.proofs.KeysLemmas.{same_key-is, same_key-self}
use Rattle.object_store.proofs.ShelvingLemmas.{key_at-shelved}
use Rattle.object_store.proofs.ItemsLemmas.{some-same, same_bools}

or-true : (a : Bool) → (a || true) ≡ true
or-true true = refl
or-true false = refl

any-append : {X : Type 0} (r : X → Bool) (xs ys : List X) → list_any r (xs ++ ys) ≡ (list_any r xs || list_any r ys)
any-append r [] ys = refl
any-append r (x ∷ xs) ys = ap (λ b. r x || b) (any-append r xs ys) ∙ assoc (r x) (list_any r xs) (list_any r ys)
  where
    assoc : (a b c : Bool) → (a || (b || c)) ≡ ((a || b) || c)
    assoc true b c = refl
    assoc false b c = refl

any-map : {X Y : Type 0} (r : Y → Bool) (f : X → Y) (xs : List X) → list_any r (map f xs) ≡ list_any (λ x. r (f x)) xs
any-map r f [] = refl
any-map r f (x ∷ xs) = ap (λ b. r (f x) || b) (any-map r f xs)

parts : (p q : Bool) → (p && q) ≡ true → (p ≡ true) × (q ≡ true)
parts true q both = (refl, both)
parts false q both = absurd (true≢false (sym both))

-- a key is where its shelf is and its name there
pub shelved-decides : (a b : Key) → (bytes_eq (shelf_of a) (shelf_of b) && bytes_eq (name_on a) (name_on b)) ≡ same_key a b
shelved-decides a b =
    same_bools (bytes_eq (shelf_of a) (shelf_of b) && bytes_eq (name_on a) (name_on b)) (same_key a b)
    (λ both. subst (λ (k : Key). same_key a k ≡ true) (same_position both) (same_key-self a))
    (λ same. subst (λ (k : Key). (bytes_eq (shelf_of a) (shelf_of k) && bytes_eq (name_on a) (name_on k)) ≡ true) (same_key-is a b same)
    (ap (λ c. c && bytes_eq (name_on a) (name_on a)) ((bytes_decides (shelf_of a) (shelf_of a)).1 refl) ∙ (bytes_decides (name_on a) (name_on a)).1 refl))
  where
    same_position : (bytes_eq (shelf_of a) (shelf_of b) && bytes_eq (name_on a) (name_on b)) ≡ true → a ≡ b
    same_position both =
        let shelves = (bytes_decides (shelf_of a) (shelf_of b)).0 (parts (bytes_eq (shelf_of a) (shelf_of b)) (bytes_eq (name_on a) (name_on b)) both).0 in
        let names = (bytes_decides (name_on a) (name_on b)).0 (parts (bytes_eq (shelf_of a) (shelf_of b)) (bytes_eq (name_on a) (name_on b)) both).1 in
        sym (key_at-shelved a) ∙ (λ i. key_at (shelves i) (names i)) ∙ key_at-shelved b

-- what is found on a shelf is among the keys of the shelves
on-shelves : (q : Key) (shelf : Shelf) (es : List (String Global × Shelf)) → lookup (λ k. bytes_eq (shelf_of q) (string_bytes k)) es ≡ Some shelf
    → is_some (get_by_text shelf (name_on q)) ≡ true → list_any (same_key q) (flat_map keys_on es) ≡ true
on-shelves q shelf [] there its = absurd (true≢false (sym (ap is_some there)))
on-shelves q shelf (e ∷ es) there its =
    any-append (same_key q) (keys_on e) (flat_map keys_on es)
    ∙ elim (bytes_eq (shelf_of q) (string_bytes e.0)) as (λ b. bytes_eq (shelf_of q) (string_bytes e.0) ≡ b → cond b (Some e.1) (lookup (λ k. bytes_eq (shelf_of q) (string_bytes k)) es) ≡ Some shelf → (list_any (same_key q) (keys_on e) || list_any (same_key q) (flat_map keys_on es)) ≡ true) [
      | true ↦ λ own is. ap (λ b. b || list_any (same_key q) (flat_map keys_on es)) (here own (some-same e.1 shelf is))
      | false ↦ λ own is. ap (λ b. list_any (same_key q) (keys_on e) || b) (on-shelves q shelf es is its) ∙ or-true (list_any (same_key q) (keys_on e))
    ] refl there
  where
    here : bytes_eq (shelf_of q) (string_bytes e.0) ≡ true → e.1 ≡ shelf → list_any (same_key q) (keys_on e) ≡ true
    here own is =
        any-map (same_key q) (λ (name : String Global). key_at (string_bytes e.0) (string_bytes name)) (keys e.1)
        ∙ any-key (λ k. bytes_eq (name_on q) (string_bytes k)) (λ name. same_key q (key_at (string_bytes e.0) (string_bytes name))) e.1.entries
        (subst (λ (s : Shelf). is_some (get_by_text s (name_on q)) ≡ true) (sym is) its)
        (λ name same.
        subst (λ (k : Key). same_key q k ≡ true)
        (sym (key_at-shelved q) ∙ (λ i. key_at ((bytes_decides (shelf_of q) (string_bytes e.0)).0 own i) ((bytes_decides (name_on q) (string_bytes name)).0 same i)))
        (same_key-self q))

-- what is found is among all keys
found-among : (late : Late) (shelves : Shelves) (q : Key) → is_some (found late shelves q) ≡ true → list_any (same_key q) (all_keys late shelves) ≡ true
found-among late shelves q there =
    any-append (same_key q) (keys late) (flat_map keys_on shelves.entries) ∙ by_late (get same_key late q) refl there
  where
    by_late : (o : Option Doc) → get same_key late q ≡ o → is_some (option_or o (settled shelves q)) ≡ true → (list_any (same_key q) (keys late) || list_any (same_key q) (flat_map keys_on shelves.entries)) ≡ true
    by_late (Some t) is h =
        ap (λ b. b || list_any (same_key q) (flat_map keys_on shelves.entries)) (any-key (same_key q) (same_key q) late.entries (ap is_some is) (λ k same. same))
    by_late None is h =
        let shelf = shelf-found (get_by_text shelves (shelf_of q)) (name_on q) h in
        ap (λ b. list_any (same_key q) (keys late) || b) (on-shelves q shelf.0 shelves.entries shelf.1 shelf.2) ∙ or-true (list_any (same_key q) (keys late))

-- a table of keys has what is found under each of them
find-table : (object : Key → Option Doc) (q : Key) (ks : List Key) → (is_some (object q) ≡ true → list_any (same_key q) ks ≡ true)
    → finite.find key_cmp q (filter_map (with_doc object) ks) ≡ (object q)
find-table object q [] among = nothing (object q) among
  where
    nothing : (o : Option Doc) → (is_some o ≡ true → false ≡ true) → None ≡ o
    nothing None among = refl
    nothing (Some t) among = absurd (true≢false (sym (among refl)))
find-table object q (k ∷ ks) among = by_key (same_key q k) refl among (find-table object q ks)
  where
    own : (o : Option Doc) → object k ≡ o → q ≡ k → ((is_some (object q) ≡ true → list_any (same_key q) ks ≡ true) → finite.find key_cmp q (filter_map (with_doc object) ks) ≡ (object q))
        → finite.find key_cmp q (cons_option (option_map (λ (t : Doc). (k, t)) o) (filter_map (with_doc object) ks)) ≡ (object q)
    own None is same rest = rest (λ there. absurd (true≢false (sym there ∙ ap is_some (ap object same ∙ is))))
    own (Some t) is same rest =
        ap (λ b. cond b (Some t) (finite.find key_cmp q (filter_map (with_doc object) ks))) (subst (λ (l : Key). same_key q l ≡ true) same (same_key-self q))
        ∙ (sym (ap object same ∙ is))

    other : (o : Option Doc) → object k ≡ o → same_key q k ≡ false → (is_some (object q) ≡ true → list_any (same_key q) ks ≡ true)
        → ((is_some (object q) ≡ true → list_any (same_key q) ks ≡ true) → finite.find key_cmp q (filter_map (with_doc object) ks) ≡ (object q))
        → finite.find key_cmp q (cons_option (option_map (λ (t : Doc). (k, t)) o) (filter_map (with_doc object) ks)) ≡ (object q)
    other None is apart left rest = rest left
    other (Some t) is apart left rest =
        ap (λ b. cond b (Some t) (finite.find key_cmp q (filter_map (with_doc object) ks))) apart ∙ rest left

    by_key : (b : Bool) → same_key q k ≡ b → (is_some (object q) ≡ true → (b || list_any (same_key q) ks) ≡ true)
        → ((is_some (object q) ≡ true → list_any (same_key q) ks ≡ true) → finite.find key_cmp q (filter_map (with_doc object) ks) ≡ (object q))
        → finite.find key_cmp q (filter_map (with_doc object) (k ∷ ks)) ≡ (object q)
    by_key true same left rest = own (object k) refl (same_key-is q k same) rest
    by_key false same left rest = other (object k) refl same left rest

-- the document of a key is that of the object that is found
pub get-objects_in : (late : Late) (shelves : Shelves) (k : Key) → finite.get (objects_in late shelves) k ≡ (found late shelves k)
get-objects_in late shelves k =
    finite.get-from_entries key_cmp_total (filter_map (with_doc (found late shelves)) (all_keys late shelves)) k
    ∙ find-table (found late shelves) k (all_keys late shelves) (found-among late shelves k)

-- where the same is found, the same objects are seen
pub objects_in-same : (late now : Late) (shelves then : Shelves) → ((k : Key) → found now then k ≡ found late shelves k) → objects_in now then ≡ objects_in late shelves
objects_in-same late now shelves then same =
    finite.same_map key_cmp_total key_cmp_ties (objects_in now then) (objects_in late shelves) (λ q.
    get-objects_in now then q ∙ (same q) ∙ sym (get-objects_in late shelves q))

-- to put an object in is to insert its document
pub objects_in-insert : (late now : Late) (shelves then : Shelves) (key : Key) (object : Doc) → ((k : Key) → found now then k ≡ cond (same_key key k) (Some object) (found late shelves k))
    → objects_in now then ≡ finite.insert (objects_in late shelves) key object
objects_in-insert late now shelves then key object written =
    finite.same_map key_cmp_total key_cmp_ties (objects_in now then) (finite.insert (objects_in late shelves) key object) (λ q.
    get-objects_in now then q
    ∙ (written q)
    ∙ elim (same_key key q) as (λ same. (cond same (Some object) (found late shelves q)) ≡ cond same (Some object) ((found late shelves q))) [ true ↦ refl | false ↦ refl ]
    ∙ ap (λ same. cond same (Some object) ((found late shelves q))) ((eq_by_cmp_equiv key_cmp_total).symm key q)
    ∙ ap (cond (same_key q key) (Some object)) (sym (get-objects_in late shelves q))
    ∙ sym (finite.get-insert key_cmp_total (objects_in late shelves) key object q))

-- to take an object out is to remove its document
pub objects_in-remove : (late now : Late) (shelves then : Shelves) (key : Key) → ((k : Key) → found now then k ≡ cond (same_key key k) None (found late shelves k))
    → objects_in now then ≡ finite.remove (objects_in late shelves) key
objects_in-remove late now shelves then key taken =
    finite.same_map key_cmp_total key_cmp_ties (objects_in now then) (finite.remove (objects_in late shelves) key) (λ q.
    get-objects_in now then q
    ∙ (taken q)
    ∙ elim (same_key key q) as (λ same. (cond same None (found late shelves q)) ≡ cond same None ((found late shelves q))) [ true ↦ refl | false ↦ refl ]
    ∙ ap (λ same. cond same None ((found late shelves q))) ((eq_by_cmp_equiv key_cmp_total).symm key q)
    ∙ ap (cond (same_key q key) None) (sym (get-objects_in late shelves q))
    ∙ sym (finite.get-remove key_cmp_total (objects_in late shelves) key q))
