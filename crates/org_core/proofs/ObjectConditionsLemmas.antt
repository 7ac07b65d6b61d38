-- Moves that keep the conditions of an organisation's objects.
use Rattle.std.proofs.Common.{◌≡◌, ℕ, List, [], ◌∷◌, ◌++◌, map, Bool, true, false, cond, ◌||◌, Option, Some, None, is_some, codes, bytes_eq, refl, sym, ap, subst, ◌∙◌, append_assoc}
use Rattle.std.proofs.lemmas.Bool.{and_parts}
use Rattle.std.proofs.lemmas.Option.{same_Some}
use Rattle.std.specs.Cmp.{tied_itself}
use Rattle.std.specs.Cmp.Lexicographic.{bytes_decides}
use Rattle.std.specs.FinMap as finite
use Rattle.std.specs.List.{filter_map, cons_option, list_any, list_all}
use Rattle.std.specs.Ordering.{is_eq, eq_by_cmp}
use Rattle.std.specs.declared.cmp.Ordering.{Ordering}
use Rattle.std.specs.declared.cmp.Ordering.TheVariants.{Less, Equal, Greater}
use Rattle.doc_tree.specs.Doc.{Doc}
use Rattle.doc_tree.specs.Name.{is_name, is_name_byte}
use Rattle.doc_tree.specs.declared.kind.Kind.{Kind}
use Rattle.doc_tree.specs.declared.kind.Kind.TheVariants.{Environment, Bag, Item}
use Rattle.object_store.proofs.ItemsLemmas.{behind_front-joined}
use Rattle.object_store.specs.Items.{behind_front, item_front, item_name, ids_in}
use Rattle.object_store.specs.Keys.{is_of, names_of, key_cmp_total, key_cmp_ties}
use Rattle.object_store.specs.Objects.{Objects, key, key_cmp}
use Rattle.object_store.specs.declared.key.Key.{Key}
use Rattle.org_core.specs.declared.moves.Move.{Move}
use Rattle.org_core.specs.declared.moves.Move.TheVariants.{TakeOut, TakeList}
use Rattle.org_core.specs.Moves.{after_moves, with_objects}
use Rattle.org_core.specs.States.{Organisation}
use Rattle.org_core.specs.ObjectConditions.{has, IsStored, ObjectConditions}

tied : (r : Ordering) → is_eq r ≡ true → r ≡ Equal
tied Less same = cc
tied Equal same = refl
tied Greater same = cc

-- keys that tie are one
pub same_keys : (p q : Key) → eq_by_cmp key_cmp p q ≡ true → p ≡ q
same_keys p q same = key_cmp_ties p q (tied (key_cmp p q) same)

pub ties_itself : (k : Key) → eq_by_cmp key_cmp k k ≡ true
ties_itself k = ap is_eq (tied_itself key_cmp_total k)

get-put : (objects : Objects) (k : Key) (object : Doc) (q : Key) → finite.get (finite.insert objects k object) q ≡ cond (eq_by_cmp key_cmp q k) (Some object) (finite.get objects q)
get-put objects k object q = finite.get-insert key_cmp_total objects k object q

get-left : (objects : Objects) (k q : Key) → finite.get (finite.remove objects k) q ≡ cond (eq_by_cmp key_cmp q k) None (finite.get objects q)
get-left objects k q = finite.get-remove key_cmp_total objects k q

-- ---- an object is put in

stored-put : (objects : Objects) (k : Key) (object : Doc) (b : Bool) (q : Key) (d : Doc) → ObjectConditions objects → IsStored k.kind k.name object
    → eq_by_cmp key_cmp q k ≡ b → cond b (Some object) (finite.get objects q) ≡ Some d → IsStored q.kind q.name d
stored-put objects k object true q d meets this same is =
    subst (λ (x : Key). IsStored x.kind x.name d) (sym (same_keys q k same)) (subst (λ (x : Doc). IsStored k.kind k.name x) (same_Some object d is) this)
stored-put objects k object false q d meets this same is = meets.stored q d is

there-put : (b : Bool) (object : Doc) (found : Option Doc) → is_some found ≡ true → is_some (cond b (Some object) found) ≡ true
there-put true object found there = refl
there-put false object found there = there

-- what was there is there
has-put : (objects : Objects) (k : Key) (object : Doc) (kind : Kind) (name : List ℕ) → has objects kind name ≡ true → has (finite.insert objects k object) kind name ≡ true
has-put objects k object kind name there =
    ap is_some (get-put objects k object (key kind name)) ∙ there-put (eq_by_cmp key_cmp (key kind name) k) object (finite.get objects (key kind name)) there

bags-put : (objects : Objects) (k : Key) (object : Doc) (b : Bool) (bag id : List ℕ) → ObjectConditions objects → (key Item (item_name bag id) ≡ k → has objects Bag bag ≡ true) → is_name bag ≡ true
    → eq_by_cmp key_cmp (key Item (item_name bag id)) k ≡ b → is_some (cond b (Some object) (finite.get objects (key Item (item_name bag id)))) ≡ true → has objects Bag bag ≡ true
bags-put objects k object true bag id meets own named same is = own (same_keys _ _ same)
bags-put objects k object false bag id meets own named same is = meets.bags bag id named is

-- what is stored of its kind is put in; of an item the bag is there
pub keeps_put : (objects : Objects) (k : Key) (object : Doc) → ObjectConditions objects → IsStored k.kind k.name object
    → ((bag id : List ℕ) → is_name bag ≡ true → key Item (item_name bag id) ≡ k → has objects Bag bag ≡ true) → ObjectConditions (finite.insert objects k object)
keeps_put objects k object meets this own = record {
  stored = λ q d is. stored-put objects k object _ q d meets this refl (sym (get-put objects k object q) ∙ is);
  bags = λ bag id named is. has-put objects k object Bag bag (bags-put objects k object _ bag id meets (own bag id named) named refl (sym (ap is_some (get-put objects k object (key Item (item_name bag id)))) ∙ is));
  default_environment = has-put objects k object Environment (codes "_default") meets.default_environment;
}

-- ---- an object is taken out

found-left : (b : Bool) (found : Option Doc) (d : Doc) → cond b None found ≡ Some d → found ≡ Some d
found-left true found d is = cc
found-left false found d is = is

had-left : (b : Bool) (found : Option Doc) → is_some (cond b None found) ≡ true → (b ≡ false) × (is_some found ≡ true)
had-left true found is = cc
had-left false found is = (refl, is)

-- what is there was there, and isn't what was taken out
had : (objects : Objects) (k : Key) (kind : Kind) (name : List ℕ) → has (finite.remove objects k) kind name ≡ true → (eq_by_cmp key_cmp (key kind name) k ≡ false) × (has objects kind name ≡ true)
had objects k kind name is = had-left _ _ (sym (ap is_some (get-left objects k (key kind name))) ∙ is)

-- what is another is still there
has-left : (objects : Objects) (k : Key) (kind : Kind) (name : List ℕ) → eq_by_cmp key_cmp (key kind name) k ≡ false → has objects kind name ≡ true → has (finite.remove objects k) kind name ≡ true
has-left objects k kind name other there = ap is_some (get-left objects k (key kind name) ∙ ap (λ b. cond b None (finite.get objects (key kind name))) other) ∙ there

stored-left : (objects : Objects) (k q : Key) (d : Doc) → ObjectConditions objects → finite.get (finite.remove objects k) q ≡ Some d → IsStored q.kind q.name d
stored-left objects k q d meets is = meets.stored q d (found-left _ _ d (sym (get-left objects k q) ∙ is))

-- what is no bag, and not the environment `_default`, is taken out
pub keeps_take_out : (objects : Objects) (k : Key) → ObjectConditions objects → ((bag : List ℕ) → eq_by_cmp key_cmp (key Bag bag) k ≡ false)
    → eq_by_cmp key_cmp (key Environment (codes "_default")) k ≡ false → ObjectConditions (finite.remove objects k)
keeps_take_out objects k meets no_bag no_default = record {
  stored = λ q d is. stored-left objects k q d meets is;
  bags = λ bag id named is. has-left objects k Bag bag (no_bag bag) (meets.bags bag id named (had objects k Item (item_name bag id) is).1);
  default_environment = has-left objects k Environment (codes "_default") no_default meets.default_environment;
}

-- a bag without items is taken out
pub keeps_bag_out : (objects : Objects) (bag : List ℕ) → ObjectConditions objects → ((id : List ℕ) → has objects Item (item_name bag id) ≡ true → ⊥) → ObjectConditions (finite.remove objects (key Bag bag))
keeps_bag_out objects bag meets empty = record {
  stored = λ q d is. stored-left objects (key Bag bag) q d meets is;
  bags = λ other id named is.
      let there = (had objects (key Bag bag) Item (item_name other id) is).1 in
      elim (eq_by_cmp key_cmp (key Bag other) (key Bag bag)) as (λ b. eq_by_cmp key_cmp (key Bag other) (key Bag bag) ≡ b → has (finite.remove objects (key Bag bag)) Bag other ≡ true) [
        | true ↦ λ same. absurd (empty id (subst (λ (n : List ℕ). has objects Item (item_name n id) ≡ true) (ap (λ (k : Key). k.name) (same_keys (key Bag other) (key Bag bag) same)) there))
        | false ↦ λ apart. has-left objects (key Bag bag) Bag other apart (meets.bags other id named there)
      ] refl;
  default_environment = has-left objects (key Bag bag) Environment (codes "_default") refl meets.default_environment;
}

-- ---- a bag goes with its items

-- the objects without these items of a bag
abbrev pub without_items : List ℕ → List (List ℕ) → Objects → Objects
without_items bag [] objects = objects
without_items bag (id ∷ ids) objects = without_items bag ids (finite.remove objects (key Item (item_name bag id)))

pub keeps_items_out : (bag : List ℕ) (ids : List (List ℕ)) (objects : Objects) → ObjectConditions objects → ObjectConditions (without_items bag ids objects)
keeps_items_out bag [] objects meets = meets
keeps_items_out bag (id ∷ ids) objects meets = keeps_items_out bag ids _ (keeps_take_out objects (key Item (item_name bag id)) meets (λ other. refl) refl)

unlike : (bag : List ℕ) (id other : List ℕ) (b : Bool) → bytes_eq id other ≡ b → eq_by_cmp key_cmp (key Item (item_name bag id)) (key Item (item_name bag other)) ≡ false → b ≡ false
unlike bag id other false is apart = refl
unlike bag id other true is apart =
    let same : id ≡ other = (bytes_decides id other).0 is in
    let tie : eq_by_cmp key_cmp (key Item (item_name bag id)) (key Item (item_name bag id)) ≡ true = ties_itself (key Item (item_name bag id)) in
    cc (subst (λ (n : List ℕ). eq_by_cmp key_cmp (key Item (item_name bag id)) (key Item (item_name bag n)) ≡ false) (sym same) apart)

-- an item that is left was there, and isn't one of those
still : (bag : List ℕ) (ids : List (List ℕ)) (objects : Objects) (id : List ℕ) → has (without_items bag ids objects) Item (item_name bag id) ≡ true
    → (has objects Item (item_name bag id) ≡ true) × (list_any (bytes_eq id) ids ≡ false)
still bag [] objects id is = (is, refl)
still bag (x ∷ ids) objects id is =
    let rest = still bag ids (finite.remove objects (key Item (item_name bag x))) id is in
    let before = had objects (key Item (item_name bag x)) Item (item_name bag id) rest.0 in
    (before.1, rw (unlike bag id x _ refl before.0) rest.1)

-- ---- the ids of a bag's items are all of them

or_rest : (a b : Bool) → b ≡ true → (a || b) ≡ true
or_rest true b is = refl
or_rest false b is = is

any_rest : (id : List ℕ) (first : Option (List ℕ)) (rest : List (List ℕ)) → list_any (bytes_eq id) rest ≡ true → list_any (bytes_eq id) (cons_option first rest) ≡ true
any_rest id None rest is = is
any_rest id (Some x) rest is = or_rest (bytes_eq id x) (list_any (bytes_eq id) rest) is

any_first : (id : List ℕ) (rest : List (List ℕ)) → list_any (bytes_eq id) (id ∷ rest) ≡ true
any_first id rest = ap (λ b. b || list_any (bytes_eq id) rest) ((bytes_decides id id).1 refl)

-- the ids of the items among these keys, of which one key may be another's
abbrev pub ids_among : List ℕ → List Key → List (List ℕ)
ids_among bag keys = filter_map (behind_front (item_front bag)) (names_of Item keys)

ids_rest : (bag id : List ℕ) (k : Key) (ks : List Key) (b : Bool) → is_of Item k ≡ b → list_any (bytes_eq id) (ids_among bag ks) ≡ true → list_any (bytes_eq id) (ids_among bag (k ∷ ks)) ≡ true
ids_rest bag id k ks true is rest = rw is (any_rest id (behind_front (item_front bag) k.name) (ids_among bag ks) rest)
ids_rest bag id k ks false is rest = rw is rest

ids_first : (bag id : List ℕ) (ks : List Key) → list_any (bytes_eq id) (ids_among bag (key Item (item_name bag id) ∷ ks)) ≡ true
ids_first bag id ks = rw (behind_front-joined (item_front bag) id) (any_first id (ids_among bag ks))

ids_all : (bag id : List ℕ) (ks : List Key) → list_any (eq_by_cmp key_cmp (key Item (item_name bag id))) ks ≡ true → list_any (bytes_eq id) (ids_among bag ks) ≡ true
ids_all bag id [] is = cc
ids_all bag id (k ∷ ks) is =
    elim (eq_by_cmp key_cmp (key Item (item_name bag id)) k) as (λ b. eq_by_cmp key_cmp (key Item (item_name bag id)) k ≡ b → (b || list_any (eq_by_cmp key_cmp (key Item (item_name bag id))) ks) ≡ true
    → list_any (bytes_eq id) (ids_among bag (k ∷ ks)) ≡ true) [
      | true ↦ λ same is. subst (λ (x : Key). list_any (bytes_eq id) (ids_among bag (x ∷ ks)) ≡ true) (same_keys (key Item (item_name bag id)) k same) (ids_first bag id ks)
      | false ↦ λ other is. ids_rest bag id k ks _ refl (ids_all bag id ks is)
    ] refl is

-- an item that is there is among them
ids_are_all : (bag id : List ℕ) (objects : Objects) → has objects Item (item_name bag id) ≡ true → list_any (bytes_eq id) (ids_in bag objects) ≡ true
ids_are_all bag id objects there = ids_all bag id (finite.keys objects) (sym (finite.contains_key-keys objects (key Item (item_name bag id))) ∙ there)

-- a bag goes with all its items
pub keeps_bag_removal : (bag : List ℕ) (objects : Objects) → ObjectConditions objects → ObjectConditions (finite.remove (without_items bag (ids_in bag objects) objects) (key Bag bag))
keeps_bag_removal bag objects meets =
    keeps_bag_out _ bag (keeps_items_out bag (ids_in bag objects) objects meets)
    (λ id there.
    let left = still bag (ids_in bag objects) objects id there in
    let listed = ids_are_all bag id objects left.0 in
    cc (sym listed ∙ left.1))

-- the moves that take out items, and then others
pub items_taken_out : (bag : List ℕ) (ids : List (List ℕ)) (rest : List Move) (o : Organisation)
    → after_moves (map (λ (id : List ℕ). TakeOut (key Item (item_name bag id))) ids ++ rest) (Some o) ≡ after_moves rest (Some (with_objects (without_items bag ids o.objects) o))
items_taken_out bag [] rest o = refl
items_taken_out bag (id ∷ ids) rest o = items_taken_out bag ids rest (with_objects (finite.remove o.objects (key Item (item_name bag id))) o)

-- nobody stays nobody
pub nobody_taken_out : (bag : List ℕ) (ids : List (List ℕ)) → after_moves (map (λ (id : List ℕ). TakeOut (key Item (item_name bag id))) ids ++ TakeOut (key Bag bag) ∷ TakeList (key Bag bag) ∷ []) None ≡ None
nobody_taken_out bag [] = refl
nobody_taken_out bag (id ∷ ids) = nobody_taken_out bag ids

-- ---- an item's name tells its bag

name_tells : (bag other x y : List ℕ) → list_all is_name_byte bag ≡ true → list_all is_name_byte other ≡ true → bag ++ (47 ∷ x) ≡ other ++ (47 ∷ y) → bag ≡ other
name_tells [] [] x y one two same = refl
name_tells [] (c ∷ other) x y one two same =
    let slash : 47 ≡ c = cc same in
    cc (subst (λ (b : ℕ). is_name_byte b ≡ true) (sym slash) (and_parts _ _ two).0)
name_tells (c ∷ bag) [] x y one two same =
    let slash : c ≡ 47 = cc same in
    cc (subst (λ (b : ℕ). is_name_byte b ≡ true) slash (and_parts _ _ one).0)
name_tells (c ∷ bag) (d ∷ other) x y one two same =
    let first : c ≡ d = cc same in
    let rest : bag ++ (47 ∷ x) ≡ other ++ (47 ∷ y) = cc same in
    let tail : bag ≡ other = name_tells bag other x y (and_parts _ _ one).1 (and_parts _ _ two).1 rest in
    cc

pub name_bytes : (name : List ℕ) → is_name name ≡ true → list_all is_name_byte name ≡ true
name_bytes name named = (and_parts _ _ named).1

-- items of one name are of one bag
pub one_bag : (bag id other other_id : List ℕ) → is_name bag ≡ true → is_name other ≡ true → item_name bag id ≡ item_name other other_id → bag ≡ other
one_bag bag id other other_id named other_named same =
    name_tells bag other id other_id (name_bytes bag named) (name_bytes other other_named)
    (sym (append_assoc bag (codes "/") id) ∙ same ∙ append_assoc other (codes "/") other_id)

-- ---- the first object of an organisation

stored-first : (k : Key) (object : Doc) (b : Bool) (q : Key) (d : Doc) → IsStored k.kind k.name object → eq_by_cmp key_cmp q k ≡ b → cond b (Some object) None ≡ Some d → IsStored q.kind q.name d
stored-first k object true q d this same is =
    subst (λ (x : Key). IsStored x.kind x.name d) (sym (same_keys q k same)) (subst (λ (x : Doc). IsStored k.kind k.name x) (same_Some object d is) this)
stored-first k object false q d this same is = cc

-- no objects
abbrev no_objects : Objects
no_objects = finite.empty

get-first : (k : Key) (object : Doc) (q : Key) → finite.get (finite.insert no_objects k object) q ≡ cond (eq_by_cmp key_cmp q k) (Some object) None
get-first k object q = get-put no_objects k object q ∙ ap (cond (eq_by_cmp key_cmp q k) (Some object)) (finite.get-empty key_cmp q)

-- an organisation begins with the environment `_default`
pub keeps_first : (object : Doc) → IsStored Environment (codes "_default") object → ObjectConditions (finite.insert finite.empty (key Environment (codes "_default")) object)
keeps_first object this = record {
  stored = λ q d is. stored-first (key Environment (codes "_default")) object _ q d this refl (sym (get-first (key Environment (codes "_default")) object q) ∙ is);
  bags = λ bag id named is. cc (sym (ap is_some (get-first (key Environment (codes "_default")) object (key Item (item_name bag id)))) ∙ is);
  default_environment = ap is_some (get-first (key Environment (codes "_default")) object (key Environment (codes "_default")));
}
