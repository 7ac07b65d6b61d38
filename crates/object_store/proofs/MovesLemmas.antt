-- What is found after objects are put in, taken out, and moved to their shelves.
use Rattle.std.proofs.Common.{◌≡◌, ◌&&◌, ℕ, Bool, true, false, cond, List, [], ◌∷◌, ◌++◌, length, Option, None, Some, bytes_eq, sym, ap, refl, ◌∙◌, arith}
use Rattle.std.specs.Map.{lookup}
use Rattle.std.specs.Option.{option_or}
use Rattle.indexmap.specs.IndexMap.{get, index_map_len}
use Rattle.std.specs.Cmp.{eq_by_cmp_equiv}
use Rattle.doc_tree.specs.Doc.{Doc}
use Rattle.object_store.specs.declared.key.Key.{Key}
use Rattle.object_store.specs.Keys.{key_cmp_total, same_key}
use Rattle.object_store.specs.Shelving.{shelf_of, name_on}
use Rattle.object_store.specs.Kept.{Late, Shelves, on_shelf, settled, found}
use Rattle.object_store.proofs.ViewLemmas.{shelved-decides}

-- what changes where a key is kept changes for the key
pub settled-changed : (shelves then : Shelves) (word name : List ℕ) (k : Key) (object : Option Doc) → word ≡ shelf_of k → name ≡ name_on k
    → ((other its : List ℕ) → on_shelf then other its ≡ cond (bytes_eq word other && bytes_eq name its) object (on_shelf shelves other its))
    → (q : Key) → settled then q ≡ cond (same_key k q) object (settled shelves q)
settled-changed shelves then word name k object is_word is_name change q =
    change (shelf_of q) (name_on q)
    ∙ (λ i. cond (bytes_eq (is_word i) (shelf_of q) && bytes_eq (is_name i) (name_on q)) object (settled shelves q))
    ∙ ap (λ b. cond b object (settled shelves q)) (shelved-decides k q)

-- a key is taken from among those that came late, and from its shelf
pub found-taken : (late now : Late) (shelves then : Shelves) (k : Key)
    → ((q : Key) → get same_key now q ≡ cond (same_key k q) None (get same_key late q))
    → ((q : Key) → settled then q ≡ cond (same_key k q) None (settled shelves q))
    → (q : Key) → found now then q ≡ cond (same_key k q) None (found late shelves q)
found-taken late now shelves then k first second q =
    (λ i. option_or (first q i) (second q i)) ∙ either (same_key k q) (get same_key late q) (settled shelves q)
  where
    either : (b : Bool) (x y : Option Doc) → option_or (cond b None x) (cond b None y) ≡ cond b None (option_or x y)
    either true x y = refl
    either false x y = refl

-- and then it comes late
pub found-put : (late mid now : Late) (shelves then : Shelves) (k : Key) (object : Doc)
    → ((q : Key) → found mid then q ≡ cond (same_key k q) None (found late shelves q))
    → ((q : Key) → get same_key now q ≡ cond (same_key k q) (Some object) (get same_key mid q))
    → (q : Key) → found now then q ≡ cond (same_key k q) (Some object) (found late shelves q)
found-put late mid now shelves then k object first second q =
    ap (λ o. option_or o (settled then q)) (second q)
    ∙ either (same_key k q) (get same_key mid q) (settled then q)
    ∙ ap (cond (same_key k q) (Some object)) (first q)
    ∙ twice (same_key k q) (found late shelves q)
  where
    either : (b : Bool) (x y : Option Doc) → option_or (cond b (Some object) x) y ≡ cond b (Some object) (option_or x y)
    either true x y = refl
    either false x y = refl

    twice : (b : Bool) (x : Option Doc) → cond b (Some object) (cond b None x) ≡ cond b (Some object) x
    twice true x = refl
    twice false x = refl

lookup-append : {K X : Type 0} (p : K → Bool) (xs ys : List (K × X)) → lookup p (xs ++ ys) ≡ option_or (lookup p xs) (lookup p ys)
lookup-append p [] ys = refl
lookup-append p (x ∷ xs) ys =
    elim (p x.0) as (λ b. cond b (Some x.1) (lookup p (xs ++ ys)) ≡ option_or (cond b (Some x.1) (lookup p xs)) (lookup p ys)) [ true ↦ refl | false ↦ lookup-append p xs ys ]

-- the last of those that came late goes to its shelf
pub found-moved : (late now : Late) (shelves then : Shelves) (k : Key) (object : Doc) → late.entries ≡ now.entries ++ (k, object) ∷ []
    → ((q : Key) → get same_key now q ≡ cond (same_key k q) None (get same_key late q))
    → ((q : Key) → settled then q ≡ cond (same_key k q) (Some object) (settled shelves q))
    → (q : Key) → found now then q ≡ found late shelves q
found-moved late now shelves then k object whole gone here q =
    ap (λ o. option_or (get same_key now q) o) (here q)
    ∙ either (same_key k q) refl
    ∙ ap (λ o. option_or o (settled shelves q)) (sym was)
  where
    was : get same_key late q ≡ option_or (get same_key now q) (cond (same_key k q) (Some object) None)
    was =
        ap (lookup (same_key q)) whole
        ∙ lookup-append (same_key q) now.entries ((k, object) ∷ [])
        ∙ ap (λ b. option_or (get same_key now q) (cond b (Some object) None)) ((eq_by_cmp_equiv key_cmp_total).symm q k)

    nothing : (o : Option Doc) → o ≡ None → option_or o (Some object) ≡ option_or (option_or o (Some object)) (settled shelves q)
    nothing None is = refl
    nothing (Some t) is = refl

    none : (o : Option Doc) → option_or o (settled shelves q) ≡ option_or (option_or o None) (settled shelves q)
    none None = refl
    none (Some t) = refl

    either : (b : Bool) → same_key k q ≡ b → option_or (get same_key now q) (cond b (Some object) (settled shelves q)) ≡ option_or (option_or (get same_key now q) (cond b (Some object) None)) (settled shelves q)
    either true is = nothing (get same_key now q) (gone q ∙ ap (λ b. cond b None (get same_key late q)) is)
    either false is = none (get same_key now q)

-- where there is no entry, none is found
pub none_waits : (late : Late) → index_map_len late ≡ 0 → (k : Key) → get same_key late k ≡ None
none_waits late none k = by late.entries none
  where
    by : (entries : List (Key × Doc)) → length entries ≡ 0 → lookup (λ other. same_key k other) entries ≡ None
    by [] none = refl
    by (e ∷ entries) none = absurd (omega (arith, none))

-- so nothing changes where nothing is taken
pub none_taken : (late : Late) → index_map_len late ≡ 0 → (k q : Key) → get same_key late q ≡ cond (same_key k q) None (get same_key late q)
none_taken late none k q = either (same_key k q)
  where
    either : (b : Bool) → get same_key late q ≡ cond b None (get same_key late q)
    either true = none_waits late none q
    either false = refl
