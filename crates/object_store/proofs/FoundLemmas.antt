-- What is found is among the keys.
use Rattle.std.proofs.Common.{◌≡◌, ◌&&◌, ◌||◌, ℕ, Bool, true, false, cond, List, [], ◌∷◌, Option, None, Some, is_some, bytes_eq, string_bytes, sym, ap, refl, ◌∙◌}
use mathlib.Core.Bool.{true≢false}
use Rattle.std.specs.Cmp.Lexicographic.{bytes_decides}
use Rattle.std.specs.List.{list_any}
use Rattle.std.specs.Map.{lookup, keys_of}
use Rattle.std.specs.declared.alloc.Global.{Global}
use Rattle.std.specs.declared.string.String.{String}
use Rattle.indexmap.specs.IndexMap.{get_by_text}
use Rattle.doc_tree.specs.declared.kind.Kind.TheVariants as kind
use Rattle.object_store.specs.declared.key.Key.{Key}
use Rattle.object_store.specs.Keys.{key}
use Rattle.object_store.specs.Shelving.{shelf_of, name_on, key_at, holds_items}
use Rattle.object_store.specs.Kept.{Shelf, Shelves, object_on, settled, item_on, item_among}
use Rattle.object_store.proofs.ItemsLemmas.{some-same}
use Rattle.object_store.proofs.ShelvingLemmas.{key_at-shelved, item-held}

or-true : (a : Bool) → (a || true) ≡ true
or-true true = refl
or-true false = refl

-- where a look-up finds something, something of the keys passes a test that follows
pub any-key : {K X : Type 0} (p r : K → Bool) (es : List (K × X)) → is_some (lookup p es) ≡ true → ((k : K) → p k ≡ true → r k ≡ true) → list_any r (keys_of es) ≡ true
any-key p r [] there follows = absurd (true≢false (sym there))
any-key p r (e ∷ es) there follows =
    elim (p e.0) as (λ b. p e.0 ≡ b → is_some (cond b (Some e.1) (lookup p es)) ≡ true → (r e.0 || list_any r (keys_of es)) ≡ true) [
      | true ↦ λ passes is. ap (λ b. b || list_any r (keys_of es)) (follows e.0 passes)
      | false ↦ λ passes is. ap (λ b. r e.0 || b) (any-key p r es is follows) ∙ or-true (r e.0)
    ] refl there

-- and so for what is found with it
pub any-entry : {K X : Type 0} (p : K → Bool) (r : K × X → Bool) (es : List (K × X)) (x : X) → lookup p es ≡ Some x → ((k : K) → p k ≡ true → r (k, x) ≡ true) → list_any r es ≡ true
any-entry p r [] x there follows = absurd (true≢false (sym (ap is_some there)))
any-entry p r (e ∷ es) x there follows =
    elim (p e.0) as (λ b. p e.0 ≡ b → cond b (Some e.1) (lookup p es) ≡ Some x → (r e || list_any r es) ≡ true) [
      | true ↦ λ passes is. ap (λ b. b || list_any r es) (ap (λ v. r (e.0, v)) (some-same e.1 x is) ∙ follows e.0 passes)
      | false ↦ λ passes is. ap (λ b. r e || b) (any-entry p r es x is follows) ∙ or-true (r e)
    ] refl there

-- where an object is found, so is the shelf
pub shelf-found : (shelf : Option Shelf) (name : List ℕ) → is_some (object_on shelf name) ≡ true → (s : Shelf) × (shelf ≡ Some s) × (is_some (get_by_text s name) ≡ true)
shelf-found None name there = absurd (true≢false (sym there))
shelf-found (Some s) name there = (s, refl, there)

-- an item that is found is among the items of the shelves
pub item-found : (shelves : Shelves) (name : List ℕ) → is_some (settled shelves (key kind.Item name)) ≡ true → item_among name shelves.entries ≡ true
item-found shelves name there =
    let word = shelf_of (key kind.Item name) in
    let its = name_on (key kind.Item name) in
    let shelf = shelf-found (get_by_text shelves word) its there in
    any-entry (λ k. bytes_eq word (string_bytes k)) (λ (e : String Global × Shelf). holds_items (string_bytes e.0) && list_any (item_on (string_bytes e.0) name) (keys_of e.1.entries))
    shelves.entries shelf.0 shelf.1
    (λ k passes.
    let own : word ≡ string_bytes k = (bytes_decides word (string_bytes k)).0 passes in
    ap (λ w. holds_items w && list_any (item_on w name) (keys_of shelf.0.entries)) (sym own)
    ∙ ap (λ b. b && list_any (item_on word name) (keys_of shelf.0.entries)) (item-held name)
    ∙ any-key (λ n. bytes_eq its (string_bytes n)) (item_on word name) shelf.0.entries shelf.2
    (λ n same. (bytes_decides name (key_at word (string_bytes n)).name).1
    (sym (ap (λ t. (key_at word t).name) (sym ((bytes_decides its (string_bytes n)).0 same)) ∙ ap (λ (k : Key). k.name) (key_at-shelved (key kind.Item name))))))

-- a name that passes is added, and one that doesn't isn't
pub added-where : (f : List ℕ → Bool) (whole name : List ℕ) (before : Bool) → f whole ≡ true → (before || bytes_eq name whole) ≡ (before || (bytes_eq name whole && f name))
added-where f whole name before passes = by_bytes (bytes_eq name whole) (λ same. ap f ((bytes_decides name whole).0 same) ∙ passes)
  where
    by_bytes : (b : Bool) → (b ≡ true → f name ≡ true) → (before || b) ≡ (before || (b && f name))
    by_bytes true is = ap (λ b. before || b) (sym (is refl))
    by_bytes false is = refl

pub added-not : (f : List ℕ → Bool) (whole name : List ℕ) (before : Bool) → f whole ≡ false → before ≡ (before || (bytes_eq name whole && f name))
added-not f whole name before fails = by_bytes (bytes_eq name whole) (λ same. ap f ((bytes_decides name whole).0 same) ∙ fails)
  where
    or-false : (b : Bool) → b ≡ (b || false)
    or-false true = refl
    or-false false = refl

    by_bytes : (b : Bool) → (b ≡ true → f name ≡ false) → before ≡ (before || (b && f name))
    by_bytes true is = or-false before ∙ ap (λ b. before || b) (sym (is refl))
    by_bytes false is = or-false before

-- once none is left, the names are those from before and those that pass, where all that pass were among them
pub all-added : (now before among passes none : Bool) → none ≡ false → (now || (none && passes)) ≡ (before || (among && passes)) → (passes ≡ true → among ≡ true) → now ≡ (before || passes)
all-added now before among true none gone same complete = or-none now none gone ∙ same ∙ ap (λ b. before || (b && true)) (complete refl)
  where
    or-none : (a n : Bool) → n ≡ false → a ≡ (a || (n && true))
    or-none true n gone = refl
    or-none false n gone = sym (and-true n ∙ gone)
      where
        and-true : (b : Bool) → (b && true) ≡ b
        and-true true = refl
        and-true false = refl
all-added now before among false none gone same complete = or-none now none ∙ same ∙ sym (or-gone before among)
  where
    or-none : (a n : Bool) → a ≡ (a || (n && false))
    or-none true n = refl
    or-none false true = refl
    or-none false false = refl

    or-gone : (a n : Bool) → (a || false) ≡ (a || (n && false))
    or-gone true n = refl
    or-gone false true = refl
    or-gone false false = refl
