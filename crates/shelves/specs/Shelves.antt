-- Values by a name and then a key: the values of one name stand on one shelf.
use Rattle.std.specs.Prelude.{◌≢◌, ◌==◌, ℕ, Bool, List, map, Option, Some, is_some, unwrap_or, if◌then◌else◌, refl}
use Rattle.std.specs.Coded.{Coded, code_by, coded×, coded_ℕ, coded_list}
use Rattle.std.specs.Cmp.Lexicographic.{slice_cmp}
use Rattle.std.specs.declared.cmp.Ordering.{Ordering}
use Rattle.std.specs.FinMap as finite
use Rattle.std.specs.Ordering.{nat_cmp}
use Rattle.doc_tree.specs.Text.{text_cmp}
use Rattle.shelves.specs.SortedMap.{without_key}

-- the shelves by their names, each a finite map
abbrev pub Store : {K : Type 0} → (K → K → Ordering) → Type 0 → Type 0
Store cmp V = finite.FinMap text_cmp (finite.FinMap cmp V)

-- how the logic stores such maps
abbrev pub store_code : {K V : Type 0} {cmp : K → K → Ordering} → Coded K → Coded V → Coded (Store cmp V)
store_code key value = finite.code (coded_list coded_ℕ) (finite.code key value)

-- the shelves with their names in order, and how many more values fit without memory, whatever their names
pub record Kept (K V : Type 0) : Type 0 where
  pub entries : List (List ℕ × List (K × V))
  pub spare : ℕ

-- how the logic stores them
abbrev pub kept_code : {K V : Type 0} → Coded K → Coded V → Coded (Kept K V)
kept_code {K} {V} key value =
    code_by (List (List ℕ × List (K × V)) × ℕ) (coded× (coded_list (coded× (coded_list coded_ℕ) (coded_list (coded× key value)))) coded_ℕ) (λ k. (k.entries, k.spare)) (λ p. record { entries = p.0; spare = p.1 }) (λ _. refl)

-- a name with its shelf, as a finite map
abbrev pub named_shelf : {K V : Type 0} (cmp : K → K → Ordering) → List ℕ × List (K × V) → List ℕ × finite.FinMap cmp V
named_shelf cmp entry = (entry.0, finite.from_sorted {R = cmp} entry.1)

-- the shelves that are kept
abbrev pub shelves_of : {K V : Type 0} (cmp : K → K → Ordering) → Kept K V → Store cmp V
shelves_of cmp kept = finite.from_sorted {R = text_cmp} (map (named_shelf cmp) kept.entries)

module _ {K V : Type 0} {cmp : K → K → Ordering} where
  -- the shelf of a name: an empty one where there is none
  abbrev pub shelf_of : Store cmp V → List ℕ → finite.FinMap cmp V
  shelf_of shelves name = unwrap_or (finite.get shelves name) finite.empty

  -- there is a shelf of this name
  abbrev pub has_shelf : Store cmp V → List ℕ → Bool
  has_shelf shelves name = is_some (finite.get shelves name)

  -- what stands under a name at a key
  abbrev pub value_at : Store cmp V → List ℕ → K → Option V
  value_at shelves name key = finite.get (shelf_of shelves name) key

  -- the shelves with a value under a name at a key
  abbrev pub put : List ℕ → K → V → Store cmp V → Store cmp V
  put name key value shelves = finite.insert shelves name (finite.insert (shelf_of shelves name) key value)

  -- the shelves with this one under a name: with none where it is empty
  abbrev pub with_shelf : List ℕ → finite.FinMap cmp V → Store cmp V → Store cmp V
  with_shelf name shelf shelves = if finite.len shelf == 0 then finite.remove shelves name else finite.insert shelves name shelf

  -- the shelves without what stands under a name at a key
  abbrev pub without : List ℕ → K → Store cmp V → Store cmp V
  without name key shelves = with_shelf name (without_key key (shelf_of shelves name)) shelves

  -- no shelf is empty
  abbrev pub AreFilled : Store cmp V → Type 0
  AreFilled shelves = (name : List ℕ) → finite.get shelves name ≢ Some finite.empty
