-- The shelves that are kept, against the finite map of finite maps that they are.
use Rattle.std.proofs.Common.{◌≡◌, ◌≢◌, ◌==◌, ℕ, cond, List, [], ◌∷◌, map, length, get_or, Option, Some, None, option_map, unwrap_or, Ordering, refl, sym, ap, subst, ◌∙◌, arith}
use borrow.Author.Tests.{ne_eqb}
use Rattle.std.specs.Cmp.{IsTotalOrder}
use Rattle.std.specs.Cmp.Lexicographic.{nat_list_cmp_total}
use Rattle.std.specs.FinMap as finite
use Rattle.std.specs.FinMap.Entries as listed
use Rattle.std.proofs.lemmas.Option.{slice_get_read, none-some}
use Rattle.doc_tree.specs.Text.{text_cmp}
use Rattle.shelves.specs.Places.{IsInKeyOrder, entries_without, IsHeldAt, IsGapAt}
use Rattle.shelves.specs.SortedMap.{Sorted, map_of, without_key}
use Rattle.shelves.specs.Shelves.{Store, named_shelf, shelf_of, put, with_shelf, without, AreFilled}
use Rattle.shelves.specs.Rooms.{shelves_seen, IsShelf, AreShelves}
use Rattle.shelves.proofs.MapLemmas.{entries_of, get_of, map_put, map_none, map_without, none_of_map, order_put, order_without}
use Rattle.shelves.proofs.ShelfLaws.{text_same, without_key-remove, remove_absent, get-insert_same}
use Rattle.shelves.proofs.ValueLemmas.{order_seen, order_from_seen, find_seen, put_seen, without_seen, all_put, all_without, all_find}

total : IsTotalOrder text_cmp
total = nat_list_cmp_total

module _ {K V : Type 0} where
  -- names that are in order as they are seen
  pub names_kept : (shelves : List (List ℕ × Sorted K V)) → IsInKeyOrder text_cmp (shelves_seen shelves) → IsInKeyOrder text_cmp shelves
  names_kept shelves order = order_from_seen text_cmp (λ (s : Sorted K V). s.entries) shelves order

module _ {K V : Type 0} (cmp : K → K → Ordering) (o : IsTotalOrder cmp) where
  -- the map of the entries of a shelf
  map_in : List (K × V) → finite.FinMap cmp V
  map_in es = finite.from_sorted {R = cmp} es

  -- the shelves that are seen
  abbrev pub store : List (List ℕ × Sorted K V) → Store cmp V
  store shelves = finite.from_sorted {R = text_cmp} (map (named_shelf cmp) (shelves_seen shelves))

  in_order : (shelves : List (List ℕ × Sorted K V)) → AreShelves cmp (shelves_seen shelves) → IsInKeyOrder text_cmp (map (named_shelf cmp) (shelves_seen shelves))
  in_order shelves are = order_seen text_cmp (λ es. finite.from_sorted {R = cmp} es) (shelves_seen shelves) are.names

  -- what is seen under a name is what is kept there
  pub get-store : (shelves : List (List ℕ × Sorted K V)) (name : List ℕ) → AreShelves cmp (shelves_seen shelves) → finite.get (store shelves) name ≡ option_map (map_of cmp) (listed.find text_cmp name shelves)
  get-store shelves name are =
      get_of text_cmp total _ name (in_order shelves are)
      ∙ find_seen text_cmp (λ es. finite.from_sorted {R = cmp} es) name (shelves_seen shelves)
      ∙ ap (option_map (λ es. finite.from_sorted {R = cmp} es)) (find_seen text_cmp (λ (s : Sorted K V). s.entries) name shelves)
      ∙ twice (listed.find text_cmp name shelves)
    where
      twice : (s : Option (Sorted K V)) → option_map (λ es. finite.from_sorted {R = cmp} es) (option_map (λ (t : Sorted K V). t.entries) s) ≡ option_map (map_of cmp) s
      twice None = refl
      twice (Some s) = refl

  -- the entries of the shelves that are seen
  pub entries-store : (shelves : List (List ℕ × Sorted K V)) → AreShelves cmp (shelves_seen shelves) → map (λ e. (e.0, map_of cmp e.1)) shelves ≡ finite.entries (store shelves)
  entries-store shelves are = twice shelves ∙ sym (entries_of text_cmp total _ (in_order shelves are))
    where
      twice : (l : List (List ℕ × Sorted K V)) → map (λ e. (e.0, map_of cmp e.1)) l ≡ map (named_shelf cmp) (shelves_seen l)
      twice [] = refl
      twice (e ∷ l) = ap (λ m. (e.0, map_of cmp e.1) ∷ m) (twice l)

  -- no shelf that is seen is empty
  pub filled-store : (shelves : List (List ℕ × Sorted K V)) → AreShelves cmp (shelves_seen shelves) → AreFilled (store shelves)
  filled-store shelves are name is =
      let found = sym (get_of text_cmp total _ name (in_order shelves are) ∙ find_seen text_cmp (λ es. finite.from_sorted {R = cmp} es) name (shelves_seen shelves)) ∙ is in
      by_entries (listed.find text_cmp name (shelves_seen shelves)) refl found
    where
      by_entries : (s : Option (List (K × V))) → listed.find text_cmp name (shelves_seen shelves) ≡ s → option_map (λ es. finite.from_sorted {R = cmp} es) s ≡ Some finite.empty → ⊥
      by_entries None there same = none-some _ same
      by_entries (Some es) there same =
          let shelf = all_find text_cmp (IsShelf cmp) name es (shelves_seen shelves) are.each there in
          shelf.filled (none_of_map cmp o es shelf.order (ap (λ m. unwrap_or m finite.empty) same))

  module _ (shelves : List (List ℕ × Sorted K V)) (name : List ℕ) (at : ℕ) (are : AreShelves cmp (shelves_seen shelves)) where
    -- ---- at the place that a search found

    found : (x : List ℕ × Sorted K V) → IsHeldAt text_cmp name shelves at → x ≡ get_or shelves at x → listed.find text_cmp name shelves ≡ Some x.1
    found x here is = here.value ∙ ap (option_map (λ e. e.1)) (slice_get_read shelves (length shelves) at x refl here.within is)

    pub shelf_found : (x : List ℕ × Sorted K V) → IsHeldAt text_cmp name shelves at → x ≡ get_or shelves at x → Some (map_of cmp x.1) ≡ finite.get (store shelves) name
    shelf_found x here is = sym (get-store shelves name are ∙ ap (option_map (map_of cmp)) (found x here is))

    pub shelf_at : (x : List ℕ × Sorted K V) → IsHeldAt text_cmp name shelves at → x ≡ get_or shelves at x → map_of cmp x.1 ≡ shelf_of (store shelves) name
    shelf_at x here is = ap (λ m. unwrap_or m finite.empty) (shelf_found x here is)

    pub shelf_missing : IsGapAt text_cmp name shelves at → None ≡ finite.get (store shelves) name
    shelf_missing gap = sym (get-store shelves name are ∙ ap (option_map (map_of cmp)) gap.absent)

    pub shelf_none : IsGapAt text_cmp name shelves at → finite.empty ≡ shelf_of (store shelves) name
    shelf_none gap = ap (λ m. unwrap_or m finite.empty) (shelf_missing gap)

  -- ---- another shelf under a name

  seen_put : (shelves : List (List ℕ × Sorted K V)) (name : List ℕ) (shelf : Sorted K V) → shelves_seen (listed.put text_cmp name shelf shelves) ≡ listed.put text_cmp name shelf.entries (shelves_seen shelves)
  seen_put shelves name shelf = put_seen text_cmp (λ (s : Sorted K V). s.entries) name shelf shelves

  seen_without : (shelves : List (List ℕ × Sorted K V)) (name : List ℕ) → shelves_seen (entries_without text_cmp name shelves) ≡ entries_without text_cmp name (shelves_seen shelves)
  seen_without shelves name = without_seen text_cmp (λ (s : Sorted K V). s.entries) name shelves

  module _ (shelves new : List (List ℕ × Sorted K V)) (name : List ℕ) (are : AreShelves cmp (shelves_seen shelves)) where
    -- a shelf is written, or goes in
    store-put : (shelf : Sorted K V) → new ≡ listed.put text_cmp name shelf shelves → store new ≡ finite.insert (store shelves) name (map_of cmp shelf)
    store-put shelf is =
        ap store is
        ∙ ap (λ l. finite.from_sorted {R = text_cmp} (map (named_shelf cmp) l)) (seen_put shelves name shelf)
        ∙ ap (λ l. finite.from_sorted {R = text_cmp} l) (put_seen text_cmp (λ es. finite.from_sorted {R = cmp} es) name shelf.entries (shelves_seen shelves))
        ∙ map_put text_cmp total name (map_of cmp shelf) _ (in_order shelves are)

    pub are-put : (shelf : Sorted K V) → new ≡ listed.put text_cmp name shelf shelves → IsShelf cmp shelf.entries → AreShelves cmp (shelves_seen new)
    are-put shelf is one =
        subst (λ l. AreShelves cmp l) (sym (ap shelves_seen is ∙ seen_put shelves name shelf)) (record {
          names = order_put text_cmp total name shelf.entries _ are.names;
          each = all_put text_cmp (IsShelf cmp) name shelf.entries _ one are.each;
        })

    -- a shelf is taken out
    pub store-without : new ≡ entries_without text_cmp name shelves → store new ≡ finite.remove (store shelves) name
    store-without is =
        ap store is
        ∙ ap (λ l. finite.from_sorted {R = text_cmp} (map (named_shelf cmp) l)) (seen_without shelves name)
        ∙ ap (λ l. finite.from_sorted {R = text_cmp} l) (without_seen text_cmp (λ es. finite.from_sorted {R = cmp} es) name (shelves_seen shelves))
        ∙ map_without text_cmp total name _ (in_order shelves are)
        ∙ without_key-remove total text_same (store shelves) name

    pub are-without : new ≡ entries_without text_cmp name shelves → AreShelves cmp (shelves_seen new)
    are-without is =
        subst (λ l. AreShelves cmp l) (sym (ap shelves_seen is ∙ seen_without shelves name)) (record {
          names = order_without text_cmp total name _ are.names;
          each = all_without text_cmp (IsShelf cmp) name _ are.each;
        })

    -- ---- what the calls do

    pub put_is : (key : K) (v : V) (shelf : Sorted K V) (before : finite.FinMap cmp V) → new ≡ listed.put text_cmp name shelf shelves → before ≡ shelf_of (store shelves) name → map_of cmp shelf ≡ finite.insert before key v
        → store new ≡ put name key v (store shelves)
    put_is key v shelf before is was map_is =
        store-put shelf is ∙ ap (finite.insert (store shelves) name) (map_is ∙ ap (λ m. finite.insert m key v) was)

    pub left_is : (key : K) (shelf : Sorted K V) (before : finite.FinMap cmp V) → new ≡ listed.put text_cmp name shelf shelves → before ≡ shelf_of (store shelves) name → map_of cmp shelf ≡ without_key key before
        → map_of cmp shelf ≢ finite.empty → store new ≡ without name key (store shelves)
    left_is key shelf before is was map_is some =
        let left : map_of cmp shelf ≡ without_key key (shelf_of (store shelves) name) = map_is ∙ ap (without_key key) was in
        store-put shelf is
        ∙ sym (ap (λ b. cond b (finite.remove (store shelves) name) (finite.insert (store shelves) name (map_of cmp shelf))) (ne_eqb _ 0 (λ none. some (finite.empty_of_len _ none))))
        ∙ ap (λ m. with_shelf name m (store shelves)) left

    pub emptied_is : (key : K) (shelf : Sorted K V) (before : finite.FinMap cmp V) → new ≡ entries_without text_cmp name shelves → before ≡ shelf_of (store shelves) name → map_of cmp shelf ≡ without_key key before
        → map_of cmp shelf ≡ finite.empty → store new ≡ without name key (store shelves)
    emptied_is key shelf before is was map_is none =
        let left : finite.empty ≡ without_key key (shelf_of (store shelves) name) = sym none ∙ map_is ∙ ap (without_key key) was in
        store-without is
        ∙ sym (ap (λ n. cond (n == 0) (finite.remove (store shelves) name) (finite.insert (store shelves) name finite.empty)) (finite.len-empty cmp V))
        ∙ ap (λ m. with_shelf name m (store shelves)) left

  -- a name without a shelf: nothing is taken out
  no_entries : (es : List (K × V)) → length es ≡ 0 → es ≡ []
  no_entries [] none = refl
  no_entries (e ∷ es) none = absurd (omega arith)

  without_key-empty : (key : K) → without_key {V = V} {cmp = cmp} key finite.empty ≡ finite.empty
  without_key-empty key =
      ap (λ (l : List (K × V)). finite.from_sorted {R = cmp} (entries_without cmp key l)) (no_entries (finite.entries finite.empty) (sym (finite.len-entries finite.empty) ∙ finite.len-empty cmp V))
      ∙ map_none cmp o

  pub unchanged_is : (shelves : List (List ℕ × Sorted K V)) (name : List ℕ) (key : K) → None ≡ finite.get (store shelves) name → store shelves ≡ without name key (store shelves)
  unchanged_is shelves name key none =
      let left : finite.empty ≡ without_key key (shelf_of (store shelves) name) = sym (without_key-empty key) ∙ ap (λ m. without_key key (unwrap_or m finite.empty)) none in
      sym (remove_absent total text_same (store shelves) name (sym none))
      ∙ sym (ap (λ n. cond (n == 0) (finite.remove (store shelves) name) (finite.insert (store shelves) name finite.empty)) (finite.len-empty cmp V))
      ∙ ap (λ m. with_shelf name m (store shelves)) left

  -- ---- a shelf after a call

  pub shelf-put : (shelf : Sorted K V) (before : finite.FinMap cmp V) (key : K) (v : V) → IsInKeyOrder cmp shelf.entries → map_of cmp shelf ≡ finite.insert before key v → IsShelf cmp shelf.entries
  shelf-put shelf before key v order is = record {
    order = order;
    filled = λ none. none-some v (
        sym (finite.get-empty cmp key)
        ∙ ap (λ m. finite.get m key) (sym (ap (λ l. finite.from_sorted {R = cmp} l) none ∙ map_none cmp o) ∙ is)
        ∙ get-insert_same o before key v
        );
  }

  pub shelf-left : (shelf : Sorted K V) → IsInKeyOrder cmp shelf.entries → map_of cmp shelf ≢ finite.empty → IsShelf cmp shelf.entries
  shelf-left shelf order some = record { order = order; filled = λ none. some (ap (λ l. finite.from_sorted {R = cmp} l) none ∙ map_none cmp o) }
