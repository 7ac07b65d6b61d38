-- Whether others are left on a shelf once a value is gone.
use Rattle.std.proofs.Common.{◌≡◌, ◌≢◌, ℕ, Bool, true, false, not, ◌==◌, ◌-◌, ◌<◌, ◌≤◌, List, Option, Some, None, is_some, if◌then◌else◌, cond, Ordering, refl, sym, ap, subst, nat_lt, ◌∙◌, arith}
use Rattle.std.proofs.lemmas.Bool.Decides.{nat_tests}
use Rattle.std.specs.FinMap as finite
use Rattle.std.specs.Cmp.{IsTotalOrder}
use Rattle.std.specs.Cmp.Lexicographic.{nat_list_cmp_total}
use Rattle.doc_tree.specs.Doc.{Doc}
use Rattle.shelves.specs.Shelves.{AreFilled, Store, has_shelf, shelf_of, without}
use Rattle.shelves.specs.SortedMap.{without_key}
use Rattle.shelves.proofs.ShelfLaws.{get-insert_same, same_name, without_key-remove}

above : (n : ℕ) → 1 < n → nat_lt 1 n ≡ true
above n more = grind (arith, nat_tests)

more : (there : Bool) (n : ℕ) → 1 < n → not (cond there (n - 1) n == 0) ≡ true
more true n above = grind (arith, nat_tests)
more false n above = grind (arith, nat_tests)

one : (there : Bool) (n : ℕ) → n ≢ 0 → n ≤ 1 → not (cond there (n - 1) n == 0) ≡ not there
one true n some most = grind (arith, nat_tests)
one false n some most = grind (arith, nat_tests)

-- of shelves by any keys
module _ {K : Type 0} {cmp : K → K → Ordering} (o : IsTotalOrder cmp) (tied : finite.IsAntisymmetric cmp) where
  -- something is left under a name once a key is gone
  abbrev keeps_rest : Store cmp Doc → List ℕ → K → Bool
  keeps_rest shelves name key = has_shelf (without name key shelves) name

  shelf_put : (shelves : Store cmp Doc) (name : List ℕ) (shelf : finite.FinMap cmp Doc) → has_shelf (finite.insert shelves name shelf) name ≡ true
  shelf_put shelves name shelf = ap is_some (get-insert_same nat_list_cmp_total shelves name shelf)

  shelf_gone : (shelves : Store cmp Doc) (name : List ℕ) → has_shelf (finite.remove shelves name) name ≡ false
  shelf_gone shelves name = ap is_some (finite.get-remove nat_list_cmp_total shelves name name ∙ ap (λ b. cond b None (finite.get shelves name)) (same_name name))

  stays_by : (b : Bool) (shelves : Store cmp Doc) (name : List ℕ) (shelf : finite.FinMap cmp Doc) → has_shelf (if b then finite.remove shelves name else finite.insert shelves name shelf) name ≡ not b
  stays_by true shelves name shelf = shelf_gone shelves name
  stays_by false shelves name shelf = shelf_put shelves name shelf

  len_left : (shelf : finite.FinMap cmp Doc) (key : K) → finite.len (without_key key shelf) ≡ cond (is_some (finite.get shelf key)) (finite.len shelf - 1) (finite.len shelf)
  len_left shelf key = ap finite.len (without_key-remove o tied shelf key) ∙ finite.len-remove o shelf key

  keeps_is : (shelves : Store cmp Doc) (name : List ℕ) (key : K) (shelf : finite.FinMap cmp Doc) → shelf_of shelves name ≡ shelf → keeps_rest shelves name key ≡ not (cond (is_some (finite.get shelf key)) (finite.len shelf - 1) (finite.len shelf) == 0)
  keeps_is shelves name key shelf is =
      stays_by (finite.len (without_key key (shelf_of shelves name)) == 0) shelves name (without_key key (shelf_of shelves name))
      ∙ ap (λ n. not (n == 0)) (ap (λ s. finite.len (without_key key s)) is ∙ len_left shelf key)

  shelf_some : (shelves : Store cmp Doc) (name : List ℕ) (shelf : finite.FinMap cmp Doc) → finite.get shelves name ≡ Some shelf → shelf_of shelves name ≡ shelf
  shelf_some shelves name shelf there = rw there refl

  rest_none : (shelves : Store cmp Doc) (name : List ℕ) → finite.get shelves name ≡ None → shelf_of shelves name ≡ finite.empty
  rest_none shelves name none = rw none refl

  -- an organisation keeps no shelf without values
  filled : (shelves : Store cmp Doc) (name : List ℕ) (shelf : finite.FinMap cmp Doc) → AreFilled shelves → finite.get shelves name ≡ Some shelf → finite.len shelf ≢ 0
  filled shelves name shelf are there none = are name (there ∙ ap Some (finite.empty_of_len shelf none))

  -- of several values others are left
  keeps_more : (shelves : Store cmp Doc) (name : List ℕ) (key : K) (shelf : finite.FinMap cmp Doc) → finite.get shelves name ≡ Some shelf → 1 < finite.len shelf → keeps_rest shelves name key ≡ true
  keeps_more shelves name key shelf there several = keeps_is shelves name key shelf (shelf_some shelves name shelf there) ∙ more (is_some (finite.get shelf key)) (finite.len shelf) several

  -- the only value is left where it is another
  keeps_one : (shelves : Store cmp Doc) (name : List ℕ) (key : K) (shelf : finite.FinMap cmp Doc) → AreFilled shelves → finite.get shelves name ≡ Some shelf → finite.len shelf ≤ 1 → keeps_rest shelves name key ≡ not (is_some (finite.get shelf key))
  keeps_one shelves name key shelf are there most =
      keeps_is shelves name key shelf (shelf_some shelves name shelf there) ∙ one (is_some (finite.get shelf key)) (finite.len shelf) (filled shelves name shelf are there) most

  -- of no value none is left
  keeps_none : (shelves : Store cmp Doc) (name : List ℕ) (key : K) → finite.get shelves name ≡ None → keeps_rest shelves name key ≡ false
  keeps_none shelves name key none =
      keeps_is shelves name key finite.empty (rest_none shelves name none)
      ∙ ap (λ b. not (cond b (finite.len (finite.empty {X = Doc} {R = cmp}) - 1) (finite.len (finite.empty {X = Doc} {R = cmp})) == 0)) (ap is_some (finite.get-empty {X = Doc} cmp key))
      ∙ ap (λ n. not (n == 0)) (finite.len-empty cmp Doc)

  -- the same, of the shelves that an organisation is seen to keep
  module _ {seen kept : Store cmp Doc} (same : seen ≡ kept) (name : List ℕ) where
    there_too : (found : Option (finite.FinMap cmp Doc)) → found ≡ finite.get seen name → finite.get kept name ≡ found
    there_too found is = ap (λ shelves. finite.get shelves name) (sym same) ∙ sym is

    pub more_seen : (key : K) (shelf : finite.FinMap cmp Doc) (n : ℕ) → Some shelf ≡ finite.get seen name → n ≡ finite.len shelf → 1 < n → nat_lt 1 n ≡ keeps_rest kept name key
    more_seen key shelf n there len several = above n several ∙ sym (keeps_more kept name key shelf (there_too (Some shelf) there) (subst (λ m. 1 < m) len several))

    pub one_seen : (key : K) (shelf : finite.FinMap cmp Doc) (n : ℕ) (has : Bool) → AreFilled seen → Some shelf ≡ finite.get seen name → n ≡ finite.len shelf → n ≤ 1 → has ≡ is_some (finite.get shelf key) → not has ≡ keeps_rest kept name key
    one_seen key shelf n has are there len most is = ap not is ∙ sym (keeps_one kept name key shelf (subst AreFilled same are) (there_too (Some shelf) there) (subst (λ m. m ≤ 1) len most))

    pub none_seen : (key : K) → None ≡ finite.get seen name → false ≡ keeps_rest kept name key
    none_seen key none = sym (keeps_none kept name key (there_too None none))
