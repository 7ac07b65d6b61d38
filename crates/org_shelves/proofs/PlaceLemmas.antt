-- What stands where after a value was put in, taken out, or a whole shelf was.
use Rattle.std.proofs.Common.{◌≡◌, ℕ, Bool, true, false, cond, ◌&&◌, T, List, Option, Some, None, is_some, option_map, map, unwrap_or, IsTrue, Ordering, refl, sym, ap, subst, ◌∙◌}
use Rattle.std.proofs.lemmas.Bool.{and_parts}
use Rattle.std.proofs.lemmas.Option.{same_Some}
use Rattle.std.specs.Cmp.{IsTotalOrder}
use Rattle.std.specs.Cmp.Lexicographic.{nat_list_cmp_total}
use Rattle.std.specs.FinMap as finite
use Rattle.std.specs.Ordering.{eq_by_cmp}
use Rattle.doc_tree.specs.Text.{text_cmp}
use Rattle.shelves.proofs.MapLemmas.{get_of}
use Rattle.shelves.proofs.ShelfLaws.{tied_name, value_at-put, value_at-without}
use Rattle.shelves.proofs.ValueLemmas.{find_seen, order_seen}
use Rattle.shelves.specs.Shelves.{Store, put, value_at, without}
use Rattle.shelves.specs.SortedMap.{each_value}
use Rattle.org_shelves.proofs.ChangeLemmas.{is_at, put_others, take_others}

module _ {K X : Type 0} {cmp : K → K → Ordering} (o : IsTotalOrder cmp) (tied : (x y : K) → eq_by_cmp cmp x y ≡ true → x ≡ y) (P : List ℕ → K → X → Type 0) where
  -- it holds of each value at its place
  abbrev pub All : Store cmp X → Type 0
  All store = (n : List ℕ) (k : K) (x : X) → value_at store n k ≡ Some x → P n k x

  put_at : (store : Store cmp X) (name : List ℕ) (key : K) (value : X) (n : List ℕ) (k : K) (x : X) (b : Bool) → All store → P name key value → is_at o tied name key n k ≡ b
      → value_at (put name key value store) n k ≡ Some x → P n k x
  put_at store name key value n k x true all this at stands =
      let parts = and_parts (eq_by_cmp text_cmp n name) (eq_by_cmp cmp k key) at in
      let same : value ≡ x = same_Some value x (sym (value_at-put o store name key value n k ∙ ap (λ b. cond b (Some value) (value_at store n k)) at) ∙ stands) in
      subst (λ (m : List ℕ). P m k x) (sym (tied_name n name parts.0)) (subst (λ (j : K). P name j x) (sym (tied k key parts.1)) (subst (λ (y : X). P name key y) same this))
  put_at store name key value n k x false all this apart stands = all n k x (sym (put_others o tied store name key value n k apart) ∙ stands)

  pub all_put : (store : Store cmp X) (name : List ℕ) (key : K) (value : X) → All store → P name key value → All (put name key value store)
  all_put store name key value all this n k x stands = put_at store name key value n k x (is_at o tied name key n k) all this refl stands

  left_at : (store : Store cmp X) (name : List ℕ) (key : K) (n : List ℕ) (k : K) (x : X) (b : Bool) → All store → is_at o tied name key n k ≡ b → value_at (without name key store) n k ≡ Some x → P n k x
  left_at store name key n k x true all at stands = cc (sym (value_at-without o store name key n k ∙ ap (λ b. cond b None (value_at store n k)) at) ∙ stands)
  left_at store name key n k x false all apart stands = all n k x (sym (take_others o tied store name key n k apart) ∙ stands)

  pub all_without : (store : Store cmp X) (name : List ℕ) (key : K) → All store → All (without name key store)
  all_without store name key all n k x stands = left_at store name key n k x (is_at o tied name key n k) all refl stands

module _ {K : Type 0} (cmp : K → K → Ordering) (X : Type 0) where
  -- nothing stands where there is no shelf
  pub empty_at : (n : List ℕ) (k : K) → value_at {cmp = cmp} (finite.empty {X = finite.FinMap cmp X} {R = text_cmp}) n k ≡ None
  empty_at n k = ap (λ (found : Option (finite.FinMap cmp X)). finite.get (unwrap_or found finite.empty) k) (finite.get-empty text_cmp n) ∙ finite.get-empty cmp k

module _ {K X : Type 0} {cmp : K → K → Ordering} where
  gone_at : (b : Bool) (found : Option (finite.FinMap cmp X)) (k : K) (x : X) → finite.get (unwrap_or (cond b None found) finite.empty) k ≡ Some x
      → (b ≡ false) × (finite.get (unwrap_or found finite.empty) k ≡ Some x)
  gone_at true found k x stands = cc (sym (finite.get-empty cmp k) ∙ stands)
  gone_at false found k x stands = (refl, stands)

  -- once a whole shelf is taken out, what still stands is of another name, and stood
  pub shelf_gone : (store : Store cmp X) (name n : List ℕ) (k : K) (x : X) → value_at (finite.remove store name) n k ≡ Some x → (eq_by_cmp text_cmp n name ≡ false) × (value_at store n k ≡ Some x)
  shelf_gone store name n k x stands =
      gone_at (eq_by_cmp text_cmp n name) (finite.get store n) k x (ap (λ (found : Option (finite.FinMap cmp X)). finite.get (unwrap_or found finite.empty) k) (sym (finite.get-remove nat_list_cmp_total store name n)) ∙ stands)

  -- and what stood under another name stands
  pub shelf_stays : (store : Store cmp X) (name n : List ℕ) (k : K) → eq_by_cmp text_cmp n name ≡ false → value_at (finite.remove store name) n k ≡ value_at store n k
  shelf_stays store name n k apart =
      ap (λ (found : Option (finite.FinMap cmp X)). finite.get (unwrap_or found finite.empty) k) (finite.get-remove nat_list_cmp_total store name n ∙ ap (λ b. cond b None (finite.get store n)) apart)

  -- where something stands, it still does once a value is put in anywhere
  pub still_some : (o : IsTotalOrder cmp) (store : Store cmp X) (name : List ℕ) (key : K) (value : X) (n : List ℕ) (k : K) → IsTrue (is_some (value_at store n k)) → IsTrue (is_some (value_at (put name key value store) n k))
  still_some o store name key value n k some =
      ap is_some (value_at-put o store name key value n k) ∙ either (eq_by_cmp text_cmp n name && eq_by_cmp cmp k key)
    where
      either : (b : Bool) → is_some (cond b (Some value) (value_at store n k)) ≡ true
      either true = refl
      either false = some

module _ {K V W : Type 0} {cmp : K → K → Ordering} (f : V → W) where
  -- what a map has at a key, once each value is seen through a function
  pub get-each_value : IsTotalOrder cmp → (m : finite.FinMap cmp V) (key : K) → finite.get (each_value f m) key ≡ option_map f (finite.get m key)
  get-each_value o m key =
      get_of cmp o (map (λ e. (e.0, f e.1)) (finite.entries m)) key (order_seen cmp f (finite.entries m) (is_true _ (finite.entries_sorted m)))
      ∙ find_seen cmp f key (finite.entries m)
      ∙ ap (option_map f) (sym (finite.get-entries m key))
    where
      is_true : (b : Bool) → T b → b ≡ true
      is_true true t = refl
      is_true false t = absurd t
