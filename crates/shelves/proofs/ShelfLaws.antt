-- What `put` and `without` do to shelves, pointwise: for crates above.
use Rattle.std.proofs.Common.{◌≡◌, ◌≢◌, ◌==◌, ℕ, Bool, true, false, cond, not, ◌&&◌, List, [], ◌∷◌, length, Some, None, is_some, unwrap_or, IsTrue, Ordering, is_eq, refl, sym, ap, subst, ◌∙◌, arith}
use mathlib.Core.Bool.{true≢false}
use borrow.Author.Tests.{eqb-true, ne_eqb}
use Rattle.std.specs.Cmp.{IsTotalOrder, alike_right, tied_itself, eq_by_cmp_equiv, Equal-is}
use Rattle.std.specs.Cmp.Lexicographic.{nat_list_cmp_total}
use Rattle.std.specs.FinMap as finite
use Rattle.std.specs.FinMap.Entries.{find, is_sorted-where_key, find-where_key}
use Rattle.std.specs.Ordering.{eq_by_cmp}
use Rattle.std.proofs.lemmas.Option.{same_Some, none-some}
use Rattle.doc_tree.specs.Text.{text_cmp}
use Rattle.shelves.specs.Places.{entries_without}
use Rattle.shelves.specs.SortedMap.{without_key}
use Rattle.shelves.specs.Shelves.{Store, shelf_of, has_shelf, value_at, put, with_shelf, without, AreFilled}

-- texts that tie are equal
pub text_same : finite.IsAntisymmetric text_cmp
text_same = finite.slice_cmp-IsAntisymmetric finite.nat_cmp-IsAntisymmetric

-- a name is that of another, or not
pub tied_name : (x y : List ℕ) → eq_by_cmp text_cmp x y ≡ true → x ≡ y
tied_name x y e = text_same x y ((Equal-is _).0 e)

pub same_name : (x : List ℕ) → eq_by_cmp text_cmp x x ≡ true
same_name x = (Equal-is _).1 (tied_itself nat_list_cmp_total x)

pub other_name : (x y : List ℕ) → x ≢ y → eq_by_cmp text_cmp x y ≡ false
other_name x y differ = elim (eq_by_cmp text_cmp x y) as (λ b. eq_by_cmp text_cmp x y ≡ b → b ≡ false) [ true ↦ λ e. absurd (differ (tied_name x y e)) | false ↦ λ _. refl ] refl

turned : {A : Type 0} (b : Bool) (x y : A) → cond (not b) x y ≡ cond b y x
turned true x y = refl
turned false x y = refl

no_entries : {A : Type 0} (es : List A) → length es ≡ 0 → es ≡ []
no_entries [] e = refl
no_entries (x ∷ es) e = absurd (omega arith)

-- ---- one map

module _ {K V : Type 0} {R : K → K → Ordering} (o : IsTotalOrder R) where
  -- what is left at each key
  pub get-without_key : (m : finite.FinMap R V) (key q : K) → finite.get (without_key key m) q ≡ cond (eq_by_cmp R q key) None (finite.get m q)
  get-without_key m key q =
      finite.get-from_sorted R (entries_without R key (finite.entries m)) q (is_sorted-where_key R _ (finite.entries m) (finite.entries_sorted m))
      ∙ find-where_key R (λ k. not (eq_by_cmp R key k)) q (λ x t. ap (λ r. not (is_eq r)) (sym (alike_right o q x key t))) (finite.entries m)
      ∙ turned (eq_by_cmp R key q) _ _
      ∙ ap (λ b. cond b None (find R q (finite.entries m))) ((eq_by_cmp_equiv o).symm key q)
      ∙ ap (cond (eq_by_cmp R q key) None) (sym (finite.get-entries m q))

  -- it is `remove`, where only equal keys tie
  pub without_key-remove : finite.IsAntisymmetric R → (m : finite.FinMap R V) (key : K) → without_key key m ≡ finite.remove m key
  without_key-remove same m key = finite.same_map o same _ _ (λ q. get-without_key m key q ∙ sym (finite.get-remove o m key q))

  -- what isn't there is removed without a trace
  pub remove_absent : finite.IsAntisymmetric R → (m : finite.FinMap R V) (key : K) → finite.get m key ≡ None → finite.remove m key ≡ m
  remove_absent same m key none =
      finite.same_map o same _ _ (λ q.
      finite.get-remove o m key q
      ∙ elim (eq_by_cmp R q key) as (λ b. eq_by_cmp R q key ≡ b → cond b None (finite.get m q) ≡ finite.get m q) [
        | true ↦ λ tie. sym none ∙ finite.get_tied o m q key ((Equal-is _).0 tie)
        | false ↦ λ _. refl
      ] refl)

  -- a map has a value where it isn't empty
  pub len_of_value : (m : finite.FinMap R V) (key : K) (v : V) → finite.get m key ≡ Some v → finite.len m ≢ 0
  len_of_value m key v is none = none-some v (sym (finite.get-empty R key) ∙ ap (λ n. finite.get n key) (sym (finite.empty_of_len m none)) ∙ is)

  first_value : (es : List (K × V)) → length es ≢ 0 → (key : K) × (v : V) × (find R key es ≡ Some v)
  first_value [] some = absurd (some refl)
  first_value (e ∷ es) some = (e.0, e.1, ap (λ r. cond (is_eq r) (Some e.1) (find R e.0 es)) (tied_itself o e.0))

  pub value_of_len : (m : finite.FinMap R V) → finite.len m ≢ 0 → (key : K) × (v : V) × (finite.get m key ≡ Some v)
  value_of_len m some =
      let first = first_value (finite.entries m) (λ none. some (finite.len-entries m ∙ none)) in
      (first.0, first.1, finite.get-entries m first.0 ∙ first.2)

  pub get-insert_same : (m : finite.FinMap R V) (key : K) (v : V) → finite.get (finite.insert m key v) key ≡ Some v
  get-insert_same m key v = finite.get-insert o m key v key ∙ ap (λ b. cond b (Some v) (finite.get m key)) ((Equal-is _).1 (tied_itself o key))

-- ---- shelves

text_total : IsTotalOrder text_cmp
text_total = nat_list_cmp_total

module _ {K V : Type 0} {cmp : K → K → Ordering} where
  module _ (shelves : Store cmp V) (name : List ℕ) (shelf : finite.FinMap cmp V) where
    -- a shelf that is put under a name is there
    pub shelf_of-insert : shelf_of (finite.insert shelves name shelf) name ≡ shelf
    shelf_of-insert = ap (λ s. unwrap_or s finite.empty) (get-insert_same text_total shelves name shelf)

    pub get-insert_other : (other : List ℕ) → other ≢ name → finite.get (finite.insert shelves name shelf) other ≡ finite.get shelves other
    get-insert_other other differ = finite.get-insert text_total shelves name shelf other ∙ ap (λ b. cond b (Some shelf) (finite.get shelves other)) (other_name other name differ)

    pub get-remove_other : (other : List ℕ) → other ≢ name → finite.get (finite.remove shelves name) other ≡ finite.get shelves other
    get-remove_other other differ = finite.get-remove text_total shelves name other ∙ ap (λ b. cond b None (finite.get shelves other)) (other_name other name differ)

    pub get-remove_same : finite.get (finite.remove shelves name) name ≡ None
    get-remove_same = finite.get-remove text_total shelves name name ∙ ap (λ b. cond b None (finite.get shelves name)) (same_name name)

    -- with a shelf under a name: other names keep theirs
    pub get-with_shelf_other : (other : List ℕ) → other ≢ name → finite.get (with_shelf name shelf shelves) other ≡ finite.get shelves other
    get-with_shelf_other other differ =
        elim (finite.len shelf == 0) as (λ b. finite.get (cond b (finite.remove shelves name) (finite.insert shelves name shelf)) other ≡ finite.get shelves other) [
          | true ↦ get-remove_other other differ
          | false ↦ get-insert_other other differ
        ]

    pub get-with_shelf_same : finite.get (with_shelf name shelf shelves) name ≡ (cond (finite.len shelf == 0) None (Some shelf))
    get-with_shelf_same =
        elim (finite.len shelf == 0) as (λ b. finite.get (cond b (finite.remove shelves name) (finite.insert shelves name shelf)) name ≡ cond b None (Some shelf)) [
          | true ↦ get-remove_same
          | false ↦ get-insert_same text_total shelves name shelf
        ]

    pub shelf_of-with_shelf_same : shelf_of (with_shelf name shelf shelves) name ≡ shelf
    shelf_of-with_shelf_same =
        ap (λ s. unwrap_or s finite.empty) get-with_shelf_same
        ∙ elim (finite.len shelf == 0) as (λ b. (finite.len shelf == 0) ≡ b → unwrap_or (cond b None (Some shelf)) finite.empty ≡ shelf) [
          | true ↦ λ none. sym (finite.empty_of_len shelf (eqb-true (finite.len shelf) 0 none))
          | false ↦ λ _. refl
        ] refl

  -- every shelf stays filled
  pub AreFilled-empty : AreFilled (finite.empty {X = finite.FinMap cmp V} {R = text_cmp})
  AreFilled-empty name is = none-some _ (sym (finite.get-empty text_cmp name) ∙ is)

  pub AreFilled-with_shelf : (shelves : Store cmp V) (name : List ℕ) (shelf : finite.FinMap cmp V) → AreFilled shelves → AreFilled (with_shelf name shelf shelves)
  AreFilled-with_shelf shelves name shelf filled q is =
      elim (eq_by_cmp text_cmp q name) as (λ b. eq_by_cmp text_cmp q name ≡ b → ⊥) [
        | true ↦ λ tie.
            let there : cond (finite.len shelf == 0) None (Some shelf) ≡ Some finite.empty = sym (get-with_shelf_same shelves name shelf) ∙ ap (finite.get (with_shelf name shelf shelves)) (sym (tied_name q name tie)) ∙ is in
            elim (finite.len shelf == 0) as (λ b. (finite.len shelf == 0) ≡ b → cond b None (Some shelf) ≡ Some finite.empty → ⊥) [
              | true ↦ λ _ none. none-some _ none
              | false ↦ λ some same. true≢false (ap (λ n. n == 0) (sym (ap finite.len (same_Some _ _ same) ∙ finite.len-empty cmp V)) ∙ some)
            ] refl there
        | false ↦ λ other. filled q (sym (get-with_shelf_other shelves name shelf q (λ same. true≢false (sym (same_name q) ∙ ap (eq_by_cmp text_cmp q) same ∙ other))) ∙ is)
      ] refl

  -- some value stands under a name that has a shelf, and the other way
  module _ (o : IsTotalOrder cmp) where
    pub has_shelf-value : (shelves : Store cmp V) (name : List ℕ) → AreFilled shelves → IsTrue (has_shelf shelves name) → (key : K) × (v : V) × (value_at shelves name key ≡ Some v)
    has_shelf-value shelves name filled has =
        elim (finite.get shelves name) as (λ s. finite.get shelves name ≡ s → is_some s ≡ true → (key : K) × (v : V) × (finite.get (unwrap_or s finite.empty) key ≡ Some v)) [
          | None ↦ λ _ none. absurd (true≢false (sym none))
          | Some shelf ↦ λ is _. value_of_len o shelf (λ none. filled name (is ∙ ap Some (finite.empty_of_len shelf none)))
        ] refl has

    pub value-has_shelf : (shelves : Store cmp V) (name : List ℕ) (key : K) (v : V) → value_at shelves name key ≡ Some v → IsTrue (has_shelf shelves name)
    value-has_shelf shelves name key v is =
        elim (finite.get shelves name) as (λ s. finite.get (unwrap_or s finite.empty) key ≡ Some v → is_some s ≡ true) [
          | None ↦ λ none. absurd (none-some v (sym (finite.get-empty cmp key) ∙ none))
          | Some shelf ↦ λ _. refl
        ] is

    -- ---- a value more

    module _ (shelves : Store cmp V) (name : List ℕ) (key : K) (v : V) where
      pub shelf_of-put_same : shelf_of (put name key v shelves) name ≡ finite.insert (shelf_of shelves name) key v
      shelf_of-put_same = shelf_of-insert shelves name _

      pub get-put_other : (other : List ℕ) → other ≢ name → finite.get (put name key v shelves) other ≡ finite.get shelves other
      get-put_other other differ = get-insert_other shelves name _ other differ

      pub shelf_of-put_other : (other : List ℕ) → other ≢ name → shelf_of (put name key v shelves) other ≡ shelf_of shelves other
      shelf_of-put_other other differ = ap (λ s. unwrap_or s finite.empty) (get-put_other other differ)

      pub value_at-put_same : (q : K) → value_at (put name key v shelves) name q ≡ cond (eq_by_cmp cmp q key) (Some v) (value_at shelves name q)
      value_at-put_same q = ap (λ m. finite.get m q) shelf_of-put_same ∙ finite.get-insert o (shelf_of shelves name) key v q

      pub value_at-put_other : (other : List ℕ) (q : K) → other ≢ name → value_at (put name key v shelves) other q ≡ value_at shelves other q
      value_at-put_other other q differ = ap (λ m. finite.get m q) (shelf_of-put_other other differ)

      -- at each name and key
      pub value_at-put : (other : List ℕ) (q : K) → value_at (put name key v shelves) other q ≡ cond (eq_by_cmp text_cmp other name && eq_by_cmp cmp q key) (Some v) (value_at shelves other q)
      value_at-put other q =
          elim (eq_by_cmp text_cmp other name) as (λ b. eq_by_cmp text_cmp other name ≡ b → value_at (put name key v shelves) other q ≡ cond (b && eq_by_cmp cmp q key) (Some v) (value_at shelves other q)) [
            | true ↦ λ tie. subst (λ n. value_at (put name key v shelves) n q ≡ cond (eq_by_cmp cmp q key) (Some v) (value_at shelves n q)) (sym (tied_name other name tie)) (value_at-put_same q)
            | false ↦ λ differ. value_at-put_other other q (λ same. true≢false (sym (same_name other) ∙ ap (eq_by_cmp text_cmp other) same ∙ differ))
          ] refl

      pub has_shelf-put_same : has_shelf (put name key v shelves) name ≡ true
      has_shelf-put_same = ap is_some (get-insert_same text_total shelves name (finite.insert (shelf_of shelves name) key v))

      pub has_shelf-put_other : (other : List ℕ) → other ≢ name → has_shelf (put name key v shelves) other ≡ has_shelf shelves other
      has_shelf-put_other other differ = ap is_some (get-put_other other differ)

      pub put-with_shelf : put name key v shelves ≡ with_shelf name (finite.insert (shelf_of shelves name) key v) shelves
      put-with_shelf =
          sym (ap (λ b. cond b (finite.remove shelves name) (finite.insert shelves name (finite.insert (shelf_of shelves name) key v)))
          (ne_eqb _ 0 (len_of_value o _ key v (get-insert_same o (shelf_of shelves name) key v))))

      pub AreFilled-put : AreFilled shelves → AreFilled (put name key v shelves)
      AreFilled-put filled = subst (λ s. AreFilled s) (sym put-with_shelf) (AreFilled-with_shelf shelves name _ filled)

    -- ---- a value less

    module _ (shelves : Store cmp V) (name : List ℕ) (key : K) where
      pub shelf_of-without_same : shelf_of (without name key shelves) name ≡ without_key key (shelf_of shelves name)
      shelf_of-without_same = shelf_of-with_shelf_same shelves name _

      pub get-without_other : (other : List ℕ) → other ≢ name → finite.get (without name key shelves) other ≡ finite.get shelves other
      get-without_other other differ = get-with_shelf_other shelves name _ other differ

      pub shelf_of-without_other : (other : List ℕ) → other ≢ name → shelf_of (without name key shelves) other ≡ shelf_of shelves other
      shelf_of-without_other other differ = ap (λ s. unwrap_or s finite.empty) (get-without_other other differ)

      pub value_at-without_same : (q : K) → value_at (without name key shelves) name q ≡ cond (eq_by_cmp cmp q key) None (value_at shelves name q)
      value_at-without_same q = ap (λ m. finite.get m q) shelf_of-without_same ∙ get-without_key o (shelf_of shelves name) key q

      pub value_at-without_other : (other : List ℕ) (q : K) → other ≢ name → value_at (without name key shelves) other q ≡ value_at shelves other q
      value_at-without_other other q differ = ap (λ m. finite.get m q) (shelf_of-without_other other differ)

      -- at each name and key
      pub value_at-without : (other : List ℕ) (q : K) → value_at (without name key shelves) other q ≡ cond (eq_by_cmp text_cmp other name && eq_by_cmp cmp q key) None (value_at shelves other q)
      value_at-without other q =
          elim (eq_by_cmp text_cmp other name) as (λ b. eq_by_cmp text_cmp other name ≡ b → value_at (without name key shelves) other q ≡ cond (b && eq_by_cmp cmp q key) None (value_at shelves other q)) [
            | true ↦ λ tie. subst (λ n. value_at (without name key shelves) n q ≡ cond (eq_by_cmp cmp q key) None (value_at shelves n q)) (sym (tied_name other name tie)) (value_at-without_same q)
            | false ↦ λ differ. value_at-without_other other q (λ same. true≢false (sym (same_name other) ∙ ap (eq_by_cmp text_cmp other) same ∙ differ))
          ] refl

      pub AreFilled-without : AreFilled shelves → AreFilled (without name key shelves)
      AreFilled-without filled = AreFilled-with_shelf shelves name _ filled

      pub has_shelf-without_other : (other : List ℕ) → other ≢ name → has_shelf (without name key shelves) other ≡ has_shelf shelves other
      has_shelf-without_other other differ = ap is_some (get-without_other other differ)

      -- the shelf stays where another key has a value on it
      pub has_shelf-without_stays : (q : K) (v : V) → eq_by_cmp cmp q key ≡ false → value_at shelves name q ≡ Some v → IsTrue (has_shelf (without name key shelves) name)
      has_shelf-without_stays q v differ is =
          value-has_shelf (without name key shelves) name q v (value_at-without_same q ∙ ap (λ b. cond b None (value_at shelves name q)) differ ∙ is)

      -- and only there
      pub has_shelf-without_only : AreFilled shelves → IsTrue (has_shelf (without name key shelves) name) → (q : K) × (v : V) × (eq_by_cmp cmp q key ≡ false) × (value_at shelves name q ≡ Some v)
      has_shelf-without_only filled has =
          let some = has_shelf-value (without name key shelves) name (AreFilled-without filled) has in
          let there : cond (eq_by_cmp cmp some.0 key) None (value_at shelves name some.0) ≡ Some some.1 = sym (value_at-without_same some.0) ∙ some.2 in
          elim (eq_by_cmp cmp some.0 key) as (λ b. eq_by_cmp cmp some.0 key ≡ b → cond b None (value_at shelves name some.0) ≡ Some some.1 → (q : K) × (v : V) × (eq_by_cmp cmp q key ≡ false) × (value_at shelves name q ≡ Some v)) [
            | true ↦ λ _ none. absurd (none-some some.1 none)
            | false ↦ λ differ is. (some.0, some.1, differ, is)
          ] refl there
