-- The keys of a map that is read, as entries in order.
use Rattle.std.proofs.Common.{◌≡◌, ◌≤◌, ◌<◌, ◌+◌, ◌-◌, ℕ, zero, suc, List, [], ◌∷◌, ◌++◌, length, get_or, map, option_map, slice_get, Bool, cond, Some, None, true, false, Less, Equal, Greater, is_lt, nat_cmp, bytes_eq, is_eq, refl, sym, ap, ◌∙◌, subst, arith}
use Rattle.std.proofs.lemmas.Map.Text.{is_eq-slice_cmp}
use Rattle.std.proofs.lemmas.List.{length-map}
use Rattle.std.proofs.lemmas.Option.{none-some, same_Some, slice_get-get_or, slice_get-map}
use Rattle.std.specs.BTreeMap.{insert_entry, is_at}
use Rattle.std.specs.Cmp.Lexicographic.{slice_cmp, nat_list_cmp_total}
use Rattle.std.specs.List.{AllByRecursion}
use Rattle.std.specs.List.Sorted.{IsStrictlySortedBy}
use Rattle.std.specs.Map.{keys_of, lookup}
use Rattle.std.specs.Ordering.{match_ordering, ordering_reverse}
use Rattle.std.specs.declared.cmp.Ordering.{Ordering}
use Rattle.doc_tree.specs.Tree.{pair_of}
use Rattle.doc_tree.specs.declared.tree.Field.{Field}
use Rattle.doc_tree.specs.Doc.{Doc, pairs_of}
use Rattle.doc_tree.specs.Part.{pair_at}
use Rattle.doc_tree.specs.Valid.{InOrder}
use Rattle.doc_tree.proofs.Maps.{bytes_eq-symm}

-- what an ordered map has at a text is what the dict of its entries has
pub lookup_is : (key : List ℕ) (es : List (List ℕ × Doc)) → lookup (is_at (slice_cmp nat_cmp key)) es ≡ pair_at key (pairs_of es)
lookup_is key [] = refl
lookup_is key (e ∷ es) =
    ap (λ b. cond b (Some e.1) (lookup (is_at (slice_cmp nat_cmp key)) es)) (is_eq-slice_cmp key e.0 ∙ bytes_eq-symm key e.0)
    ∙ ap (λ o. cond (bytes_eq e.0 key) (Some e.1) o) (lookup_is key es)

all_front : (P : List ℕ → Type 0) (xs ys : List (List ℕ × Doc)) (e : List ℕ × Doc) → AllByRecursion P (keys_of (xs ++ e ∷ ys)) → AllByRecursion P (keys_of xs ++ e.0 ∷ [])
all_front P [] ys e all = (all.0, tt)
all_front P (x ∷ xs) ys e all = (all.0, all_front P xs ys e all.1)

-- of keys in order, those before one and that one are in order
pub front_in_order : (xs ys : List (List ℕ × Doc)) (e : List ℕ × Doc) → InOrder (keys_of (xs ++ e ∷ ys)) → InOrder (keys_of xs ++ e.0 ∷ [])
unfolding IsStrictlySortedBy
front_in_order [] ys e order = (tt, tt)
front_in_order (x ∷ xs) ys e order = (all_front _ xs ys e order.0, front_in_order xs ys e order.1)

last_of : (P : List ℕ → Type 0) (es : List (List ℕ × Doc)) (key : List ℕ) → AllByRecursion P (keys_of es ++ key ∷ []) → P key
last_of P [] key all = all.0
last_of P (e ∷ es) key all = last_of P es key all.1

above : (one key : List ℕ) → slice_cmp nat_cmp one key ≡ Less → slice_cmp nat_cmp key one ≡ Greater
above one key less = nat_list_cmp_total.antisymm key one ∙ ap ordering_reverse less

-- a key behind all others goes to the end
pub insert_last : (es : List (List ℕ × Doc)) (key : List ℕ) (d : Doc) → InOrder (keys_of es ++ key ∷ []) → insert_entry (slice_cmp nat_cmp) es key d ≡ es ++ (key, d) ∷ []
unfolding IsStrictlySortedBy
insert_last [] key d order = refl
insert_last (e ∷ es) key d order =
    ap (λ o. match_ordering o ((key, d) ∷ e ∷ es) ((e.0, d) ∷ es) (e ∷ insert_entry (slice_cmp nat_cmp) es key d)) (above e.0 key (last_of _ es key order.0))
    ∙ ap (λ rest. e ∷ rest) (insert_last es key d order.1)

-- and is at none of them
pub none_behind : (es : List (List ℕ × Doc)) (key : List ℕ) → InOrder (keys_of es ++ key ∷ []) → pair_at key (pairs_of es) ≡ None
unfolding IsStrictlySortedBy
none_behind [] key order = refl
none_behind (e ∷ es) key order = rw (other (last_of _ es key order.0)) (none_behind es key order.1)
  where
    other : slice_cmp nat_cmp e.0 key ≡ Less → bytes_eq e.0 key ≡ false
    other less = sym (is_eq-slice_cmp e.0 key) ∙ ap is_eq less

-- ---- a key above the last one

entry_at : (P : List ℕ → Type 0) (es : List (List ℕ × Doc)) (i : ℕ) (e : List ℕ × Doc) → slice_get es i ≡ Some e → AllByRecursion P (keys_of es) → P e.0
entry_at P [] i e is all = cc
entry_at P (x ∷ es) zero e is all = subst (λ (r : List ℕ × Doc). P r.0) (same_Some x e is) all.0
entry_at P (x ∷ es) (suc i) e is all = entry_at P es i e is all.1

all_with : (P : List ℕ → Type 0) (es : List (List ℕ × Doc)) (key : List ℕ) → AllByRecursion P (keys_of es) → P key → AllByRecursion P (keys_of es ++ key ∷ [])
all_with P [] key all one = (one, tt)
all_with P (x ∷ es) key all one = (all.0, all_with P es key all.1 one)

-- stands behind all
pub behind_last : (es : List (List ℕ × Doc)) (i : ℕ) (e : List ℕ × Doc) (key : List ℕ) → InOrder (keys_of es) → slice_get es i ≡ Some e → length es ≤ i + 1 → slice_cmp nat_cmp e.0 key ≡ Less
    → InOrder (keys_of es ++ key ∷ [])
unfolding IsStrictlySortedBy
behind_last [] i e key order is last less = (tt, tt)
behind_last (x ∷ []) zero e key order is last less = ((subst (λ (r : List ℕ × Doc). slice_cmp nat_cmp r.0 key ≡ Less) (sym (same_Some x e is)) less, tt), (tt, tt))
behind_last (x ∷ y ∷ es) zero e key order is last less = absurd (omega (arith, last))
behind_last (x ∷ es) (suc i) e key order is last less =
    (all_with _ es key order.0 (nat_list_cmp_total.trans x.0 e.0 key (entry_at _ es i e is order.0) less), behind_last es i e key order.1 is (omega (arith, last)) less)

pub lt_less : (o : Ordering) → is_lt o ≡ true → o ≡ Less
lt_less Less holds = refl
lt_less Equal holds = cc
lt_less Greater holds = cc

field_at : (fs : List Field) (es : List (List ℕ × Doc)) (f : Field) → map pair_of fs ≡ es → Some f ≡ slice_get fs (length fs - 1) → slice_get es (length fs - 1) ≡ Some (pair_of f)
field_at fs es f are last =
    ap (λ (xs : List (List ℕ × Doc)). slice_get xs (length fs - 1)) (sym are) ∙ slice_get-map pair_of fs (length fs - 1) ∙ ap (option_map pair_of) (sym last)

-- the same of fields, as the slice has them
pub field_behind : (fs : List Field) (es : List (List ℕ × Doc)) (f : Field) (key : List ℕ) (less : Bool) → map pair_of fs ≡ es → InOrder (keys_of es) → Some f ≡ slice_get fs (length fs - 1)
    → less ≡ is_lt (slice_cmp nat_cmp f.key key) → less ≡ true → InOrder (keys_of es ++ key ∷ [])
field_behind fs es f key less are order last is holds =
    let many : length es ≡ length fs = ap length (sym are) ∙ length-map fs pair_of in
    behind_last es (length fs - 1) (pair_of f) key order (field_at fs es f are last) (omega (arith, many)) (lt_less _ (sym is ∙ holds))

key_behind : (es : List (List ℕ × Doc)) (i : ℕ) (e : List ℕ × Doc) (key : List ℕ) → slice_get es i ≡ Some e → InOrder (keys_of es ++ key ∷ []) → slice_cmp nat_cmp e.0 key ≡ Less
unfolding IsStrictlySortedBy
key_behind [] i e key is order = absurd (none-some e is)
key_behind (x ∷ es) zero e key is order = subst (λ (r : List ℕ × Doc). slice_cmp nat_cmp r.0 key ≡ Less) (same_Some x e is) (last_of _ es key order.0)
key_behind (x ∷ es) (suc i) e key is order = key_behind es i e key is order.1

-- and only such a key
pub behind_field : (fs : List Field) (es : List (List ℕ × Doc)) (f : Field) (key : List ℕ) (less : Bool) → map pair_of fs ≡ es → Some f ≡ slice_get fs (length fs - 1)
    → less ≡ is_lt (slice_cmp nat_cmp f.key key) → InOrder (keys_of es ++ key ∷ []) → less ≡ true
behind_field fs es f key less are last is order = is ∙ ap is_lt (key_behind es (length fs - 1) (pair_of f) key (field_at fs es f are last) order)

pub last_is : {A : Type 0} (x : A) (xs : List A) → slice_get (x ∷ xs) (length (x ∷ xs) - 1) ≡ Some (get_or (x ∷ xs) (length (x ∷ xs) - 1) x)
last_is x xs = let within : length (x ∷ xs) - 1 < length (x ∷ xs) = omega arith in slice_get-get_or (x ∷ xs) (length (x ∷ xs) - 1) x within

-- where there is no last field, any key
pub first_behind : (fs : List Field) (es : List (List ℕ × Doc)) (key : List ℕ) → map pair_of fs ≡ es → None ≡ slice_get fs (length fs - 1) → InOrder (keys_of es ++ key ∷ [])
unfolding IsStrictlySortedBy
first_behind fs [] key are none = (tt, tt)
first_behind [] (e ∷ es) key are none = cc
first_behind (f ∷ fs) (e ∷ es) key are none = absurd (none-some _ (none ∙ last_is f fs))
