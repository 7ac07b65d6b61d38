-- A row that goes behind all others.
use Rattle.std.proofs.Common.{◌≡◌, ℕ, suc, ◌-◌, ◌<◌, true, false, T, List, [], ◌∷◌, ◌++◌, length, slice_get, Option, Some, None, option_copied, IsTrue, Ordering, Less, Equal, Greater, refl, sym, ap, subst, ◌∙◌, arith}
use mathlib.Core.Bool.{true≢false}
use denote.Ref.{Bor}
use Rattle.std.specs.FinMap as finite
use Rattle.std.specs.FinMap.Entries.{put, by_order, below_all, is_sorted}
use Rattle.std.specs.Ordering.{is_lt}
use Rattle.std.proofs.lemmas.Option.{same_Some, get_or_from_slice_get}
use Rattle.shelves.specs.Places.{IsInKeyOrder}
use Rattle.shelves.proofs.PlaceLemmas.{passed, left_of, right_of, flipped, below_at}
use Rattle.shelves.proofs.MapLemmas.{last_is, order_put, map_put}
use Rattle.outside_keeper.specs.Rows.{row_cmp, row_cmp_total, KeptRows, is_above, is_above_row}
use Rattle.outside_keeper.specs.declared.row_key.RowKey.{RowKey}

less_of : (r : Ordering) → IsTrue (is_lt r) → r ≡ Less
less_of Less is = refl
less_of Equal is = absurd (true≢false (sym is))
less_of Greater is = absurd (true≢false (sym is))

-- where the key is above that of the last row, its row goes to the end
at_end : (key : RowKey) (body : List ℕ) (e : RowKey × List ℕ) (es : List (RowKey × List ℕ)) (x : RowKey × List ℕ)
    → T (is_sorted row_cmp (e ∷ es)) → slice_get (e ∷ es) (length (e ∷ es) - 1) ≡ Some x → row_cmp x.0 key ≡ Less
    → put row_cmp key body (e ∷ es) ≡ (e ∷ es) ++ (key, body) ∷ []
at_end key body e [] x h is above =
    let over : row_cmp key e.0 ≡ Greater = flipped row_cmp row_cmp_total e.0 key (subst (λ (y : RowKey × List ℕ). row_cmp y.0 key ≡ Less) (sym (same_Some e x is)) above) in
    ap (λ o. by_order o ((key, body) ∷ e ∷ []) ((e.0, body) ∷ []) (e ∷ (key, body) ∷ [])) over
at_end key body e (f ∷ es) x h is above =
    let places : length (e ∷ f ∷ es) - 1 ≡ suc (length (f ∷ es) - 1) = omega arith in
    let there : slice_get (f ∷ es) (length (f ∷ es) - 1) ≡ Some x = sym (ap (slice_get (e ∷ f ∷ es)) places) ∙ is in
    let within : length (f ∷ es) - 1 < length (f ∷ es) = omega arith in
    let first : row_cmp e.0 x.0 ≡ Less =
    subst (λ (y : RowKey × List ℕ). row_cmp e.0 y.0 ≡ Less) (get_or_from_slice_get (f ∷ es) _ x e there)
    (below_at row_cmp row_cmp_total e.0 (f ∷ es) (length (f ∷ es) - 1) e (left_of (below_all row_cmp e.0 (f ∷ es)) (is_sorted row_cmp (f ∷ es)) h) within) in
    let over : row_cmp key e.0 ≡ Greater = flipped row_cmp row_cmp_total e.0 key (row_cmp_total.trans e.0 x.0 key first above) in
    ap (λ o. by_order o ((key, body) ∷ e ∷ f ∷ es) ((e.0, body) ∷ f ∷ es) (e ∷ put row_cmp key body (f ∷ es))) over
    ∙ ap (λ l. e ∷ l) (at_end key body f es x (right_of (below_all row_cmp e.0 (f ∷ es)) (is_sorted row_cmp (f ∷ es)) h) there above)

some_last : (e : RowKey × List ℕ) (es : List (RowKey × List ℕ)) → slice_get (e ∷ es) (length (e ∷ es) - 1) ≡ None → ⊥
some_last e [] is = cc is
some_last e (f ∷ es) is =
    let places : length (e ∷ f ∷ es) - 1 ≡ suc (length (f ∷ es) - 1) = omega arith in
    some_last f es (sym (ap (slice_get (e ∷ f ∷ es)) places) ∙ is)

ended : (key : RowKey) (body : List ℕ) (es : List (RowKey × List ℕ)) (r : Option (RowKey × List ℕ)) → T (is_sorted row_cmp es)
    → slice_get es (length es - 1) ≡ r → IsTrue (is_above_row key r) → put row_cmp key body es ≡ es ++ (key, body) ∷ []
ended key body [] r h is above = refl
ended key body (e ∷ es) None h is above = absurd (some_last e es is)
ended key body (e ∷ es) (Some x) h is above = at_end key body e es x h is (less_of _ above)

put_last : (key : RowKey) (body : List ℕ) (es : List (RowKey × List ℕ)) → IsInKeyOrder row_cmp es → IsTrue (is_above key (finite.from_sorted es))
    → put row_cmp key body es ≡ es ++ (key, body) ∷ []
put_last key body es order above = ended key body es _ (passed _ order) (last_is row_cmp row_cmp_total es order) above

-- with a row more at the end these are in order, and their map has it
pub order_pushed : (key : RowKey) (body : List ℕ) (es new : List (RowKey × List ℕ)) → IsInKeyOrder row_cmp es → IsTrue (is_above key (finite.from_sorted es))
    → new ≡ es ++ (key, body) ∷ [] → IsInKeyOrder row_cmp new
order_pushed key body es new order above is =
    subst (λ l. IsInKeyOrder row_cmp l) (put_last key body es order above ∙ sym is) (order_put row_cmp row_cmp_total key body es order)

pub map_pushed : (key : RowKey) (body : List ℕ) (es new : List (RowKey × List ℕ)) → IsInKeyOrder row_cmp es → IsTrue (is_above key (finite.from_sorted es))
    → new ≡ es ++ (key, body) ∷ [] → finite.from_sorted {R = row_cmp} new ≡ finite.insert (finite.from_sorted es) key body
map_pushed key body es new order above is =
    ap (λ l. finite.from_sorted {R = row_cmp} l) (is ∙ sym (put_last key body es order above)) ∙ map_put row_cmp row_cmp_total key body es order

-- the key is above that of the last row of these
pub above_is : (key : RowKey) (es : List (RowKey × List ℕ)) (r : Option (Bor (RowKey × List ℕ))) → IsInKeyOrder row_cmp es
    → option_copied r ≡ slice_get es (length es - 1) → is_above_row key (option_copied r) ≡ is_above key (finite.from_sorted es)
above_is key es r order is = ap (is_above_row key) (is ∙ last_is row_cmp row_cmp_total es order)
