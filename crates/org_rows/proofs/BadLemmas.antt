-- All rows are good exactly where there is no first bad one.
use Rattle.std.proofs.Common.{◌≡◌, ℕ, Bool, true, false, cond, List, [], ◌∷◌, find, is_some, Option, Some, None, option_map, option_and_then, refl, sym, ap, subst, ◌∙◌}
use Rattle.std.specs.Cmp.{Equal-is}
use Rattle.std.specs.FinMap as finite
use Rattle.std.specs.FinMap.Entries as entries
use Rattle.std.specs.Ordering.{eq_by_cmp}
use Rattle.outside_keeper.proofs.RowLemmas.{row_cmp_ties}
use Rattle.outside_keeper.specs.Rows.{KeptRows, row_cmp, row_cmp_total}
use Rattle.outside_keeper.specs.declared.row_key.RowKey.{RowKey}
use Rattle.org_rows.specs.Laws.{FirstBadTells}
use Rattle.org_rows.specs.Reasons.{AreGood, bad, first_bad, reason_of}
use Rattle.org_rows.specs.declared.reason.Reason.{Reason}
use Rattle.org_rows.proofs.EntryLemmas.{AllEntries, all_entries}
use Rattle.org_rows.proofs.WordLemmas.{found, some_same, true_false}

abbrev Entry : Type 0
Entry = RowKey × List ℕ

module _ (P : RowKey → List ℕ → Type 0) where
  all_at : (es : List Entry) → AllEntries row_cmp row_cmp_total P es → (q : RowKey) (x : List ℕ) → entries.find row_cmp q es ≡ Some x → P q x
  all_at [] all q x is = cc is
  all_at (e ∷ es) all q x is =
      elim (eq_by_cmp row_cmp q e.0) as (λ b. eq_by_cmp row_cmp q e.0 ≡ b → cond b (Some e.1) (entries.find row_cmp q es) ≡ Some x → P q x) [
        | true ↦ λ same some. subst (λ k. P k x) (sym (row_cmp_ties q e.0 ((Equal-is _).0 same))) (subst (P e.0) (some_same e.1 x some) all.0)
        | false ↦ λ other rest. all_at es all.1 q x rest
      ] refl is

module _ (lies_here : List ℕ → Bool) (rows : KeptRows) where
  abbrev IsGoodEntry : RowKey → List ℕ → Type 0
  IsGoodEntry row body = reason_of lies_here rows row body ≡ None

  good_of : (e : Entry) (why : Option Reason) → is_some {T = RowKey × Reason} (option_map (λ (w : Reason). (e.0, w)) why) ≡ false → why ≡ None
  good_of e None is = refl
  good_of e (Some w) is = true_false is

  bad_of : (e : Entry) → IsGoodEntry e.0 e.1 → is_some (bad lies_here rows e) ≡ false
  bad_of e is = ap (λ why. is_some {T = RowKey × Reason} (option_map (λ (w : Reason). (e.0, w)) why)) is

  all_good : (es : List Entry) → find (λ e. is_some (bad lies_here rows e)) es ≡ None → AllEntries row_cmp row_cmp_total IsGoodEntry es
  all_good [] is = tt
  all_good (e ∷ es) is =
      elim (is_some (bad lies_here rows e)) as (λ b. is_some (bad lies_here rows e) ≡ b → cond b (Some e) (find (λ e. is_some (bad lies_here rows e)) es) ≡ None → AllEntries row_cmp row_cmp_total IsGoodEntry (e ∷ es)) [
        | true ↦ λ is_bad none. cc none
        | false ↦ λ is_good rest. (good_of e (reason_of lies_here rows e.0 e.1) is_good, all_good es rest)
      ] refl is

  none_bad : (es : List Entry) → AllEntries row_cmp row_cmp_total IsGoodEntry es → find (λ e. is_some (bad lies_here rows e)) es ≡ None
  none_bad [] all = refl
  none_bad (e ∷ es) all = ap (λ b. cond b (Some e) (find (λ e. is_some (bad lies_here rows e)) es)) (bad_of e all.0) ∙ none_bad es all.1

  -- what is found is bad
  not_found : (first : Option Entry) → find (λ e. is_some (bad lies_here rows e)) (finite.entries rows) ≡ first → option_and_then (bad lies_here rows) first ≡ None → first ≡ None
  not_found None at is = refl
  not_found (Some e) at is = true_false (sym (found (λ e. is_some (bad lies_here rows e)) (finite.entries rows) e at) ∙ ap is_some is)

  good_where_none : first_bad lies_here rows ≡ None → AreGood lies_here rows
  good_where_none is row body at =
      all_at IsGoodEntry (finite.entries rows) (all_good (finite.entries rows) (not_found (find (λ e. is_some (bad lies_here rows e)) (finite.entries rows)) refl is)) row body (sym (finite.get-entries rows row) ∙ at)

  none_where_good : AreGood lies_here rows → first_bad lies_here rows ≡ None
  none_where_good good = ap (option_and_then (bad lies_here rows)) (none_bad (finite.entries rows) (all_entries row_cmp row_cmp_total IsGoodEntry rows good))

pub tells : FirstBadTells
tells lies_here rows = (good_where_none lies_here rows, none_where_good lies_here rows)
