-- What comes of a row says what the row says, or why it is bad.
use Rattle.std.proofs.Common.{◌≡◌, ℕ, List, Option, Some, None, option_and_then, Result, Ok, Err, IfErr, IfOk, refl, sym, ap, ◌∙◌}
use Rattle.doc_tree.specs.declared.kind.Kind.{Kind}
use Rattle.outside_keeper.specs.declared.row_key.RowKey.{RowKey}
use Rattle.org_rows.specs.Places.{Place, kind_named}
use Rattle.org_rows.specs.Reasons.{named_place, reason_of_kind, reason_of_named, reason_of_said}
use Rattle.org_rows.specs.declared.reason.Reason.{Reason}
use Rattle.org_rows.specs.declared.reason.Reason.TheVariants as reason
use Rattle.row_reading.specs.Outcomes.{ComesOf}
use Rattle.row_reading.specs.Rows.{IsBadFor, IsSaying}
use Rattle.row_reading.specs.declared.said.Said.{Said}

-- the fault is the one that was given
same_err : {T E : Type 0} (x y : E) → ◌≡◌ {A = Result T E} (Err x) (Err y) → x ≡ y
same_err x y is = cc is

module _ (row : RowKey) (body : List ℕ) where
  -- no kind has the word
  pub bad_kind : kind_named row.kind ≡ None → IsBadFor row body reason.Kind
  bad_kind none lies_here rows = ap (reason_of_kind lies_here rows row body) none

  module _ (kind : Kind) (named : kind_named row.kind ≡ Some kind) where
    said_at : (at : Option Place) → named_place row.org kind row.name ≡ at → (read : Result Said Reason) → ComesOf at body read → IfOk read (IsSaying row body)
    said_at None place (Ok said) comes = cc comes
    said_at None place (Err why) comes = tt
    said_at (Some at) place (Ok said) comes = record {
      at = at;
      named = ap (option_and_then (λ k. named_place row.org k row.name)) named ∙ place;
      says = comes;
    }
    said_at (Some at) place (Err why) comes = tt

    -- what is said is what the row says
    said_of : (read : Result Said Reason) → ComesOf (named_place row.org kind row.name) body read → IfOk read (IsSaying row body)
    said_of read comes = said_at (named_place row.org kind row.name) refl read comes

    bad_at : (at : Option Place) → named_place row.org kind row.name ≡ at → (read : Result Said Reason) → ComesOf at body read → IfErr read (IsBadFor row body)
    bad_at None place (Ok said) comes = tt
    bad_at None place (Err why) comes = λ lies_here rows.
        ap (reason_of_kind lies_here rows row body) named ∙ ap (reason_of_named lies_here rows row body) place ∙ ap Some (sym (same_err why reason.Name comes))
    bad_at (Some at) place (Ok said) comes = tt
    bad_at (Some at) place (Err why) comes = λ lies_here rows.
        ap (reason_of_kind lies_here rows row body) named ∙ ap (reason_of_named lies_here rows row body) place ∙ ap (reason_of_said lies_here rows row at) comes.1 ∙ ap Some (sym comes.0)

    -- and the reason is why it is bad
    bad_of : (read : Result Said Reason) → ComesOf (named_place row.org kind row.name) body read → IfErr read (IsBadFor row body)
    bad_of read comes = bad_at (named_place row.org kind row.name) refl read comes

    pub said_ok : {E : Type 0} (r : Result (Result Said Reason) E) → IfOk r (ComesOf (named_place row.org kind row.name) body) → IfOk r (λ read. IfOk read (IsSaying row body))
    said_ok (Ok read) comes = said_of read comes
    said_ok (Err e) comes = tt

    pub bad_ok : {E : Type 0} (r : Result (Result Said Reason) E) → IfOk r (ComesOf (named_place row.org kind row.name) body) → IfOk r (λ read. IfErr read (IsBadFor row body))
    bad_ok (Ok read) comes = bad_of read comes
    bad_ok (Err e) comes = tt
