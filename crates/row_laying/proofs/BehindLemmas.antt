-- What is laid behind others.
use Rattle.std.proofs.Common.{◌≡◌, List, [], ◌∷◌, ◌++◌, OnOk, Result, Ok, Err, refl, sym, ap, ◌∙◌}
use Rattle.org_core.specs.States.{Organisation, nothing}
use Rattle.sandboxes.specs.Sandboxes.{Holding}
use Rattle.sandboxes.specs.Sandboxes as sandboxes
use Rattle.row_reading.specs.declared.said.Said.{Said}
use Rattle.row_laying.specs.Laid.{IsLaid}
use Rattle.row_laying.specs.Laying.{with_said, files_with_said, with_all, files_with_all}

with_behind : (all : List Said) (one : Said) (o : Organisation) → with_all (all ++ one ∷ []) o ≡ with_said one (with_all all o)
with_behind [] one o = refl
with_behind (first ∷ rest) one o = with_behind rest one (with_said first o)

files_behind : (all : List Said) (one : Said) (held : Holding) → files_with_all (all ++ one ∷ []) held ≡ files_with_said one (files_with_all all held)
files_behind [] one held = refl
files_behind (first ∷ rest) one held = files_behind rest one (files_with_said first held)

-- one more is laid behind those that were
laid_behind : (all : List Said) (one : Said) (o new : Organisation) (held now : Holding) → new ≡ with_said one o → now ≡ files_with_said one held → IsLaid all o held → IsLaid (all ++ one ∷ []) new now
laid_behind all one o new held now organisation files laid = record {
  organisation = organisation ∙ ap (with_said one) laid.organisation ∙ sym (with_behind all one nothing);
  files = files ∙ ap (files_with_said one) laid.files ∙ sym (files_behind all one sandboxes.nothing);
}

-- where it was laid
pub behind_where_ok : {T E : Type 0} (result : Result T E) (one : Said) (o new : Organisation) (held now : Holding) → OnOk result (new ≡ with_said one o) → OnOk result (now ≡ files_with_said one held)
    → OnOk result ((all : List Said) → IsLaid all o held → IsLaid (all ++ one ∷ []) new now)
behind_where_ok (Ok x) one o new held now organisation files = λ all laid. laid_behind all one o new held now organisation files laid
behind_where_ok (Err fault) one o new held now organisation files = tt
