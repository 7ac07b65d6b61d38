-- Manifests: the checksums that one names, the faults that its refusal tells, and the files that none misses.
use Rattle.std.proofs.Common.{◌≡◌, ℕ, Bool, true, false, not, ◌&&◌, List, [], ◌∷◌, Option, Some, None, Result, Ok, Err, option_map, refl, sym, ap, ◌∙◌}
use Rattle.std.proofs.lemmas.Option.{same_Some}
use Rattle.membership.specs.TextSets.{in_order}
use Rattle.membership.proofs.TextSetLemmas.{in_order-rising, in_order-same}
use Rattle.membership.proofs.TextSetLemmas.{lists-in_order}
use Rattle.cookbook_meta.specs.Faults.{field_of}
use Rattle.cookbook_meta.specs.Outcomes.{Gives}
use Rattle.cookbook_meta.specs.declared.fault.MetaFault.{MetaFault}
use Rattle.cookbook_meta.specs.declared.fault.MetaFault.TheVariants as fault
use Rattle.doc_tree.specs.Doc.{Doc}
use Rattle.sandboxes.specs.Sandboxes.{Holding}
use Rattle.sandboxes.specs.Sums.{IsRising, Sums, lists}
use Rattle.org_shelves.proofs.DroppedLemmas.{lists_filtered}
use Rattle.org_shelves.specs.Editions.{names_sum, sums_in}
use Rattle.org_shelves.specs.Files.{is_committed}
use Rattle.org_core.specs.Manifests.{IsToldAs, missing_sums, missing_told, or_bad_manifest}
use Rattle.org_requests.specs.Refusals.{Tells, first_some, refuses}
use Rattle.org_requests.specs.declared.refusals.Stop.{Stop}
use Rattle.org_requests.specs.declared.refusals.Stop.TheVariants.{Refused, NoMemory}
use Rattle.org_requests.specs.declared.refusals.Refusal.{Refusal}
use Rattle.org_requests.specs.declared.refusals.Refusal.TheVariants.{BadField}

-- rising texts that a manifest names, and all of them, are those in order
pub sums_are : (sums : List (List ℕ)) (manifest : Doc) → IsRising sums → ((sum : List ℕ) → lists sums sum ≡ lists (sums_in manifest) sum) → sums ≡ in_order (sums_in manifest)
sums_are sums manifest rising same = sym (in_order-rising sums rising) ∙ in_order-same sums (sums_in manifest) same

-- a fault that names a field is refused by it
pub told_fault : (found : MetaFault) (read : Result Doc MetaFault) (refusal : Refusal) → Gives {A = Doc} (Err found) read → option_map BadField (field_of found) ≡ Some refusal → or_bad_manifest read ≡ Err refusal
told_fault (fault.MissingField field) read refusal gives told = ap or_bad_manifest gives ∙ ap Err (same_Some (BadField field) refusal told)
told_fault (fault.WrongKind field) read refusal gives told = ap or_bad_manifest gives ∙ ap Err (same_Some (BadField field) refusal told)
told_fault (fault.BadVersion field) read refusal gives told = ap or_bad_manifest gives ∙ ap Err (same_Some (BadField field) refusal told)
told_fault (fault.NameDiffers field) read refusal gives told = ap or_bad_manifest gives ∙ ap Err (same_Some (BadField field) refusal told)
told_fault (fault.BadChecksum field) read refusal gives told = ap or_bad_manifest gives ∙ ap Err (same_Some (BadField field) refusal told)
told_fault (fault.DoublePath field) read refusal gives told = ap or_bad_manifest gives ∙ ap Err (same_Some (BadField field) refusal told)
told_fault fault.NoMemory read refusal gives told = cc told

-- a stop that tells of a fault refuses what was at fault
pub stop_tells : (found : MetaFault) (stop : Stop) (read : Result Doc MetaFault) → Gives {A = Doc} (Err found) read → IsToldAs stop found → Tells {T = Doc} (Err stop) (or_bad_manifest read)
stop_tells found (Refused refusal) read gives told = told_fault found read refusal gives told
stop_tells found NoMemory read gives told = tt

-- what no refusal stands for was read
pub said_ok : (read : Result Doc MetaFault) (manifest : Doc) → or_bad_manifest read ≡ Ok manifest → read ≡ Ok manifest
said_ok (Ok other) manifest is = cc is
said_ok (Err fault) manifest is = cc

-- nothing is told where nothing is missing
pub none_told : (sums : Sums) → missing_told sums ≡ None → sums ≡ []
none_told [] is = refl
none_told (sum ∷ sums) is = cc

-- where neither of two refusals stands, the second doesn't
pub second_none : (refusal : Refusal) (stands : Bool) (missing : Option Refusal) → first_some (refuses refusal stands ∷ missing ∷ []) ≡ None → missing ≡ None
second_none refusal true missing is = cc
second_none refusal false None is = refl
second_none refusal false (Some other) is = cc

there_if : (among committed : Bool) → among ≡ true → (among && not committed) ≡ false → committed ≡ true
there_if true true is none = refl
there_if true false is none = cc
there_if false committed is none = cc

-- where no file is missing, each that the manifest names is there and committed
pub named_there : (files : Holding) (manifest : Doc) → missing_sums files manifest ≡ [] → (sum : List ℕ) → names_sum manifest sum ≡ true → is_committed files sum ≡ true
named_there files manifest none sum names =
    there_if (lists (in_order (sums_in manifest)) sum) (is_committed files sum) (lists-in_order (sums_in manifest) sum ∙ names)
    (sym (lists_filtered (λ s. not (is_committed files s)) (in_order (sums_in manifest)) sum) ∙ ap (λ (sums : Sums). lists sums sum) none)
