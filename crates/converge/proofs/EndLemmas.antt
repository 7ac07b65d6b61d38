-- What a run comes to, and what is known of it.
use Rattle.std.proofs.Common.{◌≡◌, ℕ, List, [], ◌∷◌, ◌++◌, Some, None, refl, sym, ap, subst, ◌∙◌}
use Rattle.std.proofs.lemmas.List.{append-nil}
use Rattle.host_acts.specs.declared.cause.Cause.{Cause}
use Rattle.host_tree.specs.Entries.{Entries}
use Rattle.notify_queue.specs.declared.pair.Pair.{Pair}
use Rattle.resource_core.specs.Plans.{Planned}
use Rattle.converge.proofs.SettledLemmas.{settled_stays, well_settles}
use Rattle.converge.specs.Ending.{TellsEnd}
use Rattle.converge.specs.Outcomes.{ComesTo, IsComplete, IsIdle, Settles, lack_in}
use Rattle.converge.specs.Reports.{last_line, lines_of}
use Rattle.converge.specs.Runs.{Begins, before_queued, IsCutOff, Run, failed_or, first_failed}
use Rattle.converge.specs.Settled.{Agree, AreUpToDate}
use Rattle.converge.specs.declared.deeds.Deed.{Deed}
use Rattle.converge.specs.declared.outcome.Outcome.{Outcome}
use Rattle.converge.specs.declared.outcome.Outcome.TheVariants as of

-- a whole run is one as far as it came
whole_begins : (plan : Planned) (host new : Entries) (acts : List Deed) → Run plan host acts new → IsCutOff plan host acts new
whole_begins plan host new acts run = record {
  left = [];
  mid = new;
  begins = subst (λ (xs : List Deed). Begins plan host xs [] new) (sym run.acts_are) (before_queued [] run.owns run.rest (append-nil run.list ∙ run.once));
  part = refl;
}

pub comes_end : (plan : Planned) (acts : List Deed) (lines : List (List ℕ)) (result : Outcome) → lines ≡ lines_of plan acts → TellsEnd acts lines result → (host new : Entries) → Run plan host acts new → ComesTo plan result host new
comes_end plan acts lines (of.Done report) is told host new run = record { acts = acts; run = run; well = told.0; told = told.1 ∙ ap (λ (ls : List (List ℕ)). ls ++ last_line acts ∷ []) is }
comes_end plan acts lines (of.Failed resource action cause report) is told host new run = record { acts = acts; run = run; failed = told.0; told = told.1 ∙ is }
comes_end plan acts lines (of.HostFault report) is told host new run = absurd told
comes_end plan acts lines (of.LacksCap cap) is told host new run = absurd told
comes_end plan acts lines of.NoMemory is told host new run = (acts, whole_begins plan host new acts run)

pub comes_settled : (plan : Planned) (result : Outcome) → Agree plan → (host new : Entries) → ComesTo plan result host new → Settles plan result host new
comes_settled plan (of.Done report) agree host new is = well_settles plan host new is.acts agree is.run is.well
comes_settled plan (of.Failed resource action cause report) agree host new is = tt
comes_settled plan (of.HostFault report) agree host new is = tt
comes_settled plan (of.LacksCap cap) agree host new is = tt
comes_settled plan of.NoMemory agree host new is = tt

-- what is up to date didn't fail
idle_well : (acts : List Deed) → AreUpToDate acts → first_failed acts ≡ None
idle_well [] idle = refl
idle_well (act ∷ more) idle = ap (λ v. failed_or act.pair v (first_failed more)) idle.0 ∙ idle_well more idle.1

pub comes_idle : (plan : Planned) (result : Outcome) → lack_in result ≡ None → (host new : Entries) → ComesTo plan result host new → IsIdle plan result host new
comes_idle plan (of.Done report) lacks host new is settled =
    let stays = settled_stays plan host new is.acts settled is.run in
    record { acts = is.acts; run = is.run; idle = stays.0; stays = stays.1; told = is.told }
comes_idle plan (of.Failed resource action cause report) lacks host new is settled =
    let stays = settled_stays plan host new is.acts settled is.run in
    some_never (sym is.failed ∙ idle_well is.acts stays.0)
  where
    some_never : {x : Pair × Cause} → Some x ≡ None → ⊥
    some_never h = cc
comes_idle plan (of.HostFault report) lacks host new is settled = tt
comes_idle plan (of.LacksCap cap) lacks host new is settled = cc
comes_idle plan of.NoMemory lacks host new is settled = tt

pub comes_complete : (plan : Planned) (result : Outcome) → lack_in result ≡ None → (host new : Entries) → ComesTo plan result host new → IsComplete plan result host new
comes_complete plan (of.Done report) lacks host new is none = tt
comes_complete plan (of.Failed resource action cause report) lacks host new is none = some_never (sym is.failed ∙ none is.acts new is.run)
  where
    some_never : {x : Pair × Cause} → Some x ≡ None → ⊥
    some_never h = cc
comes_complete plan (of.HostFault report) lacks host new is none = tt
comes_complete plan (of.LacksCap cap) lacks host new is none = cc
comes_complete plan of.NoMemory lacks host new is none = tt
