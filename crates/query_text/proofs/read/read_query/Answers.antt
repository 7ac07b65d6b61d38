-- A byte along which the machine doesn't go is the fault's place, and else the end of the text is looked at.
use Rattle.std.proofs.Common.{◌≡◌, ℕ, suc, Some, None, List, take, length, add-one, sym, ap, subst, refl, ◌∙◌}
use Rattle.std.proofs.lemmas.List.{take_all}
use Rattle.query_text.specs.Grammar.{Spells}
use Rattle.query_text.specs.Place.{IsFault}
use Rattle.query_text.specs.Machine.{start, steps}
use Rattle.query_text.specs.declared.fault.QueryFault.TheVariants.{NotAQuery}
use Rattle.query_text.proofs.PlaceLemmas.{one_more, fault_within, fault_at_end, spelled_at_end}
use Rattle.query_text.proofs.read.read_query.Goals as goal

pub loop-index-preserved : goal.loop-index-preserved
loop-index-preserved c =
    one_more c.as_bytes-bytes.result.now c.loop-index.index _ c.loop-index.config c.loop-index-test.true refl c.loop-index.invariant
    ∙ sym c.in_ok-next.ensures
    ∙ c.in-Some.is

pub returns-in-None-clause-fault : goal.returns-in-None-clause-fault
returns-in-None-clause-fault c =
    let stops : steps (take (suc c.loop-index.index) c.as_bytes-bytes.result.now) (Some start) ≡ None =
    ap (λ (n : ℕ). steps (take n c.as_bytes-bytes.result.now) (Some start)) (sym (add-one c.loop-index.index))
    ∙ one_more c.as_bytes-bytes.result.now c.loop-index.index _ c.loop-index.config c.loop-index-test.true refl c.loop-index.invariant
    ∙ sym c.in_ok-next.ensures
    ∙ c.in-None.is in
    subst (λ (t : List ℕ). IsFault t (NotAQuery c.loop-index.index)) c.as_bytes-bytes.ensures.value
    (fault_within c.as_bytes-bytes.result.now c.loop-index.index c.loop-index.config c.loop-index-test.true c.loop-index.invariant stops)

pub returns-in-Some-2-clause-query : goal.returns-in-Some-2-clause-query
returns-in-Some-2-clause-query c =
    let all : steps c.as_bytes-bytes.result.now (Some start) ≡ Some c.loop-index.config =
    ap (λ (t : List ℕ). steps t (Some start)) (sym (take_all c.loop-index.index c.as_bytes-bytes.result.now c.loop-index-test.false)) ∙ c.loop-index.invariant in
    subst (λ (t : List ℕ). Spells t c.in-Some-2.query) c.as_bytes-bytes.ensures.value
    (spelled_at_end c.as_bytes-bytes.result.now c.loop-index.config c.in-Some-2.query all (sym c.in_ok-query.ensures ∙ c.in-Some-2.is))

pub returns-in-None-2-clause-fault : goal.returns-in-None-2-clause-fault
returns-in-None-2-clause-fault c =
    let all : steps c.as_bytes-bytes.result.now (Some start) ≡ Some c.loop-index.config =
    ap (λ (t : List ℕ). steps t (Some start)) (sym (take_all c.loop-index.index c.as_bytes-bytes.result.now c.loop-index-test.false)) ∙ c.loop-index.invariant in
    subst (λ (t : List ℕ). IsFault t (NotAQuery (length c.as_bytes-bytes.result.now))) c.as_bytes-bytes.ensures.value
    (fault_at_end c.as_bytes-bytes.result.now c.loop-index.config all (sym c.in_ok-query.ensures ∙ c.in-None-2.is))
