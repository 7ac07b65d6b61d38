use Rattle.std.proofs.Common.{◌-◌, ℕ, min, length, ap, refl, sym, ◌∙◌, true≢false}
use Rattle.std.proofs.lemmas.Option.{slice_get_read}
use Rattle.dep_solver.specs.declared.universe.Release.{Release}
use Rattle.dep_solver.specs.Universes.{same_version}
use Rattle.dep_solver.proofs.EachLemmas.{none_all, none_more}
use Rattle.dep_solver.proofs.ValueLemmas.{HasVersion, index_first, index_none, same_is, value_none}
use Rattle.dep_solver.proofs.VersionLemmas.{version_from_same}
use Rattle.dep_solver.proofs.values.value_of.Goals as goal

pub returns-then-eq-clause-value : goal.returns-then-eq-clause-value
returns-then-eq-clause-value c =
    c.release_value.ensures.value ∙ ap (λ (n : ℕ). min (length c.args.releases.now - n) 63)
    (sym (index_first c.args.releases.now c.args.version.now c.loop-index.index c.index-releases-index.result
    (slice_get_read c.args.releases.now (length c.args.releases.now) c.loop-index.index c.index-releases-index.result refl c.loop-index-test.true c.index-releases-index.is)
    (version_from_same c.index-releases-index.result.version c.args.version.now (ap (λ (r : Release). same_version r.version c.args.version.now) c.index-releases-index.is ∙ sym c.if-eq.ensures)) c.loop-index.invariant))

pub loop-index-preserved : goal.loop-index-preserved
loop-index-preserved c =
    none_more (HasVersion c.args.version.now) c.args.releases.now c.loop-index.index c.index-releases-index.result c.loop-index-test.true c.index-releases-index.is c.loop-index.invariant
    (λ is. true≢false (sym (same_is c.index-releases-index.result.version c.args.version.now is) ∙ ap (λ (r : Release). same_version r.version c.args.version.now) c.index-releases-index.is ∙ sym c.if-eq.ensures))

pub returns-clause-value : goal.returns-clause-value
returns-clause-value c =
    value_none c.args.releases.now c.args.version.now
    (index_none c.args.releases.now c.args.version.now (none_all (HasVersion c.args.version.now) c.args.releases.now c.loop-index.index c.loop-index-test.false c.loop-index.invariant))
