use Rattle.std.proofs.Common.{get_or, true≢false, sym}
use Rattle.dep_solver.specs.Conflicts.{PlacesHave}
use Rattle.dep_solver.proofs.ConflictLemmas.{read_any}
use Rattle.dep_solver.proofs.EachLemmas.{each_all, each_more}
use Rattle.dep_solver.proofs.ListLemmas.{nowhere}
use Rattle.dep_solver.proofs.conflicts.have_all.Goals as goal

pub loop-term-init : goal.loop-term-init
loop-term-init c = λ x h. absurd (nowhere x h)

pub loop-term-preserved : goal.loop-term-preserved
loop-term-preserved c =
    each_more (PlacesHave c.args.universe.now c.args.places.now) c.args.terms.now c.loop-term.term-index (get_or c.args.terms.now c.loop-term.term-index (record { cookbook = 0; values = 0 })) c.loop-term-test.true
    (read_any c.args.terms.now c.loop-term.term-index (record { cookbook = 0; values = 0 }) c.loop-term-test.true) c.loop-term.invariant (c.have_one.ensures c.if-not-have_one.false)

pub returns-then-not-have_one : goal.returns-then-not-have_one
returns-then-not-have_one c = λ h. absurd (true≢false (sym h))

pub returns : goal.returns
returns c = λ _. each_all (PlacesHave c.args.universe.now c.args.places.now) c.args.terms.now c.loop-term.term-index c.loop-term-test.false c.loop-term.invariant
