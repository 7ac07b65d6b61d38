-- No posting is left behind the place.
use Rattle.std.proofs.Common.{◌∙◌, ap, arith, is_some, sym}
use Rattle.search_index.proofs.MergeLemmas.{has_all, merges_drop, next_first, next_held}
use Rattle.search_index.proofs.merge.drop_rest.Goals as goal

pub loop-place-init : goal.loop-place-init
loop-place-init c was scope left m = m

pub drop_at-requires-clause-terms : goal.drop_at-requires-clause-terms
drop_at-requires-clause-terms c =
    let r = c.requires in
    let m = c.loop-place.invariant r.0 r.1 r.2 r.3 in
    λ q i j is. ap is_some (m.tied.joined q i j is).term_at

pub drop_at-requires-clause-taken : goal.drop_at-requires-clause-taken
drop_at-requires-clause-taken c =
    let r = c.requires in
    let m = c.loop-place.invariant r.0 r.1 r.2 r.3 in
    ap is_some (next_held c.loop-place.postings c.args.object c.args.before m.front m.back c.in-Some.place m.cut (next_first c.loop-place.postings c.args.object c.args.before c.after.result m.front m.back c.in-Some.place c.after.ensures.next (sym c.get.ensures ∙ c.in-Some.is) m.cut) c.after.ensures.listed).1

pub loop-place-smaller : goal.loop-place-smaller
loop-place-smaller c = let fewer = c.drop_at.ensures.first.takes.used in omega arith

pub loop-place-preserved : goal.loop-place-preserved
loop-place-preserved c was scope left before =
    let m = c.loop-place.invariant was scope left before in
    merges_drop was c.loop-place.terms c.drop_at.new.terms c.loop-place.postings c.drop_at.new.postings scope c.args.object left c.args.before c.in-Some.place m
    (next_first c.loop-place.postings c.args.object c.args.before c.after.result m.front m.back c.in-Some.place c.after.ensures.next (sym c.get.ensures ∙ c.in-Some.is) m.cut) c.after.ensures.listed c.drop_at.ensures

pub returns-clause-all : goal.returns-clause-all
returns-clause-all c = has_all c.loop-place.postings c.args.object c.args.before c.after.result c.after.ensures.next (sym c.get.ensures ∙ c.in_default.is) c.after.ensures.listed
