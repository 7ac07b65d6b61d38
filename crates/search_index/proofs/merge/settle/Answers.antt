-- The posting was there, or it is put in.
use Rattle.std.proofs.Common.{◌∙◌, ◌++◌, ◌∷◌, [], subst, sym}
use Rattle.search_index.specs.Merge.{Merges}
use Rattle.search_index.proofs.MergeLemmas.{merges_keep, merges_put, merges_ready}
use Rattle.search_index.proofs.merge.settle.Goals as goal

pub drop_less-requires : goal.drop_less-requires
drop_less-requires c = let r = c.requires in (r.0, c.args.scope, r.1 ++ c.args.pair ∷ [], r.2)

pub add_behind-requires-clause-object : goal.add_behind-requires-clause-object
add_behind-requires-clause-object c =
    let r = c.requires in
    (merges_ready r.0 c.drop_less.new.terms c.drop_less.new.postings c.args.scope c.args.object r.1 c.args.pair c.args.before (c.drop_less.ensures.merges r.0 c.args.scope (r.1 ++ c.args.pair ∷ []) r.2)).head

pub add_behind-requires-clause-heads : goal.add_behind-requires-clause-heads
add_behind-requires-clause-heads c =
    let r = c.requires in
    (merges_ready r.0 c.drop_less.new.terms c.drop_less.new.postings c.args.scope c.args.object r.1 c.args.pair c.args.before (c.drop_less.ensures.merges r.0 c.args.scope (r.1 ++ c.args.pair ∷ []) r.2)).heads

pub add_behind-requires-clause-room : goal.add_behind-requires-clause-room
add_behind-requires-clause-room c =
    let r = c.requires in
    (merges_ready r.0 c.drop_less.new.terms c.drop_less.new.postings c.args.scope c.args.object r.1 c.args.pair c.args.before (c.drop_less.ensures.merges r.0 c.args.scope (r.1 ++ c.args.pair ∷ []) r.2)).room

pub add_behind-requires-clause-place : goal.add_behind-requires-clause-place
add_behind-requires-clause-place c =
    let r = c.requires in
    (merges_ready r.0 c.drop_less.new.terms c.drop_less.new.postings c.args.scope c.args.object r.1 c.args.pair c.args.before (c.drop_less.ensures.merges r.0 c.args.scope (r.1 ++ c.args.pair ∷ []) r.2)).place

pub add_behind-requires-clause-before : goal.add_behind-requires-clause-before
add_behind-requires-clause-before c =
    let r = c.requires in
    (merges_ready r.0 c.drop_less.new.terms c.drop_less.new.postings c.args.scope c.args.object r.1 c.args.pair c.args.before (c.drop_less.ensures.merges r.0 c.args.scope (r.1 ++ c.args.pair ∷ []) r.2)).behind

pub returns-then-drop_less : goal.returns-then-drop_less
returns-then-drop_less c was left before =
    let m = c.drop_less.ensures.merges was c.args.scope (left ++ c.args.pair ∷ []) before in
    let next = c.drop_less.ensures.next c.if-drop_less.true m.front m.back m.cut in
    subst (λ z. Merges was c.drop_less.new.terms c.drop_less.new.postings c.args.scope c.args.object left z) (sym (c.after.ensures.next m.front m.back m.cut ∙ next.3))
    (merges_keep was c.drop_less.new.terms c.drop_less.new.postings c.args.scope c.args.object left c.args.pair c.args.before next.0 next.1 next.2 m next.3 next.4 next.5 next.6)

pub returns-else-drop_less : goal.returns-else-drop_less
returns-else-drop_less c was left before =
    let m = c.drop_less.ensures.merges was c.args.scope (left ++ c.args.pair ∷ []) before in
    merges_put was c.drop_less.new.terms c.add_behind.new.terms c.drop_less.new.postings c.add_behind.new.postings c.args.scope c.args.object left c.args.pair c.args.before c.add_behind.result m c.add_behind.ensures
