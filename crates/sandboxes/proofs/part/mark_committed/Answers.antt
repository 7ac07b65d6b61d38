use Rattle.std.proofs.Common.{◌≡◌, option_map, bytes_eq, ◌∙◌, sym, ap, rules}
use Rattle.std.proofs.lemmas.List.{take_all}
use Rattle.indexmap.specs.IndexMap.{get, spare}
use Rattle.sandboxes.specs.declared.stored.Stored.{Stored}
use Rattle.sandboxes.specs.Sums.{Sums}
use Rattle.sandboxes.proofs.StockLemmas.{mark, done_with, marks-more, marks-none, seen-marked}
use Rattle.sandboxes.proofs.part.mark_committed.Goals as goal
use Rattle.sandboxes.proofs.part.mark_committed.Goals.{in-Some, in_default}

pub loop-sum-preserved : goal.loop-sum-preserved
loop-sum-preserved c =
    elim c.match-get_mut.branch [
      | in-Some w ↦
          let new : Stored = done_with w.in-Some.stored.now in
          let held = c.get_mut.follows.holds new in
          record {
            marks = marks-more (get bytes_eq c.args.files.now) (get bytes_eq c.loop-sum.files) (get bytes_eq c.match-get_mut.files)
                c.as_slice-sum-items.result.now c.loop-sum.sum-index c.sum-item.result w.in-Some.stored.now c.loop-sum-test.true c.sum-item.is
                c.loop-sum.invariant.marks (sym w.in-Some.ensures.value)
                (λ q. ap (λ m. get bytes_eq m q) w.files-is ∙ (held.3 (search rules)).0 q);
            room = ap (λ m. spare m) w.files-is ∙ held.6 ∙ c.loop-sum.invariant.room;
          }
      | in_default w ↦
          let same : c.match-get_mut.files ≡ c.loop-sum.files = search rules in
          record {
            marks = λ q. ap (λ m. get bytes_eq m q) same ∙ marks-none (get bytes_eq c.args.files.now) (get bytes_eq c.loop-sum.files)
                c.as_slice-sum-items.result.now c.loop-sum.sum-index c.sum-item.result c.loop-sum-test.true c.sum-item.is
                c.loop-sum.invariant.marks (sym w.in_default.ensures.value) q;
            room = ap (λ m. spare m) same ∙ c.loop-sum.invariant.room;
          }
    ]

pub returns-clause-files : goal.returns-clause-files
returns-clause-files c =
    seen-marked c.args.files.now.entries c.loop-sum.files.entries c.args.sums.now (λ q.
    c.loop-sum.invariant.marks q
    ∙ ap (λ (sums : Sums). option_map (mark sums q) (get bytes_eq c.args.files.now q))
    (take_all c.loop-sum.sum-index c.as_slice-sum-items.result.now c.loop-sum-test.false ∙ c.as_slice-sum-items.ensures.value))
