use Rattle.std.proofs.Common.{◌≡◌, ◌<◌, List, Bool, length, sym, ap, subst, ◌∙◌, true≢false}
use Rattle.std.specs.Prelude.{◌==◌}
use Rattle.membership.specs.Leading.{IsSquare}
use Rattle.membership.proofs.LeadingLemmas.{within_square}
use Rattle.membership.proofs.leading.is_member_beyond.Goals as goal

pub bounds-cells-place : goal.bounds-cells-place
bounds-cells-place c =
    let count : c.len-count.result ≡ length c.args.items.now.entries = c.len-count.ensures.len in
    within_square c.len-count.result c.args.place c.loop-to.to c.args.cells.now
    (subst (λ n. IsSquare n c.args.cells.now) (sym count) c.requires.square)
    (λ empty. true≢false (sym (c.if-is_empty.ensures ∙ ap (λ (cells : List Bool). length cells == 0) empty)))
    (subst (λ n. c.args.place < n) (sym count) c.requires.within) c.loop-to-test.true
