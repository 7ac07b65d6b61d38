-- Trees are the same exactly where their documents are.
use Rattle.std.proofs.Common.{true≢false, refl, sym, ap, arith, add-one}
use Rattle.doc_tree.specs.Tree.{doc_of, pair_of}
use Rattle.doc_tree.proofs.Docs.{doc_of-inj, pair_of-inj}
use Rattle.doc_tree.proofs.Pairwise.{slice_get_view, take_same, same_item}
use Rattle.doc_tree.proofs.tree.+same.Goals as goal

pub Trees::same-returns-then-not-same : goal.Trees::same-returns-then-not-same
Trees::same-returns-then-not-same t c =
    let one = slice_get_view doc_of c.self.inside.items.items c.args.self.now c.loop-index.index c.index.result.now c.self.view_is (omega arith) c.index.ensures in
    let two = slice_get_view doc_of c.other.inside.items.items c.args.other.now c.loop-index.index c.index-in-loop-index.result.now c.other.view_is (omega arith) c.index-in-loop-index.ensures in
    (λ f. absurd (true≢false (sym f)), λ e. c.if-not-same.ensures.1 (doc_of-inj _ _ (same_item _ _ c.loop-index.index _ _ one two e)))

pub Trees::same-loop-index-preserved : goal.Trees::same-loop-index-preserved
Trees::same-loop-index-preserved t c =
    let one = slice_get_view doc_of c.self.inside.items.items c.args.self.now c.loop-index.index c.index.result.now c.self.view_is (omega arith) c.index.ensures in
    let two = slice_get_view doc_of c.other.inside.items.items c.args.other.now c.loop-index.index c.index-in-loop-index.result.now c.other.view_is (omega arith) c.index-in-loop-index.ensures in
    rw add-one (take_same _ _ c.loop-index.index _ _ one two (ap doc_of (c.if-not-same.ensures.0 refl)) c.loop-index.invariant)

pub Fields::same-returns-then-not-same : goal.Fields::same-returns-then-not-same
Fields::same-returns-then-not-same t c =
    let one = slice_get_view pair_of c.self.inside.entries.items c.args.self.now c.loop-index.index c.index.result.now c.self.view_is (omega arith) c.index.ensures in
    let two = slice_get_view pair_of c.other.inside.entries.items c.args.other.now c.loop-index.index c.index-in-loop-index.result.now c.other.view_is (omega arith) c.index-in-loop-index.ensures in
    (λ f. absurd (true≢false (sym f)), λ e. c.if-not-same.ensures.1 (pair_of-inj _ _ (same_item _ _ c.loop-index.index _ _ one two e)))

pub Fields::same-loop-index-preserved : goal.Fields::same-loop-index-preserved
Fields::same-loop-index-preserved t c =
    let one = slice_get_view pair_of c.self.inside.entries.items c.args.self.now c.loop-index.index c.index.result.now c.self.view_is (omega arith) c.index.ensures in
    let two = slice_get_view pair_of c.other.inside.entries.items c.args.other.now c.loop-index.index c.index-in-loop-index.result.now c.other.view_is (omega arith) c.index-in-loop-index.ensures in
    rw add-one (take_same _ _ c.loop-index.index _ _ one two (ap pair_of (c.if-not-same.ensures.0 refl)) c.loop-index.invariant)
