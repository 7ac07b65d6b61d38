-- The entries of all segments are those so far with those of the segments that are left behind them.
use Rattle.std.proofs.Common.{◌≡◌, [], map, drop}
use Rattle.doc_tree.specs.Doc.{pairs_of}
use Rattle.cookbook_meta.specs.Segments as spec
use Rattle.cookbook_meta.proofs.segments.files_in.Given as goal

abbrev pub invariant-loop-segment : goal.invariant-loop-segment
invariant-loop-segment l =
    spec.with_segments spec.segments (pairs_of l.fn.body) []
    ≡ spec.with_segments (map (λ s. s.now) (drop l.segment-index l.segment-items)) (pairs_of l.fn.body) l.files
