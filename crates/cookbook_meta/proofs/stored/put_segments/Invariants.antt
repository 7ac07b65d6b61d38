-- All segments are put in where those that are left are put behind those so far.
use Rattle.std.proofs.Common.{◌≡◌, map, drop}
use Rattle.cookbook_meta.specs.Segments.{segments}
use Rattle.cookbook_meta.specs.Stored as spec
use Rattle.cookbook_meta.proofs.stored.put_segments.Given as goal

abbrev pub invariant-loop-segment : goal.invariant-loop-segment
invariant-loop-segment l =
    spec.with_pairs (spec.segment_fields segments l.files) l.fn.made
    ≡ spec.with_pairs (spec.segment_fields (map (λ s. s.now) (drop l.segment-index l.segment-items)) l.files) l.made
