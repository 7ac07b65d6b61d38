use Rattle.std.proofs.Common.{◌≡◌, length}
use Rattle.yaml_subset.specs.Flow.{flow_doc, flow_from}
use Rattle.yaml_subset.proofs.flow.flow_doc.Given as goal

-- what is read from here is what the whole text says
abbrev pub invariant-loop-byte : goal.invariant-loop-byte
invariant-loop-byte l = flow_from l.flowing l.skip l.rest ≡ flow_doc l.text

abbrev pub decreases-loop-byte : goal.decreases-loop-byte
decreases-loop-byte l = length l.rest
