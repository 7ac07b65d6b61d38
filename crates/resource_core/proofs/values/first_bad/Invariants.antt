-- The properties that are left decide.
use Rattle.std.proofs.Common.{◌≡◌, map, drop}
use Rattle.doc_tree.specs.Doc.{pairs_of}
use Rattle.resource_core.specs.Types.{property_of}
use Rattle.resource_core.specs.Values as spec
use Rattle.resource_core.proofs.values.first_bad.Given as goal

abbrev pub invariant-loop-property : goal.invariant-loop-property
invariant-loop-property l = spec.first_bad l.merged.document l.creates (pairs_of l.fields) (map property_of l.properties) ≡ spec.first_bad l.merged.document l.creates (pairs_of l.fields) (map property_of (drop l.property-index l.properties))
