-- The properties that are left decide.
use Rattle.std.proofs.Common.{◌≡◌, map, drop, bytes_eq}
use Rattle.std.specs.List.{list_any}
use Rattle.resource_core.specs.Types.{property_of}
use Rattle.resource_core.proofs.types.names.Given as goal

abbrev pub invariant-loop-property : goal.invariant-loop-property
invariant-loop-property l = list_any (λ p. bytes_eq p.name l.key) (map property_of l.properties) ≡ list_any (λ p. bytes_eq p.name l.key) (map property_of (drop l.property-index l.properties))
