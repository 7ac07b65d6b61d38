-- What is sought is among the types that are left.
use Rattle.std.proofs.Common.{◌≡◌, drop, bytes_eq}
use Rattle.std.specs.List.{find}
use Rattle.resource_core.specs.Types.{row}
use Rattle.resource_core.proofs.types.type_named.Given as goal

abbrev pub invariant-loop-kind : goal.invariant-loop-kind
invariant-loop-kind l = find (λ kind. bytes_eq (row kind).word l.word) l.kind-items ≡ find (λ kind. bytes_eq (row kind).word l.word) (drop l.kind-index l.kind-items)
