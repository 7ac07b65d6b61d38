-- What is sought is among the actions that are left.
use Rattle.std.proofs.Common.{◌≡◌, drop, bytes_eq}
use Rattle.std.specs.List.{find}
use Rattle.resource_core.specs.Types.{word_of}
use Rattle.resource_core.proofs.types.ResourceType.action_named.Given as goal

abbrev pub invariant-loop-action : goal.invariant-loop-action
invariant-loop-action l = find (λ action. bytes_eq (word_of action) l.word) l.action-items ≡ find (λ action. bytes_eq (word_of action) l.word) (drop l.action-index l.action-items)
