use Rattle.std.proofs.Common.{map}
use Rattle.sandboxes.proofs.MapLemmas.{Copying}
use Rattle.sandboxes.proofs.FilesLemmas.{held_by}
use Rattle.sandboxes.proofs.files.add_copies.Given as goal

-- what the organisations so far hold is copied
abbrev pub invariant-loop-org : goal.invariant-loop-org
invariant-loop-org l = Copying (map held_by l.initial.org-iterator) (map held_by l.copies.entries) (map held_by l.org-iterator)
