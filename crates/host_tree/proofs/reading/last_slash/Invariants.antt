-- The last slash so far.
use Rattle.std.proofs.Common.{◌≡◌, ◌⊎◌, take}
use Rattle.host_tree.specs.Documents.{parent_of}
use Rattle.host_tree.specs.Paths.{EndsPrefix}
use Rattle.host_tree.proofs.reading.last_slash.Given as goal

abbrev pub invariant-loop-end : goal.invariant-loop-end
invariant-loop-end l = record { parent : take l.last l.path ≡ parent_of (take l.end l.path); ends : (l.last ≡ 0) ⊎ EndsPrefix l.path l.last }
