use Rattle.std.proofs.Common.{◌≡◌, ◌++◌, drop}
use Rattle.access_routes.proofs.group_routes.add_copies.Given as goal

-- what was copied, and then the others, are all
abbrev pub invariant-loop-text : goal.invariant-loop-text
invariant-loop-text l = l.copies.items ++ drop l.text-index l.texts ≡ l.fn.copies.items ++ l.texts
