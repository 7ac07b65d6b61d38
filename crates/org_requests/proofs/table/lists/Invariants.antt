use Rattle.std.proofs.Common.{◌≡◌, drop}
use Rattle.org_requests.specs.Table as spec
use Rattle.org_requests.proofs.table.lists.Given as goal

-- none of the methods so far is it
abbrev pub invariant-loop-own : goal.invariant-loop-own
invariant-loop-own l = spec.lists (drop l.own-index l.methods) l.verb ≡ spec.lists l.methods l.verb
