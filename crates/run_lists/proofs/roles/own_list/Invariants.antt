-- What is sought is among the lists that are left.
use Rattle.std.proofs.Common.{◌≡◌, drop}
use Rattle.run_lists.specs.Roles.{own_list}
use Rattle.run_lists.proofs.roles.own_list.Given as goal

abbrev pub invariant-loop-list : goal.invariant-loop-list
invariant-loop-list l = own_list l.lists l.env ≡ own_list (drop l.list-index l.lists) l.env
