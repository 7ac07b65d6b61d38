use Rattle.std.proofs.Common.{◌≡◌, map, take}
use Rattle.access_routes.specs.Users.{listed_doc}
use Rattle.access_routes.proofs.users.users_tree.Given as goal

-- the users so far
abbrev pub invariant-loop-name : goal.invariant-loop-name
invariant-loop-name l = l.trees ≡ map listed_doc (take l.name-index l.names)
