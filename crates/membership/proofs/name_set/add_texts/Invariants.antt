use Rattle.std.proofs.Common.{◌≡◌, take}
use Rattle.std.specs.FinSet as set
use Rattle.membership.specs.NameSets.{seen}
use Rattle.membership.proofs.name_set.add_texts.Given as goal

-- the set of the names so far
abbrev pub invariant-loop-name : goal.invariant-loop-name
invariant-loop-name l = seen l.items.keys ≡ set.from_list (take l.name-index l.names)
