-- Others are left beside one of several, and beside another.
use Rattle.dep_solver.proofs.VersionLemmas.{versions_total, version_from_equal}
use Rattle.org_shelves.proofs.LeftLemmas.{more_seen, one_seen, none_seen}
use Rattle.cookbook_routes.proofs.version_routes.keeps_others.Goals as goal

pub returns-then-len-gt1 : goal.returns-then-len-gt1
returns-then-len-gt1 c = more_seen versions_total version_from_equal c.cookbooks.ensures c.args.name.now c.args.version _ _ c.in-Some.ensures.shelf c.len.ensures c.if-len-gt1.true

pub returns-else-len-gt1 : goal.returns-else-len-gt1
returns-else-len-gt1 c = one_seen versions_total version_from_equal c.cookbooks.ensures c.args.name.now c.args.version _ _ _ c.in-Some.ensures.filled c.in-Some.ensures.shelf c.len.ensures c.if-len-gt1.false c.contains.ensures

pub returns-in-None : goal.returns-in-None
returns-in-None c = none_seen versions_total version_from_equal c.cookbooks.ensures c.args.name.now c.args.version c.in-None.ensures.shelf
