use Rattle.std.proofs.Common.{ap}
use Rattle.doc_tree.specs.Text.{text_cmp}
use Rattle.shelves.specs.Shelves.{shelves_of}
use Rattle.shelves.specs.SortedMap.{map_of}
use Rattle.version_rules.specs.Order.{version_cmp}
use Rattle.org_shelves.specs.Shelved.{Cookbooks, Shelved, with_cookbooks}
use Rattle.org_shelves.proofs.org_shelves.OrgShelves.put_version.Goals as goal

pub returns-clause-shelved : goal.returns-clause-shelved
returns-clause-shelved c =
    let s : Shelved = record { cookbooks = shelves_of version_cmp c.self.inside.cookbooks; artifacts = shelves_of text_cmp c.self.inside.artifacts; policies = shelves_of text_cmp c.self.inside.policies; groups = map_of text_cmp c.self.inside.groups } in
    rw (← c.self.view_is) (ap (λ (cookbooks : Cookbooks). with_cookbooks cookbooks s) c.put.ensures.shelves)
