-- Name and releases tell the cookbook.
use Rattle.std.proofs.Common.{map, refl, ap, ◌∙◌}
use Rattle.shelves.specs.SortedMap.{map_of}
use Rattle.version_rules.specs.Order.{version_cmp}
use Rattle.org_shelves.specs.Universes as spec
use Rattle.org_shelves.proofs.UniverseLemmas.{cookbook_is, releases_rise}
use Rattle.org_shelves.proofs.universes.cookbook_of.Goals as goal

pub invariant_of-result : goal.invariant_of-result
invariant_of-result c = record {
  rising = releases_rise c.in_ok-releases.releases (c.args.name, map_of version_cmp c.args.shelf.now) (c.in_ok-releases.ensures ∙ ap (map spec.release_of) c.entries.ensures.entries);
}

pub returns : goal.returns
returns c = cookbook_is _ (c.args.name, map_of version_cmp c.args.shelf.now) refl (c.in_ok-releases.ensures ∙ ap (map spec.release_of) c.entries.ensures.entries)
