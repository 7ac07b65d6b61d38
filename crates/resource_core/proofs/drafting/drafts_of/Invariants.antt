-- The resources that are left, behind those so far, whose titles are known.
use Rattle.std.proofs.Common.{◌≡◌, map, drop, []}
use Rattle.resource_core.specs.Drafts as spec
use Rattle.resource_core.specs.Drafting.{given_with}
use Rattle.resource_core.specs.Titles.{HasFirsts, pairs_by}
use Rattle.resource_core.proofs.drafting.drafts_of.Given as goal

abbrev pub invariant-loop-fields : goal.invariant-loop-fields
invariant-loop-fields l = (spec.drafts (given_with l.merged.document l.created) (map pairs_by l.all) [] ≡ spec.drafts (given_with l.merged.document l.created) (map pairs_by (drop l.fields-index l.all)) l.drafts.resources.items) × HasFirsts (spec.titles l.drafts.resources.items) l.drafts.firsts
