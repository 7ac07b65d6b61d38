-- What a resource is read by, for the private clauses.
use Rattle.std.specs.Prelude.{ℕ, List}
use Rattle.std.specs.BTreeSet.{BTreeSet, contains}
use Rattle.std.specs.Cmp.Lexicographic.{slice_cmp}
use Rattle.std.specs.Ordering.{nat_cmp}
use Rattle.doc_tree.specs.Doc.{Doc}
use Rattle.resource_core.specs.Drafts as spec
use Rattle.resource_core.specs.Titles.{HasFirsts}
use Rattle.resource_core.specs.declared.drafting.Given.{Given}
use Rattle.resource_core.specs.declared.resources.Resource.{Resource}

-- attributes, and which titles are created
abbrev pub given_with : Doc → BTreeSet (List ℕ) → spec.Given
given_with attributes created = record { attributes = attributes; is_created = contains (slice_cmp nat_cmp) created }

-- the same of what is borrowed
abbrev pub given_by : Given → spec.Given
given_by given = given_with given.merged.now.document given.created.now

-- the earlier resources
abbrev pub made_by : Given → List Resource
made_by given = given.made.now.resources.items

-- their titles are known
abbrev pub KnowsTitles : Given → Type 0
KnowsTitles given = HasFirsts (spec.titles (made_by given)) given.made.now.firsts
