-- What stands at a place of an organisation, as the body of its row says it.
use Rattle.std.specs.Prelude.{◌≡◌, ℕ, List, cond, Option, Some, None, option_map, option_and_then}
use Rattle.std.specs.FinMap as finite
use Rattle.std.specs.FinSet as set
use Rattle.access_lists.specs.Starting.{container_named}
use Rattle.org_core.specs.States.{Organisation, State}
use Rattle.outside_keeper.specs.Rows.{KeptRows}
use Rattle.outside_keeper.specs.declared.row_key.RowKey.{RowKey}
use Rattle.sandboxes.specs.Sandboxes.{Holding}
use Rattle.shelves.specs.Shelves.{value_at}
use Rattle.org_rows.specs.Places.{Place, itself, object, user, group, container, version, artifact, revision, policy_group, acl, sandbox, file, IsPlace, row_of}
use Rattle.org_rows.specs.Reading.{content_at}
use Rattle.org_rows.specs.Things.{Content, count, document, name_alone, members, assigned, list, sums, stored}

-- of an organisation that is there, with these files
abbrev pub content_in : Organisation → Holding → Place → Option Content
content_in o files itself = Some (count files.count)
content_in o files (object k) = option_map document (finite.get o.objects k)
content_in o files (user name) = cond (set.contains o.membership.users name) (Some name_alone) None
content_in o files (group name) = option_map members (finite.get o.membership.groups name)
content_in o files (container name) = option_map (λ _. name_alone) (container_named name)
content_in o files (version name number) = option_map document (value_at o.shelved.cookbooks name number)
content_in o files (artifact name id) = option_map document (value_at o.shelved.artifacts name id)
content_in o files (revision policy id) = option_map document (value_at o.shelved.policies policy id)
content_in o files (policy_group name) = option_map assigned (finite.get o.shelved.groups name)
content_in o files (acl k) = option_map list (finite.get o.lists k)
content_in o files (sandbox id) = option_map sums (finite.get files.sandboxes id)
content_in o files (file sum) = option_map stored (finite.get files.files sum)

-- what a state holds is what the rows of its organisation say, place by place; of one that isn't there there is no row
abbrev pub HoldsContents : KeptRows → List ℕ → State → Holding → Type 0
HoldsContents rows org None files = (row : RowKey) → row.org ≡ org → finite.get rows row ≡ None
HoldsContents rows org (Some o) files =
    (place : Place) → IsPlace place → content_in o files place ≡ option_and_then (content_at place) (finite.get rows (row_of org place))
