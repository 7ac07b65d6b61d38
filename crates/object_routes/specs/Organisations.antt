-- The routes of an organisation as a whole.
use Rattle.std.specs.Prelude.{Bool, false, ℕ, List, [], ◌∷◌, ◌++◌, map, Option, None, codes, is_some, Result, Ok, Err}
use Rattle.membership.specs.Members.{no_members}
use Rattle.membership.specs.StartingGroups.{starting_groups}
use Rattle.access_lists.specs.declared.starting.Container.{Container}
use Rattle.access_lists.specs.declared.starting.Container.TheVariants as container
use Rattle.access_lists.specs.Starting.{containers, name_of, starting_list}
use Rattle.doc_tree.specs.Doc.{Doc, words, dict, no_pairs, then_pair}
use Rattle.doc_tree.specs.declared.kind.Kind.TheVariants.{Container as AContainer, Environment, Group}
use Rattle.object_store.specs.Objects.{key}
use Rattle.org_requests.specs.declared.verbs.Verb.{Verb}
use Rattle.org_requests.specs.declared.verbs.Verb.TheVariants.{Get, Post, Put, Delete, Other}
use Rattle.org_core.specs.declared.moves.Move.{Move}
use Rattle.org_core.specs.declared.moves.Move.TheVariants as move
use Rattle.org_core.specs.declared.needs.Need.{Need}
use Rattle.org_core.specs.declared.needs.Need.TheVariants.{Operator}
use Rattle.access_lists.specs.declared.perm.Perm.TheVariants as permission
use Rattle.org_requests.specs.declared.refusals.Refusal.{Refusal}
use Rattle.org_requests.specs.declared.refusals.Refusal.TheVariants.{AlreadyExists, NotAllowed}
use Rattle.org_requests.specs.declared.routes.OrganisationRoute.{OrganisationRoute}
use Rattle.org_requests.specs.declared.routes.OrganisationRoute.TheVariants.{Create, Whole}
use Rattle.org_core.specs.Contexts.{Context}
use Rattle.org_core.specs.Creating.{created_by}
use Rattle.org_core.specs.Outcomes.{Decided, shows, tells}
use Rattle.org_requests.specs.Refusals.{refuses}
use Rattle.org_requests.specs.Replies.{org_uri, one_key}
use Rattle.org_core.specs.Rules.{Rules}
use Rattle.object_routes.specs.declared.operations.OrganisationOperation.{OrganisationOperation}
use Rattle.object_routes.specs.declared.operations.OrganisationOperation.TheVariants as operation

-- the environment that every organisation has, with the default of each field
abbrev pub default_environment : Doc
default_environment = dict
    (then_pair (codes "chef_type") (words (codes "environment"))
    (then_pair (codes "cookbook_versions") (dict no_pairs)
    (then_pair (codes "default_attributes") (dict no_pairs)
    (then_pair (codes "description") (words (codes ""))
    (then_pair (codes "json_class") (words (codes "Chef::Environment"))
    (then_pair (codes "name") (words (codes "_default"))
    (then_pair (codes "override_attributes") (dict no_pairs) no_pairs)))))))

-- the environment `_default` comes
abbrev pub default_comes : Move
default_comes = move.Put (key Environment (codes "_default")) default_environment

-- with the list of the container of environments
abbrev pub default_list : Move
default_list = move.PutList (key Environment (codes "_default")) (starting_list container.Environments)

abbrev pub starts_default : List Move
starts_default = default_comes ∷ default_list ∷ []

-- a container starts with the access list of its row of the table
abbrev pub starts_container : Container → Move
starts_container container = move.PutList (key AContainer (name_of container)) (starting_list container)

-- a starting group has nobody at first
abbrev pub starts_group : List ℕ → Move
starts_group name = move.PutGroup name no_members

-- and the list of the container of groups
abbrev pub starts_list : List ℕ → Move
starts_list name = move.PutList (key Group name) (starting_list container.Groups)

-- the organisation is there from now on, and has the environment `_default`, the twelve containers and the starting
-- groups, each with its access list
abbrev pub creation : List Move
creation = move.Open ∷ (starts_default ++ (map starts_container containers ++ (map starts_group starting_groups ++ map starts_list starting_groups)))

-- what is asked of the organisation that a body names: only to create it
abbrev pub creation_asked : Verb → Result OrganisationOperation Refusal
creation_asked Get = Err NotAllowed
creation_asked Post = Ok operation.Create
creation_asked Put = Err NotAllowed
creation_asked Delete = Err NotAllowed
creation_asked Other = Err NotAllowed

-- what is asked of an organisation: only to show it
abbrev pub whole_asked : Verb → Result OrganisationOperation Refusal
whole_asked Get = Ok operation.Show
whole_asked Post = Err NotAllowed
whole_asked Put = Err NotAllowed
whole_asked Delete = Err NotAllowed
whole_asked Other = Err NotAllowed

-- what is asked
abbrev pub organisation_asked : OrganisationRoute → Verb → Result OrganisationOperation Refusal
organisation_asked Create verb = creation_asked verb
organisation_asked Whole verb = whole_asked verb

-- no path here names an object
abbrev pub organisation_lacks : OrganisationOperation → Bool
organisation_lacks operation.Create = false
organisation_lacks operation.Show = false

-- the operator creates organisations, and whoever is known there may see one
abbrev pub organisation_needs : OrganisationOperation → List Need
organisation_needs operation.Create = Operator permission.Create ∷ []
organisation_needs operation.Show = []

-- what is to be created is there
abbrev pub organisation_refusal : Context → OrganisationOperation → Option Refusal
organisation_refusal context operation.Create = refuses AlreadyExists (is_some context.state)
organisation_refusal context operation.Show = None

-- an organisation is created: 201 with its path; or shown by its name
abbrev pub organisation_does : Context → OrganisationOperation → Decided
organisation_does context operation.Create = created_by (org_uri context.org) creation
organisation_does context operation.Show = tells (shows (one_key (codes "name") (words context.org)))

-- the rules of these routes
abbrev pub organisation_rules : Rules OrganisationRoute OrganisationOperation
organisation_rules = record {
  operation = λ context route request. organisation_asked route request.verb;
  lacks = λ context operation. organisation_lacks operation;
  needs = λ context operation. organisation_needs operation;
  own_refusal = organisation_refusal;
  searches = λ context operation. None;
  does = organisation_does;
}
