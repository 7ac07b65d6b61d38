-- What is created in a container, and the access list that it gets.
use Rattle.std.specs.Prelude.{ℕ, List, [], ◌∷◌, unwrap_or}
use Rattle.access_lists.specs.declared.acl.Acl.{Acl}
use Rattle.access_lists.specs.declared.starting.Container.{Container}
use Rattle.access_lists.specs.Acls.{with_creator}
use Rattle.access_lists.specs.Starting.{name_of, starting_list}
use Rattle.doc_tree.specs.Doc.{Doc}
use Rattle.doc_tree.specs.declared.kind.Kind.{Kind}
use Rattle.doc_tree.specs.declared.kind.Kind.TheVariants as kinds
use Rattle.object_store.specs.Objects.{key}
use Rattle.org_core.specs.declared.moves.Move.{Move}
use Rattle.org_core.specs.declared.moves.Move.TheVariants as move
use Rattle.org_core.specs.Contexts.{Context}
use Rattle.org_core.specs.Outcomes.{Decided, creates, does_by}
use Rattle.org_core.specs.States.{State, list_in}

-- the access list of a container, which is the one that it starts with until it is changed
abbrev pub container_list : Container → State → Acl
container_list container state = unwrap_or (list_in state (key kinds.Container (name_of container))) (starting_list container)

-- the list of what the caller creates in a container: the container's, with the creator in it
abbrev pub created_list : Container → Context → Acl
created_list container context = with_creator context.caller (container_list container context.state)

-- an object comes into a container, with an access list of its own
abbrev pub with_list : Container → Context → Kind → List ℕ → Doc → List Move
with_list container context kind name object = move.Put (key kind name) object ∷ move.PutList (key kind name) (created_list container context) ∷ []

-- something is created by these moves: 201 with its path
abbrev pub created_by : List ℕ → List Move → Decided
created_by path moves = does_by (creates path) moves 0
