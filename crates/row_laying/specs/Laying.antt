-- What an organisation holds once what a row says was laid, in place of what is there of it.
use Rattle.std.specs.Prelude.{cond, List, [], ◌∷◌}
use Rattle.std.specs.FinMap as finite
use Rattle.doc_tree.specs.declared.kind.Kind.TheVariants as kinds
use Rattle.membership.specs.Changes.{with_client, with_groups, with_user}
use Rattle.membership.specs.Members.{Membership}
use Rattle.membership.specs.Rooms as groups
use Rattle.object_store.specs.Keys.{is_of}
use Rattle.object_store.specs.Objects.{Store}
use Rattle.object_store.specs.declared.key.Key.{Key}
use Rattle.org_core.specs.Moves.{with_lists, with_membership, with_objects, with_shelved}
use Rattle.org_core.specs.States.{Organisation}
use Rattle.org_shelves.specs.Shelved as shelves
use Rattle.org_shelves.specs.ShelfMoves.{after_shelf_move}
use Rattle.org_shelves.specs.declared.shelf_moves.ShelfMove.TheVariants as moves
use Rattle.sandboxes.specs.Sandboxes.{Holding, laid_count, laid_file, laid_sandbox}
use Rattle.row_reading.specs.declared.said.Said.{Said}
use Rattle.row_reading.specs.declared.said.Said.TheVariants.{Count, Object, User, Group, Container, Version, Artifact, Revision, PolicyGroup, List as AList, Sandbox, File}

-- the organisation of these parts, for which room doesn't count
abbrev pub organisation_from : Store → groups.Kept → shelves.Kept → Organisation
organisation_from store members on = record { objects = store.objects; lists = store.lists; membership = members.membership; shelved = on.shelved }

-- with the client whose object has this key, if it is that of one
abbrev pub with_client_of : Key → Membership → Membership
with_client_of key m = cond (is_of kinds.Client key) (with_client key.name m) m

-- an organisation with what a row says
abbrev pub with_said : Said → Organisation → Organisation
with_said (Count count) o = o
with_said (Object key document) o = with_membership (with_client_of key o.membership) (with_objects (finite.insert o.objects key document) o)
with_said (User name) o = with_membership (with_user name o.membership) o
with_said (Group name group) o = with_membership (with_groups (finite.insert o.membership.groups name group.members) o.membership) o
with_said (Container name) o = o
with_said (Version name version manifest) o = with_shelved (after_shelf_move (moves.PutVersion name version manifest) o.shelved) o
with_said (Artifact name id manifest) o = with_shelved (after_shelf_move (moves.PutArtifact name id manifest) o.shelved) o
with_said (Revision policy id lock) o = with_shelved (after_shelf_move (moves.PutRevision policy id lock) o.shelved) o
with_said (PolicyGroup name assigned) o = with_shelved (after_shelf_move (moves.PutGroup name assigned) o.shelved) o
with_said (AList key list) o = with_lists (finite.insert o.lists key list) o
with_said (Sandbox id sums) o = o
with_said (File file committed) o = o

-- files and sandboxes with what a row says
abbrev pub files_with_said : Said → Holding → Holding
files_with_said (Count count) files = laid_count count files
files_with_said (Object key document) files = files
files_with_said (User name) files = files
files_with_said (Group name group) files = files
files_with_said (Container name) files = files
files_with_said (Version name version manifest) files = files
files_with_said (Artifact name id manifest) files = files
files_with_said (Revision policy id lock) files = files
files_with_said (PolicyGroup name assigned) files = files
files_with_said (AList key list) files = files
files_with_said (Sandbox id sums) files = laid_sandbox id sums files
files_with_said (File file committed) files = laid_file file committed files

-- with what each of these says, in order
abbrev pub with_all : List Said → Organisation → Organisation
with_all [] o = o
with_all (said ∷ rest) o = with_all rest (with_said said o)

-- and files likewise
abbrev pub files_with_all : List Said → Holding → Holding
files_with_all [] files = files
files_with_all (said ∷ rest) files = files_with_all rest (files_with_said said files)
