-- What a row says of what it is of, and which object with an access list it is a row of.
use Rattle.std.specs.Prelude.{ℕ, List, Option, Some, None}
use Rattle.doc_tree.specs.Doc.{Doc}
use Rattle.doc_tree.specs.declared.kind.Kind.{Kind}
use Rattle.doc_tree.specs.declared.kind.Kind.TheVariants as kinds
use Rattle.membership.specs.Members.{Members}
use Rattle.access_lists.specs.declared.acl.Acl.{Acl}
use Rattle.object_store.specs.Keys.{key}
use Rattle.object_store.specs.declared.key.Key.{Key}
use Rattle.org_shelves.specs.Shelved.{Assigned}
use Rattle.sandboxes.specs.Sums.{Sums}
use Rattle.sandboxes.specs.declared.stored.Stored.{Stored}
use Rattle.org_rows.specs.Places.{Place, itself, object, user, group, container, version, artifact, revision, policy_group, acl, sandbox, file}

-- what the body of a row says: how many sandboxes an organisation has made, the document of an object, a version, an
-- artifact or a revision, nothing beside the name of a user or container, the members of a group, what a policy group
-- assigns, an access list, the checksums of a sandbox, a file and whether it is committed
pub data Content : Type 0 where
  count : ℕ → Content
  document : Doc → Content
  name_alone : Content
  members : Members → Content
  assigned : Assigned → Content
  list : Acl → Content
  sums : Sums → Content
  stored : Stored → Content

-- the object, where it is of a kind whose objects are documents with an access list each
abbrev pub listed_object : Kind → List ℕ → Option Key
listed_object kinds.Node name = Some (key kinds.Node name)
listed_object kinds.Role name = Some (key kinds.Role name)
listed_object kinds.Environment name = Some (key kinds.Environment name)
listed_object kinds.Bag name = Some (key kinds.Bag name)
listed_object kinds.Client name = Some (key kinds.Client name)
listed_object kinds.Org name = None
listed_object kinds.User name = None
listed_object kinds.Group name = None
listed_object kinds.Container name = None
listed_object kinds.Item name = None
listed_object kinds.Cookbook name = None
listed_object kinds.Artifact name = None
listed_object kinds.Policy name = None
listed_object kinds.PolicyGroup name = None
listed_object kinds.Acl name = None
listed_object kinds.Sandbox name = None
listed_object kinds.File name = None

-- the object with an access list that a row is of: all versions of a cookbook are of one, all its artifacts of another, and
-- all revisions of a policy of one
abbrev pub thing_at : Place → Option Key
thing_at itself = None
thing_at (object k) = listed_object k.kind k.name
thing_at (user name) = None
thing_at (group name) = Some (key kinds.Group name)
thing_at (container name) = Some (key kinds.Container name)
thing_at (version name number) = Some (key kinds.Cookbook name)
thing_at (artifact name id) = Some (key kinds.Artifact name)
thing_at (revision policy id) = Some (key kinds.Policy policy)
thing_at (policy_group name) = Some (key kinds.PolicyGroup name)
thing_at (acl k) = None
thing_at (sandbox id) = None
thing_at (file sum) = None
