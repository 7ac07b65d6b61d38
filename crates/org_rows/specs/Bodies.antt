-- The bodies of an organisation's rows, kind by kind.
use Rattle.std.specs.Prelude.{ℕ, pos, List, [], ◌∷◌, cond, codes, map, Option, Some, None, option_map}
use Rattle.std.specs.FinMap as finite
use Rattle.std.specs.FinSet as set
use Rattle.doc_tree.specs.Doc.{Doc, whole, words, dict, pairs_of}
use Rattle.doc_tree.specs.Written.{text}
use Rattle.membership.specs.MemberNames.{listed_names}
use Rattle.membership.specs.Members.{Members}
use Rattle.membership.specs.TextTrees.{texts_doc}
use Rattle.access_lists.specs.Forms.{acl_doc}
use Rattle.access_lists.specs.Starting.{container_named}
use Rattle.access_lists.specs.declared.acl.Acl.{Acl}
use Rattle.object_forms.specs.GroupBodies.{actors_doc, group_doc}
use Rattle.shelves.specs.Shelves.{value_at}
use Rattle.sandboxes.specs.Sandboxes.{Holding}
use Rattle.sandboxes.specs.Sums.{Sums}
use Rattle.sandboxes.specs.declared.stored.Stored.{Stored}
use Rattle.org_shelves.specs.Shelved.{Assigned}
use Rattle.org_core.specs.FullStates.{FullState}
use Rattle.org_core.specs.States.{Organisation, State}
use Rattle.org_rows.specs.Places.{Place, itself, object, user, group, container, version, artifact, revision, policy_group, acl, sandbox, file}

-- {"KEY":DOC}
abbrev pub one_key : List ℕ → Doc → Doc
one_key key doc = dict (pairs_of ((key, doc) ∷ []))

-- {"sandboxes":N}: how many sandboxes an organisation has made
abbrev pub count_body : ℕ → List ℕ
count_body count = text (one_key (codes "sandboxes") (whole (pos count)))

-- {"name":N}
abbrev pub name_body : List ℕ → List ℕ
name_body name = text (one_key (codes "name") (words name))

-- {"actors":{"clients":[..],"groups":[..],"users":[..]},"groupname":N}
abbrev pub group_body : List ℕ → Members → List ℕ
group_body name members = text (group_doc (actors_doc (listed_names members.clients) (listed_names members.groups) (listed_names members.users)) name)

-- a policy with the revision that is assigned of it
abbrev pub assigned_pair : List ℕ × List ℕ → List ℕ × Doc
assigned_pair entry = (entry.0, words entry.1)

-- {"policies":{P:REV}}
abbrev pub assigned_body : Assigned → List ℕ
assigned_body assigned = text (one_key (codes "policies") (dict (pairs_of (map assigned_pair (finite.entries assigned)))))

-- the whole list
abbrev pub acl_body : Acl → List ℕ
acl_body list = text (acl_doc list)

-- {"checksums":[..]}
abbrev pub sandbox_body : Sums → List ℕ
sandbox_body sums = text (one_key (codes "checksums") (texts_doc sums))

-- the sign `1` for a file that is committed and `0` for another, and then the file
abbrev pub file_body : Stored → List ℕ
file_body stored = cond stored.committed 49 48 ∷ stored.file

-- what stands at a place of an organisation that is there, with these files, as the body of a row, if anything does
abbrev pub body_in : Organisation → Holding → Place → Option (List ℕ)
body_in o files itself = Some (count_body files.count)
body_in o files (object k) = option_map text (finite.get o.objects k)
body_in o files (user name) = cond (set.contains o.membership.users name) (Some (name_body name)) None
body_in o files (group name) = option_map (group_body name) (finite.get o.membership.groups name)
body_in o files (container name) = option_map (λ _. name_body name) (container_named name)
body_in o files (version name number) = option_map text (value_at o.shelved.cookbooks name number)
body_in o files (artifact name id) = option_map text (value_at o.shelved.artifacts name id)
body_in o files (revision policy id) = option_map text (value_at o.shelved.policies policy id)
body_in o files (policy_group name) = option_map assigned_body (finite.get o.shelved.groups name)
body_in o files (acl k) = option_map acl_body (finite.get o.lists k)
body_in o files (sandbox id) = option_map sandbox_body (finite.get files.sandboxes id)
body_in o files (file sum) = option_map file_body (finite.get files.files sum)

-- the same of any organisation: one that isn't there has no row
abbrev pub body_of : State → Holding → Place → Option (List ℕ)
body_of None files place = None
body_of (Some o) files place = body_in o files place

-- and of a full state
abbrev pub body_at : FullState → Place → Option (List ℕ)
body_at full place = body_of full.state full.files place
