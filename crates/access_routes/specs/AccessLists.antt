-- The routes of access lists.
use Rattle.std.specs.Prelude.{ℕ, Bool, not, ◌&&◌, is_some, List, [], ◌∷◌, Option, Some, None, cond, bytes_eq, codes, Result, Ok, Err}
use Rattle.access_lists.specs.declared.acl.Acl.{Acl}
use Rattle.access_lists.specs.declared.acl.Entry.{Entry}
use Rattle.access_lists.specs.declared.strangers.Stranger.{Stranger}
use Rattle.access_lists.specs.declared.strangers.Stranger.TheVariants as stranger
use Rattle.access_lists.specs.declared.perm.Perm.{Perm}
use Rattle.access_lists.specs.declared.perm.Perm.TheVariants.{Create, Read, Update, Delete, Grant}
use Rattle.access_lists.specs.Acls.{word_of}
use Rattle.access_lists.specs.Forms.{acl_doc, entry_for}
use Rattle.doc_tree.specs.Doc.{Doc, null, dict, no_pairs}
use Rattle.doc_tree.specs.Name.{is_name}
use Rattle.doc_tree.specs.declared.kind.Kind.{Kind}
use Rattle.doc_tree.specs.declared.kind.Kind.TheVariants as kinds
use Rattle.object_store.specs.declared.key.Key.{Key}
use Rattle.org_core.specs.Outcomes.{Decided, shows, does_by, tells}
use Rattle.org_core.specs.States.{State, list_in}
use Rattle.org_core.specs.declared.moves.Move.{Move}
use Rattle.org_core.specs.declared.moves.Move.TheVariants as move
use Rattle.org_requests.specs.declared.refusals.Refusal.{Refusal}
use Rattle.org_requests.specs.declared.refusals.Refusal.TheVariants.{BadField}

-- the kind of the objects of a collection whose objects have access lists
abbrev pub kind_at : List ℕ → Option Kind
kind_at collection =
    cond (bytes_eq collection (codes "nodes")) (Some kinds.Node)
    (cond (bytes_eq collection (codes "roles")) (Some kinds.Role)
    (cond (bytes_eq collection (codes "environments")) (Some kinds.Environment)
    (cond (bytes_eq collection (codes "clients")) (Some kinds.Client)
    (cond (bytes_eq collection (codes "groups")) (Some kinds.Group)
    (cond (bytes_eq collection (codes "containers")) (Some kinds.Container)
    (cond (bytes_eq collection (codes "data")) (Some kinds.Bag)
    (cond (bytes_eq collection (codes "cookbooks")) (Some kinds.Cookbook)
    (cond (bytes_eq collection (codes "cookbook_artifacts")) (Some kinds.Artifact)
    (cond (bytes_eq collection (codes "policies")) (Some kinds.Policy)
    (cond (bytes_eq collection (codes "policy_groups")) (Some kinds.PolicyGroup)
    None))))))))))

-- the permission of this word
abbrev pub permission_at : List ℕ → Option Perm
permission_at word =
    cond (bytes_eq word (codes "create")) (Some Create)
    (cond (bytes_eq word (codes "read")) (Some Read)
    (cond (bytes_eq word (codes "update")) (Some Update)
    (cond (bytes_eq word (codes "delete")) (Some Delete)
    (cond (bytes_eq word (codes "grant")) (Some Grant)
    None))))

-- the object of this key has no access list, since it isn't there, or its name has no name's form
abbrev pub lacks_list : Key → State → Bool
lacks_list k state = not (is_name k.name && is_some (list_in state k))

-- the entry that was found for a permission, or else the permission's word is the bad field
abbrev pub or_bad_entry : Perm → Option Entry → Result Entry Refusal
or_bad_entry permission None = Err (BadField (word_of permission))
or_bad_entry permission (Some entry) = Ok entry

-- the entry that a document gives for a permission
abbrev pub entry_in : Perm → Result Doc Refusal → Result Entry Refusal
entry_in permission (Ok doc) = or_bad_entry permission (entry_for permission doc)
entry_in permission (Err refusal) = Err refusal

-- the list in which a stranger stands
abbrev pub stranger_told : Option Stranger → Option Refusal
stranger_told None = None
stranger_told (Some (stranger.Actor position)) = Some (BadField (codes "actors"))
stranger_told (Some (stranger.Group position)) = Some (BadField (codes "groups"))

-- the list with another entry for one permission
abbrev pub with_entry : Perm → Entry → Acl → Acl
with_entry Create entry list = record { create = entry; read = list.read; update = list.update; delete = list.delete; grant = list.grant }
with_entry Read entry list = record { create = list.create; read = entry; update = list.update; delete = list.delete; grant = list.grant }
with_entry Update entry list = record { create = list.create; read = list.read; update = entry; delete = list.delete; grant = list.grant }
with_entry Delete entry list = record { create = list.create; read = list.read; update = list.update; delete = entry; grant = list.grant }
with_entry Grant entry list = record { create = list.create; read = list.read; update = list.update; delete = list.delete; grant = entry }

-- the document of a list that was found to be there
abbrev pub list_doc : Option Acl → Doc
list_doc None = null
list_doc (Some list) = acl_doc list

-- the whole list is shown
abbrev pub list_shown : Key → State → Decided
list_shown k state = tells (shows (list_doc (list_in state k)))

-- the moves that replace an entry of a list that was found to be there
abbrev pub entry_moves : Key → Perm → Entry → Option Acl → List Move
entry_moves k permission entry None = []
entry_moves k permission entry (Some list) = move.PutList k (with_entry permission entry list) ∷ []

-- one entry is replaced, and the others stay: 200 with an empty Dict
abbrev pub entry_replaced : Key → Perm → Entry → State → Decided
entry_replaced k permission entry state = does_by (shows (dict no_pairs)) (entry_moves k permission entry (list_in state k)) 0
