-- The routes of policies and their revisions.
use Rattle.std.specs.Prelude.{ℕ, Bool, not, ◌&&◌, cond, List, [], ◌∷◌, ◌++◌, map, codes, Option, is_some, unwrap_or}
use Rattle.std.specs.FinMap as finite
use Rattle.doc_tree.specs.Text.{text_cmp}
use Rattle.access_lists.specs.declared.perm.Perm.TheVariants as permission
use Rattle.access_lists.specs.declared.starting.Container.TheVariants as container
use Rattle.cookbook_meta.specs.Stored.{with_pairs}
use Rattle.doc_tree.specs.Doc.{Doc, null, words, dict, no_pairs, pairs_of}
use Rattle.doc_tree.specs.Name.{is_name}
use Rattle.doc_tree.specs.Tree.{doc_of}
use Rattle.doc_tree.specs.declared.kind.Kind.TheVariants as kinds
use Rattle.object_store.specs.Objects.{key}
use Rattle.policy_locks.specs.declared.lock.Lock.{Lock}
use Rattle.shelves.specs.Shelves.{has_shelf, shelf_of, value_at}
use Rattle.org_core.specs.Contexts.{Context}
use Rattle.org_core.specs.Creating.{created_list}
use Rattle.org_core.specs.Outcomes.{Decided, does_by, makes, reads, shows, tells}
use Rattle.org_requests.specs.Refusals.{first_some, refuses}
use Rattle.org_requests.specs.Replies.{one_key, org_uri, shown}
use Rattle.org_requests.specs.declared.replies.Reply.{Reply}
use Rattle.org_core.specs.States.{shelved_of}
use Rattle.org_core.specs.declared.moves.Move.{Move}
use Rattle.org_core.specs.declared.moves.Move.TheVariants as move
use Rattle.org_core.specs.declared.needs.Need.{Need}
use Rattle.org_core.specs.declared.needs.Need.TheVariants.{Listed}
use Rattle.org_requests.specs.declared.refusals.Refusal.{Refusal}
use Rattle.org_requests.specs.declared.refusals.Refusal.TheVariants.{AlreadyExists}
use Rattle.org_shelves.specs.Shelved.{Policies}
use Rattle.org_shelves.specs.declared.shelf_moves.ShelfMove.TheVariants as shelf
use Rattle.policy_routes.specs.Locks.{artifact_refusal}

-- the policies of an organisation
abbrev pub policies_of : Context → Policies
policies_of context = (shelved_of context.state).policies

-- the lock that an organisation stores of this policy and revision
abbrev pub revision_at : Context → List ℕ → List ℕ → Option Doc
revision_at context policy revision = value_at (policies_of context) policy revision

-- there is no policy of this name, or it has no name's form
abbrev pub lacks_policy : Context → List ℕ → Bool
lacks_policy context policy = not (is_name policy && has_shelf (policies_of context) policy)

-- there is no such revision, or one of the names has no name's form
abbrev pub lacks_revision : Context → List ℕ → List ℕ → Bool
lacks_revision context policy revision = not (is_name policy && (is_name revision && is_some (revision_at context policy revision)))

-- a revision in a reply: its name, with an empty dict
abbrev pub revision_pair : List ℕ × Doc → List ℕ × Doc
revision_pair entry = (entry.0, dict no_pairs)

-- revisions in a reply
abbrev pub revisions_doc : finite.FinMap text_cmp Doc → Doc
revisions_doc shelf = dict (pairs_of (with_pairs (map revision_pair (finite.entries shelf)) []))

-- a policy in a reply
abbrev pub policy_doc : finite.FinMap text_cmp Doc → Doc
policy_doc shelf = one_key (codes "revisions") (revisions_doc shelf)

-- the path of a policy
abbrev pub policy_path : List ℕ → List ℕ → List ℕ
policy_path org policy = (org_uri org ++ codes "/policies/") ++ policy

-- a policy in a listing: its revisions and its path
abbrev pub listed_policy : List ℕ → List ℕ → finite.FinMap text_cmp Doc → Doc
listed_policy org policy shelf = dict (pairs_of ((codes "revisions", revisions_doc shelf) ∷ (codes "uri", words (policy_path org policy)) ∷ []))

-- a policy in a listing, by its name
abbrev pub policy_pair : List ℕ → List ℕ × finite.FinMap text_cmp Doc → List ℕ × Doc
policy_pair org shelf = (shelf.0, listed_policy org shelf.0 shelf.1)

-- each policy
abbrev pub policy_listing : List ℕ → Policies → Doc
policy_listing org policies = dict (pairs_of (with_pairs (map (policy_pair org) (finite.entries policies)) []))

-- the policies are listed: 200
abbrev pub policies_listed : Context → Decided
policies_listed context = tells (shows (policy_listing context.org (policies_of context)))

-- 200 with the revisions of a policy, of which one that isn't there has none
abbrev pub policy_reply : Context → List ℕ → Reply
policy_reply context policy = shown (policy_doc (shelf_of (policies_of context) policy))

-- a policy is shown: 200 with its revisions
abbrev pub policy_shown : Context → List ℕ → Decided
policy_shown context policy = tells (shows (policy_doc (shelf_of (policies_of context) policy)))

-- a policy goes, with its list: 200 as it was shown
abbrev pub policy_removed : Context → List ℕ → Decided
policy_removed context policy =
    does_by (shows (policy_doc (shelf_of (policies_of context) policy)))
    (move.OnShelves (shelf.TakePolicy policy) ∷ move.TakeList (key kinds.Policy policy) ∷ []) 0

-- a lock that was found, and null where none was
abbrev pub lock_found : Option Doc → Doc
lock_found found = unwrap_or found null

-- a revision is shown: 200 with its lock
abbrev pub revision_shown : Context → List ℕ → List ℕ → Decided
revision_shown context policy revision = reads (shows (lock_found (revision_at context policy revision)))

-- the permission to put a revision: to update the policy, or to create in the container where there is none of this name
abbrev pub revision_need : Context → List ℕ → Need
revision_need context policy = cond (has_shelf (policies_of context) policy) (Listed permission.Update (key kinds.Policy policy)) (Listed permission.Create (key kinds.Container (codes "policies")))

-- why a revision isn't added: there is one of this name, or an artifact is missing
abbrev pub revision_refusal : Context → List ℕ → Lock → Option Refusal
revision_refusal context policy lock =
    first_some (
    refuses AlreadyExists (is_some (revision_at context policy lock.revision_id))
    ∷ artifact_refusal context lock
    ∷ [])

-- a policy's access list comes with its first revision
abbrev pub first_policy_list : Context → List ℕ → List Move
first_policy_list context policy = cond (has_shelf (policies_of context) policy) [] (move.PutList (key kinds.Policy policy) (created_list container.Policies context) ∷ [])

-- a lock is stored as a revision of a policy, with the policy's list where it is the first
abbrev pub revision_moves : Context → List ℕ → Lock → List Move
revision_moves context policy lock = move.OnShelves (shelf.PutRevision policy lock.revision_id (doc_of lock.whole)) ∷ first_policy_list context policy

-- a revision is added: 201 with its lock
abbrev pub revision_added : Context → List ℕ → Lock → Decided
revision_added context policy lock = does_by (makes (doc_of lock.whole)) (revision_moves context policy lock) 0
