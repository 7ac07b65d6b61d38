-- The full states that an organisation can have, of whose rows the laws speak.
use Rattle.std.specs.Prelude.{◌≡◌, ℕ, ◌<◌, ◌^◌, List, true, None, Some, Ok}
use Rattle.std.specs.FinMap as finite
use Rattle.std.specs.List.{list_all}
use Rattle.doc_tree.specs.Doc.{Doc}
use Rattle.doc_tree.specs.Tree.{doc_of}
use Rattle.doc_tree.specs.Valid.{IsDoc}
use Rattle.access_lists.specs.Forms.{IsAcl}
use Rattle.access_lists.specs.declared.acl.Acl.{Acl}
use Rattle.object_store.specs.declared.key.Key.{Key}
use Rattle.policy_locks.specs.Reading.{lock_from}
use Rattle.policy_locks.specs.declared.lock.Lock.{Lock}
use Rattle.version_rules.specs.Laws.{FitsVersion}
use Rattle.version_rules.specs.declared.versions.Version.{Version}
use Rattle.sandboxes.specs.Checksums.{is_checksum}
use Rattle.sandboxes.specs.Sandboxes.{AreNamed, Holding}
use Rattle.sandboxes.specs.Sums.{IsRising, Sums}
use Rattle.sandboxes.specs.declared.stored.Stored.{Stored}
use Rattle.shelves.specs.Shelves.{AreFilled, value_at}
use Rattle.org_core.specs.Conditions.{MeetsConditions}
use Rattle.org_core.specs.FullStates.{FullState, MeetsFileConditions}
use Rattle.org_core.specs.States.{Organisation, State, shelved_of}

-- what the types of what an organisation keeps say: its documents are ones that a tree can be, the entries of its access
-- lists rise, the numbers of its versions fit 64 bits, and none of its shelves is empty
pub record IsTyped (o : Organisation) : Type 0 where
  pub objects : (k : Key) (doc : Doc) → finite.get o.objects k ≡ Some doc → IsDoc doc
  pub lists : (k : Key) (list : Acl) → finite.get o.lists k ≡ Some list → IsAcl list
  pub versions : (name : List ℕ) (number : Version) (doc : Doc) → value_at o.shelved.cookbooks name number ≡ Some doc → IsDoc doc × FitsVersion number
  pub artifacts : (name id : List ℕ) (doc : Doc) → value_at o.shelved.artifacts name id ≡ Some doc → IsDoc doc
  pub revisions : (policy id : List ℕ) (doc : Doc) → value_at o.shelved.policies policy id ≡ Some doc → IsDoc doc
  pub cookbooks_filled : AreFilled o.shelved.cookbooks
  pub artifacts_filled : AreFilled o.shelved.artifacts
  pub policies_filled : AreFilled o.shelved.policies

-- the document is read as a lock of this policy and revision, of which it is what is stored
pub record IsLockOf (policy revision : List ℕ) (doc : Doc) : Type 0 where
  pub lock : Lock
  pub given : lock_from (Some policy) doc ≡ Ok lock
  pub revision_is : lock.revision_id ≡ revision
  pub whole : doc_of lock.whole ≡ doc

-- each stored revision is read back so
abbrev pub LocksReadBack : State → Type 0
LocksReadBack state = (policy revision : List ℕ) (doc : Doc) → value_at (shelved_of state).policies policy revision ≡ Some doc → IsLockOf policy revision doc

-- one that isn't there keeps nothing
abbrev pub IsTypedState : State → Type 0
IsTypedState None = Unit {0}
IsTypedState (Some o) = IsTyped o

-- what the types of its files and sandboxes say: each file is kept under its own checksum, each sandbox under an id that has
-- the form of one, with checksums that rise, and the count fits 64 bits
pub record AreTypedFiles (files : Holding) : Type 0 where
  pub named : AreNamed files.files
  pub checksums : (sum : List ℕ) (stored : Stored) → finite.get files.files sum ≡ Some stored → is_checksum sum ≡ true
  pub ids : (id : List ℕ) (sums : Sums) → finite.get files.sandboxes id ≡ Some sums → is_checksum id ≡ true
  pub sums : (id : List ℕ) (sums : Sums) → finite.get files.sandboxes id ≡ Some sums → (list_all is_checksum sums ≡ true) × IsRising sums
  pub count : files.count < 2 ^ 64

-- a full state that an organisation can have: it meets the conditions of states and files, and is what the types say
pub record IsLegal (full : FullState) : Type 0 where
  pub conditions : MeetsConditions full.state
  pub file_conditions : MeetsFileConditions full
  pub typed : IsTypedState full.state
  pub typed_files : AreTypedFiles full.files
