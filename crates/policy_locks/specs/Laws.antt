-- What a stored lock is read as.
use Rattle.std.specs.Prelude.{◌≡◌, ℕ, true, List, Option, Ok}
use Rattle.doc_tree.specs.Doc.{Doc}
use Rattle.doc_tree.specs.Name.{is_name}
use Rattle.doc_tree.specs.Tree.{doc_of}
use Rattle.doc_tree.specs.Valid.{IsDoc}
use Rattle.policy_locks.specs.Reading.{lock_from}
use Rattle.policy_locks.specs.declared.lock.Lock.{Lock}

-- the revision of a lock that a body gave is a Name
abbrev pub RevisionsAreNames : Type 0
RevisionsAreNames = (policy : Option (List ℕ)) (body : Doc) (lock : Lock) → lock_from policy body ≡ Ok lock → is_name lock.revision_id ≡ true

-- what a body gave, under a policy's name or any, is read, from the object that is stored of it, as itself
abbrev pub LocksReadBack : Type 0
LocksReadBack = (policy : Option (List ℕ)) (body : Doc) (lock : Lock) → IsDoc body → lock_from policy body ≡ Ok lock → lock_from policy (doc_of lock.whole) ≡ Ok lock
