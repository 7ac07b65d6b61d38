-- The conditions that what every organisation keeps on shelves meets.
use Rattle.std.specs.Prelude.{◌≡◌, true, IsTrue, ℕ, List, Some, option_and_then, Option, is_some, Ok}
use Rattle.std.specs.FinMap as finite
use Rattle.org_shelves.specs.StoredManifests.{IsStored, IsStoredArtifact}
use Rattle.doc_tree.specs.Doc.{Doc}
use Rattle.doc_tree.specs.Name.{is_name}
use Rattle.doc_tree.specs.Tree.{doc_of}
use Rattle.policy_locks.specs.Reading.{lock_from}
use Rattle.policy_locks.specs.declared.lock.Lock.{Lock}
use Rattle.shelves.specs.Shelves.{value_at}
use Rattle.version_rules.specs.declared.versions.Version.{Version}
use Rattle.org_shelves.specs.Shelved.{PolicyGroups, Shelved}

-- the name has the form of a Name, and the document is what is stored of a manifest of this name and version
abbrev pub IsVersionOf : List ℕ → Version → Doc → Type 0
IsVersionOf name version manifest = (is_name name ≡ true) × IsStored name version manifest

-- the name has the form of a Name, and the document is what is stored of an artifact of this name and identifier
abbrev pub IsArtifactOf : List ℕ → List ℕ → Doc → Type 0
IsArtifactOf name id manifest = (is_name name ≡ true) × IsStoredArtifact name id manifest

-- the document is what is stored of a lock of this policy and revision that a body gave
pub record IsStoredLock (policy revision : List ℕ) (doc : Doc) : Type 0 where
  pub body : Doc
  pub lock : Lock
  pub given : lock_from (Some policy) body ≡ Ok lock
  pub revision_is : lock.revision_id ≡ revision
  pub whole : doc_of lock.whole ≡ doc

-- both names have the form of a Name, and the document is what is stored of a lock of this policy and revision
abbrev pub IsRevisionOf : List ℕ → List ℕ → Doc → Type 0
IsRevisionOf policy revision lock = (is_name policy ≡ true) × ((is_name revision ≡ true) × IsStoredLock policy revision lock)

-- the revision of a policy that a group assigns
abbrev pub assigned_in : PolicyGroups → List ℕ → List ℕ → Option (List ℕ)
assigned_in groups group policy = option_and_then (λ assigned. finite.get assigned policy) (finite.get groups group)

-- each version, artifact and revision is what is stored of its kind under its own name; a group's name has the form of a
-- Name, and what it assigns is there
pub record ShelfConditions (s : Shelved) : Type 0 where
  pub versions : (name : List ℕ) (version : Version) (manifest : Doc) → value_at s.cookbooks name version ≡ Some manifest → IsVersionOf name version manifest
  pub artifacts : (name id : List ℕ) (manifest : Doc) → value_at s.artifacts name id ≡ Some manifest → IsArtifactOf name id manifest
  pub revisions : (policy revision : List ℕ) (lock : Doc) → value_at s.policies policy revision ≡ Some lock → IsRevisionOf policy revision lock
  pub groups : (group : List ℕ) → IsTrue (is_some (finite.get s.groups group)) → is_name group ≡ true
  pub assigned : (group policy revision : List ℕ) → assigned_in s.groups group policy ≡ Some revision → IsTrue (is_some (value_at s.policies policy revision))
