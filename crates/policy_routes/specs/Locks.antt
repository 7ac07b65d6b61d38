-- Locks in bodies, and what refuses them.
use Rattle.std.specs.Prelude.{ℕ, Bool, not, List, Option, Some, is_some, option_map, Result, Ok, Err}
use Rattle.std.specs.List.{find}
use Rattle.doc_tree.specs.Doc.{Doc}
use Rattle.policy_locks.specs.Reading.{lock_from}
use Rattle.policy_locks.specs.declared.lock.CookbookLock.{CookbookLock}
use Rattle.policy_locks.specs.declared.lock.Lock.{Lock}
use Rattle.org_core.specs.Contexts.{Context}
use Rattle.org_requests.specs.declared.refusals.Refusal.{Refusal}
use Rattle.org_requests.specs.declared.refusals.Refusal.TheVariants.{BadField, MissingArtifact}
use Rattle.policy_routes.specs.Artifacts.{artifact_at}

-- the lock that was read, or its first bad field
abbrev pub or_bad_lock : Result Lock (List ℕ) → Result Lock Refusal
or_bad_lock (Ok lock) = Ok lock
or_bad_lock (Err field) = Err (BadField field)

-- the lock of this policy that a document gives
abbrev pub lock_said : List ℕ → Result Doc Refusal → Result Lock Refusal
lock_said policy (Ok doc) = or_bad_lock (lock_from (Some policy) doc)
lock_said policy (Err refusal) = Err refusal

-- the artifact that a lock names isn't there
abbrev pub is_missing : Context → CookbookLock → Bool
is_missing context cookbook = not (is_some (artifact_at context cookbook.name cookbook.identifier))

-- 400 with the cookbook and the identifier
abbrev pub missing_artifact : CookbookLock → Refusal
missing_artifact cookbook = MissingArtifact cookbook.name cookbook.identifier

-- the first artifact, by the cookbooks' names, that isn't there
abbrev pub artifact_refusal : Context → Lock → Option Refusal
artifact_refusal context lock = option_map missing_artifact (find (is_missing context) lock.cookbook_locks)
