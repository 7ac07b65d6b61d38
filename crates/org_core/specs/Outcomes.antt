-- What comes of a request on one organisation.
use Rattle.std.specs.Prelude.{◌≡◌, ◌≤◌, ◌+◌, true, ℕ, List, [], Option, Some, None, Result, Ok, Err, codes}
use Rattle.doc_tree.specs.Doc.{Doc, words}
use Rattle.org_core.specs.declared.rules.Prepared.{Prepared}
use Rattle.org_core.specs.declared.moves.Move.{Move}
use Rattle.org_requests.specs.declared.refusals.Refusal.{Refusal}
use Rattle.org_requests.specs.declared.refusals.Stop.{Stop}
use Rattle.org_requests.specs.declared.refusals.Stop.TheVariants.{Refused, NoMemory}
use Rattle.org_requests.specs.declared.replies.Reply.{Reply}
use Rattle.org_requests.specs.Refusals.{reply_to}
use Rattle.org_requests.specs.Replies.{with_body, one_key}

-- a reply that says that all is well: 200 with a document, 201 with a document, or 200 with raw bytes
pub data Success : Type 0 where
  shows : Doc → Success
  makes : Doc → Success
  gives : List ℕ → Success

-- 201 with the path of what was created
abbrev pub creates : List ℕ → Success
creates path = makes (one_key (codes "uri") (words path))

-- what is put in: 201 where nothing stood in its place, and else 200
abbrev pub makes_or_shows : {A : Type 0} → Option A → Doc → Success
makes_or_shows None doc = makes doc
makes_or_shows (Some before) doc = shows doc

-- the reply that tells it
abbrev pub reply_of : Success → Reply
reply_of (shows doc) = with_body 200 doc
reply_of (makes doc) = with_body 201 doc
reply_of (gives bytes) = record { status = 200; octets = true; body = bytes }

-- what an operation does: what is told of it, and the moves that it makes
pub record Done : Type 0 where
  pub told : Success
  pub moves : List Move

-- how a request is decided: what it does or why it is refused, how many bodies of objects were looked at, and of how many
-- objects the index is that a finder searched beside, where one did
pub record Decided : Type 0 where
  pub answer : Result Done Refusal
  pub looks : ℕ
  pub searched : Option ℕ

-- something is told, with these moves and looks
abbrev pub does_by : Success → List Move → ℕ → Decided
does_by told moves looks = record { answer = Ok (record { told = told; moves = moves }); looks = looks; searched = None }

-- something is told, and nothing was looked at
abbrev pub tells : Success → Decided
tells told = does_by told [] 0

-- something is told of one object, which was looked at
abbrev pub reads : Success → Decided
reads told = does_by told [] 1

-- a refusal, before anything was looked at
abbrev pub refuse : Refusal → Decided
refuse refusal = record { answer = Err refusal; looks = 0; searched = None }

-- the same, after a finder searched an index of so many objects, or searched none
abbrev pub searching : Option ℕ → Decided → Decided
searching searched decided = record { answer = decided.answer; looks = decided.looks; searched = searched }

-- these looks, and those of a finder that searched an index of so many objects. How many it takes for that, it says itself
abbrev pub with_search : (ℕ → ℕ) → Option ℕ → ℕ → ℕ
with_search finder_looks None looks = looks
with_search finder_looks (Some count) looks = finder_looks count + looks

-- all looks at bodies of objects, the finder's among them
abbrev pub all_looks : (ℕ → ℕ) → Decided → ℕ
all_looks finder_looks decided = with_search finder_looks decided.searched decided.looks

-- the refusal, if there is one, or else what was decided
abbrev pub unless : Option Refusal → Decided → Decided
unless (Some refusal) decided = refuse refusal
unless None decided = decided

-- the reply and the moves that come of it
pub record Outcome : Type 0 where
  pub reply : Reply
  pub moves : List Move

-- a refusal makes no move
abbrev pub outcome_of : Result Done Refusal → Outcome
outcome_of (Ok done) = record { reply = reply_of done.told; moves = done.moves }
outcome_of (Err refusal) = record { reply = reply_to refusal; moves = [] }

-- what was prepared is what is to be done
abbrev pub Prepares : Prepared → Done → Type 0
Prepares prepared done = (prepared.reply ≡ reply_of done.told) × (prepared.moves ≡ done.moves)

-- what was prepared is what was decided, and a refusal is the one that was; want of memory says nothing
abbrev pub IsAsDecided : Result Prepared Stop → Result Done Refusal → Type 0
IsAsDecided (Ok prepared) (Ok done) = Prepares prepared done
IsAsDecided (Ok prepared) (Err refusal) = ⊥
IsAsDecided (Err (Refused refusal)) due = due ≡ Err refusal
IsAsDecided (Err NoMemory) due = Unit {0}

-- at most so many bodies were looked at: each is one step
abbrev pub LooksAtMost : ℕ → ℕ → ℕ → Type 0
LooksAtMost looks before now = (before ≤ now) × (now ≤ before + looks)

-- just so many bodies were looked at, and at most so many where memory was wanting
abbrev pub Looked : {T : Type 0} → Result T Stop → ℕ → ℕ → ℕ → Type 0
Looked (Ok value) looks before now = now ≡ before + looks
Looked (Err (Refused refusal)) looks before now = now ≡ before + looks
Looked (Err NoMemory) looks before now = LooksAtMost looks before now
