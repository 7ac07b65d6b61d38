-- What each status of `answer` says of what was read and written.
use Rattle.std.specs.Prelude.{◌≡◌, ◌≢◌, ◌⊎◌, ℕ, List, [], Option, Some}
use Rattle.outside_core.specs.Failed.{Rose}
use Rattle.http_wire.specs.Message.{Message}
use Rattle.http_wire.specs.Splits.{Splits, place_after}
use Rattle.answer_stream.specs.declared.ends.End.{End}
use Rattle.answer_stream.specs.declared.ends.End.TheVariants.{Closed}
use Rattle.answer_stream.specs.declared.ends.End.TheVariants as end
use Rattle.chefsite.specs.declared.statuses.Status.{Status}
use Rattle.chefsite.specs.declared.statuses.Status.TheVariants.{Done, Usage, ReadFault, WriteFault, NoMemory, NotAMessage, BadReply, Refused, BadFile}
use Rattle.chefsite.specs.Isolation.{IsAnswered, IsAnsweredToRest, IsAnsweredUpTo, IsCutShort}

-- what a status says: `left` and `rest` are what the input had before and has after, `held` and `now` what the output had and has
abbrev pub Says : Status → Option (List ℕ) → Option (List ℕ) → Option (List ℕ) → Option (List ℕ) → Type 0
Says Done left rest held now = IsAnswered left rest held now
Says Usage left rest held now = ⊥
Says ReadFault left rest held now = IsAnsweredUpTo left rest held now
Says WriteFault left rest held now = IsCutShort left held now
Says NoMemory left rest held now = (rest ≡ left) × (now ≡ held)
Says (NotAMessage place) left rest held now = IsAnsweredToRest place left held now
Says BadReply left rest held now = ⊥
Says (Refused number) left rest held now = ⊥
Says BadFile left rest held now = ⊥

-- a fault comes only where its count rose, and want of memory only where neither count moved
abbrev pub HasStatusCause : Status → ℕ → ℕ → ℕ → ℕ → Type 0
HasStatusCause Done read_before read_now written_before written_now = Unit {0}
HasStatusCause Usage read_before read_now written_before written_now = ⊥
HasStatusCause ReadFault read_before read_now written_before written_now = Rose read_before read_now
HasStatusCause WriteFault read_before read_now written_before written_now = Rose written_before written_now
HasStatusCause NoMemory read_before read_now written_before written_now = (read_now ≡ read_before) × (written_now ≡ written_before)
HasStatusCause (NotAMessage place) read_before read_now written_before written_now = Unit {0}
HasStatusCause BadReply read_before read_now written_before written_now = ⊥
HasStatusCause (Refused number) read_before read_now written_before written_now = ⊥
HasStatusCause BadFile read_before read_now written_before written_now = ⊥

-- a stream splits in one way, so a status tells of the rest: 0 comes only where it is empty, and 8 only
-- where it isn't and begins at the place that is told
abbrev pub TellsRest : Status → Option (List ℕ) → Type 0
TellsRest status left =
    (bytes : List ℕ) (messages : List Message) (rest : List ℕ) → left ≡ Some bytes → Splits 0 bytes messages rest
    → (status ≡ Done → rest ≡ [])
    × ((place : ℕ) → status ≡ NotAMessage place → (rest ≢ []) × (place ≡ place_after 0 messages))

-- where the input is whole messages alone and no count rose, all was done, or memory was wanting
abbrev pub IsComplete : Status → Option (List ℕ) → ℕ → ℕ → ℕ → ℕ → Type 0
IsComplete status left read_before read_now written_before written_now =
    (bytes : List ℕ) (messages : List Message) → left ≡ Some bytes → Splits 0 bytes messages []
    → ¬ (Rose read_before read_now) → ¬ (Rose written_before written_now) → (status ≡ Done) ⊎ (status ≡ NoMemory)

-- the status that the end of a stream has
abbrev pub status_of : End → Status
status_of Closed = Done
status_of end.ReadFault = ReadFault
status_of end.WriteFault = WriteFault
status_of (end.NotAMessage place) = NotAMessage place
