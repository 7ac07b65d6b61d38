-- What came of one request.
use Rattle.std.specs.Prelude.{◌≡◌, ◌≤◌, ◌==◌, ℕ, List, true, false, Result, Ok, Err, IfSome, IfErr, Option, Some, None}
use Rattle.std.specs.Io.KnownBytes.{prepend_known, append_known}
use Rattle.outside_core.specs.Failed.{Rose}
use Rattle.outside_core.specs.Sink.{GainsPart}
use Rattle.peer_wire.specs.Answer.{Answer, IsAnswer, NoReply, print_answer, status_of}
use Rattle.peer_wire.specs.Asks.{ask_text}
use Rattle.peer_wire.specs.Room.{stream}
use Rattle.http_wire.specs.Splits.{LosesFront}
use Rattle.peer_wire.specs.declared.asks.Ask.{Ask}
use Rattle.peer_wire.specs.declared.asks.Whom.{Whom}
use Rattle.talks.specs.Talk.{Line}
use Rattle.talks.specs.Endings.{is_good}
use Rattle.talks.specs.declared.exchange.Got.{Got}
use Rattle.talks.specs.declared.halts.Halt.{Halt}
use Rattle.talks.specs.declared.halts.Halt.TheVariants as halt

-- a line through a room over a link
abbrev pub line : List ℕ → Option (List ℕ) → Option (List ℕ) → Line
line held left gained = record { left = stream held left; gained = gained }

-- the line carried this request and a reply of this status and body
pub record Carried (whom : Whom) (ask : Ask) (status : ℕ) (body : List ℕ) (old new : Line) : Type 0 where
  pub answer : Answer
  pub is : IsAnswer answer
  pub status_is : status ≡ status_of answer
  pub body_is : body ≡ answer.body
  pub read : old.left ≡ prepend_known (print_answer answer) new.left
  pub written : new.gained ≡ append_known old.gained (ask_text whom ask)

-- a front of the request was written, and a front of what was left is gone
pub record CutShort (whom : Whom) (ask : Ask) (old new : Line) : Type 0 where
  pub part : GainsPart old.gained new.gained (ask_text whom ask)
  pub lost : LosesFront old.left new.left

-- a front of the request was written, and nothing was read
pub record Unwritten (whom : Whom) (ask : Ask) (old new : Line) : Type 0 where
  pub part : GainsPart old.gained new.gained (ask_text whom ask)
  pub unread : new.left ≡ old.left

-- the request was written, and a front of what was left is gone
pub record Unread (whom : Whom) (ask : Ask) (old new : Line) : Type 0 where
  pub written : new.gained ≡ append_known old.gained (ask_text whom ask)
  pub lost : LosesFront old.left new.left

-- the request was written, and where the line tells what is left, that begins no reply; a front of it is gone
pub record NoneCame (whom : Whom) (ask : Ask) (old new : Line) : Type 0 where
  pub written : new.gained ≡ append_known old.gained (ask_text whom ask)
  pub none : IfSome old.left NoReply
  pub lost : LosesFront old.left new.left

-- what came of a request, whatever the status
abbrev pub IsExchanged : Whom → Ask → Result Got Halt → Line → Line → Type 0
IsExchanged whom ask (Ok got) old new = (got.ask ≡ ask) × Carried whom ask got.status got.body old new
IsExchanged whom ask (Err halt.ReadFault) old new = Unread whom ask old new
IsExchanged whom ask (Err halt.WriteFault) old new = Unwritten whom ask old new
IsExchanged whom ask (Err halt.NoMemory) old new = CutShort whom ask old new
IsExchanged whom ask (Err (halt.Unanswered request)) old new = (request ≡ ask) × NoneCame whom ask old new
IsExchanged whom ask (Err (halt.Malformed request)) old new = ⊥
IsExchanged whom ask (Err (halt.Answered status request)) old new = ⊥

-- what came of a request that wants 200 or 201
abbrev pub IsWanted : Whom → Ask → Result Got Halt → Line → Line → Type 0
IsWanted whom ask (Ok got) old new = (got.ask ≡ ask) × (is_good got.status ≡ true) × Carried whom ask got.status got.body old new
IsWanted whom ask (Err halt.ReadFault) old new = Unread whom ask old new
IsWanted whom ask (Err halt.WriteFault) old new = Unwritten whom ask old new
IsWanted whom ask (Err halt.NoMemory) old new = CutShort whom ask old new
IsWanted whom ask (Err (halt.Unanswered request)) old new = (request ≡ ask) × NoneCame whom ask old new
IsWanted whom ask (Err (halt.Malformed request)) old new = ⊥
IsWanted whom ask (Err (halt.Answered status request)) old new =
    (request ≡ ask) × (is_good status ≡ false) × ((body : List ℕ) × Carried whom ask status body old new)

-- what came of a request that wants 200 or 201, where one more status is expected, of which nothing is given
abbrev pub IsWantedOr : Whom → ℕ → Ask → Result (Option Got) Halt → Line → Line → Type 0
IsWantedOr whom expected ask (Ok (Some got)) old new =
    (got.ask ≡ ask) × (is_good got.status ≡ true) × Carried whom ask got.status got.body old new
IsWantedOr whom expected ask (Ok None) old new =
    (is_good expected ≡ false) × ((body : List ℕ) × Carried whom ask expected body old new)
IsWantedOr whom expected ask (Err halt.ReadFault) old new = Unread whom ask old new
IsWantedOr whom expected ask (Err halt.WriteFault) old new = Unwritten whom ask old new
IsWantedOr whom expected ask (Err halt.NoMemory) old new = CutShort whom ask old new
IsWantedOr whom expected ask (Err (halt.Unanswered request)) old new = (request ≡ ask) × NoneCame whom ask old new
IsWantedOr whom expected ask (Err (halt.Malformed request)) old new = ⊥
IsWantedOr whom expected ask (Err (halt.Answered status request)) old new =
    (request ≡ ask) × (is_good status ≡ false) × ((status == expected) ≡ false) × ((body : List ℕ) × Carried whom ask status body old new)

-- where a link's fault halted a talk, its count rose
abbrev pub HaltCause : ℕ → ℕ → Halt → Type 0
HaltCause before now halt.ReadFault = Rose before now
HaltCause before now halt.WriteFault = Rose before now
HaltCause before now halt.NoMemory = Unit {0}
HaltCause before now (halt.Unanswered request) = Unit {0}
HaltCause before now (halt.Malformed request) = Unit {0}
HaltCause before now (halt.Answered status request) = Unit {0}

-- the count of faults didn't fall, and a link's fault comes only where it rose
pub record HasHaltCause {T : Type 0} (before now : ℕ) (result : Result T Halt) : Type 0 where
  pub later : before ≤ now
  pub rose : IfErr result (HaltCause before now)
