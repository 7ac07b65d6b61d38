-- What a client says to a server: a function of the replies that it has read so far.
use Rattle.std.specs.Prelude.{◌≡◌, ℕ, List, [], ◌∷◌, Option, IfSome}
use Rattle.std.specs.List.{flat_map}
use Rattle.std.specs.Io.KnownBytes.{prepend_known, append_known}
use Rattle.outside_core.specs.Sink.{GainsPart}
use Rattle.peer_wire.specs.Answer.{Answer, IsAnswer, NoReply, print_answer, status_of}
use Rattle.peer_wire.specs.Asks.{ask_text}
use Rattle.http_wire.specs.Splits.{LosesFront}
use Rattle.peer_wire.specs.declared.asks.Ask.{Ask}
use Rattle.peer_wire.specs.declared.asks.Whom.{Whom}

-- a reply as a client hears it
pub record Heard : Type 0 where
  pub status : ℕ
  pub body : List ℕ

-- what comes next: a request, or the end
pub data Next (E : Type 0) : Type 0 where
  asks : Ask → Next E
  ends : E → Next E

-- a talk: what comes next, by the replies so far
abbrev pub Talk : Type 0 → Type 0
Talk E = List Heard → Next E

-- it ends so
abbrev pub end : {E : Type 0} → E → Talk E
end e replies = ends e

-- it asks this, and goes on by the reply
abbrev pub ask : {E : Type 0} → Ask → (Heard → Talk E) → Talk E
ask request next [] = asks request
ask request next (reply ∷ replies) = next reply replies

-- what a connection has left to give, and what it has gained
pub record Line : Type 0 where
  pub left : Option (List ℕ)
  pub gained : Option (List ℕ)

-- a request, and the reply to it
pub record Exchange : Type 0 where
  pub request : Ask
  pub reply : Answer

-- a reply as it is heard
abbrev pub heard : Answer → Heard
heard a = record { status = status_of a; body = a.body }

-- the bytes of the replies, and those of the requests
abbrev pub replies_in : List Exchange → List ℕ
replies_in xs = flat_map (λ x. print_answer x.reply) xs

abbrev pub requests_in : Whom → List Exchange → List ℕ
requests_in whom xs = flat_map (λ x. ask_text whom x.request) xs

-- each request is the one that the talk asks after the replies before it, each reply is one, and the talk that is left is `rest`
abbrev pub Follows : {E : Type 0} → Talk E → List Exchange → Talk E → Type 0
Follows talk [] rest = (replies : List Heard) → talk replies ≡ rest replies
Follows talk (x ∷ xs) rest =
    (talk [] ≡ asks x.request) × IsAnswer x.reply × Follows (λ replies. talk (heard x.reply ∷ replies)) xs rest

-- the talk went on to `rest`, and the line carried its exchanges and nothing else
pub record Goes {E : Type 0} (whom : Whom) (talk rest : Talk E) (old new : Line) : Type 0 where
  pub exchanges : List Exchange
  pub follows : Follows talk exchanges rest
  pub read : old.left ≡ prepend_known (replies_in exchanges) new.left
  pub written : new.gained ≡ append_known old.gained (requests_in whom exchanges)

-- the bytes of what comes next
abbrev pub next_text : {E : Type 0} → Whom → Next E → List ℕ
next_text whom (asks request) = ask_text whom request
next_text whom (ends e) = []

-- the talk was cut short: some first exchanges were carried, and then a front of the next request
pub record Stops {E : Type 0} (whom : Whom) (talk : Talk E) (old new : Line) : Type 0 where
  pub rest : Talk E
  pub mid : Line
  pub went : Goes whom talk rest old mid
  pub part : GainsPart mid.gained new.gained (next_text whom (rest []))
  pub lost : LosesFront mid.left new.left

-- the talk was cut short in a write: a front of the next request was written, and nothing was read of its reply
pub record IsUnwritten {E : Type 0} (whom : Whom) (talk : Talk E) (old new : Line) : Type 0 where
  pub rest : Talk E
  pub mid : Line
  pub went : Goes whom talk rest old mid
  pub part : GainsPart mid.gained new.gained (next_text whom (rest []))
  pub unread : new.left ≡ mid.left

-- the talk was cut short in a read: the next request was written whole, and a front of what was left is gone
pub record IsUnread {E : Type 0} (whom : Whom) (talk : Talk E) (old new : Line) : Type 0 where
  pub rest : Talk E
  pub mid : Line
  pub went : Goes whom talk rest old mid
  pub written : new.gained ≡ append_known mid.gained (next_text whom (rest []))
  pub lost : LosesFront mid.left new.left

-- a request was written whole, and where the line tells what is left, that begins no reply; a front of it is gone
pub record IsUnanswered {E : Type 0} (whom : Whom) (talk : Talk E) (request : Ask) (old new : Line) : Type 0 where
  pub rest : Talk E
  pub mid : Line
  pub went : Goes whom talk rest old mid
  pub asked : rest [] ≡ asks request
  pub written : new.gained ≡ append_known mid.gained (ask_text whom request)
  pub none : IfSome mid.left NoReply
  pub lost : LosesFront mid.left new.left
