-- What each status of `demo` says of what was served and printed.
use Rattle.std.specs.Prelude.{◌≡◌, ℕ, List, ◌++◌, length, map, Option}
use Rattle.std.specs.Io.KnownBytes.{append_known}
use Rattle.outside_core.specs.Failed.{Rose}
use Rattle.outside_core.specs.Sink.{GainsPart}
use Rattle.demo_requests.specs.DemoRequests.{demo_requests}
use Rattle.demo_requests.specs.Lines.{Outcome, Sums, sums_of, lines}
use Rattle.org_requests.specs.declared.replies.Reply.{Reply}
use Rattle.org_requests.specs.declared.requests.Request.{Request}
use Rattle.org_core.specs.FullStates.{none}
use Rattle.org_machine.specs.Alone.{Exchange, Alone, States, own, nobody}
use Rattle.org_machine.specs.Permitting.{ArePermittedExactly}
use Rattle.org_machine.specs.Serving.{Progress}
use Rattle.http_wire.specs.Replies.{reply_text}
use Rattle.chefsite.specs.declared.statuses.Status.{Status}
use Rattle.chefsite.specs.declared.statuses.Status.TheVariants.{Done, Usage, ReadFault, WriteFault, NoMemory, NotAMessage, BadReply, Refused, BadFile}

-- what a reply comes to: its status, and the bytes that it has as a message
abbrev pub outcome_of : Reply → Outcome
outcome_of reply = record { status = reply.status; bytes = length (reply_text reply) }

-- what the replies of these exchanges come to
abbrev pub outcomes_of : List Exchange → List Outcome
outcomes_of exchanges = map (λ e. outcome_of e.reply) exchanges

-- one reply to each request of a demo of this size, in order, and to each organisation those of the small machine that
-- is given its own requests alone, from no organisation on
pub record Demonstrates (size : ℕ) (exchanges : List Exchange) : Type 0 where
  pub requests : map (λ e. e.request) exchanges ≡ demo_requests size
  pub alone : Alone nobody exchanges
  -- each request of an organisation is permitted exactly by its lists
  pub permitted : (name : List ℕ) → ArePermittedExactly none (own name exchanges)

-- these are the counts of the replies to a demo of this size
abbrev pub AreCountsOf : ℕ → Sums → Type 0
AreCountsOf size counts = (exchanges : List Exchange) × Demonstrates size exchanges × (counts ≡ sums_of (outcomes_of exchanges))

-- these are the five lines of the replies to a demo of this size
abbrev pub IsToldOf : ℕ → List ℕ → Type 0
IsToldOf size text = (exchanges : List Exchange) × Demonstrates size exchanges × (text ≡ lines (outcomes_of exchanges))

-- what a status says: `held` and `now` is what the output had and has
abbrev pub SaysOfDemo : Status → ℕ → Option (List ℕ) → Option (List ℕ) → Type 0
SaysOfDemo Done size held now = (text : List ℕ) × IsToldOf size text × (now ≡ append_known held text)
SaysOfDemo Usage size held now = ⊥
SaysOfDemo ReadFault size held now = ⊥
SaysOfDemo WriteFault size held now = (text : List ℕ) × IsToldOf size text × GainsPart held now text
SaysOfDemo NoMemory size held now = now ≡ held
SaysOfDemo (NotAMessage place) size held now = ⊥
SaysOfDemo BadReply size held now = ⊥
SaysOfDemo (Refused number) size held now = ⊥
SaysOfDemo BadFile size held now = ⊥

-- a fault comes only where the output's count rose, and want of memory only where it stayed
abbrev pub HasDemoCause : Status → ℕ → ℕ → Type 0
HasDemoCause Done before now = Unit {0}
HasDemoCause Usage before now = ⊥
HasDemoCause ReadFault before now = ⊥
HasDemoCause WriteFault before now = Rose before now
HasDemoCause NoMemory before now = now ≡ before
HasDemoCause (NotAMessage place) before now = ⊥
HasDemoCause BadReply before now = ⊥
HasDemoCause (Refused number) before now = ⊥
HasDemoCause BadFile before now = ⊥

-- some first requests of a demo of this size were served, and these are still to come
pub record Demonstrating (size : ℕ) (left : List Request) (states : States) (counts : Sums) : Type 0 where
  pub exchanges : List Exchange
  pub requests : map (λ e. e.request) exchanges ++ left ≡ demo_requests size
  pub progress : Progress nobody exchanges states
  pub counted : counts ≡ sums_of (outcomes_of exchanges)
