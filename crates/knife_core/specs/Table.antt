-- What `knife` says to the server for each errand, and what it prints.
use Rattle.std.specs.Prelude.{ℕ, List, Option, Some, None, option_and_then}
use Rattle.peer_wire.specs.declared.asks.Ask.{Ask}
use Rattle.peer_wire.specs.declared.asks.Whom.{Whom}
use Rattle.talks.specs.Talk.{Talk, end}
use Rattle.talks.specs.Endings.{Ending, done, want, want_or, formed}
use Rattle.knife_errands.specs.Files.{sent_of}
use Rattle.knife_errands.specs.Printing.{printed}
use Rattle.knife_errands.specs.Requests.{request_of}
use Rattle.knife_errands.specs.RunLists.{node_request, changed_request, printed_items}
use Rattle.knife_errands.specs.declared.errands.Errand.{Errand}
use Rattle.knife_errands.specs.declared.errands.Errand.TheVariants.{One, RunList, FromFile}
use Rattle.knife_errands.specs.declared.errands.RunListChange.{RunListChange}
use Rattle.knife_errands.specs.declared.errands.Step.{Step}
use Rattle.knife_errands.specs.declared.files.Sent.{Sent}

-- what an errand comes to: a printed text, or a file that isn't there or hasn't its form
pub data Outcome : Type 0 where
  text : List ℕ → Outcome
  bad_file : List ℕ → Outcome

-- a talk of `knife`
abbrev pub KnifeTalk : Type 0
KnifeTalk = Talk (Ending Outcome)

-- it ends, and prints this
abbrev pub prints : List ℕ → KnifeTalk
prints bytes = end (done (text bytes))

-- this request, and what the step prints of the body of its reply
abbrev pub one_of : Step → Ask → KnifeTalk
one_of step request = want request (λ body. formed request (printed step body) prints)

-- an errand of one request
abbrev pub one : Whom → Step → KnifeTalk
one whom step = one_of step (request_of step whom)

-- the PUT of a changed node; the items of its reply are printed
abbrev pub changed_of : Ask → KnifeTalk
changed_of changed = want changed (λ body. formed changed (printed_items body) prints)

-- the PUT of the node that came as this body, with its run list changed
abbrev pub node_came : Whom → List ℕ → RunListChange → List ℕ → Ask → List ℕ → KnifeTalk
node_came whom node change item asked body = formed asked (changed_request node change item whom body) changed_of

-- the GET of a node, and the PUT of it with its run list changed
abbrev pub run_list_of : Whom → List ℕ → RunListChange → List ℕ → Ask → KnifeTalk
run_list_of whom node change item asked = want asked (node_came whom node change item asked)

-- a change of the run list of a node
abbrev pub run_list : Whom → List ℕ → RunListChange → List ℕ → KnifeTalk
run_list whom node change item = run_list_of whom node change item (node_request node whom)

-- the POST; the line is printed
abbrev pub posts : Ask → List ℕ → KnifeTalk
posts post line = want post (λ body. prints line)

-- PUT of what a file holds, and POST where that is 404; the line is printed
abbrev pub sends : Sent → KnifeTalk
sends sent = want_or 404 sent.put (posts sent.post sent.line) (λ body. prints sent.line)

-- a file of this name that has something to send, or is bad
abbrev pub from_file : List ℕ → Option Sent → KnifeTalk
from_file name None = end (done (bad_file name))
from_file name (Some sent) = sends sent

-- the talk of an errand, where the file that it names, if it names one, holds this
abbrev pub talk : Whom → Errand → Option (List ℕ) → KnifeTalk
talk whom (One step) held = one whom step
talk whom (RunList node change item) held = run_list whom node change item
talk whom (FromFile kind file) held = from_file file (option_and_then (sent_of kind whom) held)
