-- How many steps a request of a site takes. Each is a body that is looked at.
use Rattle.std.specs.Prelude.{◌≡◌, ℕ, List, Option, Some, None}
use Rattle.org_requests.specs.declared.replies.Reply.{Reply}
use Rattle.org_requests.specs.declared.requests.Request.{Request}
use Rattle.org_machine.specs.Alone.{States}
use Rattle.org_machine.specs.Serving.{Looks}
use Rattle.shard_core.specs.Indexing.{no_looks}

-- a request of an organisation takes the steps of its own looks over that organisation's state, and any other takes none
abbrev pub LooksIn : States → Option (List ℕ) → Request → Reply → ℕ → ℕ → Type 0
LooksIn states None request reply before now = now ≡ before
LooksIn states (Some org) request reply before now = Looks no_looks reply request (states org) before now
