use Rattle.std.proofs.Common.{◌≡◌, drop}
use Rattle.org_core.specs.Contexts.{seen}
use Rattle.org_core.specs.Needs.{first_lacking}
use Rattle.org_core.proofs.needs.first_lacking.Given as goal

-- the needs so far are granted
abbrev pub invariant-loop-need : goal.invariant-loop-need
invariant-loop-need l = first_lacking (seen l.context) (drop l.need-index l.needs) ≡ first_lacking (seen l.context) l.needs
