-- One host, one run: what a plan makes of it is determined.
use Rattle.std.specs.Prelude.{◌≡◌, List}
use Rattle.host_tree.specs.Entries.{Entries}
use Rattle.resource_core.specs.Plans.{Planned}
use Rattle.converge.specs.Reports.{lines_of, whole_report}
use Rattle.converge.specs.Runs.{Run}
use Rattle.converge.specs.declared.deeds.Deed.{Deed}

-- two runs are one: they have the same acts, the same report whether they are done or not, and leave the same host
pub record AreOneRun (plan : Planned) (these those : List Deed) (one other : Entries) : Type 0 where
  pub acts : these ≡ those
  pub report : whole_report plan these ≡ whole_report plan those
  pub lines : lines_of plan these ≡ lines_of plan those
  pub host : one ≡ other

-- two runs of a plan from one host are one
abbrev pub RunsAreDetermined : Type 0
RunsAreDetermined = (plan : Planned) (host one other : Entries) (acts also : List Deed) → Run plan host acts one → Run plan host also other → AreOneRun plan acts also one other
