-- The lines of a report.
use Rattle.std.specs.Prelude.{ℕ, Bool, true, false, List, [], ◌∷◌, ◌++◌, map, length, count_by, decimal, Option, Some, None, codes, slice_get}
use Rattle.host_acts.specs.Causes as causes
use Rattle.host_acts.specs.declared.verdict.Verdict.{Verdict}
use Rattle.host_acts.specs.declared.verdict.Verdict.TheVariants.{UpToDate, Updated, Failed}
use Rattle.resource_core.specs.Plans.{Planned}
use Rattle.resource_core.specs.Resources.{title_of}
use Rattle.resource_core.specs.Types.{row, word_of}
use Rattle.resource_core.specs.declared.resources.Resource.{Resource}
use Rattle.resource_core.specs.declared.types.Action.{Action}
use Rattle.converge.specs.declared.deeds.Deed.{Deed}

-- the word of an action, if it is one
abbrev pub action_word : Option Action → List ℕ
action_word None = []
action_word (Some action) = word_of action

-- what a verdict is told as
abbrev pub verdict_words : Verdict → List ℕ
verdict_words UpToDate = codes "up to date"
verdict_words Updated = codes "updated"
verdict_words (Failed cause) = codes "failed: " ++ causes.word_of cause

-- the line of an act of a resource: `TYPE[NAME] ACTION: VERDICT`
abbrev pub line_of_resource : Resource → Deed → List ℕ
line_of_resource r act = title_of r ++ (codes " " ++ (action_word (slice_get (row r.kind).actions act.pair.action) ++ (codes ": " ++ verdict_words act.verdict)))

-- the line of an act of a resource, if it is one
abbrev pub line_by : Option Resource → Deed → List ℕ
line_by None act = []
line_by (Some r) act = line_of_resource r act

-- the line of an act
abbrev pub line_of : Planned → Deed → List ℕ
line_of plan act = line_by (slice_get plan.resources act.pair.resource) act

-- the lines of acts, in order
abbrev pub lines_of : Planned → List Deed → List (List ℕ)
lines_of plan acts = map (line_of plan) acts

-- the act updated
abbrev pub is_update : Verdict → Bool
is_update UpToDate = false
is_update Updated = true
is_update (Failed cause) = false

-- how many acts updated
abbrev pub updates_in : List Deed → ℕ
updates_in acts = count_by (λ (act : Deed). is_update act.verdict) acts

-- the last line of a run that is done: `N actions, M updated`
abbrev pub last_line : List Deed → List ℕ
last_line acts = decimal (length acts) ++ (codes " actions, " ++ (decimal (updates_in acts) ++ codes " updated"))

-- the report of a run that is done
abbrev pub whole_report : Planned → List Deed → List (List ℕ)
whole_report plan acts = lines_of plan acts ++ last_line acts ∷ []
