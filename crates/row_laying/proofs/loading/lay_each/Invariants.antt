use Rattle.std.specs.Prelude.{◌≡◌}
use Rattle.sandboxes.specs.Files.{holding_of, OthersStay}
use Rattle.row_laying.specs.Laid.{organisation_laid}
use Rattle.row_laying.specs.Laying.{with_all, files_with_all}
use Rattle.row_laying.proofs.loading.lay_each.Given as goal

-- what is left to lay leads to where all of it leads
abbrev pub invariant-loop-one : goal.invariant-loop-one
invariant-loop-one l =
    (with_all l.one-iterator.rest.items (organisation_laid l.laid) ≡ with_all l.fn.said.items (organisation_laid l.fn.laid))
    × (files_with_all l.one-iterator.rest.items (holding_of l.files l.org) ≡ files_with_all l.fn.said.items (holding_of l.fn.files l.org))
    × OthersStay l.org l.fn.files l.files
