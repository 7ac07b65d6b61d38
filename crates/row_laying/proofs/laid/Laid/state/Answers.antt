-- What was laid meets the conditions and has the rows that said it; an organisation can have it.
use Rattle.std.proofs.Common.{Some, sym, subst, ◌∙◌}
use Rattle.org_core.specs.Conditions.{MeetsConditions}
use Rattle.org_core.specs.ObjectConditions.{ObjectConditions}
use Rattle.org_core.specs.States.{Organisation, nothing}
use Rattle.sandboxes.specs.Sandboxes as sandboxes
use Rattle.row_laying.proofs.ConditionsLemmas.{meets, meets_files, rows_are, same_files, some_said}
use Rattle.row_laying.proofs.LegalLemmas.{legal_is}
use Rattle.row_laying.proofs.laid.Laid.state.Goals as goal
use Rattle.row_laying.specs.Laid.{organisation_laid}
use Rattle.row_laying.specs.Laying.{with_all, files_with_all}

pub of-requires-clause-conditions : goal.of-requires-clause-conditions
of-requires-clause-conditions c =
    let given = c.requires in
    subst (λ (o : Organisation). MeetsConditions (Some o)) (sym given.1.organisation) (meets c.args.org given.2.0 given.0 given.2.1 given.2.2.0 given.2.2.1)

pub of-requires-clause-files : goal.of-requires-clause-files
of-requires-clause-files c =
    let given = c.requires in
    same_files (with_all given.0 nothing) _ (files_with_all given.0 sandboxes.nothing) _ given.1.organisation given.1.files (meets_files c.args.org given.2.0 given.0 given.2.1 given.2.2.0 given.2.2.1)

pub returns-clause-rows : goal.returns-clause-rows
returns-clause-rows c all rows laid are =
    let given = c.requires in
    let some = some_said all
    (subst (λ (o : Organisation). ObjectConditions o.objects) (sym given.1.organisation ∙ laid.organisation) (meets c.args.org given.2.0 given.0 given.2.1 given.2.2.0 given.2.2.1).0) in
    rows_are c.of.result c.args.files.now c.args.org rows all (organisation_laid c.args.self) are some.0 some.1 c.of.ensures.name c.of.ensures.state laid.organisation laid.files

pub returns-clause-legal : goal.returns-clause-legal
returns-clause-legal c =
    let given = c.requires in
    legal_is c.of.result c.args.files.now c.args.org given.2.0 given.0 (organisation_laid c.args.self) given.2.1 given.2.2.0 given.2.2.1 c.of.ensures.name c.of.ensures.state given.1.organisation given.1.files
