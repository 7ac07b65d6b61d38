use Rattle.org_machine.proofs.FileKeepingLemmas.{step_keeps_files}
use Rattle.org_machine.proofs.KeepingLemmas.{step_keeps}
use Rattle.org_machine.proofs.laws.steps_keep_conditions.Goals as goal

pub returns-clause-state : goal.returns-clause-state
returns-clause-state c request state meets = step_keeps request state meets

pub returns-clause-files : goal.returns-clause-files
returns-clause-files c request state meets = step_keeps_files request state meets
