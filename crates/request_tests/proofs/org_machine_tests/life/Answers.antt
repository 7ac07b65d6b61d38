-- Nobody has files yet.
use Rattle.org_core.specs.FullStates.{full_in}
use Rattle.org_machine.proofs.FileKeepingLemmas.{none_meets}
use Rattle.request_tests.proofs.org_machine_tests.life.Goals as goal

pub add_life-requires-clause-files : goal.add_life-requires-clause-files
add_life-requires-clause-files c =
    none_meets (full_in c.none-state.result c.no_files-files.result) (λ i. record { state = c.none-state.ensures.state i; files = c.no_files-files.ensures c.none-state.result.name i })
