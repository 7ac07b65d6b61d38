-- Nobody has files yet.
use Rattle.std.proofs.Common.{Option, ap, unwrap_or, ◌∙◌}
use Rattle.std.specs.FinMap as finite
use Rattle.doc_tree.specs.Text.{text_cmp}
use Rattle.sandboxes.specs.Files.{Kept, KeptByName, holding_of, none}
use Rattle.request_tests.proofs.org_machine_tests.no_files.Goals as goal

pub returns : goal.returns
returns c name =
    ap (λ (files : KeptByName). holding_of files name) c.none.ensures
    ∙ ap (λ (found : Option Kept). (unwrap_or found none).holding) (finite.get-empty text_cmp name)
