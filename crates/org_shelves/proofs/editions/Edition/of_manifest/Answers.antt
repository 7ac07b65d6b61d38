use Rattle.std.proofs.Common.{sym, ap, ◌∙◌}
use Rattle.sandboxes.specs.Sums.{lists}
use Rattle.cookbook_meta.specs.Checksums.{checksums_of}
use Rattle.org_shelves.proofs.editions.Edition.of_manifest.Goals as goal

pub invariant_of-result : goal.invariant_of-result
invariant_of-result c =
    let said = c.requires.says in
    record {
      needs_are = sym said.needs;
      frozen_is = sym said.frozen;
      sums_are = λ sum. c.in_ok-sums.ensures sum ∙ ap (λ files. lists (checksums_of files) sum) c.as_slice.ensures ∙ ap (λ sums. lists sums sum) (sym said.sums);
    }
