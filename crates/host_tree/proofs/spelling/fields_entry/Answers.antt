use Rattle.std.proofs.Common.{arith}
use Rattle.std.proofs.lemmas.Bool.{ltb-true, ltb-false}
use Rattle.host_tree.proofs.SpellingLemmas.{few-none, many-none}
use Rattle.host_tree.proofs.spelling.fields_entry.Goals as goal
use Rattle.host_tree.proofs.spelling.fields_entry.Goals.{in_default-via-then-fields-lt2, in_default-via-else-fields-lt2+else-fields-lt3+else-fields-lt4}

pub returns-in_default : goal.returns-in_default
returns-in_default c =
    elim c.in_default.branch [
      | in_default-via-then-fields-lt2 w ↦ few-none c.args.fields.now (grind (arith, ltb-true, ltb-false))
      | in_default-via-else-fields-lt2+else-fields-lt3+else-fields-lt4 w ↦ many-none c.args.fields.now (grind (arith, ltb-true, ltb-false))
    ]
