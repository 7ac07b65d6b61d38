use Rattle.std.proofs.Common.{◌∙◌, sym}
use Rattle.run_lists.proofs.SpellingLemmas.{reads_item-bare}
use Rattle.run_lists.proofs.spelling.spelled_item.Goals as goal

pub returns-in_default-behind_front-clause-reads : goal.returns-in_default-behind_front-clause-reads
returns-in_default-behind_front-clause-reads c =
    c.spelled_recipe.ensures.reads ∙ sym (reads_item-bare c.args.text.now (sym c.in_default.ensures) (sym c.in_default-behind_front.ensures))
