use Rattle.std.proofs.Common.{◌∙◌, ap, sym, Ok}
use Rattle.run_lists.specs.Items.{reads_item}
use Rattle.run_lists.proofs.StoredLemmas.{stored_reads_back}
use Rattle.run_lists.proofs.items.read_item.Goals as goal

pub invariant_of-result : goal.invariant_of-result
invariant_of-result c =
    ap reads_item c.in_ok-text.ensures ∙ (stored_reads_back c.args.text.now).named
    ∙ sym (c.in_ok-spelled.ensures.reads ∙ ap reads_item c.as_str.ensures.value) ∙ ap Ok (sym c.in_ok-named.ensures)
