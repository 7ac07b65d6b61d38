use Rattle.std.proofs.Common.{Some, ap, sym, ◌∙◌}
use Rattle.yaml_subset.proofs.TextsLemmas.{text_in_is, text_in_none}
use Rattle.yaml_subset.proofs.texts.text_from.Goals as goal

pub returns-in_ok-from_str-in-Ok : goal.returns-in_ok-from_str-in-Ok
returns-in_ok-from_str-in-Ok c =
    ap Some (c.in_ok-from_str-in-Ok.ensures ∙ c.in-Ok.ensures.cases.0) ∙ sym (text_in_is c.args.bytes.now c.in-Ok.ensures.cases.1)

pub returns-in-Err : goal.returns-in-Err
returns-in-Err c = sym (text_in_none c.args.bytes.now c.in-Err.ensures.cases.0)
