-- The digits are parsed as the number that they are.
use Rattle.std.proofs.Common.{◌≡◌, FitsSigned, w64, sym, ap, ◌∙◌, subst}
use Rattle.std.proofs.lemmas.Int.{to_z-of_z}
use Rattle.std.specs.Fmt.{signed_decimal}
use Rattle.compact_json.proofs.WholeLemmas.{unsigned_parsed, signed_parsed, not_both, same_Ok}
use Rattle.row_reading.proofs.tokens.whole_of.Goals as goal

pub returns-in-Ok : goal.returns-in-Ok
returns-in-Ok c whole = unsigned_parsed c.args.digits.now _ _ whole c.parse.ensures.value.0 c.in-Ok.is ∙ ap signed_decimal (sym c.from.ensures)

pub returns-in-Ok-parse : goal.returns-in-Ok-parse
returns-in-Ok-parse c is_text =
    let found = signed_parsed c.args.digits.now _ _ _ is_text c.parse.ensures.value.0 c.in-Err.is c.parse-in-Err.ensures.value.0 in
    let whole = c.in-Ok-parse.whole in
    let same : found.0 ≡ whole = same_Ok found.0 whole (sym found.1 ∙ c.in-Ok-parse.is) in
    let fits = subst (λ z. FitsSigned w64 z) same found.3 in
    found.2 ∙ ap signed_decimal (same ∙ sym (to_z-of_z w64 whole fits) ∙ sym c.from-in-Ok-parse.ensures)

pub returns-in-Err-parse : goal.returns-in-Err-parse
returns-in-Err-parse c is_text =
    let found = signed_parsed c.args.digits.now _ _ _ is_text c.parse.ensures.value.0 c.in-Err.is c.parse-in-Err.ensures.value.0 in
    not_both (sym found.1 ∙ c.in-Err-parse.is)
