use Rattle.std.proofs.Common.{ℕ, List, Some, IsUtf8, ap, sym, subst, ◌∙◌}
use Rattle.std.proofs.lemmas.Bool.{false≢true}
use Rattle.std.proofs.lemmas.Str.{IsUtf8-string_bytes}
use Rattle.yaml_subset.proofs.TextsLemmas.{text_in_is, text_in_none}
use Rattle.yaml_subset.proofs.texts.text_of.Goals as goal

pub returns-in-Ok : goal.returns-in-Ok
returns-in-Ok c =
    let same = ap (λ v. v.items) c.in-Ok.ensures.ok in
    ap Some (c.of.ensures ∙ same) ∙ sym (text_in_is c.args.bytes.items (subst (λ (t : List ℕ). IsUtf8 t) same (IsUtf8-string_bytes c.in-Ok.text)))

pub returns : goal.returns
returns c = sym (text_in_none c.args.bytes.items (λ u. false≢true (c.in-Err.ensures.succeeds u)))
