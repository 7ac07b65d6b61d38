-- The characters that came are those of the text.
use Rattle.std.proofs.Common.{◌++◌, ℕ, List, string_bytes, ap, sym, ◌∙◌, append_assoc}
use Rattle.std.proofs.lemmas.Iterator.{YieldsList-from_chars}
use Rattle.std.proofs.lemmas.Iterator.Consumers.{YieldsList-end}
use Rattle.yaml_subset.specs.Written.{char_text, escaped}
use Rattle.yaml_subset.proofs.WrittenLemmas.{escaped_more, map_same}
use Rattle.yaml_subset.proofs.write.write_escaped.Goals as goal

pub loop-character-preserved : goal.loop-character-preserved
loop-character-preserved c =
    c.in_ok-write_character.ensures ∙ ap (λ (t : List ℕ). t ++ char_text c.in-Some.character) c.loop-character.invariant
    ∙ append_assoc (string_bytes c.args.out.now) (escaped c.loop-character.yielded) (char_text c.in-Some.character)
    ∙ ap (λ (t : List ℕ). string_bytes c.args.out.now ++ t) (sym (escaped_more c.loop-character.yielded c.in-Some.character))

pub returns : goal.returns
returns c =
    let t = YieldsList-end (YieldsList-from_chars c.args.text.now c.utf8.text cc) c.loop-character.yielded _ c.loop-character.yielded_by _ _ c.in-None.is c.next.ensures.steps in
    c.loop-character.invariant ∙ ap (λ (cs : List ℕ). string_bytes c.args.out.now ++ escaped cs) (sym (map_same c.loop-character.yielded) ∙ t.0)
