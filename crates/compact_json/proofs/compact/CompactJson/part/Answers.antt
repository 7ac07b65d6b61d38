-- The text begins with the document that it spells, and has at least as many bytes as tokens.
use Rattle.std.proofs.Common.{List, length, sym, ap, ◌∙◌, subst, arith}
use Rattle.json.specs.Lex.{tokens}
use Rattle.json.specs.Token.{Token}
use Rattle.compact_json.specs.Next.{AtDoc}
use Rattle.compact_json.proofs.NextLemmas.{AtDoc-text, length-tokens}
use Rattle.compact_json.proofs.compact.CompactJson.part.Goals as goal

pub goes_to-requires-clause-at : goal.goes_to-requires-clause-at
goes_to-requires-clause-at c = subst AtDoc (sym (c.in_ok-reader.ensures.ok ∙ ap tokens c.as_str.ensures.value)) (AtDoc-text c.self.inside.written c.self.invariant)

pub goes_to-requires-clause-depth : goal.goes_to-requires-clause-depth
goes_to-requires-clause-depth c =
    let few = length-tokens c.self.inside.written c.self.invariant in
    let same = ap (λ (ts : List Token). length ts) (c.in_ok-reader.ensures.ok ∙ ap tokens c.as_str.ensures.value) in
    omega (arith, few, same, c.len.ensures)
