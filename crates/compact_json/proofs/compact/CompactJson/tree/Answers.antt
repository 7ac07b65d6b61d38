-- The text begins with the document that it spells.
use Rattle.std.proofs.Common.{sym, ap, ◌∙◌, subst}
use Rattle.json.specs.Lex.{tokens}
use Rattle.compact_json.specs.Next.{AtDoc}
use Rattle.compact_json.proofs.NextLemmas.{AtDoc-text}
use Rattle.compact_json.proofs.compact.CompactJson.tree.Goals as goal

pub read_doc-requires : goal.read_doc-requires
read_doc-requires c = subst AtDoc (sym (c.in_ok-reader.ensures.ok ∙ ap tokens c.as_str.ensures.value)) (AtDoc-text c.self.inside.written c.self.invariant)
