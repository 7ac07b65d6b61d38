-- The text of a tree spells the document that the tree is.
use Rattle.std.proofs.Common.{ap, ◌∙◌}
use Rattle.doc_tree.specs.Tree.{doc_of}
use Rattle.compact_json.specs.Compact.{spelled}
use Rattle.compact_json.proofs.CompactLemmas.{spelled-text, IsCompact-text}
use Rattle.compact_json.proofs.compact.CompactJson.of.Goals as goal

pub invariant_of-result : goal.invariant_of-result
invariant_of-result c = IsCompact-text (doc_of c.args.tree.now) _ c.known.ensures c.in_ok-written.ensures

pub returns : goal.returns
returns c = ap spelled c.in_ok-written.ensures ∙ spelled-text (doc_of c.args.tree.now) c.known.ensures
