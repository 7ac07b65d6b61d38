-- What was written are the tokens of the document, and nothing before them.
use Rattle.std.proofs.Common.{◌++◌, ◌∙◌, ap}
use Rattle.doc_tree.specs.Tokens.{doc_tokens}
use Rattle.doc_tree.specs.Read.{reads}
use Rattle.doc_tree.specs.Tree.{doc_of}
use Rattle.doc_tree.proofs.RoundTrip.{reads-text, print-doc_tokens}
use Rattle.doc_tree.proofs.write.json_text.Goals as goal

pub returns-clause-text : goal.returns-clause-text
returns-clause-text c =
    print-doc_tokens c.of.result _ _ (doc_of c.args.tree.now) (c.of.ensures ∙ c.into_inner.ensures.items)
    (c.in_ok-write_tree.ensures.before ∙ c.new-out.ensures.before ∙ c.in_ok-with_capacity.ensures.items)
    (c.in_ok-write_tree.ensures.ok ∙ ap (λ ts. ts ++ doc_tokens (doc_of c.args.tree.now)) c.new-out.ensures.tokens)

pub returns-clause-reads_back : goal.returns-clause-reads_back
returns-clause-reads_back c shallow = ap reads (returns-clause-text c) ∙ reads-text (doc_of c.args.tree.now) c.known.ensures shallow
