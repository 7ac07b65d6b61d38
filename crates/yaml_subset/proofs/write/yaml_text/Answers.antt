-- What every tree keeps makes its text one that spells it.
use Rattle.std.proofs.Common.{List, ℕ, ◌++◌, ◌∙◌, ap}
use Rattle.doc_tree.specs.Tree.{doc_of}
use Rattle.yaml_subset.specs.Written.{written}
use Rattle.yaml_subset.proofs.RoundTrip.{spells_text}
use Rattle.yaml_subset.proofs.write.yaml_text.Goals as goal

pub returns-clause-reads_back : goal.returns-clause-reads_back
returns-clause-reads_back c shallow =
    spells_text c.of.result (doc_of c.args.tree.now) (c.of.ensures ∙ c.in_ok-write_document.ensures ∙ ap (λ (t : List ℕ). t ++ written (doc_of c.args.tree.now)) c.new-out.ensures.bytes) c.known.ensures shallow
