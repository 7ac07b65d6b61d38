use Rattle.std.proofs.Common.{◌≡◌, IfOk, subst, sym, ap, ◌∙◌}
use Rattle.doc_tree.specs.Doc.{Doc}
use Rattle.doc_tree.specs.Tree.{doc_of}
use Rattle.doc_tree.specs.declared.tree.Tree.{Tree}
use Rattle.doc_tree.proofs.Docs.{pairs_list-pairs_of}
use Rattle.host_tree.specs.Documents.{host_in, image_of, pairs_host}
use Rattle.host_tree.specs.Entries.{Entries}
use Rattle.host_tree.specs.Outcomes.{Reads}
use Rattle.host_tree.proofs.ImageLemmas.{reads-image}
use Rattle.host_tree.proofs.image.ImageHost.read.Goals as goal

pub returns-in-Dict-clause-reads : goal.returns-in-Dict-clause-reads
returns-in-Dict-clause-reads c =
    subst (Reads c.read_fields.result) (ap pairs_host (sym (pairs_list-pairs_of c.in-Dict.fields)) ∙ ap (λ (t : Tree). host_in (doc_of t)) (sym c.in-Dict.is)) c.read_fields.ensures.reads

pub returns-in-Dict-clause-image : goal.returns-in-Dict-clause-image
returns-in-Dict-clause-image c =
    subst (λ (d : Doc). IfOk c.read_fields.result (λ (host : Entries). image_of host ≡ d)) (ap doc_of (sym c.in-Dict.is)) (reads-image c.read_fields.result c.in-Dict.fields c.read_fields.ensures.order c.read_fields.ensures.reads)
