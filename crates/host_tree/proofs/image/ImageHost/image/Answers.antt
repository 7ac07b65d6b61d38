use Rattle.std.proofs.Common.{ℕ, List, map, sym, ap, ◌∙◌}
use Rattle.doc_tree.specs.Doc.{Doc, dict, pairs_of}
use Rattle.host_tree.specs.Documents.{doc_pair, image_of}
use Rattle.host_tree.specs.declared.entry.Entry.{Entry}
use Rattle.host_tree.proofs.KeptLemmas.{entries-sorted}
use Rattle.host_tree.proofs.image.ImageHost.image.Goals as goal

pub returns : goal.returns
returns c =
    ap (λ (ps : List (List ℕ × Doc)). dict (pairs_of ps)) c.in_ok-entries_fields.ensures.fields
    ∙ ap (λ (es : List (List ℕ × Entry)). dict (pairs_of (map doc_pair es))) (sym (entries-sorted c.self.inside.entries.entries c.entries_fields.ensures.order))
    ∙ ap image_of c.self.view_is
