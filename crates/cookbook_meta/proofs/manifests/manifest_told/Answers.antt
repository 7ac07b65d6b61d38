use Rattle.std.proofs.Common.{List, ap, codes, sym, ◌∙◌}
use Rattle.doc_tree.specs.Doc.{pairs_of}
use Rattle.cookbook_meta.specs.Faults.{in_field}
use Rattle.cookbook_meta.specs.Fields.{Row, are_as_asked, rows}
use Rattle.cookbook_meta.specs.Parts.{truth_of}
use Rattle.cookbook_meta.specs.Stored.{whole_of}
use Rattle.cookbook_meta.proofs.ReadBackLemmas.{manifest_made}
use Rattle.cookbook_meta.proofs.manifests.manifest_told.Goals as goal

pub returns : goal.returns
returns c =
    let body = pairs_of c.args.body.now in
    let name = c.args.name.now in
    let version = c.args.version in
    let told = c.told_by.ensures ∙ ap (λ n. rows n c.args.release.now version) c.as_str.ensures.value ∙ ap (λ r. rows name r version) c.requires in
    manifest_made name version body c.manifest_of.result c.metadata_at.result _ _ _ _ _
    (ap (λ (asked : List Row). are_as_asked asked body) (sym told) ∙ c.in_ok-are_as_asked.ensures)
    (ap (λ found. in_field (codes "frozen?") (truth_of found)) (sym c.get.ensures) ∙ ap (in_field (codes "frozen?")) (sym c.truth_of.ensures) ∙ c.in_ok-frozen.ensures)
    c.metadata_at.ensures c.in_ok-metadata.ensures c.in_ok-files.ensures
    (c.in_ok-whole.ensures ∙ ap (λ entries. whole_of name version c.in_ok-frozen.frozen entries body) c.as_slice-entries.ensures)
    c.manifest_of.ensures
