use Rattle.std.proofs.Common.{List, ap, codes, sym, ◌∙◌}
use Rattle.doc_tree.specs.Doc.{pairs_of}
use Rattle.cookbook_meta.specs.Faults.{in_field}
use Rattle.cookbook_meta.specs.Fields.{Row, are_as_asked, named_rows}
use Rattle.cookbook_meta.specs.Parts.{truth_of}
use Rattle.cookbook_meta.proofs.ArtifactLemmas.{artifact_behind}
use Rattle.cookbook_meta.proofs.artifacts.artifact_in.Goals as goal

pub returns : goal.returns
returns c =
    let body = pairs_of c.args.body.now in
    let asked = λ (rows : List Row). are_as_asked rows body in
    artifact_behind c.args.name.now c.args.id.now c.as_str-id.result.now body c.artifact_with.result c.metadata_at.result _ _ _ _ _
    (ap asked (sym (c.named_by.ensures ∙ ap named_rows c.as_str.ensures.value)) ∙ c.in_ok-are_as_asked.ensures)
    (ap (in_field (codes "version")) (sym c.version_at.ensures) ∙ c.in_ok-version.ensures)
    (ap asked (sym c.stated.ensures) ∙ c.in_ok-are_as_asked-2.ensures)
    (ap (λ found. in_field (codes "frozen?") (truth_of found)) (sym c.get.ensures) ∙ ap (in_field (codes "frozen?")) (sym c.truth_of.ensures) ∙ c.in_ok-frozen.ensures)
    c.metadata_at.ensures c.in_ok-metadata.ensures c.as_str-id.ensures.value c.artifact_with.ensures
