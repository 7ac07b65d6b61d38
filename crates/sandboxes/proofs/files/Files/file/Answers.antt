use Rattle.std.proofs.Common.{◌≡◌, ◌∙◌, sym, ap}
use Rattle.std.specs.FinMap as finite
use Rattle.doc_tree.specs.Text.{text_cmp}
use Rattle.sandboxes.specs.Files.{Kept, none, kept_of}
use Rattle.sandboxes.proofs.FilesLemmas.{kept_found, kept_absent}
use Rattle.sandboxes.proofs.files.Files.file.Goals as goal

pub returns-in-Some-clause-file : goal.returns-in-Some-clause-file
returns-in-Some-clause-file c =
    let found : kept_of c.args.self.now c.args.org.now ≡ c.in-Some.part.now =
    kept_found c.self.inside.parts.entries c.args.self.now c.args.org.now c.in-Some.part.now c.self.view_is c.in-Some.ensures.value in
    c.file.ensures.file ∙ ap (λ (kept : Kept). finite.get kept.holding.files c.args.sum.now) (sym found)

pub returns-in-None-clause-file : goal.returns-in-None-clause-file
returns-in-None-clause-file c =
    let absent : kept_of c.args.self.now c.args.org.now ≡ none =
    kept_absent c.self.inside.parts.entries c.args.self.now c.args.org.now c.self.view_is c.in-None.ensures.value in
    sym (finite.get-empty text_cmp c.args.sum.now) ∙ ap (λ (kept : Kept). finite.get kept.holding.files c.args.sum.now) (sym absent)
