use Rattle.std.proofs.Common.{◌≡◌, ◌∙◌, sym, ap}
use Rattle.sandboxes.specs.Files.{Kept, none, kept_of}
use Rattle.sandboxes.proofs.FilesLemmas.{kept_found, kept_absent}
use Rattle.sandboxes.proofs.files.Files.count.Goals as goal

pub returns-in-Some : goal.returns-in-Some
returns-in-Some c =
    let found : kept_of c.args.self.now c.args.org.now ≡ c.in-Some.part.now =
    kept_found c.self.inside.parts.entries c.args.self.now c.args.org.now c.in-Some.part.now c.self.view_is c.in-Some.ensures.value in
    c.count.ensures ∙ ap (λ (kept : Kept). kept.holding.count) (sym found)

pub returns-in-None : goal.returns-in-None
returns-in-None c =
    let absent : kept_of c.args.self.now c.args.org.now ≡ none =
    kept_absent c.self.inside.parts.entries c.args.self.now c.args.org.now c.self.view_is c.in-None.ensures.value in
    ap (λ (kept : Kept). kept.holding.count) (sym absent)
