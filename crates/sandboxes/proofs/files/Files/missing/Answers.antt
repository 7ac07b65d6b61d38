use Rattle.std.proofs.Common.{◌≡◌, Some, None, Err, IfOk, ◌∙◌, sym, ap, subst, refl}
use Rattle.std.specs.FinMap as finite
use Rattle.doc_tree.specs.Text.{text_cmp}
use Rattle.sandboxes.specs.declared.fault.SandFault.TheVariants.{NoSandbox}
use Rattle.sandboxes.specs.Files.{Kept, none, kept_of}
use Rattle.sandboxes.specs.Sandboxes.{missing_from}
use Rattle.sandboxes.proofs.FilesLemmas.{kept_found, kept_absent}
use Rattle.sandboxes.proofs.files.Files.missing.Goals as goal

pub returns-in-Some-clause-missing : goal.returns-in-Some-clause-missing
returns-in-Some-clause-missing c =
    let found : kept_of c.args.self.now c.args.org.now ≡ c.in-Some.part.now =
    kept_found c.self.inside.parts.entries c.args.self.now c.args.org.now c.in-Some.part.now c.self.view_is c.in-Some.ensures.value in
    subst (λ (kept : Kept). IfOk c.missing.result (λ sums. missing_from kept.holding c.args.id.now ≡ Some sums)) (sym found) c.missing.ensures.missing

pub returns-in-Some-clause-absent : goal.returns-in-Some-clause-absent
returns-in-Some-clause-absent c =
    let found : kept_of c.args.self.now c.args.org.now ≡ c.in-Some.part.now =
    kept_found c.self.inside.parts.entries c.args.self.now c.args.org.now c.in-Some.part.now c.self.view_is c.in-Some.ensures.value in
    subst (λ (kept : Kept). (c.missing.result ≡ Err NoSandbox → finite.get kept.holding.sandboxes c.args.id.now ≡ None) × (finite.get kept.holding.sandboxes c.args.id.now ≡ None → c.missing.result ≡ Err NoSandbox)) (sym found) c.missing.ensures.absent

pub returns-in-None-clause-absent : goal.returns-in-None-clause-absent
returns-in-None-clause-absent c =
    let absent : kept_of c.args.self.now c.args.org.now ≡ none =
    kept_absent c.self.inside.parts.entries c.args.self.now c.args.org.now c.self.view_is c.in-None.ensures.value in
    (λ e. ap (λ (kept : Kept). finite.get kept.holding.sandboxes c.args.id.now) absent ∙ finite.get-empty text_cmp c.args.id.now, λ is. refl)
