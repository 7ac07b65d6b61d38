use Rattle.std.proofs.Common.{◌≡◌, Some, None, not, is_some, option_map, ◌∙◌, sym, ap, refl, rules}
use Rattle.std.specs.FinMap as finite
use Rattle.std.proofs.lemmas.List.Elements.{filter_agree}
use Rattle.sandboxes.specs.Files.{Kept}
use Rattle.sandboxes.specs.Sandboxes.{missing, missing_from}
use Rattle.sandboxes.proofs.MapLemmas.{seen, get-seen}
use Rattle.sandboxes.proofs.part.Part.missing.Goals as goal

pub returns-in_err-without-in-Some-clause-absent : goal.returns-in_err-without-in-Some-clause-absent
returns-in_err-without-in-Some-clause-absent c =
    let there : finite.get c.args.self.now.holding.sandboxes c.args.id.now ≡ Some c.in-Some.sums.now =
    sym (ap (λ (kept : Kept). finite.get kept.holding.sandboxes c.args.id.now) c.self.view_is)
    ∙ get-seen c.self.inside.sandboxes.entries c.args.id.now ∙ sym c.in-Some.ensures.value in
    (λ e. absurd (search rules), λ none. absurd (cc))

pub returns-in_ok-without-in-Some-clause-missing : goal.returns-in_ok-without-in-Some-clause-missing
returns-in_ok-without-in-Some-clause-missing c =
    let there : finite.get (seen c.self.inside.sandboxes.entries) c.args.id.now ≡ Some c.in-Some.sums.now =
    get-seen c.self.inside.sandboxes.entries c.args.id.now ∙ sym c.in-Some.ensures.value in
    sym (ap (λ (kept : Kept). missing_from kept.holding c.args.id.now) c.self.view_is)
    ∙ ap (option_map (missing (record { files = seen c.self.inside.files.entries; sandboxes = seen c.self.inside.sandboxes.entries; count = c.self.inside.count }))) there
    ∙ ap Some (filter_agree _ _ (λ sum. ap (λ found. not (is_some found)) (get-seen c.self.inside.files.entries sum)) c.in-Some.sums.now ∙ sym c.in_ok-without-in-Some.ensures)

pub returns-in_ok-without-in-Some-clause-absent : goal.returns-in_ok-without-in-Some-clause-absent
returns-in_ok-without-in-Some-clause-absent c =
    let there : finite.get c.args.self.now.holding.sandboxes c.args.id.now ≡ Some c.in-Some.sums.now =
    sym (ap (λ (kept : Kept). finite.get kept.holding.sandboxes c.args.id.now) c.self.view_is)
    ∙ get-seen c.self.inside.sandboxes.entries c.args.id.now ∙ sym c.in-Some.ensures.value in
    (λ e. absurd (cc), λ none. absurd (cc))

pub returns-in-None-clause-absent : goal.returns-in-None-clause-absent
returns-in-None-clause-absent c =
    let none : finite.get c.args.self.now.holding.sandboxes c.args.id.now ≡ None =
    sym (ap (λ (kept : Kept). finite.get kept.holding.sandboxes c.args.id.now) c.self.view_is)
    ∙ get-seen c.self.inside.sandboxes.entries c.args.id.now ∙ sym c.in-None.ensures.value in
    (λ e. none, λ is. refl)
