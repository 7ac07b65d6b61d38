use Rattle.std.proofs.Common.{option_map, option_copied, sym, ap, ◌∙◌}
use Rattle.std.specs.FinMap as finite
use Rattle.std.specs.Option.{option_or}
use Rattle.object_store.specs.Keys.{key}
use Rattle.object_store.specs.Objects.{Store}
use Rattle.object_store.specs.Kept.{settled}
use Rattle.object_store.proofs.ViewLemmas.{get-objects_in}
use Rattle.object_store.proofs.objects.Objects.read.Goals as goal

-- the map that is seen has the document of the object that came late
pub returns-in-Some-clause-object : goal.returns-in-Some-clause-object
returns-in-Some-clause-object g c =
    let k = c.args.key.now in
    let late = c.self.inside.late in
    let shelves = c.self.inside.shelves in
    ap (λ o. option_or o (settled shelves k)) (ap option_copied (sym c.in-Some.is) ∙ c.get.ensures.value)
    ∙ sym (get-objects_in late shelves k)
    ∙ ap (λ (v : Store). finite.get v.objects k) c.self.view_is

-- or that of the object on the shelf
pub returns-in-None-clause-object : goal.returns-in-None-clause-object
returns-in-None-clause-object g c =
    let k = c.args.key.now in
    let late = c.self.inside.late in
    let shelves = c.self.inside.shelves in
    c.find_settled.ensures
    ∙ ap (λ name. settled shelves (key k.kind name)) c.as_str.ensures.value
    ∙ ap (λ o. option_or o (settled shelves k)) (ap option_copied (sym c.in-None.is) ∙ c.get.ensures.value)
    ∙ sym (get-objects_in late shelves k)
    ∙ ap (λ (v : Store). finite.get v.objects k) c.self.view_is
