use Rattle.std.proofs.Common.{None, ap, ◌∙◌}
use Rattle.std.specs.Option.{option_or}
use Rattle.object_store.specs.Keys.{key}
use Rattle.object_store.specs.Shelving.{shelf_of, name_on}
use Rattle.object_store.specs.Kept.{on_shelf}
use Rattle.object_store.proofs.MovesLemmas.{settled-changed, found-taken}
use Rattle.object_store.proofs.objects.take_from.Goals as goal

pub returns-clause-taken : goal.returns-clause-taken
returns-clause-taken c =
    let k = c.args.key.now in
    let word = c.shelved.ensures.shelf ∙ ap (λ name. shelf_of (key k.kind name)) c.as_str.ensures.value in
    let name = c.shelved.ensures.name ∙ ap (λ name. name_on (key k.kind name)) c.as_str.ensures.value in
    c.or.ensures
    ∙ (λ i. option_or (c.take_late-waiting.ensures.taken i) (c.take-settled.ensures.taken i))
    ∙ (λ i. option_or (c.take_late-waiting.ensures.taken 1) (on_shelf c.args.shelves.now (word i) (name i)))

pub returns-clause-left : goal.returns-clause-left
returns-clause-left c =
    let k = c.args.key.now in
    let word = c.shelved.ensures.shelf ∙ ap (λ name. shelf_of (key k.kind name)) c.as_str.ensures.value in
    let name = c.shelved.ensures.name ∙ ap (λ name. name_on (key k.kind name)) c.as_str.ensures.value in
    found-taken c.args.late.now c.take_late-waiting.new.late c.args.shelves.now c.take-settled.new.shelves k
    c.take_late-waiting.ensures.left
    (settled-changed c.args.shelves.now c.take-settled.new.shelves c.shelved.result.0.now c.shelved.result.1.now k None word name c.take-settled.ensures.left)
