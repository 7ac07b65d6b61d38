use Rattle.std.proofs.Common.{Some, subst, string_bytes, ap, sym, ◌∙◌}
use Rattle.object_store.specs.Keys.{key}
use Rattle.object_store.specs.Shelving.{shelf_of}
use Rattle.object_store.specs.Kept.{HasRoom}
use Rattle.object_store.proofs.MovesLemmas.{settled-changed, found-moved}
use Rattle.object_store.proofs.objects.move_last.Goals as goal

-- there is room on the shelf of what came last
pub put_on-requires : goal.put_on-requires
put_on-requires c =
    let k = c.in-Some.key in
    let word = c.shelved.ensures.shelf ∙ ap (λ name. shelf_of (key k.kind name)) c.as_str.ensures.value in
    subst (HasRoom c.args.shelves.now) (sym word) (c.requires c.pop.new.self.entries k c.in-Some.object c.in-Some.ensures.entries).1

pub returns-in-Some-clause-same : goal.returns-in-Some-clause-same
returns-in-Some-clause-same c =
    let k = c.in-Some.key in
    let word = c.shelved.ensures.shelf ∙ ap (λ name. shelf_of (key k.kind name)) c.as_str.ensures.value in
    found-moved c.args.late.now c.pop.new.self c.args.shelves.now c.put_on.new.shelves k c.in-Some.object c.in-Some.ensures.entries
    c.in-Some.ensures.updates.0
    (settled-changed c.args.shelves.now c.put_on.new.shelves c.shelved.result.0.now (string_bytes c.args.name) k (Some c.in-Some.object) word
    (c.requires c.pop.new.self.entries k c.in-Some.object c.in-Some.ensures.entries).0 c.put_on.ensures)
