use Rattle.std.proofs.Common.{◌≡◌, ◌<◌, Some, ap, subst, sym, ◌∙◌, rules, string_bytes}
use Rattle.std.specs.Option.{option_copied_mut}
use Rattle.std.proofs.lemmas.Map.Text.{hash_map_updates_text}
use Rattle.indexmap.specs.IndexMap.{get_by_text, spare}
use Rattle.object_store.specs.Kept.{Shelf}
use Rattle.object_store.proofs.ItemsLemmas.{some-same}
use Rattle.object_store.proofs.ObjectsLemmas.{of_ok}
use Rattle.object_store.proofs.ShelvesLemmas.{on_shelf-changed}
use Rattle.object_store.proofs.shelves.put_on.Goals as goal

pub returns-in-Some : goal.returns-in-Some
returns-in-Some c =
    let old = c.args.shelves.now in
    let was = c.in-Some.shelf.now in
    let now = c.insert.new.self in
    let had : get_by_text old c.args.word.now ≡ Some was = sym c.get_mut.ensures.value ∙ ap option_copied_mut c.in-Some.is in
    let room : 0 < spare was = subst (λ (shelf : Shelf). 0 < spare shelf) (some-same c.requires.0 was (sym c.requires.1 ∙ had)) c.requires.2 in
    on_shelf-changed old (c.get_mut.follows.lender now) c.args.word.now was now (string_bytes c.args.name) (Some c.args.object)
    (hash_map_updates_text c.args.word.now old (c.get_mut.follows.lender now) (Some now) ((c.get_mut.follows.holds now).3 (search rules)))
    had
    (hash_map_updates_text (string_bytes c.args.name) was now (Some c.args.object) (of_ok c.insert.result (c.insert.ensures.succeeds room) c.insert.ensures.updates))
