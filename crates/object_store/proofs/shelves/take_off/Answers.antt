use Rattle.std.proofs.Common.{None, Some, ap, sym, ◌∙◌, rules}
use Rattle.std.specs.Option.{option_copied_mut}
use Rattle.std.proofs.lemmas.Map.Text.{hash_map_updates_text}
use Rattle.object_store.proofs.ShelvesLemmas.{on_shelf-changed}
use Rattle.object_store.proofs.shelves.take_off.Goals as goal

pub returns-in-Some-clause-left : goal.returns-in-Some-clause-left
returns-in-Some-clause-left c =
    let old = c.args.shelves.now in
    let now = c.swap_remove.new.self in
    on_shelf-changed old (c.get_mut.follows.lender now) c.args.word.now c.in-Some.shelf.now now c.args.name.now None
    (hash_map_updates_text c.args.word.now old (c.get_mut.follows.lender now) (Some now) ((c.get_mut.follows.holds now).3 (search rules)))
    (sym c.get_mut.ensures.value ∙ ap option_copied_mut c.in-Some.is)
    (hash_map_updates_text c.args.name.now c.in-Some.shelf.now now None c.swap_remove.ensures.updates)
