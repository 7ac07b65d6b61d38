use Rattle.std.proofs.Common.{Some, ap, sym, ◌∙◌, rules, arith}
use Rattle.std.specs.Option.{option_copied_mut}
use Rattle.std.proofs.lemmas.Map.Text.{hash_map_updates_text}
use Rattle.object_store.proofs.ShelvesLemmas.{on_shelf-kept, same_entries}
use Rattle.object_store.proofs.shelves.widen.Goals as goal

pub returns-in_err-reserve-in-Some-clause-same : goal.returns-in_err-reserve-in-Some-clause-same
returns-in_err-reserve-in-Some-clause-same c =
    let old = c.args.shelves.now in
    let now = c.reserve.new.self in
    on_shelf-kept old (c.get_mut.follows.lender now) c.args.word.now (Some c.in-Some.shelf.now) (Some now)
    (hash_map_updates_text c.args.word.now old (c.get_mut.follows.lender now) (Some now) ((c.get_mut.follows.holds now).3 (search rules)))
    (sym c.get_mut.ensures.value ∙ ap option_copied_mut c.in-Some.is)
    (same_entries c.in-Some.shelf.now now c.reserve.ensures.entries)

pub returns-in_ok-reserve-in-Some-clause-same : goal.returns-in_ok-reserve-in-Some-clause-same
returns-in_ok-reserve-in-Some-clause-same c =
    let old = c.args.shelves.now in
    let now = c.reserve.new.self in
    on_shelf-kept old (c.get_mut.follows.lender now) c.args.word.now (Some c.in-Some.shelf.now) (Some now)
    (hash_map_updates_text c.args.word.now old (c.get_mut.follows.lender now) (Some now) ((c.get_mut.follows.holds now).3 (search rules)))
    (sym c.get_mut.ensures.value ∙ ap option_copied_mut c.in-Some.is)
    (same_entries c.in-Some.shelf.now now c.reserve.ensures.entries)

pub returns-in_ok-reserve-in-Some-clause-room : goal.returns-in_ok-reserve-in-Some-clause-room
returns-in_ok-reserve-in-Some-clause-room c =
    let now = c.reserve.new.self in
    (now, ((c.get_mut.follows.holds now).3 (search rules)).1, omega (arith, c.in_ok-reserve-in-Some.ensures.ok))
