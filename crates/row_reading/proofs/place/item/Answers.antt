-- An item is of its whole name.
use Rattle.std.proofs.Common.{◌≡◌, IfOk, Some, option_map, subst, arith}
use Rattle.org_rows.specs.Places.{split_at_slash}
use Rattle.row_reading.specs.Seen.{place_seen}
use Rattle.row_reading.proofs.NameLemmas.{item_told}
use Rattle.row_reading.proofs.place.item.Goals as goal

pub returns-in-Some : goal.returns-in-Some
returns-in-Some c =
    let parts : split_at_slash c.args.name.now ≡ Some (c.in-Some.bag.now, c.in-Some.id.now) = grind arith in
    subst (λ p. IfOk c.item_of.result (λ found. option_map place_seen found ≡ p)) (item_told c.args.name.now c.in-Some.bag.now c.in-Some.id.now parts) c.item_of.ensures
