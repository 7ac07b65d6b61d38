use Rattle.membership.proofs.KeepingLemmas.{lists_inserted}
use Rattle.membership.proofs.leading.lists_alike.Goals as goal

pub returns-in-Some : goal.returns-in-Some
returns-in-Some c = λ alike. lists_inserted c.args.name.now c.args.items.now.entries c.in-Some.old.now c.args.group.now c.in-Some.ensures.value (c.lists_alike.ensures alike)
