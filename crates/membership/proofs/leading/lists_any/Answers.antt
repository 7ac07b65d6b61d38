use Rattle.membership.proofs.PlacesLemmas.{lists_at-none, lists_at-empty}
use Rattle.membership.proofs.leading.lists_any.Goals as goal

pub returns-in-Some : goal.returns-in-Some
returns-in-Some c = λ none. lists_at-empty c.args.items.now.entries c.args.place _ c.in-Some.ensures.entry (c.lists_any.ensures none)

pub returns-in-None : goal.returns-in-None
returns-in-None c = λ _. lists_at-none c.args.items.now.entries c.args.place c.in-None.ensures.entry
