use Rattle.std.proofs.Common.{ap, ◌∙◌, sym}
use Rattle.std.specs.FinSet as set
use Rattle.membership.specs.Rooms.{KeptNames}
use Rattle.membership.proofs.NameSetLemmas.{contains-seen}
use Rattle.membership.proofs.name_set.NameSet.contains.Goals as goal

pub returns : goal.returns
returns c =
    c.contains.ensures
    ∙ sym (contains-seen c.self.inside.items.keys c.args.name.now)
    ∙ ap (λ (kept : KeptNames). set.contains kept.names c.args.name.now) c.self.view_is
