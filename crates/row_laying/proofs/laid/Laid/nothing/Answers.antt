-- Parts that hold nothing are an organisation without anything.
use Rattle.row_laying.proofs.ConditionsLemmas.{begins}
use Rattle.row_laying.proofs.laid.Laid.nothing.Goals as goal

pub returns : goal.returns
returns c =
    begins c.none-objects.result c.none-groups.result c.none-shelves.result c.none-objects.ensures.objects c.none-objects.ensures.lists c.none-groups.ensures c.none-shelves.ensures
