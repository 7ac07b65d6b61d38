use Rattle.shelves.proofs.ShelfLaws.{text_same}
use Rattle.org_shelves.proofs.assignments.AssignmentsForget.forget.Goals as goal

pub returns : goal.returns
returns c = rw (← c.self.view_is) (c.remove.ensures.removed text_same)
