-- An object that was taken out isn't there.
use Rattle.std.proofs.Common.{refl}
use Rattle.search_tests.proofs.search_index_tests.save.Goals as goal

pub insert-requires-clause-absent : goal.insert-requires-clause-absent
insert-requires-clause-absent c h =
    let was = (c.reserve.ensures.same.objects c.in_ok-scope.scope c.in_ok-name.name).0 h in
    ((c.remove.ensures.drops.objects c.in_ok-scope.scope c.in_ok-name.name).0 was).1 (refl, refl)
