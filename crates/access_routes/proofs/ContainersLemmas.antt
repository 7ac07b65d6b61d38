-- The names of the containers rise.
use Rattle.std.proofs.Common.{◌≡◌, List, ℕ, map, refl, sym, subst}
use Rattle.std.specs.List.Sorted.{IsStrictlySortedBy}
use Rattle.access_lists.specs.Starting.{containers, name_of}
use Rattle.doc_tree.specs.Valid.{InOrder}

containers_rise : InOrder (map name_of containers)
unfolding IsStrictlySortedBy
containers_rise = ((refl, (refl, (refl, (refl, (refl, (refl, (refl, (refl, (refl, (refl, (refl, tt))))))))))), ((refl, (refl, (refl, (refl, (refl, (refl, (refl, (refl, (refl, (refl, tt)))))))))), ((refl, (refl, (refl, (refl, (refl, (refl, (refl, (refl, (refl, tt))))))))), ((refl, (refl, (refl, (refl, (refl, (refl, (refl, (refl, tt)))))))), ((refl, (refl, (refl, (refl, (refl, (refl, (refl, tt))))))), ((refl, (refl, (refl, (refl, (refl, (refl, tt)))))), ((refl, (refl, (refl, (refl, (refl, tt))))), ((refl, (refl, (refl, (refl, tt)))), ((refl, (refl, (refl, tt))), ((refl, (refl, tt)), ((refl, tt), (tt, tt))))))))))))

pub names_rise : (names : List (List ℕ)) → names ≡ map name_of containers → InOrder names
names_rise names are = subst InOrder (sym are) containers_rise
