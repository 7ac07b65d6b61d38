-- Room for changes is room for the first of them, and then for the rest.
use Rattle.std.proofs.Common.{◌≡◌, ◌+◌, List, [], ◌∷◌, Option, Some, None, arith, refl}
use Rattle.object_finder.specs.declared.changes.Change.{Change}
use Rattle.object_finder.specs.Changes.{HasRoomFor, objects_come, objects_in, pairs_come, pairs_in}
use Rattle.object_finder.specs.Held.{LosesRoom, Room}

objects_first : (change : Change) (rest : List Change) → objects_come (change ∷ rest) ≡ objects_in change + objects_come rest
objects_first change rest = refl

pairs_first : (change : Change) (rest : List Change) → pairs_come (change ∷ rest) ≡ pairs_in change + pairs_come rest
pairs_first change rest = refl

pub first_fits : (room : Option Room) (change : Change) (rest : List Change) → HasRoomFor room (change ∷ rest) → HasRoomFor room (change ∷ [])
first_fits None change rest fits = tt
first_fits (Some room) change rest (objects, pairs, terms) =
    let o = objects_first change rest in
    let p = pairs_first change rest in
    let one = objects_first change [] in
    let two = pairs_first change [] in
    (omega (arith, objects, o, one), omega (arith, pairs, p, two), omega (arith, terms, p, two))

pub rest_fits : (old new : Option Room) (change : Change) (rest : List Change) → HasRoomFor old (change ∷ rest) → LosesRoom old new (objects_in change) (pairs_in change) (pairs_in change) → HasRoomFor new rest
rest_fits old None change rest fits loses = tt
rest_fits None (Some new) change rest fits loses = absurd loses
rest_fits (Some old) (Some new) change rest (objects, pairs, terms) (less_objects, less_pairs, less_terms) =
    let o = objects_first change rest in
    let p = pairs_first change rest in
    (omega (arith, objects, o, less_objects), omega (arith, pairs, p, less_pairs), omega (arith, terms, p, less_terms))
