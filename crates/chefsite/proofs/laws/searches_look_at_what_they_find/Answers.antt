-- A page is a part of what was found.
use Rattle.std.proofs.Common.{◌≤◌, ◌+◌, ℕ, List, length, drop, take, arith}
use Rattle.std.proofs.lemmas.List.{length-drop, length-take}
use Rattle.object_finder.specs.Indexes.{index_of}
use Rattle.search_routes.specs.Finding.{found}
use Rattle.chefsite.proofs.laws.searches_look_at_what_they_find.Goals as goal

-- what is shown, and no look beside, is no more than what was found
shown_fits : {T : Type 0} (start rows : ℕ) (names : List T) → 0 + length (take rows (drop start names)) ≤ length names
shown_fits start rows names =
    let some = length-take rows (drop start names) in
    let rest = length-drop start names in
    omega (arith, some, rest)

pub returns : goal.returns
returns c context asked = shown_fits asked.asked.start asked.asked.rows (found context (index_of asked.index) asked.asked.query)
