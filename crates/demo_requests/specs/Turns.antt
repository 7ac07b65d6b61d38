-- The turns of a demo: four draws say which organisation, what is done, to which node, and by which tag.
use Rattle.std.specs.Prelude.{ℕ, ◌+◌, ◌*◌, ◌%◌, ◌==◌, if◌then◌else◌}
use Rattle.demo_requests.specs.declared.turns.Deed.{Deed}
use Rattle.demo_requests.specs.declared.turns.Deed.TheVariants.{Create, Show, Remove, Search, Replace}
use Rattle.demo_requests.specs.declared.turns.Turn.{Turn}
use Rattle.demo_requests.specs.Draws.{draw}

-- the deed of a number below 5
abbrev pub deed_numbered : ℕ → Deed
deed_numbered number =
    if number == 0 then Create
    else if number == 1 then Show
    else if number == 2 then Remove
    else if number == 3 then Search
    else Replace

-- the turn that four numbers drawn in a demo of this size say
abbrev pub turn_by : ℕ → ℕ → ℕ → ℕ → ℕ → Turn
turn_by size r q m k = record {
  organisation = 1 + r % size;
  deed = deed_numbered (q % 5);
  node = m % 50;
  tag = k % 7;
}

-- the turn behind so many others in a demo of this size
abbrev pub turn : ℕ → ℕ → Turn
turn size number =
    turn_by size (draw size (4 * number)) (draw size (4 * number + 1)) (draw size (4 * number + 2)) (draw size (4 * number + 3))
