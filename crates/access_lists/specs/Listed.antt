-- Which of the starting groups an entry lists.
use Rattle.std.specs.Prelude.{ℕ, List}
use Rattle.access_lists.specs.declared.starting.Listed.{Listed}
use Rattle.access_lists.specs.declared.starting.Listed.TheVariants as row
use Rattle.access_lists.specs.Starting as start

-- their names
abbrev pub listed : Listed → List (List ℕ)
listed row.A = start.A
listed row.AU = start.AU
listed row.AKU = start.AKU
