-- What changes make of rows.
use Rattle.std.specs.Prelude.{List, [], ◌∷◌}
use Rattle.std.specs.FinMap as finite
use Rattle.outside_keeper.specs.declared.change.Change.{Change}
use Rattle.outside_keeper.specs.declared.change.Change.TheVariants.{Put, Erase}
use Rattle.outside_keeper.specs.Rows.{KeptRows}

-- rows after a change: the row of the key has the body, or no row has the key
abbrev pub changed : Change → KeptRows → KeptRows
changed (Put key body) rows = finite.insert rows key body
changed (Erase key) rows = finite.remove rows key

-- rows after these changes, made in order
abbrev pub changed_by : List Change → KeptRows → KeptRows
changed_by [] rows = rows
changed_by (change ∷ rest) rows = changed_by rest (changed change rows)
