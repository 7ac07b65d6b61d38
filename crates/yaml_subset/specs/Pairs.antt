-- The pairs of a map that is being read, in whatever they are held, for the private clauses.
use Rattle.std.specs.Prelude.{ℕ, List}
use Rattle.doc_tree.specs.Doc.{Doc}
use Rattle.yaml_subset.specs.declared.pairs.Held.{Held}
use Rattle.yaml_subset.specs.declared.pairs.Held.TheVariants.{Listed, Falling, Mapped}

-- the pairs that are held, in the order of their keys
abbrev pub pairs_held : Held → List (List ℕ × Doc)
pairs_held (Listed fields) = fields
pairs_held (Falling fields) = fields
pairs_held (Mapped map) = map.entries
