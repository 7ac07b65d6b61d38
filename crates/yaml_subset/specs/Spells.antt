-- Which tree a text spells.
use Rattle.std.specs.Prelude.{◌≡◌, ◌<◌, ◌≤◌, ℕ, true, ◌-◌, ◌||◌, if◌then◌else◌, List, length, take, slice_get, Some, option_map, ⊤}
use Rattle.std.specs.Str.Lines.{lines}
use Rattle.doc_tree.specs.Doc.{Doc}
use Rattle.yaml_subset.specs.Signs.{has_tab, is_marker}
use Rattle.yaml_subset.specs.Layout.{Lays}
use Rattle.yaml_subset.specs.Nodes.{SpellsMarks}
use Rattle.yaml_subset.specs.LeftOut.{is_left_out, value_of}
use Rattle.yaml_subset.specs.declared.mark.Mark.{Mark}
use Rattle.yaml_subset.specs.declared.fault.FaultKind.{FaultKind}
use Rattle.yaml_subset.specs.declared.fault.FaultKind.TheVariants.{Tab, LeftOut, Form}
use Rattle.yaml_subset.specs.declared.fault.YamlFault.{YamlFault}
use Rattle.yaml_subset.specs.declared.fault.YamlFault.TheVariants.{Refused, NoMemory}

-- the lines spell the document: their marks do
abbrev pub SpellsLines : List (List ℕ) → Doc → Type 0
SpellsLines all d = (marks : List Mark) × Lays true all marks × SpellsMarks marks d

-- the text spells the document
abbrev pub Spells : List ℕ → Doc → Type 0
Spells text d = SpellsLines (lines text) d

-- the first lines, so many, spell some document
abbrev pub Begins : List (List ℕ) → ℕ → Type 0
Begins all n = (d : Doc) × SpellsLines (take n all) d

-- the least number of lines with which the text spells none
abbrev pub IsLine : List (List ℕ) → ℕ → Type 0
IsLine all n = (n ≤ length all) × (Begins all n → ⊥) × ((m : ℕ) → m < n → Begins all m)

-- what is wrong with a line with which a text stops to spell a tree
abbrev pub kind_of : List ℕ → FaultKind
kind_of line = if has_tab line then Tab else (if is_marker line || is_left_out (value_of line) then LeftOut else Form)

-- the text spells nothing, and this is the line at which it stops
abbrev pub IsFault : List ℕ → YamlFault → Type 0
IsFault text (Refused line kind) = ((d : Doc) → Spells text d → ⊥) × IsLine (lines text) line × (option_map kind_of (slice_get (lines text) (line - 1)) ≡ Some kind)
IsFault text NoMemory = ⊤
