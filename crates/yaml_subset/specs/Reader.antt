-- How a text is read line by line: the open blocks and the open literal, and what one line more makes of them.
use Rattle.std.specs.Prelude.{ℕ, suc, Bool, true, false, ◌&&◌, ◌||◌, if◌then◌else◌, List, [], ◌∷◌, Option, Some, None, option_map, option_and_then}
use Rattle.doc_tree.specs.Doc.{Doc, words}
use Rattle.yaml_subset.specs.Signs.{has_tab, is_marker, is_opening, is_passed}
use Rattle.yaml_subset.specs.Literal.{a_held, add, belongs, fits, held_text}
use Rattle.yaml_subset.specs.Layout.{is_lone, mark_of, marks_of}
use Rattle.yaml_subset.specs.Machine.{finish, run, step, wants}
use Rattle.yaml_subset.specs.Said.{said_at}
use Rattle.yaml_subset.specs.declared.mark.Mark.{Mark}
use Rattle.yaml_subset.specs.declared.said.Rest.{Rest}
use Rattle.yaml_subset.specs.declared.said.Rest.TheVariants.{Nothing, Scalar, Literal}
use Rattle.yaml_subset.specs.declared.said.Said.{Said}
use Rattle.yaml_subset.specs.declared.literal.Sign.{Sign}
use Rattle.yaml_subset.specs.declared.literal.Held.{Held}
use Rattle.yaml_subset.specs.declared.blocks.Blocks.{Blocks}
use Rattle.yaml_subset.specs.declared.blocks.Blocks.TheVariants.{Start}
use Rattle.yaml_subset.specs.declared.reader.Place.{Place}
use Rattle.yaml_subset.specs.declared.reader.Place.TheVariants.{Outside, Within}
use Rattle.yaml_subset.specs.declared.reader.Reader.{Reader}

-- how a literal is read: alone or not, with or without the line feed at its end, and the least indent of its lines
abbrev pub a_sign : Bool → Bool → ℕ → Sign
a_sign lone keeps above = record { lone = lone; keeps = keeps; above = above }

abbrev pub a_reader : Place → Blocks → Reader
a_reader place blocks = record { place = place; blocks = blocks }

-- nothing was read
abbrev pub first_reader : Reader
first_reader = a_reader (Outside true) Start

-- behind the marks of a line: a literal opens where a value is due
abbrev pub enters : Bool → ℕ → Rest → Blocks → Option Reader
enters lone above Nothing s = Some (a_reader (Outside false) s)
enters lone above (Scalar d) s = Some (a_reader (Outside false) s)
enters lone above (Literal keeps) s = if wants lone s then Some (a_reader (Within (a_sign lone keeps above) (a_held None [] [])) s) else None

-- a line that says this
abbrev pub said_step : Option Said → Blocks → Option Reader
said_step None s = None
said_step (Some d) s = option_and_then (enters (is_lone d.heads) d.above d.rest) (run (Some s) (marks_of d))

-- a line outside of literals
abbrev pub outside_step : Bool → List ℕ → Blocks → Option Reader
outside_step first line s =
    if is_passed line then Some (a_reader (Outside first) s)
    else (if first && is_opening line then Some (a_reader (Outside false) s) else (if is_marker line || has_tab line then None else said_step (said_at 0 0 line) s))

-- the mark of the literal that ends
abbrev pub held_mark : Sign → Held → Mark
held_mark sign h = mark_of sign.lone (words (held_text sign.keeps h))

-- a line where a literal is open
abbrev pub within_step : Sign → Held → List ℕ → Blocks → Option Reader
within_step sign h line s =
    if belongs sign.above line then (if fits h.indent line then Some (a_reader (Within sign (add line h)) s) else None)
    else option_and_then (outside_step false line) (step (held_mark sign h) s)

abbrev pub place_step : Place → List ℕ → Blocks → Option Reader
place_step (Outside first) line s = outside_step first line s
place_step (Within sign h) line s = within_step sign h line s

-- one line more
abbrev pub read_step : List ℕ → Reader → Option Reader
read_step line r = place_step r.place line r.blocks

-- lines, one by one
abbrev pub read_lines : List (List ℕ) → Option Reader → Option Reader
read_lines [] o = o
read_lines (line ∷ lines) o = read_lines lines (option_and_then (read_step line) o)

abbrev pub place_end : Place → Blocks → Option Doc
place_end (Outside first) s = Some (finish s)
place_end (Within sign h) s = option_map finish (step (held_mark sign h) s)

-- the document, where no line follows
abbrev pub end_of : Reader → Option Doc
end_of r = place_end r.place r.blocks

-- how many lines are taken, the refused one with them
abbrev pub taken_lines : List (List ℕ) → Option Reader → ℕ
taken_lines lines None = 0
taken_lines [] (Some r) = 0
taken_lines (line ∷ lines) (Some r) = suc (taken_lines lines (read_step line r))
