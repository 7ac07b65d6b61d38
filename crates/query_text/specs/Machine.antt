-- How a query is read byte by byte: what was read of it, and what one byte more makes of that. The grammar says what a query is; this says how far a text goes along with it.
use Rattle.std.specs.Prelude.{ℕ, suc, ◌-◌, ◌||◌, ◌==◌, bytes_eq, if◌then◌else◌, List, [], ◌∷◌, ◌++◌, codes, Option, Some, None, option_map}
use Rattle.query_text.specs.Signs.{is_space, is_field_byte, is_field_start}
use Rattle.query_text.specs.Query.{Ors, no_ors, then_ands, Item, term, group, ands_of, ors_with, under}
use Rattle.query_text.specs.Parts.{part_step, ended}
use Rattle.query_text.specs.declared.term.Term.{Term}
use Rattle.query_text.specs.declared.parts.Part.{Part}
use Rattle.query_text.specs.declared.parts.Part.TheVariants as part
use Rattle.query_text.specs.Frames.{Frame}
use Rattle.query_text.specs.declared.frames.Mode.{Mode}
use Rattle.query_text.specs.declared.frames.Mode.TheVariants.{Due, Naming, Within, After, AndN, AndD, AndEnd, OrR, OrEnd}
use Rattle.query_text.specs.declared.frames.Config.{Config}

-- a group with so much room, of which nothing was read
abbrev pub new_frame : ℕ → Frame
new_frame room = record { room = room; ors = []; ands = []; nots = 0; left = room }

-- the group, with one item more
abbrev pub pushed : Item → Frame → Frame
pushed x f = record { room = f.room; ors = f.ors; ands = f.ands ++ under f.nots x ∷ []; nots = 0; left = f.room }

-- the group, where the next item is due
abbrev pub ready : Frame → Frame
ready f = record { room = f.room; ors = f.ors; ands = f.ands; nots = 0; left = f.room }

-- the group, where the first item behind OR is due
abbrev pub next_or : Frame → Frame
next_or f = record { room = f.room; ors = f.ors ++ ands_of f.ands ∷ []; ands = []; nots = 0; left = f.room }

-- the group, with one NOT more before the item that is due
abbrev pub deeper : Frame → Frame
deeper f = record { room = f.room; ors = f.ors; ands = f.ands; nots = suc f.nots; left = f.left - 1 }

-- the query that was read of the group
abbrev pub whole : Frame → Ors
whole f = ors_with f.ors (then_ands (ands_of f.ands) no_ors)

abbrev pub at : Mode → Frame → List Frame → Config
at mode f below = record { mode = mode; frame = f; below = below }

-- a group opens, where there is room
abbrev pub opened : Frame → List Frame → Option Config
opened f below = if f.left == 0 then None else Some (at Due (new_frame (f.left - 1)) (f ∷ below))

-- one byte more, where an item is due
abbrev pub due_step : Frame → List Frame → ℕ → Option Config
due_step f below b =
    if is_space b then Some (at Due f below)
    else (if b == 40 then opened f below
    else (if b == 42 then Some (at (Within part.EveryColon) f below)
    else (if b == 92 then Some (at (Within (part.FieldEscape [])) f below)
    else (if is_field_start b then Some (at (Naming (b ∷ [])) f below) else None))))

-- one byte more behind an operator
abbrev pub gap_step : Frame → List Frame → ℕ → Option Config
gap_step f below b = if is_space b || b == 40 then due_step f below b else None

-- one byte more behind NOT, where there is room
abbrev pub not_step : Frame → List Frame → ℕ → Option Config
not_step f below b = if f.left == 0 then None else due_step (deeper f) below b

-- a group closes, which makes an item of the one around it
abbrev pub close_step : Ors → List Frame → Option Config
close_step q [] = None
close_step q (f ∷ below) = Some (at After (pushed (group q) f) below)

-- one byte more behind an item
abbrev pub after_step : Frame → List Frame → ℕ → Option Config
after_step f below b =
    if is_space b then Some (at After f below)
    else (if b == 41 then close_step (whole f) below
    else (if b == 65 then Some (at AndN f below)
    else (if b == 79 then Some (at OrR f below) else None)))

-- one byte more of a term
abbrev pub goes_on : Part → Frame → List Frame → ℕ → Option Config
goes_on here f below b = option_map (λ next. at (Within next) f below) (part_step here b)

-- one byte more, where the term may end or not
abbrev pub term_step : Option Term → Part → Frame → List Frame → ℕ → Option Config
term_step (Some t) here f below b = if is_space b || b == 41 then after_step (pushed (term t) f) below b else goes_on here f below b
term_step None here f below b = goes_on here f below b

-- one byte more of a field each byte of which stood for itself: it was NOT where white space or `(` follows
abbrev pub name_step : List ℕ → Frame → List Frame → ℕ → Option Config
name_step name f below b =
    if b == 58 then Some (at (Within (part.ValueDue name)) f below)
    else (if b == 92 then Some (at (Within (part.FieldEscape name)) f below)
    else (if is_field_byte b then Some (at (Naming (name ++ b ∷ [])) f below) else None))

abbrev pub naming_step : List ℕ → Frame → List Frame → ℕ → Option Config
naming_step name f below b =
    if is_space b || b == 40 then (if bytes_eq name (codes "NOT") then not_step f below b else None) else name_step name f below b

-- one byte more, by what may follow
abbrev pub step_at : Mode → Frame → List Frame → ℕ → Option Config
step_at Due f below b = due_step f below b
step_at (Naming name) f below b = naming_step name f below b
step_at (Within here) f below b = term_step (ended here) here f below b
step_at After f below b = after_step f below b
step_at AndN f below b = if b == 78 then Some (at AndD f below) else None
step_at AndD f below b = if b == 68 then Some (at AndEnd f below) else None
step_at AndEnd f below b = gap_step (ready f) below b
step_at OrR f below b = if b == 82 then Some (at OrEnd f below) else None
step_at OrEnd f below b = gap_step (next_or f) below b

-- one byte more
abbrev pub step : Config → ℕ → Option Config
step c b = step_at c.mode c.frame c.below b

-- the query, where the text may end
abbrev pub ending_at : Mode → Frame → Option Ors
ending_at Due f = None
ending_at (Naming name) f = None
ending_at (Within here) f = option_map (λ t. whole (pushed (term t) f)) (ended here)
ending_at After f = Some (whole f)
ending_at AndN f = None
ending_at AndD f = None
ending_at AndEnd f = None
ending_at OrR f = None
ending_at OrEnd f = None

abbrev pub ending_in : List Frame → Mode → Frame → Option Ors
ending_in [] mode f = ending_at mode f
ending_in (g ∷ below) mode f = None

-- the query, where the text may end here
abbrev pub ending : Config → Option Ors
ending c = ending_in c.below c.mode c.frame

-- nothing was read
abbrev pub start : Config
start = at Due (new_frame 100) []

-- one byte more, as long as all went along
abbrev pub onward : Option Config → ℕ → Option Config
onward None b = None
onward (Some c) b = step c b

-- what a text makes of it
abbrev pub steps : List ℕ → Option Config → Option Config
steps [] here = here
steps (b ∷ text) here = steps text (onward here b)

-- the query, if the text may end here
abbrev pub finished : Option Config → Option Ors
finished None = None
finished (Some c) = ending c
