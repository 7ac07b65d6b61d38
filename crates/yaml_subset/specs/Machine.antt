-- How blocks are read mark by mark: what was read so far, and what one mark more makes of that. The grammar of nodes says what marks spell; this says how far they go along with it.
use Rattle.std.specs.Prelude.{ℕ, ◌&&◌, ◌-◌, Bool, true, false, nat_eq, nat_lt, nat_le, is_some, if◌then◌else◌, List, [], ◌∷◌, ◌++◌, Option, Some, None, option_and_then}
use Rattle.doc_tree.specs.Doc.{Doc, null, list, dict, docs_of, pairs_of, depth}
use Rattle.doc_tree.specs.Part.{pair_at, with_pair}
use Rattle.yaml_subset.specs.declared.mark.Mark.{Mark}
use Rattle.yaml_subset.specs.declared.mark.Mark.TheVariants.{Dash, Key, Value, Bare}
use Rattle.yaml_subset.specs.declared.blocks.Frame.{Frame}
use Rattle.yaml_subset.specs.declared.blocks.Frame.TheVariants.{InList, InMap}
use Rattle.yaml_subset.specs.declared.blocks.OpenMap.{OpenMap}
use Rattle.yaml_subset.specs.declared.blocks.Blocks.{Blocks}
use Rattle.yaml_subset.specs.declared.blocks.Blocks.TheVariants.{Start, Alone, Within}

-- an open list of these documents; so many levels may nest in it
abbrev pub an_open_list : ℕ → ℕ → List Doc → Frame
an_open_list room column trees = InList (record { room = room; column = column; trees = trees })

-- an open map of these pairs, and the key whose value is due or was read last
abbrev pub an_open_map : ℕ → ℕ → List (List ℕ × Doc) → List ℕ → Frame
an_open_map room column pairs key = InMap (record { room = room; column = column; pairs = pairs; key = key })

-- with or without a node that is due, a block and those around it
abbrev pub inside : Bool → Frame → List Frame → Blocks
inside due frame below = Within (record { due = due; frame = frame; below = below })

abbrev pub room_of : Frame → ℕ
room_of (InList f) = f.room
room_of (InMap f) = f.room

-- the map, with this document at the key whose value was due
abbrev pub filled_map : Doc → OpenMap → OpenMap
filled_map d f = record { room = f.room; column = f.column; pairs = with_pair f.key d f.pairs; key = [] }

-- the block, with this document as the node that was due
abbrev pub fill : Doc → Frame → Frame
fill d (InList f) = an_open_list f.room f.column (f.trees ++ d ∷ [])
fill d (InMap f) = InMap (filled_map d f)

-- the block, with null where a node is due
abbrev pub settle : Bool → Frame → Frame
settle due f = if due then fill null f else f

-- the document of a block that is closed
abbrev pub frame_doc : Frame → Doc
frame_doc (InList f) = list (docs_of f.trees)
frame_doc (InMap f) = dict (pairs_of f.pairs)

-- whether the mark lies outside the block, and closes it
abbrev pub closes : Mark → Frame → Bool
closes (Dash c) (InList f) = nat_lt c f.column
closes (Dash c) (InMap f) = nat_lt c f.column
closes (Key c k) (InList f) = nat_le c f.column
closes (Key c k) (InMap f) = nat_lt c f.column
closes (Value d) f = false
closes (Bare d) f = false

-- a list that opens where a node is due
abbrev pub opens_list : ℕ → Bool → Frame → List Frame → Option Blocks
opens_list c due f below = if due && nat_lt 0 (room_of f) then Some (inside true (an_open_list (room_of f - 1) c []) (f ∷ below)) else None

-- a map that opens where a node is due
abbrev pub opens_map : ℕ → List ℕ → Bool → Frame → List Frame → Option Blocks
opens_map c k due f below = if due && nat_lt 0 (room_of f) then Some (inside true (an_open_map (room_of f - 1) c [] k) (f ∷ below)) else None

-- the map, with one key more, where it hasn't that key
abbrev pub next_key : List ℕ → ℕ → ℕ → List (List ℕ × Doc) → List Frame → Option Blocks
next_key k room column pairs below = if is_some (pair_at k (pairs_of pairs)) then None else Some (inside true (an_open_map room column pairs k) below)

-- the pairs, with null at the key where its value is due
abbrev pub settled_pairs : Bool → List ℕ → List (List ℕ × Doc) → List (List ℕ × Doc)
settled_pairs due key pairs = if due then with_pair key null pairs else pairs

-- a mark that doesn't close the innermost block
abbrev pub place : Mark → Bool → Frame → List Frame → Option Blocks
place (Dash c) due (InList f) below = if nat_eq c f.column then Some (inside true (settle due (InList f)) below) else opens_list c due (InList f) below
place (Dash c) due (InMap f) below = opens_list c due (InMap f) below
place (Key c k) due (InList f) below = opens_map c k due (InList f) below
place (Key c k) due (InMap f) below =
    if nat_eq c f.column then next_key k f.room f.column (settled_pairs due f.key f.pairs) below else opens_map c k due (InMap f) below
place (Value d) due f below = if due && nat_le (depth d) (room_of f) then Some (inside false (fill d f) below) else None
place (Bare d) due f below = None

-- a mark closes the blocks that it lies outside of, and goes to the next
abbrev pub land : Mark → Bool → Frame → List Frame → Option Blocks
land m due f [] = if closes m f then None else place m due f []
land m due f (g ∷ below) = if closes m f then land m false (fill (frame_doc (settle due f)) g) below else place m due f (g ∷ below)

-- the first mark: lists and maps nest at most 100 deep
abbrev pub begin : Mark → Option Blocks
begin (Dash c) = Some (inside true (an_open_list 99 c []) [])
begin (Key c k) = Some (inside true (an_open_map 99 c [] k) [])
begin (Value d) = None
begin (Bare d) = if nat_le (depth d) 100 then Some (Alone d) else None

-- one mark more
abbrev pub step : Mark → Blocks → Option Blocks
step m Start = begin m
step m (Alone d) = None
step m (Within i) = land m i.due i.frame i.below

-- marks, one by one
abbrev pub run : Option Blocks → List Mark → Option Blocks
run o [] = o
run o (m ∷ marks) = run (option_and_then (step m) o) marks

-- all blocks close
abbrev pub close_all : Doc → List Frame → Doc
close_all d [] = d
close_all d (g ∷ below) = close_all (frame_doc (fill d g)) below

-- what was read, where no mark follows: null where there was none
abbrev pub finish : Blocks → Doc
finish Start = null
finish (Alone d) = d
finish (Within i) = close_all (frame_doc (settle i.due i.frame)) i.below

-- whether a scalar may come next: on the line of the dash or key before it, or alone
abbrev pub wants : Bool → Blocks → Bool
wants lone Start = lone
wants lone (Alone d) = false
wants lone (Within i) = if lone then false else i.due
