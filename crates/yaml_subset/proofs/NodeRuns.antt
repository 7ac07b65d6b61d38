-- Where marks spell a document, the machine comes to it.
use Rattle.std.proofs.Common.{◌≡◌, ◌-◌, ◌+◌, ◌<◌, ◌≤◌, ℕ, suc, Bool, true, false, nat_eq, nat_lt, nat_le, List, [], ◌∷◌, ◌++◌, Option, Some, None, option_map, if◌then◌else◌, inl, inr, refl, ap, sym, ◌∙◌, arith, append_assoc, append-nil}
use Rattle.std.proofs.lemmas.Bool.{cases_Bool, lt-ltb, le-ltb, le-leb, lt-leb, ne_eqb, eq-eqb}
use Rattle.std.proofs.lemmas.Bool.Decides.{nat_tests}
use Rattle.std.specs.Prelude.{⊤}
use Rattle.doc_tree.specs.Doc.{Doc, null, list, dict, docs_of, pairs_of, depth}
use Rattle.doc_tree.specs.Part.{pair_at}
use Rattle.yaml_subset.specs.Machine.{an_open_list, an_open_map, closes, fill, finish, inside, land, place, room_of, run, step}
use Rattle.yaml_subset.specs.Nodes.{Node, nothing, value, block, Block, block_list, block_map, Items, first_item, next_item, Entries, first_entry, next_entry, SpellsMarks, empty, alone, one_block}
use Rattle.yaml_subset.specs.declared.mark.Mark.{Mark}
use Rattle.yaml_subset.specs.declared.mark.Mark.TheVariants.{Dash, Key, Value, Bare}
use Rattle.yaml_subset.specs.declared.blocks.Frame.{Frame}
use Rattle.yaml_subset.specs.declared.blocks.Frame.TheVariants.{InList, InMap}
use Rattle.yaml_subset.specs.declared.blocks.Blocks.{Blocks}
use Rattle.yaml_subset.specs.declared.blocks.Blocks.TheVariants.{Start, Alone}
use Rattle.yaml_subset.proofs.MachineLemmas.{land_stops}

-- the columns from which on a list and a map may stand in a block
abbrev pub lists_in : Frame → ℕ
lists_in (InList f) = f.column + 1
lists_in (InMap f) = f.column

abbrev pub maps_in : Frame → ℕ
maps_in (InList f) = f.column + 1
maps_in (InMap f) = f.column + 1

-- the document that marks come to from here
abbrev pub ends : Option Blocks → List Mark → Option Doc
ends o ms = option_map finish (run o ms)

-- no mark, or first one that is no part of a node in this block
abbrev pub Leaves : Frame → List Mark → Type 0
Leaves f [] = ⊤
Leaves f (Dash c ∷ ms) = c < lists_in f
Leaves f (Key c k ∷ ms) = c < maps_in f
Leaves f (Value d ∷ ms) = ⊥
Leaves f (Bare d ∷ ms) = ⊥

-- ---- one mark

value_goes : (d : Doc) (f : Frame) (below : List Frame) → depth d ≤ room_of f → land (Value d) true f below ≡ Some (inside false (fill d f) below)
value_goes d f below fits = let room : nat_le (depth d) (room_of f) ≡ true = le-leb _ _ fits in land_stops (Value d) true f below refl ∙ ap (λ (t : Bool). if t then Some (inside false (fill d f) below) else None) room

dash_opens : (c room : ℕ) (f : Frame) (below : List Frame) → suc room ≡ room_of f → lists_in f ≤ c → land (Dash c) true f below ≡ Some (inside true (an_open_list room c []) (f ∷ below))
dash_opens c room (InList f) below some right =
    let stays : nat_lt c f.column ≡ false = le-ltb c f.column (omega arith) in
    let apart : nat_eq c f.column ≡ false = ne_eqb c f.column (λ e. omega arith) in
    let more : nat_lt 0 f.room ≡ true = lt-ltb 0 f.room (omega arith) in
    let less : f.room - 1 ≡ room = omega arith in
    land_stops (Dash c) true (InList f) below stays ∙ rw (apart, more, less) refl
dash_opens c room (InMap f) below some right =
    let stays : nat_lt c f.column ≡ false = le-ltb c f.column (omega arith) in
    let more : nat_lt 0 f.room ≡ true = lt-ltb 0 f.room (omega arith) in
    let less : f.room - 1 ≡ room = omega arith in
    land_stops (Dash c) true (InMap f) below stays ∙ rw (more, less) refl

key_opens : (c room : ℕ) (k : List ℕ) (f : Frame) (below : List Frame) → suc room ≡ room_of f → maps_in f ≤ c → land (Key c k) true f below ≡ Some (inside true (an_open_map room c [] k) (f ∷ below))
key_opens c room k (InList f) below some right =
    let stays : nat_le c f.column ≡ false = lt-leb c f.column (omega arith) in
    let more : nat_lt 0 f.room ≡ true = lt-ltb 0 f.room (omega arith) in
    let less : f.room - 1 ≡ room = omega arith in
    land_stops (Key c k) true (InList f) below stays ∙ rw (more, less) refl
key_opens c room k (InMap f) below some right =
    let stays : nat_lt c f.column ≡ false = le-ltb c f.column (omega arith) in
    let apart : nat_eq c f.column ≡ false = ne_eqb c f.column (λ e. omega arith) in
    let more : nat_lt 0 f.room ≡ true = lt-ltb 0 f.room (omega arith) in
    let less : f.room - 1 ≡ room = omega arith in
    land_stops (Key c k) true (InMap f) below stays ∙ rw (apart, more, less) refl

dash_next : (c room : ℕ) (trees : List Doc) (below : List Frame) → land (Dash c) false (an_open_list room c trees) below ≡ Some (inside true (an_open_list room c trees) below)
dash_next c room trees below =
    let stays : nat_lt c c ≡ false = le-ltb c c (omega arith) in
    let same : nat_eq c c ≡ true = eq-eqb c c refl in
    land_stops (Dash c) false (an_open_list room c trees) below stays ∙ rw same refl

key_next : (c room : ℕ) (pairs : List (List ℕ × Doc)) (k old : List ℕ) (below : List Frame) → pair_at k (pairs_of pairs) ≡ None
    → land (Key c k) false (an_open_map room c pairs old) below ≡ Some (inside true (an_open_map room c pairs k) below)
key_next c room pairs k old below new =
    let stays : nat_lt c c ≡ false = le-ltb c c (omega arith) in
    let same : nat_eq c c ≡ true = eq-eqb c c refl in
    land_stops (Key c k) false (an_open_map room c pairs old) below stays ∙ rw (same, new) refl

-- ---- where nothing stands, null is filled in

both_land : (m : Mark) (f : Frame) (below : List Frame) → closes m f ≡ closes m (fill null f) → (closes m f ≡ false → place m true f below ≡ place m false (fill null f) below) → land m true f below ≡ land m false (fill null f) below
both_land m f [] same places = elim (cases_Bool (closes m f)) [
  | inl out ↦ let out' = sym same ∙ out in rw (out, out') refl
  | inr stays ↦ let stays' = sym same ∙ stays in rw (stays, stays') (places stays)
]
both_land m f (g ∷ below) same places = elim (cases_Bool (closes m f)) [
  | inl out ↦ let out' = sym same ∙ out in rw (out, out') refl
  | inr stays ↦ let stays' = sym same ∙ stays in rw (stays, stays') (places stays)
]

none_lands : (m : Mark) (ms : List Mark) (f : Frame) (below : List Frame) → Leaves f (m ∷ ms) → land m true f below ≡ land m false (fill null f) below
none_lands (Dash c) ms (InList f) below leaves = both_land (Dash c) (InList f) below refl (λ stays. let same : nat_eq c f.column ≡ true = grind (arith, nat_tests, stays, leaves) in rw same refl)
none_lands (Dash c) ms (InMap f) below leaves = both_land (Dash c) (InMap f) below refl (λ stays. absurd (grind (arith, nat_tests, stays, leaves)))
none_lands (Key c k) ms (InList f) below leaves = both_land (Key c k) (InList f) below refl (λ stays. absurd (grind (arith, nat_tests, stays, leaves)))
none_lands (Key c k) ms (InMap f) below leaves = both_land (Key c k) (InMap f) below refl (λ stays. let same : nat_eq c f.column ≡ true = grind (arith, nat_tests, stays, leaves) in rw same refl)
none_lands (Value d) ms f below leaves = absurd leaves
none_lands (Bare d) ms f below leaves = absurd leaves

none_runs : (v : List Mark) (f : Frame) (below : List Frame) → Leaves f v → ends (Some (inside true f below)) v ≡ ends (Some (inside false (fill null f) below)) v
none_runs [] f below leaves = refl
none_runs (m ∷ v) f below leaves = ap (λ (o : Option Blocks). ends o v) (none_lands m v f below leaves)

-- ---- what leaves a node leaves the block in it, which closes

maps_lists : (f : Frame) → (maps_in f ≤ lists_in f + 1) × (lists_in f ≤ maps_in f)
maps_lists (InList f) = (omega arith, omega arith)
maps_lists (InMap f) = (omega arith, omega arith)

leaves_list : (v : List Mark) (c room : ℕ) (trees : List Doc) (f : Frame) → lists_in f ≤ c → Leaves f v → Leaves (an_open_list room c trees) v
leaves_list [] c room trees f right leaves = tt
leaves_list (Dash k ∷ v) c room trees f right leaves = omega arith
leaves_list (Key k name ∷ v) c room trees f right leaves = omega (arith, (maps_lists f).0)
leaves_list (Value d ∷ v) c room trees f right leaves = absurd leaves
leaves_list (Bare d ∷ v) c room trees f right leaves = absurd leaves

leaves_map : (v : List Mark) (c room : ℕ) (pairs : List (List ℕ × Doc)) (k : List ℕ) (f : Frame) → maps_in f ≤ c → Leaves f v → Leaves (an_open_map room c pairs k) v
leaves_map [] c room pairs key f right leaves = tt
leaves_map (Dash k ∷ v) c room pairs key f right leaves = omega (arith, (maps_lists f).1)
leaves_map (Key k name ∷ v) c room pairs key f right leaves = omega arith
leaves_map (Value d ∷ v) c room pairs key f right leaves = absurd leaves
leaves_map (Bare d ∷ v) c room pairs key f right leaves = absurd leaves

list_closes : (v : List Mark) (c room : ℕ) (trees : List Doc) (f : Frame) (below : List Frame) → lists_in f ≤ c → Leaves f v
    → ends (Some (inside false (an_open_list room c trees) (f ∷ below))) v ≡ ends (Some (inside false (fill (list (docs_of trees)) f) below)) v
list_closes [] c room trees f below right leaves = refl
list_closes (Dash k ∷ v) c room trees f below right leaves = let out : nat_lt k c ≡ true = lt-ltb k c (omega arith) in rw out refl
list_closes (Key k name ∷ v) c room trees f below right leaves = let out : nat_le k c ≡ true = le-leb k c (omega (arith, (maps_lists f).0)) in rw out refl
list_closes (Value d ∷ v) c room trees f below right leaves = absurd leaves
list_closes (Bare d ∷ v) c room trees f below right leaves = absurd leaves

map_closes : (v : List Mark) (c room : ℕ) (pairs : List (List ℕ × Doc)) (f : Frame) (below : List Frame) → maps_in f ≤ c → Leaves f v
    → ends (Some (inside false (an_open_map room c pairs []) (f ∷ below))) v ≡ ends (Some (inside false (fill (dict (pairs_of pairs)) f) below)) v
map_closes [] c room pairs f below right leaves = refl
map_closes (Dash k ∷ v) c room pairs f below right leaves = let out : nat_lt k c ≡ true = lt-ltb k c (omega (arith, (maps_lists f).1)) in rw out refl
map_closes (Key k name ∷ v) c room pairs f below right leaves = let out : nat_lt k c ≡ true = lt-ltb k c (omega arith) in rw out refl
map_closes (Value d ∷ v) c room pairs f below right leaves = absurd leaves
map_closes (Bare d ∷ v) c room pairs f below right leaves = absurd leaves

-- ---- nodes, one after another

mutual
  node_runs : {room lists maps : ℕ} {u : List Mark} {d : Doc} → Node room lists maps u d → (f : Frame) (below : List Frame) (v : List Mark) → room ≡ room_of f → lists ≡ lists_in f → maps ≡ maps_in f → Leaves f v
      → ends (Some (inside true f below)) (u ++ v) ≡ ends (Some (inside false (fill d f) below)) v
  node_runs nothing f below v r l m leaves = none_runs v f below leaves
  node_runs (value {d = d} fits) f below v r l m leaves = ap (λ (o : Option Blocks). ends o v) (value_goes d f below (omega arith))
  node_runs (block b) f below v r l m leaves = block_runs b f below v r l m leaves

  block_runs : {room lists maps : ℕ} {u : List Mark} {d : Doc} → Block room lists maps u d → (f : Frame) (below : List Frame) (v : List Mark) → room ≡ room_of f → lists ≡ lists_in f → maps ≡ maps_in f → Leaves f v
      → ends (Some (inside true f below)) (u ++ v) ≡ ends (Some (inside false (fill d f) below)) v
  block_runs (block_list {room = room} {column = c} {ds = ds} right items) f below v r l m leaves =
      items_run items (inside true f below) (f ∷ below) v (dash_opens c room f below r (omega arith)) (leaves_list v c room ds f (omega arith) leaves)
      ∙ list_closes v c room ds f below (omega arith) leaves
  block_runs (block_map {room = room} {column = c} {ps = ps} right entries) f below v r l m leaves =
      entries_run entries (inside true f below) (f ∷ below) v (λ k. key_opens c room k f below r (omega arith)) (leaves_map v c room ps [] f (omega arith) leaves)
      ∙ map_closes v c room ps f below (omega arith) leaves

  items_run : {room c : ℕ} {u : List Mark} {ds : List Doc} → Items room c u ds → (s : Blocks) (outer : List Frame) (v : List Mark) → step (Dash c) s ≡ Some (inside true (an_open_list room c []) outer) → Leaves (an_open_list room c ds) v
      → ends (Some s) (u ++ v) ≡ ends (Some (inside false (an_open_list room c ds) outer)) v
  items_run (first_item {room = room} {column = c} {behind = behind} n) s outer v opens leaves =
      ap (λ (o : Option Blocks). ends o (behind ++ v)) opens ∙ node_runs n (an_open_list room c []) outer v refl refl refl leaves
  items_run (next_item {room = room} {column = c} {before = before} {behind = behind} {ds = ds} items n) s outer v opens leaves =
      ap (λ (ms : List Mark). ends (Some s) ms) (append_assoc before (Dash c ∷ behind) v)
      ∙ items_run items s outer (Dash c ∷ (behind ++ v)) opens (omega arith)
      ∙ ap (λ (o : Option Blocks). ends o (behind ++ v)) (dash_next c room ds outer)
      ∙ node_runs n (an_open_list room c ds) outer v refl refl refl leaves

  entries_run : {room c : ℕ} {u : List Mark} {ps : List (List ℕ × Doc)} → Entries room c u ps → (s : Blocks) (outer : List Frame) (v : List Mark) → ((k : List ℕ) → step (Key c k) s ≡ Some (inside true (an_open_map room c [] k) outer))
      → Leaves (an_open_map room c ps []) v → ends (Some s) (u ++ v) ≡ ends (Some (inside false (an_open_map room c ps []) outer)) v
  entries_run (first_entry {room = room} {column = c} {behind = behind} k n) s outer v opens leaves =
      ap (λ (o : Option Blocks). ends o (behind ++ v)) (opens k) ∙ node_runs n (an_open_map room c [] k) outer v refl refl refl leaves
  entries_run (next_entry {room = room} {column = c} {before = before} {behind = behind} {ps = ps} k entries new n) s outer v opens leaves =
      ap (λ (ms : List Mark). ends (Some s) ms) (append_assoc before (Key c k ∷ behind) v)
      ∙ entries_run entries s outer (Key c k ∷ (behind ++ v)) opens (omega arith)
      ∙ ap (λ (o : Option Blocks). ends o (behind ++ v)) (key_next c room ps k [] outer new)
      ∙ node_runs n (an_open_map room c ps k) outer v refl refl refl leaves

-- ---- the whole

block_begins : {room lists maps : ℕ} {u : List Mark} {d : Doc} → Block room lists maps u d → room ≡ 100 → ends (Some Start) u ≡ Some d
block_begins (block_list {room = room} {column = c} {marks = u} {ds = ds} right items) is =
    let less : 99 ≡ room = omega arith in
    ap (λ (ms : List Mark). ends (Some Start) ms) (sym (append-nil u))
    ∙ items_run items Start [] [] (ap (λ (n : ℕ). Some (inside true (an_open_list n c []) [])) less) tt
block_begins (block_map {room = room} {column = c} {marks = u} {ps = ps} right entries) is =
    let less : 99 ≡ room = omega arith in
    ap (λ (ms : List Mark). ends (Some Start) ms) (sym (append-nil u))
    ∙ entries_run entries Start [] [] (λ k. ap (λ (n : ℕ). Some (inside true (an_open_map n c [] k) [])) less) tt

-- marks that spell a document come to it
pub marks_run : (u : List Mark) (d : Doc) → SpellsMarks u d → ends (Some Start) u ≡ Some d
marks_run u d empty = refl
marks_run u d (alone shallow) = ap (λ (t : Bool). option_map finish (if t then Some (Alone d) else None)) (le-leb (depth d) 100 shallow)
marks_run u d (one_block b) = block_begins b refl
