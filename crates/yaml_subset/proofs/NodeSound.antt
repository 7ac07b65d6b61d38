-- Where the machine comes to a document, the marks spell it.
use Rattle.std.proofs.Common.{◌≡◌, ◌-◌, ◌≤◌, ℕ, suc, Bool, true, false, nat_eq, nat_lt, nat_le, is_some, List, [], ◌∷◌, ◌++◌, Option, Some, None, option_map, if◌then◌else◌, refl, ap, sym, subst, ◌∙◌, arith, append_assoc, append-nil}
use Rattle.std.proofs.lemmas.Bool.Decides.{nat_tests}
use Rattle.std.proofs.lemmas.Option.{same_Some}
use Rattle.doc_tree.specs.Doc.{Doc, null, list, dict, docs_of, pairs_of, depth}
use Rattle.doc_tree.specs.Part.{pair_at, with_pair}
use Rattle.yaml_subset.specs.Machine.{an_open_list, an_open_map, close_all, closes, fill, finish, frame_doc, inside, land, next_key, opens_list, opens_map, place, room_of, run, settle, settled_pairs, step}
use Rattle.yaml_subset.specs.Nodes.{Node, nothing, value, block, Block, block_list, block_map, Items, first_item, next_item, Entries, first_entry, next_entry, SpellsMarks, empty, alone, one_block}
use Rattle.yaml_subset.specs.declared.mark.Mark.{Mark}
use Rattle.yaml_subset.specs.declared.mark.Mark.TheVariants.{Dash, Key, Value, Bare}
use Rattle.yaml_subset.specs.declared.blocks.Frame.{Frame}
use Rattle.yaml_subset.specs.declared.blocks.Frame.TheVariants.{InList, InMap}
use Rattle.yaml_subset.specs.declared.blocks.Blocks.{Blocks}
use Rattle.yaml_subset.specs.declared.blocks.Blocks.TheVariants.{Start, Alone, Within}
use Rattle.yaml_subset.proofs.MachineLemmas.{run_none}
use Rattle.yaml_subset.proofs.NodeRuns.{ends, lists_in, maps_in}

-- ---- what was read

-- the marks of a block so far
abbrev Shut : Frame → List Mark → Type 0
Shut (InList f) u = Items f.room f.column u f.trees
Shut (InMap f) u = Entries f.room f.column u f.pairs

-- the same where a node is due: they are with any node behind them
abbrev Due : Frame → List Mark → Type 0
Due f u = (behind : List Mark) (d : Doc) → Node (room_of f) (lists_in f) (maps_in f) behind d → Shut (fill d f) (u ++ behind)

abbrev Held : Bool → Frame → List Mark → Type 0
Held true f u = Due f u
Held false f u = Shut f u

-- a block may stand in another
abbrev Fits : Frame → Frame → Type 0
Fits (InList f) g = lists_in g ≤ f.column
Fits (InMap f) g = maps_in g ≤ f.column

-- the marks before a block are those of the blocks around it
abbrev Around : List Frame → Frame → List Mark → Type 0
Around [] f u = (u ≡ []) × (room_of f ≡ 99)
Around (g ∷ below) f u = (front : List Mark) × (own : List Mark) × (u ≡ front ++ own) × Around below g front × Due g own × (room_of g ≡ suc (room_of f)) × Fits f g

abbrev Inside : Bool → Frame → List Frame → List Mark → Type 0
Inside due f below u = (front : List Mark) × (own : List Mark) × (u ≡ front ++ own) × Around below f front × Held due f own

abbrev Has : Blocks → List Mark → Type 0
Has Start u = u ≡ []
Has (Alone d) u = (u ≡ Bare d ∷ []) × (depth d ≤ 100)
Has (Within i) u = Inside i.due i.frame i.below u

-- ---- a block that changes, and one that closes

around_fill : (below : List Frame) (d : Doc) (f : Frame) (u : List Mark) → Around below f u → Around below (fill d f) u
around_fill [] d (InList f) u a = a
around_fill [] d (InMap f) u a = a
around_fill (g ∷ below) d (InList f) u a = a
around_fill (g ∷ below) d (InMap f) u a = a

around_settle : (due : Bool) (below : List Frame) (f : Frame) (u : List Mark) → Around below f u → Around below (settle due f) u
around_settle true below f u a = around_fill below null f u a
around_settle false below f u a = a

settle_shuts : (due : Bool) (f : Frame) (u : List Mark) → Held due f u → Shut (settle due f) u
settle_shuts true f u h = subst (λ (l : List Mark). Shut (fill null f) l) (append-nil u) (h [] null nothing)
settle_shuts false f u h = h

-- a block that closes is a node of the one around it
shut_node : (f g : Frame) (u : List Mark) → Shut f u → room_of g ≡ suc (room_of f) → Fits f g → Node (room_of g) (lists_in g) (maps_in g) u (frame_doc f)
shut_node (InList f) g u shut room fits = subst (λ (n : ℕ). Node n (lists_in g) (maps_in g) u (list (docs_of f.trees))) (sym room) (block (block_list fits shut))
shut_node (InMap f) g u shut room fits = subst (λ (n : ℕ). Node n (lists_in g) (maps_in g) u (dict (pairs_of f.pairs))) (sym room) (block (block_map fits shut))

closes_in : (due : Bool) (f g : Frame) (below : List Frame) (u : List Mark) → Inside due f (g ∷ below) u → Inside false (fill (frame_doc (settle due f)) g) below u
closes_in due f g below u h =
    let (front, own, is, a, held) = h in
    let (outer, mine, same, around, g_due, room, fits) = around_settle due (g ∷ below) f front a in
    let shut = settle_shuts due f own held in
    (outer, mine ++ own, is ∙ ap (λ (l : List Mark). l ++ own) same ∙ append_assoc outer mine own, around_fill below (frame_doc (settle due f)) g outer around, g_due own (frame_doc (settle due f)) (shut_node (settle due f) g own shut room fits))

-- ---- one mark more

-- behind a mark that opens a node in the innermost block
behind_mark : (front own : List Mark) (m : Mark) → (front ++ own) ++ m ∷ [] ≡ front ++ (own ++ m ∷ [])
behind_mark front own m = append_assoc front own (m ∷ [])

list_due : (room c : ℕ) (trees : List Doc) (u : List Mark) → Items room c u trees → Due (an_open_list room c trees) (u ++ Dash c ∷ [])
list_due room c trees u items = λ behind d n. subst (λ (l : List Mark). Items room c l (trees ++ d ∷ [])) (sym (append_assoc u (Dash c ∷ []) behind)) (next_item items n)

map_due : (room c : ℕ) (pairs : List (List ℕ × Doc)) (k : List ℕ) (u : List Mark) → Entries room c u pairs → pair_at k (pairs_of pairs) ≡ None → Due (an_open_map room c pairs k) (u ++ Key c k ∷ [])
map_due room c pairs k u entries new = λ behind d n. subst (λ (l : List Mark). Entries room c l (with_pair k d pairs)) (sym (append_assoc u (Key c k ∷ []) behind)) (next_entry k entries new n)

-- what comes of one mark more
abbrev Next : Option Blocks → List Mark → Type 0
Next o u = (s : Blocks) → o ≡ Some s → Has s u

next_some : (s : Blocks) (u : List Mark) → Has s u → Next (Some s) u
next_some s u h = λ t is. subst (λ (x : Blocks). Has x u) (same_Some s t is) h

next_none : (u : List Mark) → Next None u
next_none u = λ t is. cc

next_if : (t : Bool) (a b : Option Blocks) (u : List Mark) → (t ≡ true → Next a u) → (t ≡ false → Next b u) → Next (if t then a else b) u
next_if true a b u one two = one refl
next_if false a b u one two = two refl

list_opens : (c : ℕ) (due : Bool) (f : Frame) (below : List Frame) (u : List Mark) → Inside due f below u → lists_in f ≤ c → Next (opens_list c due f below) (u ++ Dash c ∷ [])
list_opens c false f below u h right = next_none (u ++ Dash c ∷ [])
list_opens c true f below u h right =
    next_if (nat_lt 0 (room_of f)) (Some (inside true (an_open_list (room_of f - 1) c []) (f ∷ below))) None (u ++ Dash c ∷ [])
    (λ more. let (front, own, is, a, due) = h in
    let room : room_of f ≡ suc (room_of f - 1) = grind (arith, nat_tests, more) in
    next_some (inside true (an_open_list (room_of f - 1) c []) (f ∷ below)) (u ++ Dash c ∷ []) (u, Dash c ∷ [], refl, (front, own, is, a, due, room, right), λ behind d n. first_item n))
    (λ none. next_none (u ++ Dash c ∷ []))

map_opens : (c : ℕ) (k : List ℕ) (due : Bool) (f : Frame) (below : List Frame) (u : List Mark) → Inside due f below u → maps_in f ≤ c → Next (opens_map c k due f below) (u ++ Key c k ∷ [])
map_opens c k false f below u h right = next_none (u ++ Key c k ∷ [])
map_opens c k true f below u h right =
    next_if (nat_lt 0 (room_of f)) (Some (inside true (an_open_map (room_of f - 1) c [] k) (f ∷ below))) None (u ++ Key c k ∷ [])
    (λ more. let (front, own, is, a, due) = h in
    let room : room_of f ≡ suc (room_of f - 1) = grind (arith, nat_tests, more) in
    next_some (inside true (an_open_map (room_of f - 1) c [] k) (f ∷ below)) (u ++ Key c k ∷ []) (u, Key c k ∷ [], refl, (front, own, is, a, due, room, right), λ behind d n. first_entry k n))
    (λ none. next_none (u ++ Key c k ∷ []))

-- an item more
list_goes : (c : ℕ) (f : Frame) (below : List Frame) (u : List Mark) → (front : List Mark) × (own : List Mark) × (u ≡ front ++ own) × Around below f front × Shut f own
    → (room : ℕ) (trees : List Doc) → f ≡ an_open_list room c trees → Has (inside true f below) (u ++ Dash c ∷ [])
list_goes c f below u h room trees is =
    let (front, own, same, a, shut) = h in
    let due : Due f (own ++ Dash c ∷ []) = subst (λ (x : Frame). Due x (own ++ Dash c ∷ [])) (sym is) (list_due room c trees own (subst (λ (x : Frame). Shut x own) is shut)) in
    (front, own ++ Dash c ∷ [], ap (λ (l : List Mark). l ++ Dash c ∷ []) same ∙ behind_mark front own (Dash c), a, due)

-- a key more
key_goes : (c : ℕ) (k : List ℕ) (room column : ℕ) (pairs : List (List ℕ × Doc)) (old : List ℕ) (below : List Frame) (u : List Mark) → c ≡ column → Inside false (an_open_map room column pairs old) below u
    → Next (next_key k room column pairs below) (u ++ Key c k ∷ [])
key_goes c k room column pairs old below u at h =
    cases (pair_at k (pairs_of pairs)) refl
  where
    goes : pair_at k (pairs_of pairs) ≡ None → Has (inside true (an_open_map room column pairs k) below) (u ++ Key c k ∷ [])
    goes new =
        let (front, own, same, a, shut) = h in
        let around : Around below (an_open_map room column pairs k) front = rekey below front a in
        subst (λ (n : ℕ). Has (inside true (an_open_map room column pairs k) below) (u ++ Key n k ∷ [])) (sym at)
        (front, own ++ Key column k ∷ [], ap (λ (l : List Mark). l ++ Key column k ∷ []) same ∙ behind_mark front own (Key column k), around, map_due room column pairs k own shut new)
      where
        rekey : (below : List Frame) (front : List Mark) → Around below (an_open_map room column pairs old) front → Around below (an_open_map room column pairs k) front
        rekey [] front a = a
        rekey (g ∷ below) front a = a

    cases : (o : Option Doc) → pair_at k (pairs_of pairs) ≡ o → Next (if is_some (pair_at k (pairs_of pairs)) then None else Some (inside true (an_open_map room column pairs k) below)) (u ++ Key c k ∷ [])
    cases None is = rw is (next_some (inside true (an_open_map room column pairs k) below) (u ++ Key c k ∷ []) (goes is))
    cases (Some d) is = rw is (next_none (u ++ Key c k ∷ []))

settled : (due : Bool) (f : Frame) (below : List Frame) (u : List Mark) → Inside due f below u → Inside false (settle due f) below u
settled due f below u h = let (front, own, same, a, held) = h in (front, own, same, around_settle due below f front a, settle_shuts due f own held)

value_goes : (d : Doc) (f : Frame) (below : List Frame) (u : List Mark) → Inside true f below u → depth d ≤ room_of f → Has (inside false (fill d f) below) (u ++ Value d ∷ [])
value_goes d f below u h fits =
    let (front, own, same, a, due) = h in
    (front, own ++ Value d ∷ [], ap (λ (l : List Mark). l ++ Value d ∷ []) same ∙ behind_mark front own (Value d), around_fill below d f front a, due (Value d ∷ []) d (value fits))

place_goes : (m : Mark) (due : Bool) (f : Frame) (below : List Frame) (u : List Mark) → Inside due f below u → closes m f ≡ false → Next (place m due f below) (u ++ m ∷ [])
place_goes (Dash c) true (InList f) below u h stays =
    next_if (nat_eq c f.column) _ _ (u ++ Dash c ∷ [])
    (λ same. let at : f.column ≡ c = grind (arith, nat_tests, same) in
    next_some (inside true (settle true (InList f)) below) _ (list_goes c (settle true (InList f)) below u (settled true (InList f) below u h) f.room (f.trees ++ null ∷ []) (ap (λ (n : ℕ). an_open_list f.room n (f.trees ++ null ∷ [])) at)))
    (λ apart. list_opens c true (InList f) below u h (grind (arith, nat_tests, apart, stays)))
place_goes (Dash c) false (InList f) below u h stays =
    next_if (nat_eq c f.column) _ _ (u ++ Dash c ∷ [])
    (λ same. let at : f.column ≡ c = grind (arith, nat_tests, same) in
    next_some (inside true (InList f) below) _ (list_goes c (InList f) below u h f.room f.trees (ap (λ (n : ℕ). an_open_list f.room n f.trees) at)))
    (λ apart. next_none (u ++ Dash c ∷ []))
place_goes (Dash c) due (InMap f) below u h stays = list_opens c due (InMap f) below u h (grind (arith, nat_tests, stays))
place_goes (Key c k) due (InList f) below u h stays = map_opens c k due (InList f) below u h (grind (arith, nat_tests, stays))
place_goes (Key c k) true (InMap f) below u h stays =
    next_if (nat_eq c f.column) _ _ (u ++ Key c k ∷ [])
    (λ same. key_goes c k f.room f.column (settled_pairs true f.key f.pairs) [] below u (grind (arith, nat_tests, same)) (settled true (InMap f) below u h))
    (λ apart. map_opens c k true (InMap f) below u h (grind (arith, nat_tests, apart, stays)))
place_goes (Key c k) false (InMap f) below u h stays =
    next_if (nat_eq c f.column) _ _ (u ++ Key c k ∷ [])
    (λ same. key_goes c k f.room f.column f.pairs f.key below u (grind (arith, nat_tests, same)) h)
    (λ apart. next_none (u ++ Key c k ∷ []))
place_goes (Value d) true f below u h stays =
    next_if (nat_le (depth d) (room_of f)) _ _ (u ++ Value d ∷ [])
    (λ fits. next_some (inside false (fill d f) below) _ (value_goes d f below u h (grind (arith, nat_tests, fits))))
    (λ deep. next_none (u ++ Value d ∷ []))
place_goes (Value d) false f below u h stays = next_none (u ++ Value d ∷ [])
place_goes (Bare d) due f below u h stays = next_none (u ++ Bare d ∷ [])

land_goes : (m : Mark) (due : Bool) (f : Frame) (below : List Frame) (u : List Mark) → Inside due f below u → Next (land m due f below) (u ++ m ∷ [])
land_goes m due f [] u h = next_if (closes m f) _ _ (u ++ m ∷ []) (λ out. next_none (u ++ m ∷ [])) (λ stays. place_goes m due f [] u h stays)
land_goes m due f (g ∷ below) u h =
    let outer = land_goes m false (fill (frame_doc (settle due f)) g) below u (closes_in due f g below u h) in
    next_if (closes m f) _ _ (u ++ m ∷ []) (λ out. outer) (λ stays. place_goes m due f (g ∷ below) u h stays)

begin_goes : (m : Mark) → Next (step m Start) (m ∷ [])
begin_goes (Dash c) = next_some _ _ ([], Dash c ∷ [], refl, (refl, refl), λ behind d n. first_item n)
begin_goes (Key c k) = next_some _ _ ([], Key c k ∷ [], refl, (refl, refl), λ behind d n. first_entry k n)
begin_goes (Value d) = next_none (Value d ∷ [])
begin_goes (Bare d) =
    next_if (nat_le (depth d) 100) _ _ (Bare d ∷ []) (λ fits. next_some (Alone d) (Bare d ∷ []) (refl, grind (arith, nat_tests, fits))) (λ deep. next_none (Bare d ∷ []))

step_goes : (m : Mark) (s : Blocks) (u : List Mark) → Has s u → Next (step m s) (u ++ m ∷ [])
step_goes m Start u h = subst (λ (l : List Mark). Next (step m Start) (l ++ m ∷ [])) (sym h) (begin_goes m)
step_goes m (Alone d) u h = next_none (u ++ m ∷ [])
step_goes m (Within i) u h = land_goes m i.due i.frame i.below u h

behind_step : (o : Option Blocks) (ms : List Mark) (u : List Mark) → ((s : Blocks) → o ≡ Some s → Next (run (Some s) ms) u) → Next (run o ms) u
behind_step None ms u goes = λ t is. absurd (let none = sym is ∙ run_none ms in cc)
behind_step (Some s) ms u goes = goes s refl

run_goes : (ms : List Mark) (s : Blocks) (u : List Mark) → Has s u → Next (run (Some s) ms) (u ++ ms)
run_goes [] s u h = subst (λ (l : List Mark). Next (Some s) l) (sym (append-nil u)) (next_some s u h)
run_goes (m ∷ ms) s u h =
    subst (λ (l : List Mark). Next (run (step m s) ms) l) (append_assoc u (m ∷ []) ms)
    (behind_step (step m s) ms ((u ++ m ∷ []) ++ ms) (λ x is. run_goes ms x (u ++ m ∷ []) (step_goes m s u h x is)))

-- ---- the end

close_spells : (below : List Frame) (f : Frame) (front own : List Mark) → Around below f front → Shut f own → SpellsMarks (front ++ own) (close_all (frame_doc f) below)
close_spells [] (InList f) front own a shut =
    let room : suc f.room ≡ 100 = omega (arith, a.1) in
    subst (λ (l : List Mark). SpellsMarks (l ++ own) (list (docs_of f.trees))) (sym a.0) (one_block (subst (λ (n : ℕ). Block n 0 0 own (list (docs_of f.trees))) room (block_list (omega arith) shut)))
close_spells [] (InMap f) front own a shut =
    let room : suc f.room ≡ 100 = omega (arith, a.1) in
    subst (λ (l : List Mark). SpellsMarks (l ++ own) (dict (pairs_of f.pairs))) (sym a.0) (one_block (subst (λ (n : ℕ). Block n 0 0 own (dict (pairs_of f.pairs))) room (block_map (omega arith) shut)))
close_spells (g ∷ below) f front own a shut =
    let (outer, mine, same, around, due, room, fits) = a in
    let again = close_spells below (fill (frame_doc f) g) outer (mine ++ own) (around_fill below (frame_doc f) g outer around) (due own (frame_doc f) (shut_node f g own shut room fits)) in
    subst (λ (l : List Mark). SpellsMarks l (close_all (frame_doc (fill (frame_doc f) g)) below)) (sym (append_assoc outer mine own) ∙ ap (λ (l : List Mark). l ++ own) (sym same)) again

finish_spells : (s : Blocks) (u : List Mark) → Has s u → SpellsMarks u (finish s)
finish_spells Start u h = subst (λ (l : List Mark). SpellsMarks l null) (sym h) empty
finish_spells (Alone d) u h = subst (λ (l : List Mark). SpellsMarks l d) (sym h.0) (alone h.1)
finish_spells (Within i) u h =
    let (front, own, same, a, held) = h in
    subst (λ (l : List Mark). SpellsMarks l (close_all (frame_doc (settle i.due i.frame)) i.below)) (sym same) (close_spells i.below (settle i.due i.frame) front own (around_settle i.due i.below i.frame front a) (settle_shuts i.due i.frame own held))

-- marks that come to a document spell it
pub run_marks : (u : List Mark) (d : Doc) → ends (Some Start) u ≡ Some d → SpellsMarks u d
run_marks u d is = cases (run (Some Start) u) refl
  where
    cases : (o : Option Blocks) → run (Some Start) u ≡ o → SpellsMarks u d
    cases None none = absurd (let no_ = sym is ∙ ap (option_map finish) none in cc)
    cases (Some s) some =
        let same = same_Some (finish s) d (sym (ap (option_map finish) some) ∙ is) in
        subst (λ (x : Doc). SpellsMarks u x) same (finish_spells s u (run_goes u Start [] refl s some))
