-- Moves that keep the conditions of an organisation's files.
use Rattle.std.proofs.Common.{◌≡◌, ℕ, Bool, true, false, cond, ◌||◌, List, [], ◌∷◌, length, filter, Option, Some, None, is_some, option_map, refl, ap, ◌∙◌}
use Rattle.std.specs.Cmp.Lexicographic.{nat_list_cmp_total}
use Rattle.std.specs.FinMap as finite
use Rattle.std.specs.Ordering.{eq_by_cmp}
use Rattle.doc_tree.specs.Text.{text_cmp}
use Rattle.sandboxes.proofs.StockLemmas.{get-with_committed}
use Rattle.sandboxes.specs.Sandboxes.{Holding, begun, committed, has_file, is_at_end, nothing, sums_of, upload_fault, uploaded, with_file, with_sandbox}
use Rattle.sandboxes.specs.Sums.{lists}
use Rattle.sandboxes.specs.declared.stored.Stored.{Stored}
use Rattle.shelves.proofs.ShelfLaws.{tied_name}
use Rattle.org_core.specs.FileMoves.{after_all, after_file_move, files_after_move, files_within, is_complete, takes_shelf_room, shelved_by}
use Rattle.org_core.specs.FullStates.{FullState, MeetsFileConditions}
use Rattle.org_core.specs.Keeping.{KeepsFileConditions, NeverShelves, full_of}
use Rattle.org_core.specs.Moves.{after_move, opens, outside, within}
use Rattle.org_core.specs.Outcomes.{outcome_of}
use Rattle.org_core.specs.Rules.{Rules}
use Rattle.org_core.specs.States.{Organisation, State, shelved_of}
use Rattle.org_shelves.proofs.StayingLemmas.{nothing_there, stay}
use Rattle.org_shelves.specs.Files.{AreThere, is_committed, is_committed_file}
use Rattle.org_shelves.specs.Laws.{NamesWhatIsThere}
use Rattle.org_shelves.specs.declared.shelf_moves.ShelfMove.TheVariants.{PutVersion, TakeVersion, PutArtifact, TakeArtifact, PutRevision, TakePolicy, PutGroup, TakeGroup}
use Rattle.org_core.specs.declared.file_moves.FileMove.{FileMove}
use Rattle.org_core.specs.declared.file_moves.FileMove.TheVariants.{Begin, Upload, Commit}
use Rattle.org_core.specs.declared.moves.Move.{Move}
use Rattle.org_core.specs.declared.moves.Move.TheVariants.{Open, Put, TakeOut, PutList, TakeList, AddUser, RemoveUser, AddClient, RemoveClient, PutGroup, RemoveGroup, OnShelves, OnFiles}

-- ---- committed files stay committed

begun_stays : (org : List ℕ) (sums : List (List ℕ)) (files : Holding) (sum : List ℕ) → is_committed files sum ≡ true → is_committed (begun org sums files) sum ≡ true
begun_stays org sums files sum is = elim (is_at_end files) as (λ b. is_committed (cond b files (with_sandbox org sums files)) sum ≡ true) [ true ↦ is | false ↦ is ]

absent_or : (b c : Bool) (found new : Option Stored) → is_committed_file found ≡ true → (b ≡ true → found ≡ None) → is_committed_file (cond b new found) ≡ true
absent_or true c None new is absent = cc
absent_or true c (Some stored) new is absent = cc (absent refl)
absent_or false c found new is absent = is

no_file : (found : Option Stored) → is_some found ≡ false → found ≡ None
no_file None none = refl
no_file (Some stored) none = cc

added_stays : (sum file : List ℕ) (files : Holding) (q : List ℕ) → is_committed files q ≡ true → has_file files sum ≡ false
    → is_committed_file (finite.get (finite.insert files.files sum (record { file = file; committed = false })) q) ≡ true
added_stays sum file files q is none =
    ap is_committed_file (finite.get-insert nat_list_cmp_total files.files sum (record { file = file; committed = false }) q)
    ∙ absent_or (eq_by_cmp text_cmp q sum) true (finite.get files.files q) (Some (record { file = file; committed = false })) is
    (λ tie. no_file (finite.get files.files q) (ap (λ (n : List ℕ). is_some (finite.get files.files n)) (tied_name q sum tie) ∙ none))

with_file_stays : (sum file : List ℕ) (files : Holding) (q : List ℕ) (b : Bool) → is_committed files q ≡ true → has_file files sum ≡ b
    → is_committed (cond b files (record { files = finite.insert files.files sum (record { file = file; committed = false }); sandboxes = files.sandboxes; count = files.count })) q ≡ true
with_file_stays sum file files q true is there = is
with_file_stays sum file files q false is none = added_stays sum file files q is none

uploaded_stays : (asked file : List ℕ) (files : Holding) (sum : List ℕ) → is_committed files sum ≡ true → is_committed (uploaded asked file files) sum ≡ true
uploaded_stays asked file files sum is =
    elim (is_some (upload_fault asked file files)) as (λ b. is_committed (cond b files (with_file asked file files)) sum ≡ true) [
      | true ↦ is
      | false ↦ with_file_stays asked file files sum (has_file files asked) is refl
    ]

marked_stays : (found : Option Stored) (among : Bool) → is_committed_file found ≡ true → is_committed_file (option_map (λ (stored : Stored). record { file = stored.file; committed = stored.committed || among }) found) ≡ true
marked_stays None among is = cc
marked_stays (Some stored) among is = ap (λ b. b || among) is

commit_stays : (id : List ℕ) (files : Holding) (sum : List ℕ) → is_committed files sum ≡ true → is_committed (committed id files) sum ≡ true
commit_stays id files sum is = ap is_committed_file (get-with_committed (sums_of files id) files.files sum) ∙ marked_stays (finite.get files.files sum) (lists (sums_of files id) sum) is

-- a move on files leaves what is committed committed
file_move_stays : (org : List ℕ) (move : FileMove) (files : Holding) (sum : List ℕ) → is_committed files sum ≡ true → is_committed (after_file_move org move files) sum ≡ true
file_move_stays org (Begin sums) files sum is = begun_stays org sums files sum is
file_move_stays org (Upload asked file) files sum is = uploaded_stays asked file files sum is
file_move_stays org (Commit id) files sum is = elim (is_complete id files) as (λ b. is_committed (cond b (committed id files) files) sum ≡ true) [ true ↦ commit_stays id files sum is | false ↦ is ]

-- ---- any moves

-- each file that what this move puts on a shelf names is there
abbrev pub IsNamedThere : Move → Holding → Type 0
IsNamedThere Open files = Unit {0}
IsNamedThere (Put key object) files = Unit {0}
IsNamedThere (TakeOut key) files = Unit {0}
IsNamedThere (PutList key list) files = Unit {0}
IsNamedThere (TakeList key) files = Unit {0}
IsNamedThere (AddUser comer) files = Unit {0}
IsNamedThere (RemoveUser name) files = Unit {0}
IsNamedThere (AddClient comer) files = Unit {0}
IsNamedThere (RemoveClient name) files = Unit {0}
IsNamedThere (PutGroup name members) files = Unit {0}
IsNamedThere (RemoveGroup name) files = Unit {0}
IsNamedThere (OnShelves move) files = NamesWhatIsThere move files
IsNamedThere (OnFiles move) files = Unit {0}

within_keeps : (org : List ℕ) (move : Move) (o : Organisation) (files : Holding) → AreThere o.shelved files → IsNamedThere move files → AreThere (within move o).shelved (files_within org move o files)
within_keeps org Open o files there own = there
within_keeps org (Put key object) o files there own = there
within_keeps org (TakeOut key) o files there own = there
within_keeps org (PutList key list) o files there own = there
within_keeps org (TakeList key) o files there own = there
within_keeps org (AddUser comer) o files there own = there
within_keeps org (RemoveUser name) o files there own = there
within_keeps org (AddClient comer) o files there own = there
within_keeps org (RemoveClient name) o files there own = there
within_keeps org (PutGroup name members) o files there own = there
within_keeps org (RemoveGroup name) o files there own = there
within_keeps org (OnShelves move) o files there own = stay move o.shelved files there own
within_keeps org (OnFiles move) o files there own = λ sum named. file_move_stays org move files sum (there sum named)

nothing_named : (files : Holding) → AreThere (shelved_of None) files
nothing_named files = nothing_there files

opened_keeps : (b : Bool) (files : Holding) → AreThere (shelved_of (outside b)) files
opened_keeps true files = nothing_named files
opened_keeps false files = nothing_named files

-- one move keeps the conditions of files
pub move_keeps_files : (org : List ℕ) (move : Move) (full : FullState) → MeetsFileConditions full → IsNamedThere move full.files
    → MeetsFileConditions (record { state = after_move move full.state; files = files_after_move org move full.state full.files })
move_keeps_files org move full meets own = keeps full.state full.files meets.nobody meets.named own
  where
    keeps : (state : State) (files : Holding) → (state ≡ None → files ≡ nothing) → AreThere (shelved_of state) files → IsNamedThere move files
        → MeetsFileConditions (record { state = after_move move state; files = files_after_move org move state files })
    keeps None files nobody there own = record { nobody = λ none. nobody refl; named = opened_keeps (opens move) files }
    keeps (Some o) files nobody there own = record { nobody = λ none. cc; named = within_keeps org move o files there own }

puts_none : (move : Move) (files : Holding) → takes_shelf_room move ≡ false → IsNamedThere move files
unfolding takes_shelf_room
puts_none Open files none = tt
puts_none (Put key object) files none = tt
puts_none (TakeOut key) files none = tt
puts_none (PutList key list) files none = tt
puts_none (TakeList key) files none = tt
puts_none (AddUser comer) files none = tt
puts_none (RemoveUser name) files none = tt
puts_none (AddClient comer) files none = tt
puts_none (RemoveClient name) files none = tt
puts_none (PutGroup name members) files none = tt
puts_none (RemoveGroup name) files none = tt
puts_none (OnShelves (PutVersion name version manifest)) files none = cc
puts_none (OnShelves (TakeVersion name version)) files none = tt
puts_none (OnShelves (PutArtifact name id manifest)) files none = cc
puts_none (OnShelves (TakeArtifact name id)) files none = tt
puts_none (OnShelves (PutRevision policy revision lock)) files none = cc
puts_none (OnShelves (TakePolicy policy)) files none = tt
puts_none (OnShelves (PutGroup name assigned)) files none = cc
puts_none (OnShelves (TakeGroup name)) files none = tt
puts_none (OnFiles move) files none = tt

none_first : (move : Move) (rest : List Move) (b : Bool) → takes_shelf_room move ≡ b → length (cond b (move ∷ filter takes_shelf_room rest) (filter takes_shelf_room rest)) ≡ 0 → (b ≡ false) × (shelved_by rest ≡ 0)
none_first move rest true is none = cc
none_first move rest false is none = (refl, none)

-- moves that put nothing on a shelf keep them
pub moves_keep_files : (org : List ℕ) (moves : List Move) (full : FullState) → shelved_by moves ≡ 0 → MeetsFileConditions full → MeetsFileConditions (after_all org moves full)
moves_keep_files org [] full none meets = meets
moves_keep_files org (move ∷ rest) full none meets =
    let (first, then) = none_first move rest (takes_shelf_room move) refl none in
    moves_keep_files org rest (record { state = after_move move full.state; files = files_after_move org move full.state full.files }) then
    (move_keeps_files org move full meets (puts_none move full.files first))

-- and so do those whose first puts one in, where the files that it names are there
pub put_keeps_files : (org : List ℕ) (move : Move) (rest : List Move) (full : FullState) → shelved_by rest ≡ 0 → IsNamedThere move full.files → MeetsFileConditions full
    → MeetsFileConditions (after_all org (move ∷ rest) full)
put_keeps_files org move rest full none own meets =
    moves_keep_files org rest (record { state = after_move move full.state; files = files_after_move org move full.state full.files }) none (move_keeps_files org move full meets own)

-- a list that comes or goes beside a move puts nothing on a shelf
pub list_puts_none : (b : Bool) (one : Move) → takes_shelf_room one ≡ false → shelved_by (cond b [] (one ∷ [])) ≡ 0
list_puts_none true one none = refl
list_puts_none false one none = ap (λ (b : Bool). length (cond b (one ∷ []) [])) none

-- ---- any group

-- a group that puts nothing on a shelf keeps them
pub shelfless_keeps : {Route Operation : Type 0} (rules : Rules Route Operation) → NeverShelves rules → KeepsFileConditions rules
shelfless_keeps rules puts context route request operation meets is free =
    moves_keep_files context.org (outcome_of (rules.does context operation).answer).moves (full_of context) (puts context operation) meets
