-- A finder that is exact for a state, and is told of the moves, is exact for the state that they lead to.
use Rattle.std.proofs.Common.{◌≡◌, ◌∙◌, ◌&&◌, ◌||◌, ℕ, Bool, true, false, not, cond, List, [], ◌∷◌, ◌++◌, Option, Some, None, bytes_eq, is_some, option_map, unwrap_or, ap, arith, inl, inr, refl, subst, sym}
use Rattle.std.specs.Cmp.Lexicographic.{bytes_decides}
use Rattle.std.specs.FinMap as finite
use Rattle.std.specs.Ordering.{eq_by_cmp}
use mathlib.Core.Bool.{true≢false}
use Rattle.doc_tree.specs.Doc.{Doc}
use Rattle.doc_tree.specs.declared.kind.Kind.{Kind}
use Rattle.object_finder.proofs.IndexLemmas.{hits, key_hits, key_kind, key_plain}
use Rattle.object_finder.specs.declared.changes.Change.{Change}
use Rattle.object_finder.specs.Changes.{HasRoomFor, after_change, after_changes}
use Rattle.object_finder.specs.Exact.{HoldsExactly, HoldsOthers, IsExact, OthersStay}
use Rattle.object_finder.specs.Held.{Held, Room}
use Rattle.object_finder.specs.Indexes.{Entry, entry_of, index_of, is_plain, key_in, kind_of}
use Rattle.object_store.specs.Keys.{key_cmp, key_cmp_total}
use Rattle.object_store.specs.Objects.{Objects}
use Rattle.object_store.specs.declared.key.Key.{Key}
use Rattle.search_query.specs.Pair.{Pair, lists}
use Rattle.search_query.specs.Pairs.{pairs_of}
use Rattle.org_core.proofs.ObjectConditionsLemmas.{same_keys}
use Rattle.org_core.specs.Moves.{after_moves, opens, outside, within}
use Rattle.org_core.specs.States.{Organisation, State, objects_of}
use Rattle.org_core.specs.declared.moves.Move.{Move}
use Rattle.org_requests.specs.declared.replies.Reply.{Reply}
use Rattle.org_core.specs.declared.moves.Move.TheVariants.{Open, Put, TakeOut, PutList, TakeList, AddUser, RemoveUser, AddClient, RemoveClient, PutGroup, RemoveGroup, OnShelves, OnFiles}
use Rattle.org_machine.specs.Serving.{ComesWith, IsGood}
use Rattle.org_machine.specs.Finding.{AreChanges, change_of, changed_at, changes_by, changes_of, in_order, listed}
use Rattle.org_machine.proofs.PairOrderLemmas.{lists-in_order}

no : {A : Type 0} → false ≡ true → A
no is = absurd (true≢false (sym is))

itself : (xs : List ℕ) → bytes_eq xs xs ≡ true
itself xs = (bytes_decides xs xs).1 refl

-- ---- one change

-- what is held after a change, if there is one
abbrev after_one : Option Change → Held → Held
after_one None held = held
after_one (Some change) held = after_change change held

-- what is held at a word and a name where an object came, or went
comes : (a h : Bool) → (a || (not a && h)) ≡ cond a true h
comes true h = refl
comes false h = refl

comes_with : (a l h : Bool) → ((a && l) || (not a && h)) ≡ cond a l h
comes_with true true h = refl
comes_with true false h = refl
comes_with false l h = refl

goes : (a h : Bool) → (not a && h) ≡ cond a false h
goes true h = refl
goes false h = refl

-- in the organisation itself
at_own : (org : List ℕ) (entry : Entry) (word name : List ℕ) → ((bytes_eq org org && bytes_eq entry.0 word) && bytes_eq entry.1 name) ≡ hits (Some entry) word name
at_own org entry word name = λ i. (itself org i && bytes_eq entry.0 word) && bytes_eq entry.1 name

has_come : (org word name : List ℕ) (held : Held) (pairs : List Pair) (entry : Option Entry)
    → (after_one (option_map (changed_at org (Some pairs)) entry) held).has_object org word name ≡ cond (hits entry word name) true (held.has_object org word name)
has_come org word name held pairs None = refl
has_come org word name held pairs (Some entry) =
    ap (λ b. b || (not b && held.has_object org word name)) (at_own org entry word name) ∙ comes (hits (Some entry) word name) (held.has_object org word name)

pair_has_come : (org word name : List ℕ) (held : Held) (pairs : List Pair) (entry : Option Entry) (p : Pair)
    → (after_one (option_map (changed_at org (Some pairs)) entry) held).has_pair org word name p ≡ cond (hits entry word name) (lists pairs p) (held.has_pair org word name p)
pair_has_come org word name held pairs None p = refl
pair_has_come org word name held pairs (Some entry) p =
    ap (λ b. (b && lists pairs p) || (not b && held.has_pair org word name p)) (at_own org entry word name)
    ∙ comes_with (hits (Some entry) word name) (lists pairs p) (held.has_pair org word name p)

has_gone : (org word name : List ℕ) (held : Held) (entry : Option Entry)
    → (after_one (option_map (changed_at org None) entry) held).has_object org word name ≡ cond (hits entry word name) false (held.has_object org word name)
has_gone org word name held None = refl
has_gone org word name held (Some entry) =
    ap (λ b. not b && held.has_object org word name) (at_own org entry word name) ∙ goes (hits (Some entry) word name) (held.has_object org word name)

pair_has_gone : (org word name : List ℕ) (held : Held) (entry : Option Entry) (p : Pair)
    → (after_one (option_map (changed_at org None) entry) held).has_pair org word name p ≡ cond (hits entry word name) false (held.has_pair org word name p)
pair_has_gone org word name held None p = refl
pair_has_gone org word name held (Some entry) p =
    ap (λ b. not b && held.has_pair org word name p) (at_own org entry word name) ∙ goes (hits (Some entry) word name) (held.has_pair org word name p)

-- ---- an object is put in

get-put : (objects : Objects) (k : Key) (object : Doc) (q : Key) → finite.get (finite.insert objects k object) q ≡ cond (eq_by_cmp key_cmp q k) (Some object) (finite.get objects q)
get-put objects k object q = finite.get-insert key_cmp_total objects k object q

get-left : (objects : Objects) (k q : Key) → finite.get (finite.remove objects k) q ≡ cond (eq_by_cmp key_cmp q k) None (finite.get objects q)
get-left objects k q = finite.get-remove key_cmp_total objects k q

there_then : (b : Bool) (object : Doc) (found : Option Doc) → cond b true (is_some found) ≡ is_some (cond b (Some object) found)
there_then true object found = refl
there_then false object found = refl

-- the pairs of what is found, by its kind
abbrev pairs_found : Kind → Option Doc → List Pair
pairs_found kind found = unwrap_or (option_map (pairs_of kind) found) []

pairs_then : (b : Bool) (kind own : Kind) (object : Doc) (found : Option Doc) (p : Pair) → (b ≡ true → kind ≡ own)
    → cond b (lists (pairs_of own object) p) (lists (pairs_found kind found) p) ≡ lists (pairs_found kind (cond b (Some object) found)) p
pairs_then true kind own object found p same = ap (λ (k : Kind). lists (pairs_of k object) p) (sym (same refl))
pairs_then false kind own object found p same = refl

-- what is found by a word that may have no index: a test `here` that the word and name are those of the key, and `hit` that
-- the object of the key is found by them, are one where it has, and where it hasn't nothing is found
there_put : (plain hit here : Bool) (object : Doc) (found : Option Doc) → (plain ≡ true → here ≡ hit) → (hit ≡ true → plain ≡ true)
    → cond hit true (is_some (cond plain found None)) ≡ is_some (cond plain (cond here (Some object) found) None)
there_put true hit here object found same only = ap (λ b. cond b true (is_some found)) (sym (same refl)) ∙ there_then here object found
there_put false true here object found same only = no (only refl)
there_put false false here object found same only = refl

pairs_put : (plain hit here : Bool) (kind own : Kind) (object : Doc) (found : Option Doc) (p : Pair) → (plain ≡ true → here ≡ hit) → (hit ≡ true → plain ≡ true) → (here ≡ true → kind ≡ own)
    → cond hit (lists (pairs_of own object) p) (lists (pairs_found kind (cond plain found None)) p) ≡ lists (pairs_found kind (cond plain (cond here (Some object) found) None)) p
pairs_put true hit here kind own object found p same only kinds =
    ap (λ b. cond b (lists (pairs_of own object) p) (lists (pairs_found kind found) p)) (sym (same refl)) ∙ pairs_then here kind own object found p kinds
pairs_put false true here kind own object found p same only kinds = no (only refl)
pairs_put false false here kind own object found p same only kinds = refl

put_exact : (org : List ℕ) (held : Held) (objects : Objects) (k : Key) (object : Doc) → HoldsExactly held org objects
    → HoldsExactly (after_one (option_map (changed_at org (Some (in_order (pairs_of k.kind object)))) (entry_of k)) held) org (finite.insert objects k object)
put_exact org held objects k object exact = record {
  there = λ word name.
      let q = key_in (index_of word) name in
      has_come org word name held (in_order (pairs_of k.kind object)) (entry_of k)
      ∙ ap (cond (hits (entry_of k) word name) true) (exact.there word name)
      ∙ there_put (is_plain word) (hits (entry_of k) word name) (eq_by_cmp key_cmp q k) object (finite.get objects q) (key_hits k word name) (key_plain k word name)
      ∙ ap (λ found. is_some (cond (is_plain word) found None)) (sym (get-put objects k object q));
  pairs = λ word name p.
      let q = key_in (index_of word) name in
      pair_has_come org word name held (in_order (pairs_of k.kind object)) (entry_of k) p
      ∙ ap (λ b. cond (hits (entry_of k) word name) b (held.has_pair org word name p)) (lists-in_order (pairs_of k.kind object) p)
      ∙ ap (cond (hits (entry_of k) word name) (lists (pairs_of k.kind object) p)) (exact.pairs word name p)
      ∙ pairs_put (is_plain word) (hits (entry_of k) word name) (eq_by_cmp key_cmp q k) (kind_of (index_of word)) k.kind object (finite.get objects q) p (key_hits k word name) (key_plain k word name)
      (λ same. key_kind (index_of word) name ∙ ap (λ (x : Key). x.kind) (same_keys q k same))
      ∙ ap (λ found. lists (pairs_found (kind_of (index_of word)) (cond (is_plain word) found None)) p) (sym (get-put objects k object q));
}

-- ---- an object is taken out

gone_then : (b : Bool) (found : Option Doc) → cond b false (is_some found) ≡ is_some (cond b None found)
gone_then true found = refl
gone_then false found = refl

pairs_gone : (b : Bool) (kind : Kind) (found : Option Doc) (p : Pair) → cond b false (lists (pairs_found kind found) p) ≡ lists (pairs_found kind (cond b None found)) p
pairs_gone true kind found p = refl
pairs_gone false kind found p = refl

there_taken : (plain hit here : Bool) (found : Option Doc) → (plain ≡ true → here ≡ hit) → (hit ≡ true → plain ≡ true)
    → cond hit false (is_some (cond plain found None)) ≡ is_some (cond plain (cond here None found) None)
there_taken true hit here found same only = ap (λ b. cond b false (is_some found)) (sym (same refl)) ∙ gone_then here found
there_taken false true here found same only = no (only refl)
there_taken false false here found same only = refl

pairs_taken : (plain hit here : Bool) (kind : Kind) (found : Option Doc) (p : Pair) → (plain ≡ true → here ≡ hit) → (hit ≡ true → plain ≡ true)
    → cond hit false (lists (pairs_found kind (cond plain found None)) p) ≡ lists (pairs_found kind (cond plain (cond here None found) None)) p
pairs_taken true hit here kind found p same only = ap (λ b. cond b false (lists (pairs_found kind found) p)) (sym (same refl)) ∙ pairs_gone here kind found p
pairs_taken false true here kind found p same only = no (only refl)
pairs_taken false false here kind found p same only = refl

take_exact : (org : List ℕ) (held : Held) (objects : Objects) (k : Key) → HoldsExactly held org objects
    → HoldsExactly (after_one (option_map (changed_at org None) (entry_of k)) held) org (finite.remove objects k)
take_exact org held objects k exact = record {
  there = λ word name.
      let q = key_in (index_of word) name in
      has_gone org word name held (entry_of k)
      ∙ ap (cond (hits (entry_of k) word name) false) (exact.there word name)
      ∙ there_taken (is_plain word) (hits (entry_of k) word name) (eq_by_cmp key_cmp q k) (finite.get objects q) (key_hits k word name) (key_plain k word name)
      ∙ ap (λ found. is_some (cond (is_plain word) found None)) (sym (get-left objects k q));
  pairs = λ word name p.
      let q = key_in (index_of word) name in
      pair_has_gone org word name held (entry_of k) p
      ∙ ap (cond (hits (entry_of k) word name) false) (exact.pairs word name p)
      ∙ pairs_taken (is_plain word) (hits (entry_of k) word name) (eq_by_cmp key_cmp q k) (kind_of (index_of word)) (finite.get objects q) p (key_hits k word name) (key_plain k word name)
      ∙ ap (λ found. lists (pairs_found (kind_of (index_of word)) (cond (is_plain word) found None)) p) (sym (get-left objects k q));
}

-- ---- moves

move_exact : (org : List ℕ) (held : Held) (move : Move) (o : Organisation) → HoldsExactly held org o.objects → HoldsExactly (after_one (change_of org move) held) org (within move o).objects
move_exact org held Open o exact = exact
move_exact org held (Put k object) o exact = put_exact org held o.objects k object exact
move_exact org held (TakeOut k) o exact = take_exact org held o.objects k exact
move_exact org held (PutList k list) o exact = exact
move_exact org held (TakeList k) o exact = exact
move_exact org held (AddUser comer) o exact = exact
move_exact org held (RemoveUser name) o exact = exact
move_exact org held (AddClient comer) o exact = exact
move_exact org held (RemoveClient name) o exact = exact
move_exact org held (PutGroup name members) o exact = exact
move_exact org held (RemoveGroup name) o exact = exact
move_exact org held (OnShelves move) o exact = exact
move_exact org held (OnFiles move) o exact = exact

after_more : (first rest : List Change) (held : Held) → after_changes (first ++ rest) held ≡ after_changes rest (after_changes first held)
after_more [] rest held = refl
after_more (change ∷ first) rest held = after_more first rest (after_change change held)

after_listed : (change : Option Change) (held : Held) → after_changes (listed change) held ≡ after_one change held
after_listed None held = refl
after_listed (Some change) held = refl

-- what is held after the changes of one move and of others
after_then : (org : List ℕ) (move : Move) (rest : List Change) (held : Held) → after_changes (changes_of org true move ++ rest) held ≡ after_changes rest (after_one (change_of org move) held)
after_then org move rest held = after_more (changes_of org true move) rest held ∙ ap (after_changes rest) (after_listed (change_of org move) held)

opened_there : (opened : Bool) → is_some (outside opened) ≡ opened
opened_there true = refl
opened_there false = refl

opened_objects : (opened : Bool) → objects_of (outside opened) ≡ finite.empty
opened_objects true = refl
opened_objects false = refl

-- a finder that is told of the moves stays exact
pub moves_exact : (org : List ℕ) (moves : List Move) (state : State) (held : Held) → HoldsExactly held org (objects_of state)
    → HoldsExactly (after_changes (changes_by org (is_some state) moves) held) org (objects_of (after_moves moves state))
moves_exact org [] state held exact = exact
moves_exact org (move ∷ rest) None held exact =
    subst (λ there. HoldsExactly (after_changes (changes_by org there rest) held) org (objects_of (after_moves rest (outside (opens move))))) (opened_there (opens move))
    (moves_exact org rest (outside (opens move)) held (subst (HoldsExactly held org) (sym (opened_objects (opens move))) exact))
moves_exact org (move ∷ rest) (Some o) held exact =
    subst (λ then. HoldsExactly then org (objects_of (after_moves rest (Some (within move o))))) (sym (after_then org move (changes_by org true rest) held))
    (moves_exact org rest (Some (within move o)) (after_one (change_of org move) held) (move_exact org held move o exact))

-- so is any finder, also one that holds nothing
pub settled_exact : (held : Option Held) (org : List ℕ) (moves : List Move) (changes : List Change) (state : State) → IsExact held org (objects_of state) → AreChanges held org (is_some state) moves changes
    → IsExact (option_map (after_changes changes) held) org (objects_of (after_moves moves state))
settled_exact None org moves changes state exact are = tt
settled_exact (Some held) org moves changes state exact are =
    subst (λ cs. HoldsExactly (after_changes cs held) org (objects_of (after_moves moves state))) (sym are) (moves_exact org moves state held exact)

-- ---- others

stay : (org : List ℕ) (held : Held) → OthersStay org held held
stay org held = record { objects = λ other index name apart. refl; pairs = λ other index name p apart. refl }

stay_twice : (org : List ℕ) (first second third : Held) → OthersStay org first second → OthersStay org second third → OthersStay org first third
stay_twice org first second third one two = record {
  objects = λ other index name apart. two.objects other index name apart ∙ one.objects other index name apart;
  pairs = λ other index name p apart. two.pairs other index name p apart ∙ one.pairs other index name p apart;
}

changed_stay : (org : List ℕ) (held : Held) (pairs : Option (List Pair)) (entry : Option Entry) → OthersStay org held (after_one (option_map (changed_at org pairs) entry) held)
changed_stay org held pairs None = stay org held
changed_stay org held None (Some entry) = record {
  objects = λ other index name apart. ap (λ b. not ((b && bytes_eq entry.0 index) && bytes_eq entry.1 name) && held.has_object other index name) apart;
  pairs = λ other index name p apart. ap (λ b. not ((b && bytes_eq entry.0 index) && bytes_eq entry.1 name) && held.has_pair other index name p) apart;
}
changed_stay org held (Some pairs) (Some entry) = record {
  objects = λ other index name apart.
      ap (λ b. ((b && bytes_eq entry.0 index) && bytes_eq entry.1 name) || (not ((b && bytes_eq entry.0 index) && bytes_eq entry.1 name) && held.has_object other index name)) apart;
  pairs = λ other index name p apart.
      ap (λ b. (((b && bytes_eq entry.0 index) && bytes_eq entry.1 name) && lists pairs p) || (not ((b && bytes_eq entry.0 index) && bytes_eq entry.1 name) && held.has_pair other index name p)) apart;
}

move_stays : (org : List ℕ) (held : Held) (move : Move) → OthersStay org held (after_one (change_of org move) held)
move_stays org held Open = stay org held
move_stays org held (Put k object) = changed_stay org held (Some (in_order (pairs_of k.kind object))) (entry_of k)
move_stays org held (TakeOut k) = changed_stay org held None (entry_of k)
move_stays org held (PutList k list) = stay org held
move_stays org held (TakeList k) = stay org held
move_stays org held (AddUser comer) = stay org held
move_stays org held (RemoveUser name) = stay org held
move_stays org held (AddClient comer) = stay org held
move_stays org held (RemoveClient name) = stay org held
move_stays org held (PutGroup name members) = stay org held
move_stays org held (RemoveGroup name) = stay org held
move_stays org held (OnShelves move) = stay org held
move_stays org held (OnFiles move) = stay org held

moves_stay : (org : List ℕ) (there : Bool) (moves : List Move) (held : Held) → OthersStay org held (after_changes (changes_by org there moves) held)
moves_stay org there [] held = stay org held
moves_stay org false (move ∷ rest) held = moves_stay org (opens move) rest held
moves_stay org true (move ∷ rest) held =
    subst (OthersStay org held) (sym (after_then org move (changes_by org true rest) held))
    (stay_twice org held (after_one (change_of org move) held) (after_changes (changes_by org true rest) (after_one (change_of org move) held))
    (move_stays org held move) (moves_stay org true rest (after_one (change_of org move) held)))

-- what is held of others stays
pub settled_others : (held : Option Held) (org : List ℕ) (there : Bool) (moves : List Move) (changes : List Change) → AreChanges held org there moves changes
    → HoldsOthers org held (option_map (after_changes changes) held)
settled_others None org there moves changes are = tt
settled_others (Some held) org there moves changes are = subst (λ cs. OthersStay org held (after_changes cs held)) (sym are) (moves_stay org there moves held)

-- ---- as they are seen after a call

pub exact_after : (now then : Option Held) (own org : List ℕ) (state after : State) → now ≡ then → own ≡ org → state ≡ after → IsExact then org (objects_of after) → IsExact now own (objects_of state)
exact_after now then own org state after is named same exact =
    subst (λ (held : Option Held). IsExact held own (objects_of state)) (sym is)
    (subst (λ (name : List ℕ). IsExact then name (objects_of state)) (sym named)
    (subst (λ (s : State). IsExact then org (objects_of s)) (sym same) exact))

pub others_after : (org : List ℕ) (old now then : Option Held) → now ≡ then → HoldsOthers org old then → HoldsOthers org old now
others_after org old now then is stays = subst (HoldsOthers org old) (sym is) stays

-- ---- where no move is made

none_by : (org : List ℕ) (there : Bool) → changes_by org there [] ≡ []
none_by org there = refl

none_change : (changes : List Change) (held : Held) → changes ≡ [] → after_changes changes held ≡ held
none_change changes held none = ap (λ cs. after_changes cs held) none

-- where the reply is a refusal there is no move
pub refused_moves : (reply due : Reply) (moves : List Move) → reply ≡ due → ComesWith due.status moves → ¬ (IsGood reply.status) → moves ≡ []
refused_moves reply due moves same comes refused = elim comes [ inl none ↦ none | inr good ↦ absurd (refused (subst (λ (r : Reply). IsGood r.status) (sym same) good)) ]

-- so what is held stays
pub held_stays : (held : Option Held) (org : List ℕ) (there : Bool) (moves : List Move) (changes : List Change) → moves ≡ [] → AreChanges held org there moves changes → option_map (after_changes changes) held ≡ held
held_stays None org there moves changes no_moves are = refl
held_stays (Some held) org there moves changes no_moves are = ap (λ h. Some h) (none_change changes held (are ∙ ap (changes_by org there) no_moves ∙ none_by org there))

-- no change is due, and none needs room
pub no_changes : (held : Option Held) (org : List ℕ) (there : Bool) (moves : List Move) (changes : List Change) → moves ≡ [] → changes ≡ [] → AreChanges held org there moves changes
no_changes None org there moves changes no_moves none = tt
no_changes (Some held) org there moves changes no_moves none = none ∙ sym (ap (changes_by org there) no_moves ∙ none_by org there)

nothing_fits : (room : Option Room) → HasRoomFor room []
nothing_fits None = tt
nothing_fits (Some room) = (omega arith, omega arith, omega arith)

pub no_room_for_none : (room : Option Room) (changes : List Change) → changes ≡ [] → HasRoomFor room changes
no_room_for_none room changes none = subst (HasRoomFor room) (sym none) (nothing_fits room)
