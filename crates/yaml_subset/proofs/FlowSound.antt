-- Where tokens are read to a document, they spell it.
use Rattle.std.proofs.Common.{◌≡◌, ◌+◌, ◌&&◌, ℕ, zero, suc, Bool, true, false, nat_lt, is_some, List, [], ◌∷◌, ◌++◌, length, Option, Some, None, if◌then◌else◌, refl, ap, sym, subst, ◌∙◌, arith, append_assoc, append-nil}
use Rattle.std.proofs.lemmas.Bool.{and_parts}
use Rattle.std.proofs.lemmas.Bool.Decides.{nat_tests}
use Rattle.std.proofs.lemmas.Option.{same_Some}
use Rattle.doc_tree.specs.Doc.{Doc, list, dict, docs_of, pairs_of}
use Rattle.doc_tree.specs.Part.{pair_at, with_pair}
use Rattle.yaml_subset.specs.Flow.{closed, flow_begins, flow_run, flow_step, flow_within, opens, put, takes, within}
use Rattle.yaml_subset.specs.Flows.{Flow, flow_list, flow_map, FlowValue, flow_scalar, inner_flow, FlowItems, no_item, one_item, item_comma, FlowEntries, no_entry, one_entry, entry_comma, SpellsFlow}
use Rattle.yaml_subset.specs.declared.token.Token.{Token}
use Rattle.yaml_subset.specs.declared.token.Token.TheVariants.{OpenList, OpenMap, CloseList, CloseMap, Comma, Key, Scalar}
use Rattle.yaml_subset.specs.declared.flow.Want.{Want}
use Rattle.yaml_subset.specs.declared.flow.Want.TheVariants.{More, Node, Sign}
use Rattle.yaml_subset.specs.declared.flow.Bracket.{Bracket}
use Rattle.yaml_subset.specs.declared.flow.Bracket.TheVariants.{InList, InMap}
use Rattle.yaml_subset.specs.declared.flow.Flowing.{Flowing}
use Rattle.yaml_subset.specs.declared.flow.Flowing.TheVariants.{Before, Within, Over}
use Rattle.yaml_subset.proofs.FlowLemmas.{run_none}

-- ---- what was read

-- the tokens behind a bracket that opened
abbrev Part : ℕ → Want → Bracket → List Token → Type 0
Part room More (InList ds) u = FlowItems room true u ds
Part room Node (InList ds) u = ⊥
Part room Sign (InList ds) u = FlowItems room false u ds
Part room More (InMap ps k) u = FlowEntries room true u ps
Part room Node (InMap ps k) u = (before : List Token) × (u ≡ before ++ Key k ∷ []) × FlowEntries room true before ps × (pair_at k (pairs_of ps) ≡ None)
Part room Sign (InMap ps k) u = FlowEntries room false u ps

-- they are with any value behind them
abbrev Due : ℕ → Bracket → List Token → Type 0
Due room one u = (tokens : List Token) (d : Doc) → FlowValue room tokens d → Part room Sign (put d one) (u ++ tokens)

abbrev opener : Bracket → Token
opener (InList ds) = OpenList
opener (InMap ps k) = OpenMap

-- the tokens before a bracket in which so many nest are those of the brackets around it
abbrev Around : ℕ → List Bracket → List Token → Type 0
Around room [] u = (u ≡ []) × (room ≡ 99)
Around room (one ∷ below) u = (front : List Token) × (own : List Token) × (u ≡ front ++ opener one ∷ own) × Around (suc room) below front × Due (suc room) one own

abbrev Inside : Want → Bracket → List Bracket → List Token → Type 0
Inside want one below u = (room : ℕ) × (front : List Token) × (own : List Token) × (u ≡ front ++ opener one ∷ own) × Around room below front × Part room want one own

abbrev Has : Flowing → List Token → Type 0
Has Before u = u ≡ []
Has (Within w) u = Inside w.want w.bracket w.below u
Has (Over d) u = SpellsFlow u d

abbrev Next : Option Flowing → List Token → Type 0
Next o u = (s : Flowing) → o ≡ Some s → Has s u

next_some : (s : Flowing) (u : List Token) → Has s u → Next (Some s) u
next_some s u h = λ t is. subst (λ (x : Flowing). Has x u) (same_Some s t is) h

next_none : (u : List Token) → Next None u
next_none u = λ t is. cc

next_if : (t : Bool) (a b : Option Flowing) (u : List Token) → (t ≡ true → Next a u) → (t ≡ false → Next b u) → Next (if t then a else b) u
next_if true a b u one two = one refl
next_if false a b u one two = two refl

-- ---- one token more

around_room : (room : ℕ) (below : List Bracket) (u : List Token) → Around room below u → room + length below ≡ 99
around_room room [] u a = omega (arith, a.1)
around_room room (one ∷ below) u a =
    let (front, own, is, around, due) = a in
    let rest = around_room (suc room) below front around in
    omega arith

due_of : (room : ℕ) (want : Want) (one : Bracket) (u : List Token) → takes want one ≡ true → Part room want one u → Due room one u
due_of room More (InList ds) u is part = λ tokens d v. one_item part v
due_of room Node (InList ds) u is part = absurd part
due_of room Sign (InList ds) u is part = cc
due_of room More (InMap ps k) u is part = cc
due_of room Node (InMap ps k) u is part =
    let (before, same, entries, new) = part in
    λ tokens d v. subst (λ (l : List Token). FlowEntries room false l (with_pair k d ps)) (sym (append_assoc before (Key k ∷ []) tokens) ∙ ap (λ (l : List Token). l ++ tokens) (sym same)) (one_entry k entries new v)
due_of room Sign (InMap ps k) u is part = cc

same_opener : (d : Doc) (one : Bracket) → opener (put d one) ≡ opener one
same_opener d (InList ds) = refl
same_opener d (InMap ps k) = refl

-- behind a value
value_ends : (room : ℕ) (d : Doc) (one : Bracket) (below : List Bracket) (front own tokens u : List Token) → u ≡ front ++ opener one ∷ (own ++ tokens) → Around room below front → Due room one own → FlowValue room tokens d
    → Has (within Sign (put d one) below) u
value_ends room d one below front own tokens u is around due v =
    (room, front, own ++ tokens, is ∙ ap (λ (t : Token). front ++ t ∷ (own ++ tokens)) (sym (same_opener d one)), around, due tokens d v)

-- behind a bracket that closes
closes : (room : ℕ) (d : Doc) (below : List Bracket) (front tokens u : List Token) → u ≡ front ++ tokens → Around room below front → Flow (suc room) tokens d → Has (closed d below) u
closes room d [] front tokens u is around f =
    let all : suc room ≡ 100 = omega (arith, around.1) in
    subst (λ (l : List Token). Flow 100 l d) (sym (is ∙ ap (λ (l : List Token). l ++ tokens) around.0)) (subst (λ (n : ℕ). Flow n tokens d) all f)
closes room d (one ∷ below) front tokens u is around f =
    let (outer, mine, same, a, due) = around in
    value_ends (suc room) d one below outer mine tokens u (is ∙ ap (λ (l : List Token). l ++ tokens) same ∙ append_assoc outer (opener one ∷ mine) tokens) a due (inner_flow f)

-- one token more behind those of the innermost bracket
more : (front own u : List Token) (o t : Token) → u ≡ front ++ o ∷ own → u ++ t ∷ [] ≡ front ++ (o ∷ (own ++ t ∷ []))
more front own u o t is = ap (λ (l : List Token). l ++ t ∷ []) is ∙ append_assoc front (o ∷ own) (t ∷ [])

bracket_opens : (new : Bracket) (t : Token) (want : Want) (one : Bracket) (below : List Bracket) (u : List Token) → Inside want one below u → opener new ≡ t → ((room : ℕ) → Part room More new []) → Next (opens new want one below) (u ++ t ∷ [])
bracket_opens new t want one below u h is part =
    next_if (takes want one && nat_lt (length below) 99) (Some (within More new (one ∷ below))) None (u ++ t ∷ [])
    (λ both. let (takes_, less) = and_parts (takes want one) (nat_lt (length below) 99) both in goes takes_ less)
    (λ none. next_none (u ++ t ∷ []))
  where
    inner : (room : ℕ) (front own : List Token) → u ≡ front ++ opener one ∷ own → Around room below front → Part room want one own → takes want one ≡ true → nat_lt (length below) 99 ≡ true → Has (within More new (one ∷ below)) (u ++ t ∷ [])
    inner zero front own same around p takes_ less = absurd (let deep = around_room zero below front around in grind (arith, nat_tests, deep, less))
    inner (suc room) front own same around p takes_ less = (room, u, [], ap (λ (x : Token). u ++ x ∷ []) (sym is), (front, own, same, around, due_of (suc room) want one own takes_ p), part room)

    goes : takes want one ≡ true → nat_lt (length below) 99 ≡ true → Next (Some (within More new (one ∷ below))) (u ++ t ∷ [])
    goes takes_ less = let (room, front, own, same, around, p) = h in next_some (within More new (one ∷ below)) (u ++ t ∷ []) (inner room front own same around p takes_ less)

list_closes : (may_come : Bool) (room : ℕ) (ds : List Doc) (below : List Bracket) (front own u : List Token) → u ≡ front ++ OpenList ∷ own → Around room below front → FlowItems room may_come own ds → Next (Some (closed (list (docs_of ds)) below)) (u ++ CloseList ∷ [])
list_closes may_come room ds below front own u is around items =
    next_some (closed (list (docs_of ds)) below) (u ++ CloseList ∷ []) (closes room (list (docs_of ds)) below front (OpenList ∷ (own ++ CloseList ∷ [])) (u ++ CloseList ∷ []) (more front own u OpenList CloseList is) around (flow_list items))

map_closes : (may_come : Bool) (room : ℕ) (ps : List (List ℕ × Doc)) (below : List Bracket) (front own u : List Token) → u ≡ front ++ OpenMap ∷ own → Around room below front → FlowEntries room may_come own ps → Next (Some (closed (dict (pairs_of ps)) below)) (u ++ CloseMap ∷ [])
map_closes may_come room ps below front own u is around entries =
    next_some (closed (dict (pairs_of ps)) below) (u ++ CloseMap ∷ []) (closes room (dict (pairs_of ps)) below front (OpenMap ∷ (own ++ CloseMap ∷ [])) (u ++ CloseMap ∷ []) (more front own u OpenMap CloseMap is) around (flow_map entries))

key_goes : (k : List ℕ) (ps : List (List ℕ × Doc)) (old : List ℕ) (below : List Bracket) (u : List Token) → Inside More (InMap ps old) below u → (o : Option Doc) → pair_at k (pairs_of ps) ≡ o
    → Next (if is_some o then None else Some (within Node (InMap ps k) below)) (u ++ Key k ∷ [])
key_goes k ps old below u h None new =
    let (room, front, own, same, around, entries) = h in
    next_some (within Node (InMap ps k) below) (u ++ Key k ∷ []) (room, front, own ++ Key k ∷ [], more front own u OpenMap (Key k) same, around, (own, refl, entries, new))
key_goes k ps old below u h (Some d) old_ = next_none (u ++ Key k ∷ [])

within_goes : (t : Token) (want : Want) (one : Bracket) (below : List Bracket) (u : List Token) → Inside want one below u → Next (flow_within t want one below) (u ++ t ∷ [])
within_goes OpenList want one below u h = bracket_opens (InList []) OpenList want one below u h refl (λ room. no_item)
within_goes OpenMap want one below u h = bracket_opens (InMap [] []) OpenMap want one below u h refl (λ room. no_entry)
within_goes CloseList More (InList ds) below u h = let (room, front, own, same, around, items) = h in list_closes true room ds below front own u same around items
within_goes CloseList More (InMap ps k) below u h = next_none (u ++ CloseList ∷ [])
within_goes CloseList Node one below u h = next_none (u ++ CloseList ∷ [])
within_goes CloseList Sign (InList ds) below u h = let (room, front, own, same, around, items) = h in list_closes false room ds below front own u same around items
within_goes CloseList Sign (InMap ps k) below u h = next_none (u ++ CloseList ∷ [])
within_goes CloseMap More (InList ds) below u h = next_none (u ++ CloseMap ∷ [])
within_goes CloseMap More (InMap ps k) below u h = let (room, front, own, same, around, entries) = h in map_closes true room ps below front own u same around entries
within_goes CloseMap Node one below u h = next_none (u ++ CloseMap ∷ [])
within_goes CloseMap Sign (InList ds) below u h = next_none (u ++ CloseMap ∷ [])
within_goes CloseMap Sign (InMap ps k) below u h = let (room, front, own, same, around, entries) = h in map_closes false room ps below front own u same around entries
within_goes Comma More one below u h = next_none (u ++ Comma ∷ [])
within_goes Comma Node one below u h = next_none (u ++ Comma ∷ [])
within_goes Comma Sign (InList ds) below u h =
    let (room, front, own, same, around, items) = h in
    next_some (within More (InList ds) below) (u ++ Comma ∷ []) (room, front, own ++ Comma ∷ [], more front own u OpenList Comma same, around, item_comma items)
within_goes Comma Sign (InMap ps k) below u h =
    let (room, front, own, same, around, entries) = h in
    next_some (within More (InMap ps k) below) (u ++ Comma ∷ []) (room, front, own ++ Comma ∷ [], more front own u OpenMap Comma same, around, entry_comma entries)
within_goes (Key k) More (InList ds) below u h = next_none (u ++ Key k ∷ [])
within_goes (Key k) More (InMap ps old) below u h = key_goes k ps old below u h (pair_at k (pairs_of ps)) refl
within_goes (Key k) Node one below u h = next_none (u ++ Key k ∷ [])
within_goes (Key k) Sign one below u h = next_none (u ++ Key k ∷ [])
within_goes (Scalar d) want one below u h =
    next_if (takes want one) (Some (within Sign (put d one) below)) None (u ++ Scalar d ∷ [])
    (λ is. let (room, front, own, same, around, part) = h in
    next_some (within Sign (put d one) below) (u ++ Scalar d ∷ []) (value_ends room d one below front own (Scalar d ∷ []) (u ++ Scalar d ∷ []) (more front own u (opener one) (Scalar d) same) around (due_of room want one own is part) flow_scalar))
    (λ none. next_none (u ++ Scalar d ∷ []))

begin_goes : (t : Token) → Next (flow_begins t) (t ∷ [])
begin_goes OpenList = next_some (within More (InList []) []) (OpenList ∷ []) (99, [], [], refl, (refl, refl), no_item)
begin_goes OpenMap = next_some (within More (InMap [] []) []) (OpenMap ∷ []) (99, [], [], refl, (refl, refl), no_entry)
begin_goes CloseList = next_none (CloseList ∷ [])
begin_goes CloseMap = next_none (CloseMap ∷ [])
begin_goes Comma = next_none (Comma ∷ [])
begin_goes (Key k) = next_none (Key k ∷ [])
begin_goes (Scalar d) = next_none (Scalar d ∷ [])

step_goes : (t : Token) (s : Flowing) (u : List Token) → Has s u → Next (flow_step t s) (u ++ t ∷ [])
step_goes t Before u h = subst (λ (l : List Token). Next (flow_begins t) (l ++ t ∷ [])) (sym h) (begin_goes t)
step_goes t (Within w) u h = within_goes t w.want w.bracket w.below u h
step_goes t (Over d) u h = next_none (u ++ t ∷ [])

-- ---- tokens, one by one

behind_step : (o : Option Flowing) (ts u : List Token) → ((s : Flowing) → o ≡ Some s → Next (flow_run (Some s) ts) u) → Next (flow_run o ts) u
behind_step None ts u goes = λ t is. absurd (let none = sym is ∙ run_none ts in cc)
behind_step (Some s) ts u goes = goes s refl

run_goes : (ts : List Token) (s : Flowing) (u : List Token) → Has s u → Next (flow_run (Some s) ts) (u ++ ts)
run_goes [] s u h = subst (λ (l : List Token). Next (Some s) l) (sym (append-nil u)) (next_some s u h)
run_goes (t ∷ ts) s u h =
    subst (λ (l : List Token). Next (flow_run (flow_step t s) ts) l) (append_assoc u (t ∷ []) ts)
    (behind_step (flow_step t s) ts ((u ++ t ∷ []) ++ ts) (λ x is. run_goes ts x (u ++ t ∷ []) (step_goes t s u h x is)))

-- tokens that are read to a document spell it
pub run_tokens : (u : List Token) (d : Doc) → flow_run (Some Before) u ≡ Some (Over d) → SpellsFlow u d
run_tokens u d is = run_goes u Before [] refl (Over d) is
