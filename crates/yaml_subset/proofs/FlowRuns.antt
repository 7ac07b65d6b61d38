-- Where tokens spell a flow, they are read to its document.
use Rattle.std.proofs.Common.{◌≡◌, ◌+◌, ◌&&◌, ℕ, suc, Bool, true, false, nat_lt, List, [], ◌∷◌, ◌++◌, length, Option, Some, None, refl, ap, ◌∙◌, arith, append_assoc}
use Rattle.std.proofs.lemmas.Bool.{and_from, cond-true, lt-ltb}
use Rattle.doc_tree.specs.Doc.{Doc, list, dict, docs_of, pairs_of}
use Rattle.doc_tree.specs.Part.{pair_at}
use Rattle.yaml_subset.specs.Flow.{flow_run, flow_step, opens, put, takes, within}
use Rattle.yaml_subset.specs.Flows.{Flow, flow_list, flow_map, FlowValue, flow_scalar, inner_flow, FlowItems, no_item, one_item, item_comma, FlowEntries, no_entry, one_entry, entry_comma, SpellsFlow}
use Rattle.yaml_subset.specs.declared.token.Token.{Token}
use Rattle.yaml_subset.specs.declared.token.Token.TheVariants.{CloseList, CloseMap, Comma, Key, Scalar}
use Rattle.yaml_subset.specs.declared.flow.Want.{Want}
use Rattle.yaml_subset.specs.declared.flow.Want.TheVariants.{More, Node, Sign}
use Rattle.yaml_subset.specs.declared.flow.Bracket.{Bracket}
use Rattle.yaml_subset.specs.declared.flow.Bracket.TheVariants.{InList, InMap}
use Rattle.yaml_subset.specs.declared.flow.Flowing.{Flowing}
use Rattle.yaml_subset.specs.declared.flow.Flowing.TheVariants.{Before, Over}

-- what may come next, where an item may come or not
abbrev pub want_of : Bool → Want
want_of true = More
want_of false = Sign

value_goes : (d : Doc) (want : Want) (one : Bracket) (below : List Bracket) → takes want one ≡ true → flow_step (Scalar d) (within want one below) ≡ Some (within Sign (put d one) below)
value_goes d want one below is = cond-true (takes want one) _ _ is

bracket_opens : (new : Bracket) (room : ℕ) (want : Want) (one : Bracket) (below : List Bracket) → takes want one ≡ true → suc room + length below ≡ 99 → opens new want one below ≡ Some (within More new (one ∷ below))
bracket_opens new room want one below is deep =
    let less : nat_lt (length below) 99 ≡ true = lt-ltb (length below) 99 (omega arith) in
    cond-true (takes want one && nat_lt (length below) 99) _ _ (and_from (takes want one) (nat_lt (length below) 99) is less)

list_ends : (may_come : Bool) (ds : List Doc) (one : Bracket) (below : List Bracket) → flow_step CloseList (within (want_of may_come) (InList ds) (one ∷ below)) ≡ Some (within Sign (put (list (docs_of ds)) one) below)
list_ends true ds one below = refl
list_ends false ds one below = refl

map_ends : (may_come : Bool) (ps : List (List ℕ × Doc)) (k : List ℕ) (one : Bracket) (below : List Bracket) → flow_step CloseMap (within (want_of may_come) (InMap ps k) (one ∷ below)) ≡ Some (within Sign (put (dict (pairs_of ps)) one) below)
map_ends true ps k one below = refl
map_ends false ps k one below = refl

list_over : (may_come : Bool) (ds : List Doc) → flow_step CloseList (within (want_of may_come) (InList ds) []) ≡ Some (Over (list (docs_of ds)))
list_over true ds = refl
list_over false ds = refl

map_over : (may_come : Bool) (ps : List (List ℕ × Doc)) (k : List ℕ) → flow_step CloseMap (within (want_of may_come) (InMap ps k) []) ≡ Some (Over (dict (pairs_of ps)))
map_over true ps k = refl
map_over false ps k = refl

key_goes : (k : List ℕ) (ps : List (List ℕ × Doc)) (below : List Bracket) → pair_at k (pairs_of ps) ≡ None → flow_step (Key k) (within More (InMap ps []) below) ≡ Some (within Node (InMap ps k) below)
key_goes k ps below new = rw new refl

-- ---- flows, one after another

mutual
  flow_runs : {room : ℕ} {u : List Token} {d : Doc} → Flow room u d → (want : Want) (one : Bracket) (below : List Bracket) (v : List Token) → takes want one ≡ true → room + length below ≡ 99
      → flow_run (Some (within want one below)) (u ++ v) ≡ flow_run (Some (within Sign (put d one) below)) v
  flow_runs (flow_list {room = room} {may_come = may_come} {inner = inner} {ds = ds} items) want one below v is deep =
      ap (λ (o : Option Flowing). flow_run o ((inner ++ CloseList ∷ []) ++ v)) (bracket_opens (InList []) room want one below is deep)
      ∙ ap (λ (l : List Token). flow_run (Some (within More (InList []) (one ∷ below))) l) (append_assoc inner (CloseList ∷ []) v)
      ∙ items_run items (one ∷ below) (CloseList ∷ v) (omega arith)
      ∙ ap (λ (o : Option Flowing). flow_run o v) (list_ends may_come ds one below)
  flow_runs (flow_map {room = room} {may_come = may_come} {inner = inner} {ps = ps} entries) want one below v is deep =
      ap (λ (o : Option Flowing). flow_run o ((inner ++ CloseMap ∷ []) ++ v)) (bracket_opens (InMap [] []) room want one below is deep)
      ∙ ap (λ (l : List Token). flow_run (Some (within More (InMap [] []) (one ∷ below))) l) (append_assoc inner (CloseMap ∷ []) v)
      ∙ entries_run entries (one ∷ below) (CloseMap ∷ v) (omega arith)
      ∙ ap (λ (o : Option Flowing). flow_run o v) (map_ends may_come ps [] one below)

  value_runs : {room : ℕ} {u : List Token} {d : Doc} → FlowValue room u d → (want : Want) (one : Bracket) (below : List Bracket) (v : List Token) → takes want one ≡ true → room + length below ≡ 99
      → flow_run (Some (within want one below)) (u ++ v) ≡ flow_run (Some (within Sign (put d one) below)) v
  value_runs (flow_scalar {d = d}) want one below v is deep = ap (λ (o : Option Flowing). flow_run o v) (value_goes d want one below is)
  value_runs (inner_flow f) want one below v is deep = flow_runs f want one below v is deep

  items_run : {room : ℕ} {may_come : Bool} {u : List Token} {ds : List Doc} → FlowItems room may_come u ds → (below : List Bracket) (v : List Token) → room + length below ≡ 99
      → flow_run (Some (within More (InList []) below)) (u ++ v) ≡ flow_run (Some (within (want_of may_come) (InList ds) below)) v
  items_run no_item below v deep = refl
  items_run (one_item {before = before} {tokens = tokens} {ds = ds} items one) below v deep =
      ap (λ (l : List Token). flow_run (Some (within More (InList []) below)) l) (append_assoc before tokens v)
      ∙ items_run items below (tokens ++ v) deep ∙ value_runs one More (InList ds) below v refl deep
  items_run (item_comma {before = before} items) below v deep =
      ap (λ (l : List Token). flow_run (Some (within More (InList []) below)) l) (append_assoc before (Comma ∷ []) v) ∙ items_run items below (Comma ∷ v) deep

  entries_run : {room : ℕ} {may_come : Bool} {u : List Token} {ps : List (List ℕ × Doc)} → FlowEntries room may_come u ps → (below : List Bracket) (v : List Token) → room + length below ≡ 99
      → flow_run (Some (within More (InMap [] []) below)) (u ++ v) ≡ flow_run (Some (within (want_of may_come) (InMap ps []) below)) v
  entries_run no_entry below v deep = refl
  entries_run (one_entry {before = before} {tokens = tokens} {ps = ps} k entries new one) below v deep =
      ap (λ (l : List Token). flow_run (Some (within More (InMap [] []) below)) l) (append_assoc before (Key k ∷ tokens) v)
      ∙ entries_run entries below (Key k ∷ (tokens ++ v)) deep
      ∙ ap (λ (o : Option Flowing). flow_run o (tokens ++ v)) (key_goes k ps below new)
      ∙ value_runs one Node (InMap ps k) below v refl deep
  entries_run (entry_comma {before = before} entries) below v deep =
      ap (λ (l : List Token). flow_run (Some (within More (InMap [] []) below)) l) (append_assoc before (Comma ∷ []) v) ∙ entries_run entries below (Comma ∷ v) deep

-- ---- the whole

flow_whole : {room : ℕ} {u : List Token} {d : Doc} → Flow room u d → room ≡ 100 → flow_run (Some Before) u ≡ Some (Over d)
flow_whole (flow_list {may_come = may_come} {inner = inner} {ds = ds} items) deep = items_run items [] (CloseList ∷ []) (omega arith) ∙ list_over may_come ds
flow_whole (flow_map {may_come = may_come} {inner = inner} {ps = ps} entries) deep = entries_run entries [] (CloseMap ∷ []) (omega arith) ∙ map_over may_come ps []

-- tokens that spell a document are read to it
pub tokens_run : (u : List Token) (d : Doc) → SpellsFlow u d → flow_run (Some Before) u ≡ Some (Over d)
tokens_run u d f = flow_whole f refl
