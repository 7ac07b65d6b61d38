-- What tokens spell (YAML 1.2.2, section 7.4): flow lists and maps.
use Rattle.std.specs.Prelude.{◌≡◌, ℕ, suc, Bool, true, false, List, [], ◌∷◌, ◌++◌, None}
use Rattle.doc_tree.specs.Doc.{Doc, list, dict, docs_of, pairs_of}
use Rattle.doc_tree.specs.Part.{pair_at, with_pair}
use Rattle.yaml_subset.specs.declared.token.Token.{Token}
use Rattle.yaml_subset.specs.declared.token.Token.TheVariants.{OpenList, OpenMap, CloseList, CloseMap, Comma, Key, Scalar}

mutual
  -- tokens spell a flow: a list or a map between its brackets. So many lists and maps nest at most, the flow itself among them
  pub data Flow : ℕ → List Token → Doc → Type 0 where
    flow_list : {room : ℕ} {may_come : Bool} {inner : List Token} {ds : List Doc}
        → FlowItems room may_come inner ds → Flow (suc room) (OpenList ∷ (inner ++ CloseList ∷ [])) (list (docs_of ds))
    flow_map : {room : ℕ} {may_come : Bool} {inner : List Token} {ps : List (List ℕ × Doc)}
        → FlowEntries room may_come inner ps → Flow (suc room) (OpenMap ∷ (inner ++ CloseMap ∷ [])) (dict (pairs_of ps))

  -- tokens spell a value in a flow: a scalar, or a flow
  pub data FlowValue : ℕ → List Token → Doc → Type 0 where
    flow_scalar : {room : ℕ} {d : Doc} → FlowValue room (Scalar d ∷ []) d
    inner_flow : {room : ℕ} {tokens : List Token} {d : Doc} → Flow room tokens d → FlowValue room tokens d

  -- items with commas between them, and maybe one behind the last: whether an item may come next
  pub data FlowItems : ℕ → Bool → List Token → List Doc → Type 0 where
    no_item : {room : ℕ} → FlowItems room true [] []
    one_item : {room : ℕ} {before tokens : List Token} {ds : List Doc} {d : Doc}
        → FlowItems room true before ds → FlowValue room tokens d → FlowItems room false (before ++ tokens) (ds ++ d ∷ [])
    item_comma : {room : ℕ} {before : List Token} {ds : List Doc} → FlowItems room false before ds → FlowItems room true (before ++ Comma ∷ []) ds

  -- keys with their values, each key once, with commas likewise
  pub data FlowEntries : ℕ → Bool → List Token → List (List ℕ × Doc) → Type 0 where
    no_entry : {room : ℕ} → FlowEntries room true [] []
    one_entry : {room : ℕ} {before tokens : List Token} {ps : List (List ℕ × Doc)} {d : Doc} (key : List ℕ)
        → FlowEntries room true before ps → pair_at key (pairs_of ps) ≡ None → FlowValue room tokens d
        → FlowEntries room false (before ++ Key key ∷ tokens) (with_pair key d ps)
    entry_comma : {room : ℕ} {before : List Token} {ps : List (List ℕ × Doc)} → FlowEntries room false before ps → FlowEntries room true (before ++ Comma ∷ []) ps

-- the tokens of a line spell a document: lists and maps nest at most 100 deep
abbrev pub SpellsFlow : List Token → Doc → Type 0
SpellsFlow tokens d = Flow 100 tokens d
