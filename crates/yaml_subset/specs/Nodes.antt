-- What marks spell (YAML 1.2.2, chapter 8): block lists and maps, where columns stand for indents.
use Rattle.std.specs.Prelude.{◌≡◌, ◌≤◌, ◌+◌, ℕ, suc, List, [], ◌∷◌, ◌++◌, None}
use Rattle.doc_tree.specs.Doc.{Doc, null, list, dict, docs_of, pairs_of, depth}
use Rattle.doc_tree.specs.Part.{pair_at, with_pair}
use Rattle.yaml_subset.specs.declared.mark.Mark.{Mark}
use Rattle.yaml_subset.specs.declared.mark.Mark.TheVariants.{Dash, Key, Value, Bare}

mutual
  -- marks spell a node: nothing is null, a value is on the line, or there is a block. So many lists and maps nest in it at most, a list in it has its dashes at column `lists` or right of it, a map its keys at `maps` or right of it
  pub data Node : ℕ → ℕ → ℕ → List Mark → Doc → Type 0 where
    nothing : {room lists maps : ℕ} → Node room lists maps [] null
    value : {room lists maps : ℕ} {d : Doc} → depth d ≤ room → Node room lists maps (Value d ∷ []) d
    block : {room lists maps : ℕ} {marks : List Mark} {d : Doc} → Block room lists maps marks d → Node room lists maps marks d

  -- marks spell a block: a list of items, or a map of keys, each at one column
  pub data Block : ℕ → ℕ → ℕ → List Mark → Doc → Type 0 where
    block_list : {room lists maps column : ℕ} {marks : List Mark} {ds : List Doc}
        → lists ≤ column → Items room column marks ds → Block (suc room) lists maps marks (list (docs_of ds))
    block_map : {room lists maps column : ℕ} {marks : List Mark} {ps : List (List ℕ × Doc)}
        → maps ≤ column → Entries room column marks ps → Block (suc room) lists maps marks (dict (pairs_of ps))

  -- items, one or more: behind the dash at this column comes a node right of it
  pub data Items : ℕ → ℕ → List Mark → List Doc → Type 0 where
    first_item : {room column : ℕ} {behind : List Mark} {d : Doc}
        → Node room (column + 1) (column + 1) behind d → Items room column (Dash column ∷ behind) (d ∷ [])
    next_item : {room column : ℕ} {before behind : List Mark} {ds : List Doc} {d : Doc}
        → Items room column before ds → Node room (column + 1) (column + 1) behind d → Items room column (before ++ Dash column ∷ behind) (ds ++ d ∷ [])

  -- keys, one or more, each once: behind the key at this column comes a node right of it, or a list at the same column
  pub data Entries : ℕ → ℕ → List Mark → List (List ℕ × Doc) → Type 0 where
    first_entry : {room column : ℕ} {behind : List Mark} {d : Doc} (key : List ℕ)
        → Node room column (column + 1) behind d → Entries room column (Key column key ∷ behind) ((key, d) ∷ [])
    next_entry : {room column : ℕ} {before behind : List Mark} {ps : List (List ℕ × Doc)} {d : Doc} (key : List ℕ)
        → Entries room column before ps → pair_at key (pairs_of ps) ≡ None → Node room column (column + 1) behind d
        → Entries room column (before ++ Key column key ∷ behind) (with_pair key d ps)

-- the marks of a text spell a document: nothing is null, a value stands alone, or there is a block. Lists and maps nest at most 100 deep
pub data SpellsMarks : List Mark → Doc → Type 0 where
  empty : SpellsMarks [] null
  alone : {d : Doc} → depth d ≤ 100 → SpellsMarks (Bare d ∷ []) d
  one_block : {marks : List Mark} {d : Doc} → Block 100 0 0 marks d → SpellsMarks marks d
