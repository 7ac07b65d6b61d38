-- How a flow is read token by token: the open brackets, and what one token more makes of them.
use Rattle.std.specs.Prelude.{ℕ, Bool, true, false, ◌&&◌, nat_lt, is_some, if◌then◌else◌, List, [], ◌∷◌, ◌++◌, length, Option, Some, None, option_map, option_and_then}
use Rattle.doc_tree.specs.Doc.{Doc, list, dict, docs_of, pairs_of}
use Rattle.doc_tree.specs.Part.{pair_at, with_pair}
use Rattle.yaml_subset.specs.Tokens.{tokens}
use Rattle.yaml_subset.specs.declared.token.Token.{Token}
use Rattle.yaml_subset.specs.declared.token.Token.TheVariants.{OpenList, OpenMap, CloseList, CloseMap, Comma, Key, Scalar}
use Rattle.yaml_subset.specs.declared.flow.Want.{Want}
use Rattle.yaml_subset.specs.declared.flow.Want.TheVariants.{More, Node, Sign}
use Rattle.yaml_subset.specs.declared.flow.Bracket.{Bracket}
use Rattle.yaml_subset.specs.declared.flow.Bracket.TheVariants.{InList, InMap}
use Rattle.yaml_subset.specs.declared.flow.Flowing.{Flowing}
use Rattle.yaml_subset.specs.declared.flow.Flowing.TheVariants.{Before, Within, Over}

abbrev pub within : Want → Bracket → List Bracket → Flowing
within want one below = Within (record { want = want; bracket = one; below = below })

-- the list or map, with this document as its next item or as the value of its key
abbrev pub put : Doc → Bracket → Bracket
put d (InList ds) = InList (ds ++ d ∷ [])
put d (InMap ps k) = InMap (with_pair k d ps) []

-- whether a value may come: an item of a list, or behind a key
abbrev pub takes : Want → Bracket → Bool
takes More (InList ds) = true
takes More (InMap ps k) = false
takes Node (InList ds) = false
takes Node (InMap ps k) = true
takes Sign b = false

-- a bracket that opens where a value may come; lists and maps nest at most 100 deep
abbrev pub opens : Bracket → Want → Bracket → List Bracket → Option Flowing
opens new want one below = if takes want one && nat_lt (length below) 99 then Some (within More new (one ∷ below)) else None

-- a bracket that closes
abbrev pub closed : Doc → List Bracket → Flowing
closed d [] = Over d
closed d (one ∷ below) = within Sign (put d one) below

-- a key, where one may come that the map hasn't yet
abbrev pub names : List ℕ → Want → Bracket → List Bracket → Option Flowing
names k More (InList ds) below = None
names k More (InMap ps last) below = if is_some (pair_at k (pairs_of ps)) then None else Some (within Node (InMap ps k) below)
names k Node one below = None
names k Sign one below = None

abbrev pub closes_list : Want → Bracket → List Bracket → Option Flowing
closes_list More (InList ds) below = Some (closed (list (docs_of ds)) below)
closes_list More (InMap ps k) below = None
closes_list Node one below = None
closes_list Sign (InList ds) below = Some (closed (list (docs_of ds)) below)
closes_list Sign (InMap ps k) below = None

abbrev pub closes_map : Want → Bracket → List Bracket → Option Flowing
closes_map More (InList ds) below = None
closes_map More (InMap ps k) below = Some (closed (dict (pairs_of ps)) below)
closes_map Node one below = None
closes_map Sign (InList ds) below = None
closes_map Sign (InMap ps k) below = Some (closed (dict (pairs_of ps)) below)

-- a comma behind a value
abbrev pub goes_on : Want → Bracket → List Bracket → Option Flowing
goes_on More one below = None
goes_on Node one below = None
goes_on Sign one below = Some (within More one below)

-- one token more within brackets
abbrev pub flow_within : Token → Want → Bracket → List Bracket → Option Flowing
flow_within OpenList want one below = opens (InList []) want one below
flow_within OpenMap want one below = opens (InMap [] []) want one below
flow_within CloseList want one below = closes_list want one below
flow_within CloseMap want one below = closes_map want one below
flow_within Comma want one below = goes_on want one below
flow_within (Key k) want one below = names k want one below
flow_within (Scalar d) want one below = if takes want one then Some (within Sign (put d one) below) else None

-- the first token: a bracket that opens
abbrev pub flow_begins : Token → Option Flowing
flow_begins OpenList = Some (within More (InList []) [])
flow_begins OpenMap = Some (within More (InMap [] []) [])
flow_begins CloseList = None
flow_begins CloseMap = None
flow_begins Comma = None
flow_begins (Key k) = None
flow_begins (Scalar d) = None

-- one token more
abbrev pub flow_step : Token → Flowing → Option Flowing
flow_step token Before = flow_begins token
flow_step token (Within w) = flow_within token w.want w.bracket w.below
flow_step token (Over d) = None

-- tokens, one by one
abbrev pub flow_run : Option Flowing → List Token → Option Flowing
flow_run o [] = o
flow_run o (token ∷ more) = flow_run (option_and_then (flow_step token) o) more

-- the document, where the outermost bracket is closed
abbrev pub flow_over : Flowing → Option Doc
flow_over Before = None
flow_over (Within w) = None
flow_over (Over d) = Some d

-- what is read from here, so many bytes further on
abbrev pub flow_from : Flowing → ℕ → List ℕ → Option Doc
flow_from flowing n text = option_and_then flow_over (option_and_then (flow_run (Some flowing)) (tokens n text))

-- the document of a flow, whole on its line
abbrev pub flow_doc : List ℕ → Option Doc
flow_doc text = flow_from Before 0 text

-- what a flow comes to with this token, and how many bytes of that stand behind its first one
abbrev pub with_token : Flowing → Option (Token × ℕ) → Option (Flowing × ℕ)
with_token flowing None = None
with_token flowing (Some p) = option_map (λ next. (next, p.1)) (flow_step p.0 flowing)
