-- What a finder is told of the moves that are made: which objects of which indexes come, with which pairs, and which go.
use Rattle.std.specs.Prelude.{◌≡◌, ◌||◌, ℕ, Bool, true, false, List, [], ◌∷◌, ◌++◌, Option, Some, None, map, option_map}
use Rattle.std.specs.FinMap as finite
use Rattle.object_finder.specs.declared.changes.Change.{Change}
use Rattle.object_finder.specs.Held.{Held}
use Rattle.object_finder.specs.Indexes.{Entry, entry_of}
use Rattle.search_query.specs.Pair.{Pair, pair_cmp}
use Rattle.search_query.specs.Pairs.{pairs_of}
use Rattle.org_core.specs.Moves.{opens}
use Rattle.org_core.specs.declared.moves.Move.{Move}
use Rattle.org_core.specs.declared.moves.Move.TheVariants.{Open, Put, TakeOut, PutList, TakeList, AddUser, RemoveUser, AddClient, RemoveClient, PutGroup, RemoveGroup, OnShelves, OnFiles}

-- a finite map that has these pairs as its keys, and nothing at each
abbrev pub as_keys : List Pair → finite.FinMap pair_cmp (Unit {0})
as_keys pairs = finite.from_entries (map (λ p. (p, tt)) pairs)

-- these pairs, in their order and each once
abbrev pub in_order : List Pair → List Pair
in_order pairs = finite.keys (as_keys pairs)

-- what changes at an entry of an organisation: its object has these pairs from now on, or is gone
abbrev pub changed_at : List ℕ → Option (List Pair) → Entry → Change
changed_at org pairs entry = record { scope = record { org = org; index = entry.0 }; name = entry.1; pairs = pairs }

-- what changes when a move is made in an organisation of this name that is there
abbrev pub change_of : List ℕ → Move → Option Change
change_of org Open = None
change_of org (Put key object) = option_map (changed_at org (Some (in_order (pairs_of key.kind object)))) (entry_of key)
change_of org (TakeOut key) = option_map (changed_at org None) (entry_of key)
change_of org (PutList key list) = None
change_of org (TakeList key) = None
change_of org (AddUser comer) = None
change_of org (RemoveUser name) = None
change_of org (AddClient comer) = None
change_of org (RemoveClient name) = None
change_of org (PutGroup name members) = None
change_of org (RemoveGroup name) = None
change_of org (OnShelves move) = None
change_of org (OnFiles move) = None

-- a change as a list, if there is one
abbrev pub listed : Option Change → List Change
listed None = []
listed (Some change) = change ∷ []

-- what changes when a move is made: nothing in an organisation that isn't there
abbrev pub changes_of : List ℕ → Bool → Move → List Change
changes_of org false move = []
changes_of org true move = listed (change_of org move)

-- what these moves change, made in order: an organisation that isn't there has to be opened first
abbrev pub changes_by : List ℕ → Bool → List Move → List Change
changes_by org there [] = []
changes_by org there (move ∷ rest) = changes_of org there move ++ changes_by org (there || opens move) rest

-- these are the changes of the moves, for a finder that holds anything
abbrev pub AreChanges : Option Held → List ℕ → Bool → List Move → List Change → Type 0
AreChanges None org there moves changes = Unit {0}
AreChanges (Some held) org there moves changes = changes ≡ changes_by org there moves
