-- The entries of `notifies` and `subscribes`.
use Rattle.std.specs.Prelude.{ℕ, Bool, true, false, ◌||◌, List, [], Option, Some, None, option_and_then, option_map, bytes_eq, codes, if◌then◌else◌, map}
use Rattle.std.specs.List.{filter, filter_map, flat_map}
use Rattle.doc_tree.specs.Text.{text_of}
use Rattle.doc_tree.specs.Doc.{Doc, null, boolean, whole, words, list, dict, docs_list, Pairs, no_pairs, then_pair}
use Rattle.doc_tree.specs.Part.{pair_at}
use Rattle.resource_core.specs.Outcomes.{each_of}
use Rattle.resource_core.specs.declared.entries.Entry.{Entry}
use Rattle.resource_core.specs.declared.entries.StatedEntry.{StatedEntry}
use Rattle.resource_core.specs.declared.entries.Timer.{Timer}
use Rattle.resource_core.specs.declared.entries.Timer.TheVariants.{Delayed, Immediately}

-- the timer of this word
abbrev pub timer_named : List ℕ → Option Timer
timer_named word = if bytes_eq word (codes "delayed") then Some Delayed else if bytes_eq word (codes "immediately") then Some Immediately else None

-- the timer that an entry states: `delayed` where it states none
abbrev pub timer_in : Option Doc → Option Timer
timer_in None = Some Delayed
timer_in (Some d) = option_and_then timer_named (text_of d)

-- a key that an entry may have
abbrev pub is_entry_key : List ℕ → Bool
is_entry_key key = bytes_eq key (codes "action") || (bytes_eq key (codes "resource") || bytes_eq key (codes "timer"))

-- each key is one that an entry may have
abbrev pub are_entry_keys : Pairs → Bool
are_entry_keys no_pairs = true
are_entry_keys (then_pair key d ps) = if is_entry_key key then are_entry_keys ps else false

-- an action, a resource and a timer
abbrev pub entry : List ℕ → List ℕ → Timer → Entry
entry action resource timer = record { action = action; resource = resource; timer = timer }

-- the entry that these pairs state: an action, a resource and maybe a timer, each a text, and nothing else
abbrev pub entry_in : Pairs → Option Entry
entry_in ps =
    if are_entry_keys ps
    then option_and_then (λ action. option_and_then (λ resource. option_map (λ timer. entry action resource timer)
    (timer_in (pair_at (codes "timer") ps))) (option_and_then text_of (pair_at (codes "resource") ps))) (option_and_then text_of (pair_at (codes "action") ps))
    else None

-- the entry that a document is
abbrev pub entry_of : Doc → Option Entry
entry_of null = None
entry_of (boolean b) = None
entry_of (whole z) = None
entry_of (words text) = None
entry_of (list ds) = None
entry_of (dict ps) = entry_in ps

-- the entries that a document is a list of
abbrev pub entries_of : Doc → Option (List Entry)
entries_of null = None
entries_of (boolean b) = None
entries_of (whole z) = None
entries_of (words text) = None
entries_of (list ds) = each_of entry_of (docs_list ds)
entries_of (dict ps) = None

-- the documents of a list
abbrev pub items_of : Doc → List Doc
items_of null = []
items_of (boolean b) = []
items_of (whole z) = []
items_of (words text) = []
items_of (list ds) = docs_list ds
items_of (dict ps) = []

-- the documents of the list that is there, if one is
abbrev pub items_in : Option Doc → List Doc
items_in None = []
items_in (Some d) = items_of d

-- the entries among the documents of a list, whatever else stands there
abbrev pub stated_in : Option Doc → List Entry
stated_in found = filter_map entry_of (items_in found)

-- the entry's action is `create`
abbrev pub is_to_create : Entry → Bool
is_to_create e = bytes_eq e.action (codes "create")

-- the resources that the notifications of one resource are to create
abbrev pub created_by : Pairs → List (List ℕ)
created_by ps = map (λ e. e.resource) (filter is_to_create (stated_in (pair_at (codes "notifies") ps)))

-- those of all resources
abbrev pub created : List Pairs → List (List ℕ)
created all = flat_map created_by all

-- an entry that was read without memory
abbrev pub entry_by : StatedEntry → Entry
entry_by e = entry e.action.now e.resource.now e.timer
