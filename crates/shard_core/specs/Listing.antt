-- Which organisations a shard adds to the listing of its site.
use Rattle.std.specs.Prelude.{ℕ, List, Bool, ◌&&◌, ◌==◌, is_some, bytes_eq}
use Rattle.std.specs.BTreeSet.{BTreeSet, contains}
use Rattle.doc_tree.specs.Text.{text_cmp}
use Rattle.org_core.specs.States.{Kept, state_in}
use Rattle.org_machine.specs.Alone.{States}
use Rattle.shard_core.specs.declared.shards.Shard.{Shard}
use Rattle.shard_core.specs.Shards.{states_in, shard_of}

-- the name is in the set
abbrev pub has : BTreeSet (List ℕ) → List ℕ → Bool
has names name = contains text_cmp names name

-- an organisation of this name is there
abbrev pub is_there : States → List ℕ → Bool
is_there states name = is_some (states name).state

-- an organisation of this name belongs to the shard of this number, of so many
abbrev pub belongs : ℕ → ℕ → List ℕ → Bool
belongs number count name = shard_of name count == number

-- what is kept shows an organisation of this name: it is kept under it, belongs to this shard and is there
abbrev pub shows : ℕ → ℕ → List ℕ → List ℕ × Kept → Bool
shows number count name entry = bytes_eq name entry.0 && (belongs number count name && is_some (state_in entry.1))

-- the shard adds this name: it belongs to it, and its organisation is there
abbrev pub adds : Shard → ℕ → ℕ → List ℕ → Bool
adds shard number count name = belongs number count name && is_there (states_in shard) name
