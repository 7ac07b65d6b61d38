-- What a site of one shard has.
use Rattle.std.proofs.Common.{◌≡◌, ℕ, zero, suc, List, [], ◌∷◌, slice_get, refl}
use Rattle.std.specs.Option.{option_map_or}
use Rattle.org_core.specs.FullStates.{none}
use Rattle.shard_core.specs.declared.shards.Shard.{Shard}
use Rattle.shard_core.specs.Shards.{states_in, site_states, shard_of}

nobody_at : (shard : Shard) (place : ℕ) (name : List ℕ) → states_in shard name ≡ none
    → option_map_or (λ s. states_in s name) (slice_get (shard ∷ []) place) none ≡ none
nobody_at shard zero name absent = absent
nobody_at shard (suc place) name absent = refl

-- a site of one shard has the organisations of this shard
pub nobody_in : (shard : Shard) → ((name : List ℕ) → states_in shard name ≡ none) → (name : List ℕ) → site_states (shard ∷ []) name ≡ none
nobody_in shard absent name = nobody_at shard (shard_of name 1) name (absent name)
