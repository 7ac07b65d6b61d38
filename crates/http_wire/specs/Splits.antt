-- How a stream of bytes splits into whole messages and a rest.
use Rattle.std.specs.Prelude.{◌≡◌, ℕ, ◌+◌, ◌-◌, ◌≤◌, List, [], ◌∷◌, length, Option}
use Rattle.std.specs.Io.KnownBytes.{prepend_known}
use Rattle.http_wire.specs.Message.{Message, print_message, IsMessage, Begins, BeginsNone, last_place}

-- the place in the stream behind these messages, the first of which stands at `place`
abbrev pub place_after : ℕ → List Message → ℕ
place_after place [] = place
place_after place (m ∷ ms) = place_after (place + length (print_message m)) ms

-- the bytes are these messages, one behind the other, and then rest; no message ends after the last place
abbrev pub BeginsAll : ℕ → List ℕ → List Message → List ℕ → Type 0
BeginsAll place bytes [] rest = bytes ≡ rest
BeginsAll place bytes (m ∷ ms) rest =
    (after : List ℕ) × Begins (last_place - place) bytes m after
    × BeginsAll (place + length (print_message m)) after ms rest

-- the bytes are these messages and then rest, which begins with no further one
pub record Splits (place : ℕ) (bytes : List ℕ) (ms : List Message) (rest : List ℕ) : Type 0 where
  pub whole : BeginsAll place bytes ms rest
  pub none : BeginsNone (last_place - place_after place ms) rest

-- what is left of a stream lost the message m at its front, which ends in time
pub record Takes (place : ℕ) (old new : Option (List ℕ)) (m : Message) : Type 0 where
  pub message : IsMessage m
  pub ends : place + length (print_message m) ≤ last_place
  pub bytes : old ≡ prepend_known (print_message m) new

-- what is left of a stream lost these messages at its front
abbrev pub TakesAll : ℕ → Option (List ℕ) → Option (List ℕ) → List Message → Type 0
TakesAll place old new [] = old ≡ new
TakesAll place old new (m ∷ ms) =
    (mid : Option (List ℕ)) × Takes place old mid m × TakesAll (place + length (print_message m)) mid new ms

-- what is left of a stream lost some bytes at its front, or none
abbrev pub LosesFront : Option (List ℕ) → Option (List ℕ) → Type 0
LosesFront old new = (gone : List ℕ) × (old ≡ prepend_known gone new)
