-- What is left of a stream.
use Rattle.std.specs.Prelude.{ℕ, List}
use Rattle.std.specs.declared.option.Option.{Option}
use Rattle.std.specs.Io.KnownBytes.{prepend_known}
use Rattle.http_wire.specs.Held.{Held}

-- what the room holds, and then what the source has left
abbrev pub stream : Held → Option (List ℕ) → Option (List ℕ)
stream room left = prepend_known room.held left
