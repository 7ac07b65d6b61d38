-- What is said of a host that may tell what it holds, and may not.
use Rattle.std.specs.Prelude.{Option, Some, None, ⊤}
use Rattle.host_tree.specs.Entries.{Entries}

-- this is so of what a host holds, where it tells it
abbrev pub Told : Option Entries → (Entries → Type 0) → Type 0
Told None P = ⊤
Told (Some host) P = P host

-- this lies between what a host held and what it holds, where it tells it; and it tells after where it told before
abbrev pub Tells : (Entries → Entries → Type 0) → Option Entries → Option Entries → Type 0
Tells R None None = ⊤
Tells R None (Some new) = ⊥
Tells R (Some host) None = ⊥
Tells R (Some host) (Some new) = R host new
