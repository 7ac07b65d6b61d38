-- What is said of a host that may tell, from call to call.
use Rattle.std.proofs.Common.{◌≡◌, Option, Some, None, sym, subst}
use Rattle.host_tree.specs.Entries.{Entries}
use Rattle.host_tree.specs.Told.{Tells}

-- nothing was called
pub tells_same : (R : Entries → Entries → Type 0) → ((h : Entries) → R h h) → (a b : Option Entries) → b ≡ a → Tells R a b
tells_same R f a b same = subst (λ (o : Option Entries). Tells R a o) (sym same) (here a)
  where
    here : (o : Option Entries) → Tells R o o
    here None = tt
    here (Some h) = f h

-- what follows of a change
pub tells_map : (R S : Entries → Entries → Type 0) → ((h n : Entries) → R h n → S h n) → (a b : Option Entries) → Tells R a b → Tells S a b
tells_map R S f None None r = tt
tells_map R S f None (Some n) r = absurd r
tells_map R S f (Some h) None r = absurd r
tells_map R S f (Some h) (Some n) r = f h n r

-- one change after another
pub tells_then : (R S T : Entries → Entries → Type 0) → ((h m n : Entries) → R h m → S m n → T h n) → (a b c : Option Entries) → Tells R a b → Tells S b c → Tells T a c
tells_then R S T f None None None r s = tt
tells_then R S T f None None (Some n) r s = absurd s
tells_then R S T f None (Some m) c r s = absurd r
tells_then R S T f (Some h) None c r s = absurd r
tells_then R S T f (Some h) (Some m) None r s = absurd s
tells_then R S T f (Some h) (Some m) (Some n) r s = f h m n r s
