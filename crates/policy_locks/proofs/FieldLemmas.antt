-- Fields that were read.
use Rattle.std.proofs.Common.{◌≡◌, ℕ, List, Option, Some, None, Ok, ok_or, ap}
use Rattle.cookbook_meta.proofs.DoneLemmas.{same_ok}

-- what a field was read as was found
pub must_done : {A : Type 0} (o : Option A) (key : List ℕ) (x : A) → ok_or o key ≡ Ok x → o ≡ Some x
must_done (Some y) key x is = ap Some (same_ok (List ℕ) y x is)
must_done None key x is = cc
