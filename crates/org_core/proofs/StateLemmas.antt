-- States whose parts are equal.
use Rattle.std.proofs.Common.{◌≡◌, Bool, true, false, Some, refl, ◌∙◌}
use Rattle.membership.specs.Rooms as groups
use Rattle.object_store.specs.Objects.{Store}
use Rattle.org_shelves.specs.Shelved as shelves
use Rattle.org_core.specs.States.{IsNobody, state_from}

-- what is kept of one is what is kept of the other, for which room doesn't count
pub record AreCopies (s t : Store) (g h : groups.Kept) (c d : shelves.Kept) : Type 0 where
  pub objects : t.objects ≡ s.objects
  pub lists : t.lists ≡ s.lists
  pub membership : h.membership ≡ g.membership
  pub shelved : d.shelved ≡ c.shelved

-- so the states are one
pub same_state : (there : Bool) (s t : Store) (g h : groups.Kept) (c d : shelves.Kept) → AreCopies s t g h c d → state_from there t h d ≡ state_from there s g c
same_state true s t g h c d same = λ i. Some (record { objects = same.objects i; lists = same.lists i; membership = same.membership i; shelved = same.shelved i })
same_state false s t g h c d same = refl

-- and where one isn't there, the other holds nothing
pub same_nobody : (there : Bool) (s t : Store) (g h : groups.Kept) (c d : shelves.Kept) → AreCopies s t g h c d → IsNobody there s g c → IsNobody there t h d
same_nobody there s t g h c d same nobody gone =
    let (objects, lists, membership, shelved) = nobody gone in
    (same.objects ∙ objects, same.lists ∙ lists, same.membership ∙ membership, same.shelved ∙ shelved)
