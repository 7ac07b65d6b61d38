-- The names of members, against the texts that are kept.
use Rattle.std.proofs.Common.{◌≡◌, ◌&&◌, T, ℕ, Bool, true, false, List, [], ◌∷◌, bytes_eq, refl, sym, ◌∙◌}
use Rattle.std.specs.declared.cmp.Ordering.{Ordering}
use Rattle.std.specs.declared.cmp.Ordering.TheVariants.{Less, Equal, Greater}
use Rattle.std.specs.Ordering.{is_lt}
use Rattle.std.specs.FinMap as finite
use Rattle.std.specs.FinMap.Entries.{below_all, is_sorted}
use Rattle.std.specs.FinSet as set
use Rattle.std.specs.List.{AllByRecursion}
use Rattle.std.specs.List.Sorted.{IsStrictlySortedBy}
use Rattle.std.specs.Map.{keys_of}
use Rattle.std.proofs.lemmas.Map.Made.{is_some-lookup}
use Rattle.doc_tree.specs.Text.{text_cmp}
use Rattle.membership.specs.TextSets.{in_order, IsRising}
use Rattle.membership.specs.Members.{GroupsByName}
use Rattle.membership.specs.MemberNames.{listed_names}
use Rattle.membership.specs.NameSets.{seen}
use Rattle.membership.specs.Rooms.{Entries, groups_seen}
use Rattle.membership.proofs.TextSetLemmas.{any-tied, in_order-same, in_order-rising}
use Rattle.membership.proofs.NameSetLemmas.{contains-seen}
use Rattle.membership.proofs.RoomLemmas.{has_found}

-- the names of a set that is kept are the texts that are kept, in order
pub listed_names-seen : (ks : List (List ℕ)) → in_order ks ≡ listed_names (seen ks)
listed_names-seen ks =
    in_order-same ks (set.items (seen ks)) (λ q. sym (contains-seen ks q) ∙ set.contains-items (seen ks) q ∙ any-tied q (set.items (seen ks)))

one : (a b : Bool) → T (a && b) → T a
one true b h = tt
one false b h = absurd h

other : (a b : Bool) → T (a && b) → T b
other true b h = h
other false b h = absurd h

less : (r : Ordering) → T (is_lt r) → r ≡ Less
less Less h = refl
less Equal h = absurd h
less Greater h = absurd h

module _ {X : Type 0} where
  below-all : (k : List ℕ) (es : List (List ℕ × X)) → T (below_all text_cmp k es) → AllByRecursion (λ name. text_cmp k name ≡ Less) (keys_of es)
  below-all k [] below = tt
  below-all k (e ∷ es) below = (less _ (one _ _ below), below-all k es (other _ _ below))

  rise : (es : List (List ℕ × X)) → T (is_sorted text_cmp es) → IsRising (keys_of es)
  unfolding IsStrictlySortedBy
  rise [] sorted = tt
  rise (e ∷ es) sorted = (below-all e.0 es (one _ _ sorted), rise es (other _ _ sorted))

  -- the keys of a map rise
  keys-rise : (m : finite.FinMap text_cmp X) → IsRising (finite.keys m)
  keys-rise m = rise (finite.entries m) (finite.entries_sorted m)

-- the names of groups that are kept, in order
pub keys-seen : (es : Entries) → in_order (keys_of es) ≡ finite.keys (groups_seen es)
keys-seen es =
    let groups : GroupsByName = groups_seen es in
    in_order-same (keys_of es) (finite.keys groups) (λ q.
    sym (is_some-lookup (bytes_eq q) es)
    ∙ has_found es groups q refl
    ∙ finite.contains_key-keys groups q
    ∙ any-tied q (finite.keys groups))
    ∙ in_order-rising (finite.keys groups) (keys-rise groups)
