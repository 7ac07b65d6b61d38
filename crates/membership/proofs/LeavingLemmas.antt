-- What is left of groups when each is changed where it stands.
use Rattle.std.proofs.Common.{◌≡◌, ◌≤◌, Bool, true, false, cond, ℕ, suc, List, [], ◌∷◌, length, Option, Some, option_map, unwrap_or, bytes_eq, sym, ap, subst, ◌∙◌, arith}
use Rattle.std.specs.Cmp.Lexicographic.{nat_list_cmp_total}
use Rattle.std.specs.Map.{lookup}
use Rattle.std.specs.Map.Calls.{RetainsPairs}
use Rattle.membership.specs.Leading.{listing, KeepsLists}
use Rattle.membership.specs.Members.{Members}
use Rattle.membership.specs.MapValues.{map_values}
use Rattle.membership.specs.Rooms.{KeptGroup, Entries, groups_seen, rooms_seen, room_of}
use Rattle.membership.proofs.SearchLemmas.{text_cmp_ties}
use Rattle.membership.proofs.MapValuesLemmas.{is-map_values}
use Rattle.membership.proofs.RoomLemmas.{get-shown}

-- the members that were found
abbrev pub members_at : Option KeptGroup → Option Members
members_at found = option_map (λ (g : KeptGroup). g.members) found

-- and the room
abbrev spare_at : Option KeptGroup → ℕ
spare_at found = unwrap_or (option_map (λ (g : KeptGroup). g.spare) found) 0

-- every group is kept, with its members changed and no less room
module _ {F : Type 0} (Step : F → List ℕ → KeptGroup → Bool → KeptGroup → F → Type 0) (change : Members → Members) (f : F)
    (says : (k : List ℕ) (v : KeptGroup) (b : Bool) (w : KeptGroup) (g : F) → Step f k v b w g → (b ≡ true) × (w.members ≡ change v.members) × (v.spare ≤ w.spare) × (g ≡ f)) where
  -- the first group is kept
  first_kept : (e : List ℕ × KeptGroup) (es kept : Entries) (h : RetainsPairs Step f (e ∷ es) kept) → kept ≡ (e.0, h.1) ∷ h.3
  first_kept e es kept h = h.6 ∙ ap (λ b. cond b ((e.0, h.1) ∷ h.3) h.3) (says e.0 e.1 h.0 h.1 h.2 h.4).0

  -- and so are the others
  others_kept : (e : List ℕ × KeptGroup) (es kept : Entries) (h : RetainsPairs Step f (e ∷ es) kept) → RetainsPairs Step f es h.3
  others_kept e es kept h = subst (λ g. RetainsPairs Step g es h.3) (says e.0 e.1 h.0 h.1 h.2 h.4).3 h.5

  members_kept : (es kept : Entries) → RetainsPairs Step f es kept → (q : List ℕ) → members_at (lookup (bytes_eq q) kept) ≡ option_map change (members_at (lookup (bytes_eq q) es))
  members_kept [] kept h q = ap (λ (es : Entries). members_at (lookup (bytes_eq q) es)) h
  members_kept (e ∷ es) kept h q =
      ap (λ (es : Entries). members_at (lookup (bytes_eq q) es)) (first_kept e es kept h)
      ∙ elim (bytes_eq q e.0) as (λ b. members_at (cond b (Some h.1) (lookup (bytes_eq q) h.3)) ≡ option_map change (members_at (cond b (Some e.1) (lookup (bytes_eq q) es)))) [
        | true ↦ ap Some (says e.0 e.1 h.0 h.1 h.2 h.4).1
        | false ↦ members_kept es h.3 (others_kept e es kept h) q
      ]

  room_kept : (es kept : Entries) → RetainsPairs Step f es kept → (q : List ℕ) → spare_at (lookup (bytes_eq q) es) ≤ spare_at (lookup (bytes_eq q) kept)
  room_kept [] kept h q = omega arith
  room_kept (e ∷ es) kept h q =
      subst (λ (now : Entries). spare_at (cond (bytes_eq q e.0) (Some e.1) (lookup (bytes_eq q) es)) ≤ spare_at (lookup (bytes_eq q) now)) (sym (first_kept e es kept h))
      (elim (bytes_eq q e.0) as (λ b. spare_at (cond b (Some e.1) (lookup (bytes_eq q) es)) ≤ spare_at (cond b (Some h.1) (lookup (bytes_eq q) h.3))) [
        | true ↦ (says e.0 e.1 h.0 h.1 h.2 h.4).2
        | false ↦ room_kept es h.3 (others_kept e es kept h) q
      ])

  -- the groups that are seen have changed
  pub groups_retained : (es kept : Entries) → RetainsPairs Step f es kept → groups_seen kept ≡ map_values change (groups_seen es)
  groups_retained es kept h =
      is-map_values change nat_list_cmp_total text_cmp_ties (groups_seen es) (groups_seen kept) (λ q.
      get-shown (λ g. g.members) kept q ∙ members_kept es kept h q ∙ ap (option_map change) (sym (get-shown (λ g. g.members) es q)))

  -- and none has less room
  pub rooms_retained : (es kept : Entries) → RetainsPairs Step f es kept → (name : List ℕ) → room_of (rooms_seen es) name ≤ room_of (rooms_seen kept) name
  rooms_retained es kept h name =
      let old : room_of (rooms_seen es) name ≡ spare_at (lookup (bytes_eq name) es) = ap (λ (o : Option ℕ). unwrap_or o 0) (get-shown (λ g. g.spare) es name) in
      let now : room_of (rooms_seen kept) name ≡ spare_at (lookup (bytes_eq name) kept) = ap (λ (o : Option ℕ). unwrap_or o 0) (get-shown (λ g. g.spare) kept name) in
      let more = room_kept es kept h name in
      omega (arith, old, now, more)

  -- as many groups are kept
  pub length_retained : (es kept : Entries) → RetainsPairs Step f es kept → length kept ≡ length es
  length_retained [] kept h = ap length h
  length_retained (e ∷ es) kept h = ap length (first_kept e es kept h) ∙ ap suc (length_retained es h.3 (others_kept e es kept h))

  -- and list what they did, where the change leaves that as it is
  pub lists_retained : ((members : Members) → (change members).groups ≡ members.groups) → (es kept : Entries) → RetainsPairs Step f es kept → KeepsLists es kept
  lists_retained same [] kept h = ap listing h
  lists_retained same (e ∷ es) kept h =
      ap listing (first_kept e es kept h)
      ∙ (λ i. (e.0, (ap (λ (m : Members). m.groups) (says e.0 e.1 h.0 h.1 h.2 h.4).1 ∙ same e.1.members) i) ∷ lists_retained same es h.3 (others_kept e es kept h) i)
