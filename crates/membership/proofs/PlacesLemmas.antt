-- Groups by their places.
use Rattle.std.proofs.Common.{◌≡◌, ◌↔◌, inl, inr, Bool, true, false, ℕ, List, [], length, Option, Some, None, is_some, option_map, position, get_or, bytes_eq, refl, sym, ap, subst, ◌∙◌, true≢false}
use Rattle.std.specs.Cmp.Lexicographic.{nat_list_eq_equiv, bytes_decides}
use Rattle.std.specs.FinMap as finite
use Rattle.std.specs.FinSet as set
use Rattle.std.specs.List.{slice_get, IsDistinct}
use Rattle.std.specs.Map.{keys_of, lookup}
use Rattle.std.proofs.lemmas.Bool.{false_from_ne_true}
use Rattle.std.proofs.lemmas.Map.Entries.{lookup_from_place, place_from_lookup}
use Rattle.std.proofs.lemmas.Option.{slice_get-map, slice_get_within, slice_get-get_or, same_Some}
use Rattle.std.proofs.lemmas.List.Quantifiers.{position-Some}
use Rattle.doc_tree.specs.Text.{text_cmp}
use Rattle.membership.specs.Belonging.{is_member, is_within, BelongsAmong, directly, through, belongs_among}
use Rattle.membership.specs.Leading.{at, Leads, at_once, by_way_of, Tells, lists_other, lists_at, listing, member_at, IsMemberFrom}
use Rattle.membership.specs.Members.{Members, GroupsByName}
use Rattle.membership.specs.Rooms.{KeptGroup, Entries, groups_seen}
use Rattle.membership.specs.TextSets.{Names}
use Rattle.membership.proofs.BelongingLemmas.{belongs-Belongs, Belongs-belongs}
use Rattle.membership.proofs.RoomLemmas.{get-shown}

-- what a group that is kept lists
abbrev shape : List ℕ × KeptGroup → List ℕ × Names
shape e = (e.0, e.1.members.groups)

-- two groups by their places
pub lists_at-found : (es : Entries) (from to : ℕ) (one two : Option (List ℕ × KeptGroup)) → one ≡ slice_get es from → two ≡ slice_get es to
    → lists_at (listing es) from to ≡ lists_other (option_map shape one) (option_map shape two)
lists_at-found es from to one two is other =
    (λ i. lists_other ((slice_get-map shape es from ∙ ap (option_map shape) (sym is)) i) ((slice_get-map shape es to ∙ ap (option_map shape) (sym other)) i))

-- a place that has no group, and one whose group lists none
pub lists_at-none : (es : Entries) (from : ℕ) → None ≡ slice_get es from → (to : ℕ) → lists_at (listing es) from to ≡ false
lists_at-none es from is to = lists_at-found es from to None (slice_get es to) is refl

pub lists_at-empty : (es : Entries) (from : ℕ) (e : List ℕ × KeptGroup) → Some e ≡ slice_get es from → e.1.members.groups ≡ set.empty → (to : ℕ) → lists_at (listing es) from to ≡ false
lists_at-empty es from e is empty to = lists_at-found es from to (Some e) (slice_get es to) is refl ∙ by (slice_get es to)
  where
    by : (o : Option (List ℕ × KeptGroup)) → lists_other (Some (shape e)) (option_map shape o) ≡ false
    by None = refl
    by (Some x) = ap (λ (names : Names). set.contains names x.0) empty ∙ set.contains-empty text_cmp x.0

-- a group that is found has a place
pub place_found : (test : List ℕ → Bool) (es : Entries) (i : ℕ) → Some i ≡ position test (keys_of es) → (e : List ℕ × KeptGroup) × (slice_get es i ≡ Some e) × (test e.0 ≡ true)
place_found test es i is =
    let found = position-Some test (keys_of es) i [] (sym is) in
    by found.1 (slice_get es i) refl (sym (slice_get-map (λ (e : List ℕ × KeptGroup). e.0) es i) ∙ slice_get-get_or (keys_of es) i [] found.0)
  where
    by : test (get_or (keys_of es) i []) ≡ true → (o : Option (List ℕ × KeptGroup)) → slice_get es i ≡ o → option_map (λ (e : List ℕ × KeptGroup). e.0) o ≡ Some (get_or (keys_of es) i [])
        → (e : List ℕ × KeptGroup) × (slice_get es i ≡ Some e) × (test e.0 ≡ true)
    by passes None at_it h = absurd (true≢false (sym (ap is_some h)))
    by passes (Some e) at_it h = (e, at_it, ap test (same_Some e.0 (get_or (keys_of es) i []) h) ∙ passes)

-- tests that are true alike
told : (a b : Bool) → (a ≡ true → b ≡ true) → (b ≡ true → a ≡ true) → a ≡ b
told true b h g = sym (h refl)
told false true h g = g refl
told false false h g = refl

-- who is a member of a group that isn't there
is_there-member : (caller : List ℕ) (found : Option Members) → is_member caller found ≡ true → is_some found ≡ true
is_there-member caller None h = absurd (true≢false (sym h))
is_there-member caller (Some members) h = refl

is_there-within : (inner : List ℕ) (found : Option Members) → is_within inner found ≡ true → is_some found ≡ true
is_there-within inner None h = absurd (true≢false (sym h))
is_there-within inner (Some members) h = refl

module _ (es : Entries) (groups : GroupsByName) (cells : List Bool) (caller : List ℕ) (distinct : IsDistinct bytes_eq (keys_of es)) (seen : groups_seen es ≡ groups) where
  -- what is seen of the group at a place
  found_at : (i : ℕ) (e : List ℕ × KeptGroup) → slice_get es i ≡ Some e → finite.get groups e.0 ≡ Some e.1.members
  found_at i e is =
      ap (λ (m : GroupsByName). finite.get m e.0) (sym seen)
      ∙ get-shown (λ g. g.members) es e.0
      ∙ ap (option_map (λ (g : KeptGroup). g.members)) (lookup_from_place nat_list_eq_equiv es i e.0 e.1 distinct is)

  member_found : (i : ℕ) (e : List ℕ × KeptGroup) → slice_get es i ≡ Some e → is_member caller (finite.get groups e.0) ≡ member_at es i caller
  member_found i e is =
      ap (is_member caller) (found_at i e is) ∙ ap (λ (o : Option (List ℕ × KeptGroup)). is_member caller (option_map (λ e. e.1.members) o)) (sym is)

  -- a group that is there has a place
  abbrev PlaceOf : List ℕ → Type 0
  PlaceOf group = (i : ℕ) × (e : List ℕ × KeptGroup) × (slice_get es i ≡ Some e) × (e.0 ≡ group)

  place_of : (group : List ℕ) → is_some (finite.get groups group) ≡ true → PlaceOf group
  place_of group there =
      by (lookup (bytes_eq group) es) refl (sym (ap is_some (ap (λ (m : GroupsByName). finite.get m group) (sym seen) ∙ get-shown (λ g. g.members) es group)) ∙ there)
    where
      by : (o : Option KeptGroup) → lookup (bytes_eq group) es ≡ o → is_some (option_map (λ (g : KeptGroup). g.members) o) ≡ true → PlaceOf group
      by None is h = absurd (true≢false (sym h))
      by (Some v) is h =
          let place = place_from_lookup (bytes_eq group) es v is in (place.0, (place.1, v), place.2, sym ((bytes_decides group place.1).0 place.3))

  -- a group that is listed by place
  listed_parts : (from to : ℕ) (e : List ℕ × KeptGroup) → slice_get es from ≡ Some e → lists_at (listing es) from to ≡ true
      → (x : List ℕ × KeptGroup) × (slice_get es to ≡ Some x) × (set.contains e.1.members.groups x.0 ≡ true)
  listed_parts from to e is lists = by (slice_get es to) refl (sym (lists_at-found es from to (Some e) (slice_get es to) (sym is) refl) ∙ lists)
    where
      by : (o : Option (List ℕ × KeptGroup)) → slice_get es to ≡ o → lists_other (Some (shape e)) (option_map shape o) ≡ true
          → (x : List ℕ × KeptGroup) × (slice_get es to ≡ Some x) × (set.contains e.1.members.groups x.0 ≡ true)
      by None at_it h = absurd (true≢false (sym h))
      by (Some x) at_it h = (x, at_it, h)

  -- who is a member of a group to which another leads belongs to that other
  Leads-belongs : (from to : ℕ) (e : List ℕ × KeptGroup) → slice_get es from ≡ Some e → Leads (length es) (lists_at (listing es)) from to → member_at es to caller ≡ true → BelongsAmong groups caller e.0
  Leads-belongs from to e is (at_once f t lists) member =
      let parts = listed_parts from to e is lists in
      through {inner = parts.0.0} (ap (is_within parts.0.0) (found_at from e is) ∙ parts.2) (directly (member_found to parts.0 parts.1 ∙ member))
  Leads-belongs from to e is (by_way_of {mid = mid} f m lists leads) member =
      let parts = listed_parts from mid e is lists in
      through {inner = parts.0.0} (ap (is_within parts.0.0) (found_at from e is) ∙ parts.2) (Leads-belongs mid to parts.0 parts.1 leads member)

  -- a group to which somebody belongs is there
  is_there : (group : List ℕ) → BelongsAmong groups caller group → is_some (finite.get groups group) ≡ true
  is_there group (directly is) = is_there-member caller (finite.get groups group) is
  is_there group (through {inner = inner} within belongs) = is_there-within inner (finite.get groups group) within

  module _ (tells : Tells es cells) where
    -- who belongs to a group is a member of it or of one to which it leads
    Belongs-from : (group : List ℕ) → BelongsAmong groups caller group → (i : ℕ) (e : List ℕ × KeptGroup) → slice_get es i ≡ Some e → e.0 ≡ group → IsMemberFrom es cells i caller
    Belongs-from group (directly is) i e at_it same = inl (sym (member_found i e at_it) ∙ ap (λ k. is_member caller (finite.get groups k)) same ∙ is)
    Belongs-from group (through {inner = inner} within belongs) i e at_it same =
        let place = place_of inner (is_there inner belongs) in
        let lists : set.contains e.1.members.groups place.1.0 ≡ true =
        ap (set.contains e.1.members.groups) place.3 ∙ sym (ap (is_within inner) (found_at i e at_it)) ∙ ap (λ k. is_within inner (finite.get groups k)) same ∙ within in
        let leads : at (length es) cells i place.0 ≡ true =
        tells.leading.listed i place.0 (slice_get_within es i e at_it) (slice_get_within es place.0 place.1 place.2) (lists_at-found es i place.0 (Some e) (Some place.1) (sym at_it) (sym place.2) ∙ lists) in
        elim (Belongs-from inner belongs place.0 place.1 place.2 place.3) [
          | inl member ↦ inr (place.0, slice_get_within es place.0 place.1 place.2, leads, member)
          | inr beyond ↦ inr (beyond.0, beyond.1, tells.leading.onward i place.0 beyond.0 (slice_get_within es i e at_it) (slice_get_within es place.0 place.1 place.2) beyond.1 leads beyond.2, beyond.3)
        ]

    -- and nobody else
    from-Belongs : (i : ℕ) (e : List ℕ × KeptGroup) → slice_get es i ≡ Some e → IsMemberFrom es cells i caller → BelongsAmong groups caller e.0
    from-Belongs i e at_it (inl member) = directly (member_found i e at_it ∙ member)
    from-Belongs i e at_it (inr beyond) = Leads-belongs i beyond.0 e at_it (tells.leading.sound i beyond.0 (slice_get_within es i e at_it) beyond.1 beyond.2) beyond.3

    -- what is found of a group that is there
    pub belongs-found : (name : List ℕ) (i : ℕ) (e : List ℕ × KeptGroup) (result : Bool) → slice_get es i ≡ Some e → e.0 ≡ name → (result ≡ true) ↔ IsMemberFrom es cells i caller → result ≡ belongs_among groups caller name
    belongs-found name i e result at_it same is =
        told result (belongs_among groups caller name)
        (λ yes. Belongs-belongs groups caller name (subst (BelongsAmong groups caller) same (from-Belongs i e at_it (is.0 yes))))
        (λ yes. is.1 (Belongs-from name (belongs-Belongs groups caller name yes) i e at_it same))

    -- and of one that isn't
    pub belongs-absent : (name : List ℕ) → is_some (finite.get groups name) ≡ false → false ≡ belongs_among groups caller name
    belongs-absent name absent =
        sym (false_from_ne_true (belongs_among groups caller name) (λ yes. true≢false (sym (is_there name (belongs-Belongs groups caller name yes)) ∙ absent)))
