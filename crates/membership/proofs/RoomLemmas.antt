-- The groups and rooms that are seen, against the groups that are kept.
use Rattle.std.proofs.Common.{◌≡◌, ◌<◌, ◌+◌, Bool, true, false, cond, ℕ, List, [], ◌∷◌, map, length, drop, get_or, Option, None, Some, option_map, unwrap_or, is_some, Result, Ok, Err, OnOk, bytes_eq, sym, ap, refl, ◌∙◌}
use Rattle.std.specs.Option.{option_map_or}
use Rattle.std.specs.Ordering.{eq_by_cmp}
use Rattle.std.specs.Cmp.Lexicographic.{nat_list_cmp_total, nat_list_eq_equiv, bytes_decides}
use Rattle.std.specs.FinMap as finite
use Rattle.std.specs.Map.{lookup}
use Rattle.std.proofs.lemmas.Bool.{false_from_ne_true}
use Rattle.std.proofs.lemmas.List.{drop_more}
use Rattle.doc_tree.specs.Text.{text_cmp}
use Rattle.membership.specs.declared.lists.GroupRow.{GroupRow}
use Rattle.membership.specs.Members.{Members, GroupsByName, Rooms}
use Rattle.membership.specs.Rooms.{KeptGroup, Entries, groups_seen, rooms_seen, room_of, OthersKeepRoom}
use Rattle.membership.specs.Changes.{changed}
use Rattle.membership.specs.Lists.{members_in, with_rows}
use Rattle.membership.proofs.SearchLemmas.{text_cmp_ties}
use Rattle.membership.proofs.TextSetLemmas.{tied}

-- one group is written
abbrev pub Written : Entries → Entries → List ℕ → Option KeptGroup → Type 0
Written old new name now = (q : List ℕ) → lookup (bytes_eq q) new ≡ cond (bytes_eq name q) now (lookup (bytes_eq q) old)

module _ {X : Type 0} (f : KeptGroup → X) where
  -- what is seen of each group
  abbrev pub shown : Entries → finite.FinMap text_cmp X
  shown es = finite.from_entries (map (λ e. (e.0, f e.1)) es)

  find-shown : (es : Entries) (q : List ℕ) → finite.find text_cmp q (map (λ (e : List ℕ × KeptGroup). (e.0, f e.1)) es) ≡ option_map f (lookup (bytes_eq q) es)
  find-shown [] q = refl
  find-shown (e ∷ es) q =
      ap (λ b. cond b (Some (f e.1)) (finite.find text_cmp q (map (λ (e : List ℕ × KeptGroup). (e.0, f e.1)) es))) (tied q e.0)
      ∙ elim (bytes_eq q e.0) as (λ b. cond b (Some (f e.1)) (finite.find text_cmp q (map (λ (e : List ℕ × KeptGroup). (e.0, f e.1)) es)) ≡ option_map f (cond b (Some e.1) (lookup (bytes_eq q) es))) [
        | true ↦ refl
        | false ↦ find-shown es q
      ]

  pub get-shown : (es : Entries) (q : List ℕ) → finite.get (shown es) q ≡ option_map f (lookup (bytes_eq q) es)
  get-shown es q = finite.get-from_entries nat_list_cmp_total (map (λ (e : List ℕ × KeptGroup). (e.0, f e.1)) es) q ∙ find-shown es q

  pub same_shown : (m n : finite.FinMap text_cmp X) → ((q : List ℕ) → finite.get m q ≡ finite.get n q) → m ≡ n
  same_shown m n same = finite.same_map nat_list_cmp_total text_cmp_ties m n same

  put_shown : (b : Bool) (now : KeptGroup) (before : Option KeptGroup) → option_map f (cond b (Some now) before) ≡ cond b (Some (f now)) (option_map f before)
  put_shown true now before = refl
  put_shown false now before = refl

  gone_shown : (b : Bool) (before : Option KeptGroup) → option_map f (cond b None before) ≡ cond b None (option_map f before)
  gone_shown true before = refl
  gone_shown false before = refl

  swapped : (name q : List ℕ) → bytes_eq name q ≡ eq_by_cmp text_cmp q name
  swapped name q = nat_list_eq_equiv.symm name q ∙ sym (tied q name)

  pub shown-insert : (old new : Entries) (name : List ℕ) (now : KeptGroup) → Written old new name (Some now) → shown new ≡ finite.insert (shown old) name (f now)
  shown-insert old new name now puts =
      same_shown (shown new) (finite.insert (shown old) name (f now)) (λ q.
      get-shown new q
      ∙ ap (option_map f) (puts q)
      ∙ put_shown (bytes_eq name q) now (lookup (bytes_eq q) old)
      ∙ (λ i. cond (swapped name q i) (Some (f now)) (sym (get-shown old q) i))
      ∙ sym (finite.get-insert nat_list_cmp_total (shown old) name (f now) q))

  pub shown-remove : (old new : Entries) (name : List ℕ) → Written old new name None → shown new ≡ finite.remove (shown old) name
  shown-remove old new name takes =
      same_shown (shown new) (finite.remove (shown old) name) (λ q.
      get-shown new q
      ∙ ap (option_map f) (takes q)
      ∙ gone_shown (bytes_eq name q) (lookup (bytes_eq q) old)
      ∙ (λ i. cond (swapped name q i) None (sym (get-shown old q) i))
      ∙ sym (finite.get-remove nat_list_cmp_total (shown old) name q))

-- the members that are seen of a group that is found
pub members_found : (es : Entries) (groups : GroupsByName) (name : List ℕ) (found : Option KeptGroup) → groups_seen es ≡ groups → found ≡ lookup (bytes_eq name) es
    → finite.get groups name ≡ option_map (λ g. g.members) found
members_found es groups name found is looked =
    ap (λ (m : GroupsByName). finite.get m name) (sym is) ∙ get-shown (λ g. g.members) es name ∙ ap (option_map (λ (g : KeptGroup). g.members)) (sym looked)

is_some-map : (found : Option KeptGroup) → is_some (option_map (λ (g : KeptGroup). g.members) found) ≡ is_some found
is_some-map None = refl
is_some-map (Some group) = refl

-- a group is seen where it is kept
pub has_found : (es : Entries) (groups : GroupsByName) (name : List ℕ) → groups_seen es ≡ groups → is_some (lookup (bytes_eq name) es) ≡ is_some (finite.get groups name)
has_found es groups name is =
    sym (ap is_some (members_found es groups name (lookup (bytes_eq name) es) is refl) ∙ is_some-map (lookup (bytes_eq name) es))

-- what holds after a success holds also where more is given
pub even_if : {T E : Type 0} (r : Result T E) (B P : Type 0) → OnOk r P → OnOk r (B → P)
even_if (Ok x) B P p = λ _. p
even_if (Err e) B P p = tt

-- and the room
pub room_found : (es : Entries) (rooms : Rooms) (name : List ℕ) (found : Option KeptGroup) → rooms_seen es ≡ rooms → found ≡ lookup (bytes_eq name) es
    → room_of rooms name ≡ unwrap_or (option_map (λ g. g.spare) found) 0
room_found es rooms name found is looked =
    ap (λ (m : Rooms). room_of m name) (sym is)
    ∙ ap (λ (o : Option ℕ). unwrap_or o 0) (get-shown (λ g. g.spare) es name ∙ ap (option_map (λ (g : KeptGroup). g.spare)) (sym looked))

-- a change of a group that is found
pub groups_changed : (before after : Entries) (groups : GroupsByName) (name : List ℕ) (change : Members → Members) (part now : KeptGroup) → groups_seen before ≡ groups → Some part ≡ lookup (bytes_eq name) before
    → Written before after name (Some now) → now.members ≡ change part.members → groups_seen after ≡ changed name change groups
groups_changed before after groups name change part now is found written made =
    shown-insert (λ g. g.members) before after name now written
    ∙ (λ i. finite.insert (is i) name (made i))
    ∙ ap (λ (o : Option Members). option_map_or (λ members. finite.insert groups name (change members)) o groups) (sym (members_found before groups name (Some part) is found))

-- a change of none
pub groups_unchanged : (es : Entries) (groups : GroupsByName) (name : List ℕ) (change : Members → Members) → groups_seen es ≡ groups → None ≡ lookup (bytes_eq name) es → groups ≡ changed name change groups
groups_unchanged es groups name change is absent =
    ap (λ (o : Option Members). option_map_or (λ members. finite.insert groups name (change members)) o groups) (sym (members_found es groups name None is absent))

-- a group that is written with the members that it had
pub groups_same : (before after : Entries) (groups : GroupsByName) (name : List ℕ) (part now : KeptGroup) → groups_seen before ≡ groups → Some part ≡ lookup (bytes_eq name) before
    → Written before after name (Some now) → now.members ≡ part.members → groups_seen after ≡ groups
groups_same before after groups name part now is found written made =
    same_shown (λ g. g.members) (groups_seen after) groups (λ q.
    get-shown (λ g. g.members) after q
    ∙ ap (option_map (λ (g : KeptGroup). g.members)) (written q)
    ∙ by q (bytes_eq name q) refl
    ∙ sym (get-shown (λ g. g.members) before q)
    ∙ ap (λ (m : GroupsByName). finite.get m q) is)
  where
    by : (q : List ℕ) (b : Bool) → bytes_eq name q ≡ b → option_map (λ (g : KeptGroup). g.members) (cond b (Some now) (lookup (bytes_eq q) before)) ≡ option_map (λ (g : KeptGroup). g.members) (lookup (bytes_eq q) before)
    by q true same =
        ap Some made ∙ ap (option_map (λ (g : KeptGroup). g.members)) (found ∙ ap (λ k. lookup (bytes_eq k) before) ((bytes_decides name q).0 same))
    by q false same = refl

-- the room in a group that was written
pub room_written : (before after : Entries) (name : List ℕ) (now : KeptGroup) → Written before after name (Some now) → room_of (rooms_seen after) name ≡ now.spare
room_written before after name now written =
    ap (λ (o : Option ℕ). unwrap_or o 0)
    (get-shown (λ g. g.spare) after name
    ∙ ap (option_map (λ (g : KeptGroup). g.spare)) (written name)
    ∙ ap (λ b. option_map (λ (g : KeptGroup). g.spare) (cond b (Some now) (lookup (bytes_eq name) before))) (nat_list_eq_equiv.refl name))

-- and in every other
pub others_room : (before after : Entries) (rooms : Rooms) (name : List ℕ) (now : KeptGroup) → rooms_seen before ≡ rooms → Written before after name (Some now) → OthersKeepRoom name rooms (rooms_seen after)
others_room before after rooms name now is written other apart =
    ap (λ (o : Option ℕ). unwrap_or o 0)
    (get-shown (λ g. g.spare) after other
    ∙ ap (option_map (λ (g : KeptGroup). g.spare)) (written other)
    ∙ ap (λ b. option_map (λ (g : KeptGroup). g.spare) (cond b (Some now) (lookup (bytes_eq other) before))) (false_from_ne_true (bytes_eq name other) (λ same. apart (sym ((bytes_decides name other).0 same))))
    ∙ sym (get-shown (λ g. g.spare) before other))
    ∙ ap (λ (m : Rooms). room_of m other) is

-- one more row
pub rows_more : (rows : List GroupRow) (i : ℕ) (row : GroupRow) (name : List ℕ) (members : Members) (before after whole : GroupsByName) → i < length rows → row ≡ get_or rows i row
    → name ≡ row.name → members ≡ members_in row → after ≡ finite.insert before name members → with_rows before (drop i rows) ≡ whole → with_rows after (drop (i + 1) rows) ≡ whole
rows_more rows i row name members before after whole within is named made inserted so_far =
    ap (λ (m : GroupsByName). with_rows m (drop (i + 1) rows)) (inserted ∙ (λ j. finite.insert before (named j) (made j)) ∙ ap (λ (r : GroupRow). finite.insert before r.name (members_in r)) is)
    ∙ ap (with_rows before) (sym (drop_more rows i row within))
    ∙ so_far
