-- The walk with a stack of its own goes through the visit of the whole run list.
use Rattle.std.proofs.Common.{◌≡◌, ℕ, Bool, true, false, cond, List, [], ◌∷◌, ◌++◌, map, reverse, Option, Some, None, refl, sym, ap, subst, ◌∙◌, append_assoc, append-nil, option_map, take, ◌-◌}
use Rattle.std.proofs.lemmas.List.{reverse-append, map-append}
use Rattle.indexmap.specs.IndexSet.{insert_key}
use Rattle.std.specs.Prelude.{bytes_eq}
use Rattle.run_lists.specs.Stored.{Stored}
use Rattle.run_lists.specs.declared.names.Named.{Named}
use Rattle.run_lists.specs.declared.names.Named.TheVariants.{Recipe, Role}
use Rattle.run_lists.specs.declared.roles.RunLists.{RunLists}
use Rattle.run_lists.specs.declared.walk.Frame.{Frame}
use Rattle.run_lists.specs.declared.walk.Event.{Event as Walked}
use Rattle.run_lists.specs.Roles.{run_list_in}
use Rattle.run_lists.specs.Visits.{Event, run, missing, leave, is_among, Visit, no_item, recipe, met_again, not_there, enter, Visits}
use Rattle.run_lists.specs.Walk.{Level, State, event_of, level_of, with_level, entered, visited, ended, turned}

-- one more event was told
pub told_more : (told after : List Walked) (one : Walked) → after ≡ told ++ one ∷ [] → map event_of after ≡ map event_of told ++ event_of one ∷ []
told_more told after one e = ap (map event_of) e ∙ map-append event_of told (one ∷ [])

-- one more run list is being visited
pub framed_more : (frames after : List Frame) (one : Frame) → after ≡ frames ++ one ∷ [] → map level_of after ≡ map level_of frames ++ level_of one ∷ []
framed_more frames after one e = ap (map level_of) e ∙ map-append level_of frames (one ∷ [])

-- one more role is met
pub met_more : (met after : List (List ℕ)) (role copied : List ℕ) → after ≡ insert_key bytes_eq met copied → copied ≡ role → is_among met role ≡ false → after ≡ met ++ role ∷ []
met_more met after role copied e same new =
    e ∙ ap (λ r. insert_key bytes_eq met r) same ∙ ap (λ (b : Bool). cond b met (met ++ role ∷ [])) new

-- what stands behind the visit of a run list: its role's leave
abbrev pub closing : Option (List ℕ) → List Event → List Event
closing None later = later
closing (Some role) later = leave role ∷ later

-- the innermost level comes first
reverse-push : (levels : List Level) (level : Level) → reverse (levels ++ level ∷ []) ≡ level ∷ reverse levels
reverse-push levels level = reverse-append levels (level ∷ [])

module _ (roles : List (List ℕ × RunLists)) (env : List ℕ) where
  -- what the run lists that are being visited still give, the innermost first
  abbrev pub Pending : List (List ℕ) → List Level → List Event → List (List ℕ) → Type 0
  Pending met [] events after = (events ≡ []) × (after ≡ met)
  Pending met (level ∷ levels) events after =
      (inner : List Event) × (between : List (List ℕ)) × (later : List Event) × Visit roles env met level.left inner between × Pending between levels later after × (events ≡ inner ++ closing level.role later)

  -- what is still to come completes the visit of these items
  abbrev pub Leads : List Stored → State → Type 0
  Leads items state =
      (later : List Event) (after : List (List ℕ)) → Pending state.met (reverse state.levels) later after → Visit roles env [] items (state.events ++ later) after

  module _ (items : List Stored) where
    -- at first all items are still to be visited
    pub at_first : Leads items (record { met = []; levels = (record { role = None; left = items }) ∷ []; events = [] })
    at_first later after p =
        let all : later ≡ p.0 = p.5 ∙ ap (λ es. p.0 ++ es) p.4.0 ∙ append-nil p.0 in
        subst (λ es. Visit roles env [] items es after) (sym all) (subst (λ m. Visit roles env [] items p.0 m) (sym p.4.1) p.3)

    -- and at last none
    pub at_last : (state : State) → state.levels ≡ [] → Leads items state → Visits roles env items state.events
    at_last state none leads =
        let done : Pending state.met (reverse state.levels) [] state.met = subst (λ ls. Pending state.met (reverse ls) [] state.met) (sym none) (refl, refl) in
        (state.met, subst (λ es. Visit roles env [] items es state.met) (append-nil state.events) (leads [] state.met done))

    -- an event that was told comes before what is still to come
    told_first : (state : State) (event : Event) (later : List Event) (after : List (List ℕ)) → Visit roles env [] items (state.events ++ event ∷ later) after → Visit roles env [] items ((state.events ++ event ∷ []) ++ later) after
    told_first state event later after v = subst (λ es. Visit roles env [] items es after) (sym (append_assoc state.events (event ∷ []) later)) v

    ended_leads : (role : Option (List ℕ)) (state : State) → Leads items (with_level (record { role = role; left = [] }) state) → Leads items (ended role state)
    ended_leads None state leads later after p =
        leads later after (subst (λ ls. Pending state.met ls later after) (sym (reverse-push state.levels (record { role = None; left = [] }))) ([], state.met, later, no_item, p, refl))
    ended_leads (Some role) state leads later after p =
        told_first state (leave role) later after
        (leads (leave role ∷ later) after
        (subst (λ ls. Pending state.met ls (leave role ∷ later) after) (sym (reverse-push state.levels (record { role = Some role; left = [] }))) ([], state.met, later, no_item, p, refl)))

    module _ (state : State) (role : Option (List ℕ)) (item : Stored) (left : List Stored) (leads : Leads items (with_level (record { role = role; left = item ∷ left }) state)) where
      -- a visit of the items that are left becomes one of the item too
      begun : (inner : List Event) (between : List (List ℕ)) (later : List Event) (all : List Event) (after : List (List ℕ))
          → Visit roles env state.met (item ∷ left) inner between → Pending between (reverse state.levels) later after → all ≡ inner ++ closing role later → Visit roles env [] items (state.events ++ all) after
      begun inner between later all after v p e =
          leads all after (subst (λ ls. Pending state.met ls all after) (sym (reverse-push state.levels (record { role = role; left = item ∷ left }))) (inner, between, later, v, p, e))

      entered_leads : (name : List ℕ) (found : Option (List Stored)) → item.named ≡ Role name → is_among state.met name ≡ false → run_list_in roles env name ≡ found
          → Leads items (entered name found (with_level (record { role = role; left = left }) state))
      entered_leads name None named among list later after p =
          let q = subst (λ ls. Pending state.met ls later after) (reverse-push state.levels (record { role = role; left = left })) p in
          told_first state (missing name) later after
          (begun (missing name ∷ q.0) q.1 q.2 (missing name ∷ later) after (not_there name named among list q.3) q.4 (ap (λ es. missing name ∷ es) q.5))
      entered_leads name (Some list) named among found later after p =
          let q = subst (λ ls. Pending (state.met ++ name ∷ []) ls later after) (reverse-push (state.levels ++ (record { role = role; left = left }) ∷ []) (record { role = Some name; left = list })) p in
          let r = subst (λ ls. Pending q.1 ls q.2 after) (reverse-push state.levels (record { role = role; left = left })) q.4 in
          begun (q.0 ++ leave name ∷ r.0) r.1 r.2 later after (enter name list named among found q.3 r.3) r.4
          (q.5 ∙ ap (λ es. q.0 ++ leave name ∷ es) r.5 ∙ sym (append_assoc q.0 (leave name ∷ r.0) (closing role r.2)))

      met_leads : (name : List ℕ) (b : Bool) → item.named ≡ Role name → is_among state.met name ≡ b
          → Leads items (cond b (with_level (record { role = role; left = left }) state) (entered name (run_list_in roles env name) (with_level (record { role = role; left = left }) state)))
      met_leads name true named among later after p =
          let q = subst (λ ls. Pending state.met ls later after) (reverse-push state.levels (record { role = role; left = left })) p in
          begun q.0 q.1 q.2 later after (met_again name named among q.3) q.4 q.5
      met_leads name false named among later after p = entered_leads name (run_list_in roles env name) named among refl later after p

      visited_leads : (named : Named) → item.named ≡ named → Leads items (visited roles env item named (with_level (record { role = role; left = left }) state))
      visited_leads (Recipe name version) named later after p =
          let q = subst (λ ls. Pending state.met ls later after) (reverse-push state.levels (record { role = role; left = left })) p in
          let event = run (record { item = item; name = name; version = version }) in
          told_first state event later after (begun (event ∷ q.0) q.1 q.2 (event ∷ later) after (recipe name version named q.3) q.4 (ap (λ es. event ∷ es) q.5))
      visited_leads (Role name) named later after p = met_leads name (is_among state.met name) named refl later after p

    -- a turn goes on with the visit
    pub turned_leads : (state : State) (role : Option (List ℕ)) (left : List Stored) → Leads items (with_level (record { role = role; left = left }) state) → Leads items (turned roles env role left state)
    turned_leads state role [] leads = ended_leads role state leads
    turned_leads state role (item ∷ left) leads = visited_leads state role item left leads item.named refl

    -- before the first turn
    pub first_leads : (met : List (List ℕ)) (frames none : List Frame) (told : List Walked) (one : Frame) → met ≡ [] → frames ≡ none ++ one ∷ [] → none ≡ [] → one.role ≡ None → one.left.now ≡ items → told ≡ []
        → Leads items (record { met = met; levels = map level_of frames; events = map event_of told })
    first_leads met frames none told one no_role pushed empty root all untold =
        let levels : map level_of frames ≡ (record { role = None; left = items }) ∷ [] =
        framed_more none frames one pushed ∙ ap (λ fs. map level_of fs ++ level_of one ∷ []) empty
        ∙ ap (λ (r : Option (List ℕ)). (let level : Level = record { role = r; left = one.left.now } in level) ∷ []) (ap (option_map (λ r. r.now)) root)
        ∙ ap (λ (left : List Stored). (let level : Level = record { role = None; left = left } in level) ∷ []) all in
        let state : (let s : State = record { met = []; levels = (record { role = None; left = items }) ∷ []; events = [] } in s) ≡ record { met = met; levels = map level_of frames; events = map event_of told } =
        λ i. record { met = sym no_role i; levels = sym levels i; events = ap (map event_of) (sym untold) i } in
        subst (Leads items) state at_first

-- the state from which the innermost run list was taken
pub popped_state : (met : List (List ℕ)) (frames popped : List Frame) (told : List Walked) (one : Frame) → frames ≡ popped ++ one ∷ []
    → (let s : State = record { met = met; levels = map level_of frames; events = map event_of told } in s) ≡ with_level (level_of one) (record { met = met; levels = map level_of popped; events = map event_of told })
popped_state met frames popped told one e = λ i. record { met = met; levels = framed_more popped frames one e i; events = map event_of told }

-- no run list is left where none could be taken
pub none_left : (old new : List Frame) (n : ℕ) → n ≡ 0 → old ≡ new ++ [] → new ≡ take (n - 1) old → map level_of old ≡ []
none_left old new n none all rest = ap (map level_of) (all ∙ ap (λ fs. fs ++ []) (rest ∙ ap (λ m. take (m - 1) old) none))
