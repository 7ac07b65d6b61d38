-- A run list is visited in one way.
use Rattle.std.proofs.Common.{◌≡◌, ℕ, Bool, true, false, List, [], ◌∷◌, ◌++◌, Option, Some, None, refl, sym, ap, subst, ◌∙◌}
use Rattle.run_lists.specs.Stored.{Stored}
use Rattle.run_lists.specs.declared.names.Named.{Named}
use Rattle.run_lists.specs.declared.names.Named.TheVariants.{Recipe, Role}
use Rattle.run_lists.specs.declared.roles.RunLists.{RunLists}
use Rattle.run_lists.specs.Roles.{run_list_in}
use Rattle.run_lists.specs.Visits.{Event, run, missing, leave, is_among, Visit, no_item, recipe, met_again, not_there, enter, Visits}

module _ (roles : List (List ℕ × RunLists)) (env : List ℕ) where
  -- what a visit gives whose first item names a role: of one that is met nothing, of one that isn't there that it is missing, of any other its visit
  OfRole : List (List ℕ) → List Stored → List Event → List (List ℕ) → List ℕ → Bool → Option (List Stored) → Type 0
  OfRole met rest events after role true found = Visit roles env met rest events after
  OfRole met rest events after role false None = (later : List Event) × Visit roles env met rest later after × (events ≡ missing role ∷ later)
  OfRole met rest events after role false (Some items) =
      (below : List Event) × (between : List (List ℕ)) × (later : List Event) × Visit roles env (met ++ role ∷ []) items below between × Visit roles env between rest later after × (events ≡ below ++ leave role ∷ later)

  -- what a visit gives by what its first item names
  OfItem : List (List ℕ) → Stored → List Stored → List Event → List (List ℕ) → Named → Type 0
  OfItem met item rest events after (Recipe name version) =
      (later : List Event) × Visit roles env met rest later after × (events ≡ run (record { item = item; name = name; version = version }) ∷ later)
  OfItem met item rest events after (Role role) = OfRole met rest events after role (is_among met role) (run_list_in roles env role)

  of_role : (met : List (List ℕ)) (rest : List Stored) (events : List Event) (after : List (List ℕ)) (role : List ℕ) (b : Bool) (found : Option (List Stored))
      → is_among met role ≡ b → run_list_in roles env role ≡ found → OfRole met rest events after role b found → OfRole met rest events after role (is_among met role) (run_list_in roles env role)
  of_role met rest events after role b found among list h =
      subst (λ (x : Bool). OfRole met rest events after role x (run_list_in roles env role)) (sym among) (subst (λ (x : Option (List Stored)). OfRole met rest events after role b x) (sym list) h)

  -- a visit of one more item is of one of the cases
  of_item : {met after : List (List ℕ)} {item : Stored} {rest : List Stored} {events : List Event} → Visit roles env met (item ∷ rest) events after → OfItem met item rest events after item.named
  unfolding OfItem OfRole
  of_item {met} {after} {item} {rest} (recipe {events = later} name version named v) =
      subst (λ (n : Named). OfItem met item rest (run (record { item = item; name = name; version = version }) ∷ later) after n) (sym named) (later, v, refl)
  of_item {met} {after} {item} {rest} {events} (met_again role named among v) =
      subst (λ (n : Named). OfItem met item rest events after n) (sym named) (of_role met rest events after role true (run_list_in roles env role) among refl v)
  of_item {met} {after} {item} {rest} (not_there {events = later} role named among none v) =
      subst (λ (n : Named). OfItem met item rest (missing role ∷ later) after n) (sym named) (of_role met rest (missing role ∷ later) after role false None among none (later, v, refl))
  of_item {met} {after} {item} {rest} (enter {between = between} {below = below} {events = later} role items named among some v w) =
      subst (λ (n : Named). OfItem met item rest (below ++ leave role ∷ later) after n) (sym named)
      (of_role met rest (below ++ leave role ∷ later) after role false (Some items) among some (below, between, later, v, w, refl))

  -- a visit of no item
  of_none : {met after : List (List ℕ)} {events : List Event} → Visit roles env met [] events after → ([] ≡ events) × (met ≡ after)
  of_none no_item = (refl, refl)

  -- two visits from one place give the same
  pub one : {met after other : List (List ℕ)} {items : List Stored} {events others : List Event} → Visit roles env met items events after → Visit roles env met items others other → (events ≡ others) × (after ≡ other)
  unfolding OfItem OfRole
  one no_item w = of_none w
  one {met} {after} {other} {others = others} (recipe {item = item} {rest = rest} name version named v) w =
      let found = subst (λ (n : Named). OfItem met item rest others other n) named (of_item w) in
      let same = one v found.1 in
      (ap (λ (es : List Event). run (record { item = item; name = name; version = version }) ∷ es) same.0 ∙ sym found.2, same.1)
  one {met} {after} {other} {others = others} (met_again {item = item} {rest = rest} role named among v) w =
      let found = subst (λ (n : Named). OfItem met item rest others other n) named (of_item w) in
      one v (subst (λ (b : Bool). OfRole met rest others other role b (run_list_in roles env role)) among found)
  one {met} {after} {other} {others = others} (not_there {item = item} {rest = rest} role named among none v) w =
      let found = subst (λ (n : Named). OfItem met item rest others other n) named (of_item w) in
      let there = subst (λ (b : Bool). OfRole met rest others other role b (run_list_in roles env role)) among found in
      let last = subst (λ (x : Option (List Stored)). OfRole met rest others other role false x) none there in
      let same = one v last.1 in
      (ap (λ (es : List Event). missing role ∷ es) same.0 ∙ sym last.2, same.1)
  one {met} {after} {other} {others = others} (enter {item = item} {rest = rest} {below = below} {events = later} role items named among some v v') w =
      let found = subst (λ (n : Named). OfItem met item rest others other n) named (of_item w) in
      let there = subst (λ (b : Bool). OfRole met rest others other role b (run_list_in roles env role)) among found in
      let last = subst (λ (x : Option (List Stored)). OfRole met rest others other role false x) some there in
      let inner = one v last.3 in
      let same = one v' (subst (λ (m : List (List ℕ)). Visit roles env m rest last.2 other) (sym inner.1) last.4) in
      (ap (λ (es : List Event). es ++ leave role ∷ later) inner.0 ∙ ap (λ (es : List Event). last.0 ++ leave role ∷ es) same.0 ∙ sym last.5, same.1)

  -- so the visit of a run list gives one list of events
  pub one_list : (items : List Stored) (events others : List Event) → Visits roles env items events → Visits roles env items others → events ≡ others
  one_list items events others v w = (one v.1 w.1).0
