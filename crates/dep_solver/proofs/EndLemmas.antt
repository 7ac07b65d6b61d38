-- The end of the search: a walk that ends, of places that are sound, is the best solution.
use Rattle.std.proofs.Common.{◌≡◌, List, [], ◌∷◌, ◌++◌, map, Option, Some, None, IsSome, Contains, ap, refl, sym, subst, ◌∙◌, inl, inr, append_assoc, append-nil, ℕ}
use Rattle.std.proofs.lemmas.List.Elements.{Contains-append_left, Contains-push_cases}
use Rattle.std.proofs.lemmas.Option.{none-some, same_Some}
use Rattle.std.specs.Cmp.Lexicographic.{nat_list_cmp_total}
use Rattle.std.specs.FinMap as finite
use Rattle.version_rules.specs.declared.versions.Version.{Version}
use Rattle.dep_solver.specs.declared.roots.Pin.{Pin}
use Rattle.dep_solver.specs.declared.roots.Roots.{Roots}
use Rattle.dep_solver.specs.declared.rules.EnvRules.{EnvRules}
use Rattle.dep_solver.specs.declared.universe.Universe.{Universe}
use Rattle.dep_solver.specs.Names.{CookbookName}
use Rattle.dep_solver.specs.Search.{FindsBest}
use Rattle.dep_solver.specs.Solutions.{Choice, IsAllowed, IsReached, IsSolution, by_need, by_root, choice_of}
use Rattle.dep_solver.specs.Universes.{needs_in}
use Rattle.dep_solver.specs.Walks.{Follow, Holds, next, with_places}
use Rattle.dep_solver.proofs.ChoiceLemmas.{choice_found, choice_has, names_apart}
use Rattle.dep_solver.proofs.ListLemmas.{contains_at, map_contains, nowhere}
use Rattle.dep_solver.proofs.SearchLemmas.{HasSearched, Sound}
use Rattle.dep_solver.proofs.WalkLemmas.{Follow-front, in_places, kept, names_all, names_distinct, with_places-grows, with_places-has}

module _ (universe : Universe) (roots : List CookbookName) (choice : Choice) where
  -- the next name after places that the choice has and that are reached is reached
  next_reached : (before : List Pin) (name : CookbookName) → next universe roots before ≡ Some name → ((p : Pin) → Contains before p → IsReached universe roots choice p.name) → Holds choice before
      → IsReached universe roots choice name
  next_reached before name at reached holds = elim (in_places universe roots before name (contains_at (with_places universe roots before) _ name at)) [
    | inl r ↦ by_root r
    | inr by ↦ subst (λ n. IsReached universe roots choice n) by.needed.named (by_need (reached by.place by.stands) (holds by.place by.stands) by.needed.among)
  ]

  -- each place of a walk that the choice has is reached
  all_reached : (before rest : List Pin) → Follow universe roots before rest → ((p : Pin) → Contains before p → IsReached universe roots choice p.name) → Holds choice (before ++ rest)
      → (p : Pin) → Contains (before ++ rest) p → IsReached universe roots choice p.name
  all_reached before [] follow reached holds p h = reached p (subst (λ zs. Contains zs p) (append-nil before) h)
  all_reached before (x ∷ rest) follow reached holds p h =
      let assoc : before ++ x ∷ [] ++ rest ≡ before ++ x ∷ rest = append_assoc before (x ∷ []) rest in
      all_reached (before ++ x ∷ []) rest follow.1
      (λ q k. elim (Contains-push_cases before x q k) [
        | inl old ↦ reached q old
        | inr new ↦ subst (λ (z : Pin). IsReached universe roots choice z.name) new
            (next_reached before x.name follow.0 reached (λ r l. holds r (Contains-append_left before (x ∷ rest) r l)))
      ])
      (subst (λ zs. Holds choice zs) (sym assoc) holds) p (subst (λ zs. Contains zs p) (sym assoc) h)

module _ (universe : Universe) (rules : EnvRules) (roots : Roots) where
  -- the names at the places of a walk that ends are all that it reaches
  closed : (places : List Pin) (name : CookbookName) → Follow universe roots.names [] places → next universe roots.names places ≡ None
      → Contains (with_places universe roots.names places) name → (p : Pin) × Contains places p × (p.name ≡ name)
  closed places name follow ends h = map_contains (λ (p : Pin). p.name) places name (subst (λ zs. Contains zs name) (names_all universe roots.names places follow ends) h)

  holds_places : (places : List Pin) → Follow universe roots.names [] places → Holds (choice_of places) places
  holds_places places follow p h = choice_has places p (names_distinct universe roots.names places roots.distinct follow) h

  -- sound places whose walk ends are a solution
  pub found_solution : (places : List Pin) → Sound universe rules roots places → next universe roots.names places ≡ None → IsSolution universe rules roots (choice_of places)
  found_solution places sound ends = record {
    holds_roots = λ name h.
        let at = closed places name sound.follow ends (kept roots.names (with_places universe roots.names places) name (with_places-grows universe roots.names places) h) in
        subst (λ o. IsSome o) (sym (ap (finite.get (choice_of places)) (sym at.2) ∙ holds_places places sound.follow at.0 at.1)) refl;
    allowed = λ name version has.
        let found = choice_found places name version has in
        subst (λ v. IsAllowed universe rules roots name v) found.at_version (subst (λ n. IsAllowed universe rules roots n found.place.version) found.named (sound.allowed found.place found.among));
    meets_needs = λ name version has need n.
        let found = choice_found places name version has in
        let own : Contains (needs_in universe found.place.name found.place.version) need =
        subst (λ v. Contains (needs_in universe found.place.name v) need) (sym found.at_version) (subst (λ z. Contains (needs_in universe z version) need) (sym found.named) n) in
        let at = closed places need.name sound.follow ends (with_places-has universe roots.names places found.place need found.among own) in
        (at.0.version, ap (finite.get (choice_of places)) (sym at.2) ∙ holds_places places sound.follow at.0 at.1, sound.unbroken found.place found.among need own at.0 at.1 (sym at.2));
    reached = λ name version has.
        let found = choice_found places name version has in
        subst (λ n. IsReached universe roots.names (choice_of places) n) found.named
        (all_reached universe roots.names (choice_of places) [] places sound.follow (λ p h. absurd (nowhere p h)) (holds_places places sound.follow) found.place found.among);
  }

  -- a name that is reached in a choice with these places is a place's
  reached_in : (places : List Pin) (other : Choice) (name : CookbookName) → Follow universe roots.names [] places → next universe roots.names places ≡ None → Holds other places
      → IsReached universe roots.names other name → Contains (map (λ (p : Pin). p.name) places) name
  reached_in places other name follow ends holds (by_root {name = n} h) =
      subst (λ zs. Contains zs n) (names_all universe roots.names places follow ends) (kept roots.names (with_places universe roots.names places) n (with_places-grows universe roots.names places) h)
  reached_in places other name follow ends holds (by_need {name = n} {version = v} {of = need} r has among) =
      let at = map_contains (λ (p : Pin). p.name) places n (reached_in places other n follow ends holds r) in
      let version : at.0.version ≡ v = same_Some at.0.version v (sym (holds at.0 at.1) ∙ ap (finite.get other) at.2 ∙ has) in
      let own : Contains (needs_in universe at.0.name at.0.version) need =
      subst (λ w. Contains (needs_in universe at.0.name w) need) (sym version) (subst (λ z. Contains (needs_in universe z v) need) (sym at.2) among) in
      subst (λ zs. Contains zs need.name) (names_all universe roots.names places follow ends) (with_places-has universe roots.names places at.0 need at.1 own)

  -- a solution that has the places of a walk that ends is their choice
  pub same_choice : (places : List Pin) (other : Choice) → Follow universe roots.names [] places → next universe roots.names places ≡ None → IsSolution universe rules roots other → Holds other places
      → other ≡ choice_of places
  same_choice places other follow ends solution holds = finite.same_map nat_list_cmp_total names_apart other (choice_of places) (λ q. at q (finite.get other q) (finite.get (choice_of places) q) refl refl)
    where
      at : (q : CookbookName) (a b : Option Version) → finite.get other q ≡ a → finite.get (choice_of places) q ≡ b → finite.get other q ≡ finite.get (choice_of places) q
      at q None None e f = e ∙ sym f
      at q None (Some w) e f =
          let found = choice_found places q w f in
          absurd (none-some found.place.version (sym e ∙ ap (finite.get other) (sym found.named) ∙ holds found.place found.among))
      at q (Some v) b e f =
          let in' = map_contains (λ (p : Pin). p.name) places q (reached_in places other q follow ends holds (solution.reached q v e)) in
          ap (finite.get other) (sym in'.2) ∙ holds in'.0 in'.1 ∙ sym (holds_places places follow in'.0 in'.1) ∙ ap (finite.get (choice_of places)) in'.2

  -- and it is the best, where each other solution was passed
  pub found_best : (places : List Pin) (given_up : ℕ) → HasSearched universe rules roots places given_up → Sound universe rules roots places → next universe roots.names places ≡ None
      → FindsBest universe rules roots places
  unfolding HasSearched
  found_best places given_up searched sound ends = record {
    follow = sound.follow;
    best = record {
      solution = found_solution places sound ends;
      best = λ other solution. elim (searched other solution) [
        | inl left ↦ inl (same_choice places other sound.follow ends solution left.begins.versions)
        | inr passed ↦
            let split : places ≡ (passed.alike ++ passed.place ∷ []) ++ passed.rest = passed.split ∙ sym (append_assoc passed.alike (passed.place ∷ []) passed.rest) in
            inr (record {
              alike = passed.alike;
              name = passed.place.name;
              greater = passed.place.version;
              less = passed.less;
              below = passed.below;
              one_walk = record {
                names = Follow-front universe roots.names [] (passed.alike ++ passed.place ∷ []) passed.rest (subst (λ zs. Follow universe roots.names [] zs) split sound.follow);
                versions = λ p h. holds_places places sound.follow p (subst (λ zs. Contains zs p) (sym split) (Contains-append_left (passed.alike ++ passed.place ∷ []) passed.rest p h));
              };
              other_walk = passed.walk;
            })
      ];
    };
  }
