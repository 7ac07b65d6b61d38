-- The first of all walks that is a solution is the best of them.
use Rattle.std.proofs.Common.{◌≡◌, ℕ, zero, suc, ◌+◌, ◌<◌, ◌⊎◌, ◌&&◌, Bool, true, false, cond, List, [], ◌∷◌, ◌++◌, length, reverse, find, Option, Some, None, Contains, arith, ap, refl, sym, subst, ◌∙◌, inl, inr, append_assoc, append-nil, true≢false}
use Rattle.std.proofs.lemmas.List.{length-append}
use Rattle.std.proofs.lemmas.List.Elements.{Contains-append_left}
use Rattle.std.proofs.lemmas.List.Folds.{find-append}
use Rattle.std.proofs.lemmas.Option.{same_Some}
use Rattle.std.specs.FinMap as finite
use Rattle.std.specs.List.{flat_map, list_all}
use Rattle.std.specs.Option.{option_or}
use Rattle.version_rules.specs.declared.versions.Version.{Version}
use Rattle.version_rules.specs.Meets.{Meets}
use Rattle.version_rules.specs.Order.{IsBelow}
use Rattle.dep_solver.specs.declared.roots.Pin.{Pin}
use Rattle.dep_solver.specs.declared.roots.Roots.{Roots}
use Rattle.dep_solver.specs.declared.rules.EnvRules.{EnvRules}
use Rattle.dep_solver.specs.declared.universe.Release.{Release}
use Rattle.dep_solver.specs.declared.universe.Universe.{Universe}
use Rattle.dep_solver.specs.Best.{IsBetter}
use Rattle.dep_solver.specs.Chosen.{is_allowed, is_met, is_solution, walks_from, with_each}
use Rattle.dep_solver.specs.Names.{CookbookName}
use Rattle.dep_solver.specs.Solutions.{Choice, IsSolution, choice_of}
use Rattle.dep_solver.specs.Universes.{needs_in, releases_in}
use Rattle.dep_solver.specs.Walks.{Begins, Follow, Holds, next}
use Rattle.dep_solver.proofs.ChoiceLemmas.{choice_has}
use Rattle.dep_solver.proofs.EndLemmas.{found_solution, same_choice}
use Rattle.dep_solver.proofs.FallingLemmas.{Falls, falls, in_reverse}
use Rattle.dep_solver.proofs.ListLemmas.{in_tail, map_contains, nowhere}
use Rattle.dep_solver.proofs.MeasureLemmas.{few_places}
use Rattle.dep_solver.proofs.SearchLemmas.{begins_push, held}
use Rattle.dep_solver.proofs.TestLemmas.{all_from, all_to, allowed_from, allowed_to, both_from, both_to, met_from, met_to}
use Rattle.dep_solver.proofs.WalkLemmas.{Follow-push, names_distinct}

pub pin_at : CookbookName → Version → Pin
pin_at name version = record { name = name; version = version }

module _ (universe : Universe) (rules : EnvRules) (roots : Roots) where
  abbrev place_test : List Pin → Pin → Bool
  place_test places place = is_allowed universe rules roots place.name place.version && list_all (is_met (choice_of places)) (needs_in universe place.name place.version)

  -- ---- the test of a walk

  walk_has : (places : List Pin) → Follow universe roots.names [] places → Holds (choice_of places) places
  walk_has places follow p h = choice_has places p (names_distinct universe roots.names places roots.distinct follow) h

  pub solution_from : (places : List Pin) → Follow universe roots.names [] places → next universe roots.names places ≡ None → is_solution universe rules roots places ≡ true
      → IsSolution universe rules roots (choice_of places)
  unfolding is_solution
  solution_from places follow ends e =
      let each = λ (p : Pin) (h : Contains places p). both_from (is_allowed universe rules roots p.name p.version) (list_all (is_met (choice_of places)) (needs_in universe p.name p.version)) (all_from (place_test places) places e p h) in
      found_solution universe rules roots places (record {
        follow = follow;
        allowed = λ p h. allowed_from universe rules roots p.name p.version (each p h).0;
        unbroken = λ p h need n other k same.
            let met = met_from (choice_of places) need (all_from (is_met (choice_of places)) (needs_in universe p.name p.version) (each p h).1 need n) in
            subst (λ v. Meets v need.constraint) (same_Some met.0 other.version (sym met.1 ∙ ap (finite.get (choice_of places)) same ∙ walk_has places follow other k)) met.2;
      }) ends

  pub solution_to : (places : List Pin) (choice : Choice) → IsSolution universe rules roots choice → Holds choice places → choice ≡ choice_of places → is_solution universe rules roots places ≡ true
  unfolding is_solution
  solution_to places choice solution holds same =
      all_to (place_test places) places (λ p h.
      both_to (is_allowed universe rules roots p.name p.version) (list_all (is_met (choice_of places)) (needs_in universe p.name p.version))
      (allowed_to universe rules roots p.name p.version (solution.allowed p.name p.version (holds p h)))
      (all_to (is_met (choice_of places)) (needs_in universe p.name p.version) (λ need n.
      subst (λ c. is_met c need ≡ true) same (met_to choice need (solution.meets_needs p.name p.version (holds p h) need n)))))

  -- ---- the first walk of those that go on from a list of places

  -- a walk that is a solution, and as good as each solution of which P holds
  pub record IsFound (P : Choice → Type 0) (places walk : List Pin) : Type 0 where
    pub follow : Follow universe roots.names [] walk
    pub ends : next universe roots.names walk ≡ None
    pub passes : is_solution universe rules roots walk ≡ true
    pub rest : List Pin
    pub split : walk ≡ places ++ rest
    pub beats : (other : Choice) → IsSolution universe rules roots other → P other → (other ≡ choice_of walk) ⊎ IsBetter universe roots (choice_of walk) other

  -- what was found of the solutions of which P holds: the best of them, or nothing where there is none
  abbrev pub Finds : (Choice → Type 0) → List Pin → Option (List Pin) → Type 0
  Finds P places None = (other : Choice) → IsSolution universe rules roots other → P other → ⊥
  Finds P places (Some walk) = IsFound P places walk

  -- the walk of a choice begins with the places
  abbrev pub Starts : List Pin → Choice → Type 0
  Starts places other = Begins universe roots.names other places

  -- the walk of a choice begins with the places and goes on with one of the releases
  abbrev GoesOn : List Pin → CookbookName → List Release → Choice → Type 0
  GoesOn places name rs other = Begins universe roots.names other places × (q : Release) × Contains rs q × (finite.get other name ≡ Some q.version)

  module _ (go : List Pin → List (List Pin)) (places : List Pin) (name : CookbookName) (follow : Follow universe roots.names [] places) (at : next universe roots.names places ≡ Some name) where
    abbrev after : Release → List Pin
    after r = places ++ record { name = name; version = r.version } ∷ []

    abbrev found_in : List Release → Option (List Pin)
    found_in rs = find (is_solution universe rules roots) (flat_map (λ r. go (after r)) rs)

    one_more : (other : Choice) (r : Release) → Begins universe roots.names other places → finite.get other name ≡ Some r.version → Begins universe roots.names other (after r)
    one_more other r begins has = begins_push universe rules roots other places (record { name = name; version = r.version }) begins at has

    -- the walk that was found goes on with the release, so it is better than one that goes on with a lower one
    beats_lower : (r q : Release) (walk : List Pin) (P : Choice → Type 0) (other : Choice) → IsFound P (after r) walk → Begins universe roots.names other places → finite.get other name ≡ Some q.version
        → IsBelow q.version r.version → IsBetter universe roots (choice_of walk) other
    beats_lower r q walk P other found begins has below = record {
      alike = places;
      name = name;
      greater = r.version;
      less = q.version;
      below = below;
      one_walk = record {
        names = Follow-push universe roots.names [] places (record { name = name; version = r.version }) follow at;
        versions = λ p h. walk_has walk found.follow p (subst (λ zs. Contains zs p) (sym found.split) (Contains-append_left (after r) found.rest p h));
      };
      other_walk = one_more other q begins has;
    }

    among : (rs : List Release) → Falls rs → ((r : Release) → Finds (Starts (after r)) (after r) (find (is_solution universe rules roots) (go (after r)))) → Finds (GoesOn places name rs) places (found_in rs)
    among [] down each = λ other solution p. nowhere p.1 p.2
    among (r ∷ rs) down each =
        subst (Finds (GoesOn places name (r ∷ rs)) places) (sym (find-append (is_solution universe rules roots) (go (after r)) (flat_map (λ r. go (after r)) rs)))
        (by (find (is_solution universe rules roots) (go (after r))) (found_in rs) (each r) (among rs down.1 each))
      where
        by : (first rest : Option (List Pin)) → Finds (Starts (after r)) (after r) first → Finds (GoesOn places name rs) places rest → Finds (GoesOn places name (r ∷ rs)) places (option_or first rest)
        by (Some walk) rest found more = record {
          follow = found.follow;
          ends = found.ends;
          passes = found.passes;
          rest = record { name = name; version = r.version } ∷ found.rest;
          split = found.split ∙ append_assoc places (record { name = name; version = r.version } ∷ []) found.rest;
          beats = λ other solution p. elim (in_tail r rs p.1 p.2) [
            | inl same ↦ found.beats other solution (one_more other r p.0 (p.3 ∙ ap (λ (z : Release). Some z.version) (sym same)))
            | inr t ↦ inr (beats_lower r p.1 walk (Starts (after r)) other found p.0 p.3 (down.0 p.1 t))
          ];
        }
        by None None none more = λ other solution p. elim (in_tail r rs p.1 p.2) [
          | inl same ↦ none other solution (one_more other r p.0 (p.3 ∙ ap (λ (z : Release). Some z.version) (sym same)))
          | inr t ↦ more other solution (p.0, p.1, t, p.3)
        ]
        by None (Some walk) none more = record {
          follow = more.follow;
          ends = more.ends;
          passes = more.passes;
          rest = more.rest;
          split = more.split;
          beats = λ other solution p. elim (in_tail r rs p.1 p.2) [
            | inl same ↦ absurd (none other solution (one_more other r p.0 (p.3 ∙ ap (λ (z : Release). Some z.version) (sym same))))
            | inr t ↦ more.beats other solution (p.0, p.1, t, p.3)
          ];
        }

  -- ---- the first of all walks

  -- the places are a walk, and the solution that begins with them is theirs
  ends_here : (places : List Pin) → Follow universe roots.names [] places → next universe roots.names places ≡ None → Finds (Starts places) places (find (is_solution universe rules roots) (places ∷ []))
  ends_here places follow ends = by (is_solution universe rules roots places) refl
    where
      by : (b : Bool) → is_solution universe rules roots places ≡ b → Finds (Starts places) places (cond b (Some places) None)
      by true is = record {
        follow = follow;
        ends = ends;
        passes = is;
        rest = [];
        split = sym (append-nil places);
        beats = λ other solution begins. inl (same_choice universe rules roots places other follow ends solution begins.versions);
      }
      by false is = λ other solution begins.
          let own = same_choice universe rules roots places other follow ends solution begins.versions in
          true≢false (sym (solution_to places other solution begins.versions own) ∙ is)

  -- a solution whose walk begins with the places goes on with one of the releases
  goes_on : (places : List Pin) (name : CookbookName) → next universe roots.names places ≡ Some name → (other : Choice) → IsSolution universe rules roots other → Starts places other
      → GoesOn places name (reverse (releases_in universe name)) other
  goes_on places name at other solution begins =
      let has = held universe rules roots other places name solution begins.versions at in
      let found = map_contains (λ (r : Release). r.version) (releases_in universe name) has.0 (solution.allowed name has.0 has.1).released in
      (begins, found.0, in_reverse (releases_in universe name) found.0 found.1, has.1 ∙ ap Some (sym found.2))

  pub first_of : (steps : ℕ) (places : List Pin) → Follow universe roots.names [] places → length universe.cookbooks < length places + steps
      → Finds (Starts places) places (find (is_solution universe rules roots) (walks_from universe roots.names steps places))
  unfolding walks_from
  first_of zero places follow enough = λ other solution begins.
      let few = few_places universe places (names_distinct universe roots.names places roots.distinct follow) (λ p h. (solution.allowed p.name p.version (begins.versions p h)).released) in
      absurd (omega arith)
  first_of (suc steps) places follow enough = by (next universe roots.names places) refl
      (λ p at. first_of steps (places ++ p ∷ []) (Follow-push universe roots.names [] places p follow at) (omega (arith, length-append places (p ∷ []))))
    where
      by : (o : Option CookbookName) → next universe roots.names places ≡ o
          → ((p : Pin) → next universe roots.names places ≡ Some p.name
          → Finds (Starts (places ++ p ∷ [])) (places ++ p ∷ []) (find (is_solution universe rules roots) (walks_from universe roots.names steps (places ++ p ∷ []))))
          → Finds (Starts places) places (find (is_solution universe rules roots) (with_each (walks_from universe roots.names steps) universe places o))
      by None at more = ends_here places follow at
      by (Some name) at more =
          widen (found_in (walks_from universe roots.names steps) places name follow at (reverse (releases_in universe name)))
          (among (walks_from universe roots.names steps) places name follow at (reverse (releases_in universe name)) (falls universe name)
          (λ r. more (record { name = name; version = r.version }) at))
        where
          widen : (o : Option (List Pin)) → Finds (GoesOn places name (reverse (releases_in universe name))) places o → Finds (Starts places) places o
          widen None none = λ other solution begins. none other solution (goes_on places name at other solution begins)
          widen (Some walk) found = record {
            follow = found.follow;
            ends = found.ends;
            passes = found.passes;
            rest = found.rest;
            split = found.split;
            beats = λ other solution begins. found.beats other solution (goes_on places name at other solution begins);
          }
