-- The search: what it has done at a list of places, and that each step keeps this.
use Rattle.std.proofs.Common.{◌≡◌, ℕ, ◌+◌, ◌<◌, ◌⊎◌, List, [], ◌∷◌, ◌++◌, length, map, slice_get, Option, Some, None, IsSome, Contains, arith, ap, refl, sym, subst, ◌∙◌, inl, inr, append_assoc, true≢false, Bool, true, false}
use Rattle.std.proofs.lemmas.List.Elements.{Contains-append_left, Contains-push, Contains-push_cases}
use Rattle.std.proofs.lemmas.Option.{same_Some, slice_get_within}
use Rattle.std.specs.FinMap as finite
use Rattle.version_rules.specs.declared.needs.Need.{Need}
use Rattle.version_rules.specs.declared.versions.Version.{Version}
use Rattle.version_rules.specs.Meets.{Meets}
use Rattle.version_rules.specs.Order.{IsBelow}
use Rattle.dep_solver.specs.declared.roots.Pin.{Pin}
use Rattle.dep_solver.specs.declared.roots.Roots.{Roots}
use Rattle.dep_solver.specs.declared.rules.EnvRules.{EnvRules}
use Rattle.dep_solver.specs.declared.universe.Release.{Release}
use Rattle.dep_solver.specs.declared.universe.Universe.{Universe}
use Rattle.dep_solver.specs.Names.{CookbookName}
use Rattle.dep_solver.specs.Search.{AreNeverChosen, CanMeet, Flags, IsChoosable, flags_of, is_set}
use Rattle.dep_solver.specs.Solutions.{Choice, IsAllowed, IsMet, IsSolution}
use Rattle.dep_solver.specs.Universes.{needs_in, releases_in}
use Rattle.dep_solver.specs.Walks.{Begins, Follow, Holds, next, with_places}
use Rattle.dep_solver.proofs.ListLemmas.{contains_at, contains_map, nowhere, split_cases}
use Rattle.dep_solver.proofs.OrderLemmas.{three}
use Rattle.dep_solver.proofs.ReleaseLemmas.{IsReleaseAt, before_from_below, needs_at, released_at, stands_before}
use Rattle.dep_solver.proofs.WalkLemmas.{Follow-front, Follow-push, in_places, next_at}

pub some_of : {X : Type 0} (o : Option X) → IsSome o → (x : X) × (o ≡ Some x)
some_of None h = absurd (true≢false (sym h))
some_of (Some x) h = (x, refl)

-- a need that is met is met by the version that the choice has
pub met_by : (choice : Choice) (need : Need) (version : Version) → IsMet choice need → finite.get choice need.name ≡ Some version → Meets version need.constraint
met_by choice need version met e = subst (λ v. Meets v need.constraint) (same_Some met.0 version (sym met.1 ∙ e)) met.2

module _ (universe : Universe) (rules : EnvRules) (roots : Roots) where
  -- a solution has the places, and the name at the release
  pub record Opens (places : List Pin) (name : CookbookName) (release : Release) : Type 0 where
    pub choice : Choice
    pub solution : IsSolution universe rules roots choice
    pub holds : Holds choice places
    pub has : finite.get choice name ≡ Some release.version

  -- a release of a name goes with the places
  pub record Goes (dead : Flags) (places : List Pin) (name : CookbookName) (release : Release) : Type 0 where
    pub goes_with_pins : (pin : Pin) → Contains roots.pins pin → pin.name ≡ name → release.version ≡ pin.version
    pub goes_with_rules : (rule : Need) → Contains rules.rules rule → rule.name ≡ name → Meets release.version rule.constraint
    pub goes_with_places : (place : Pin) → Contains places place → (need : Need) → Contains (needs_in universe place.name place.version) need → need.name ≡ name → Meets release.version need.constraint
    pub goes_with_itself : (need : Need) → Contains release.needs need → need.name ≡ name → Meets release.version need.constraint
    pub places_go : (need : Need) → Contains release.needs need → (place : Pin) → Contains places place → place.name ≡ need.name → Meets place.version need.constraint
    pub can_be_met : (need : Need) → Contains release.needs need → CanMeet universe rules roots dead need

  -- the places are a walk's, each version is allowed, and no need of one is broken by another
  pub record Sound (places : List Pin) : Type 0 where
    pub follow : Follow universe roots.names [] places
    pub allowed : (place : Pin) → Contains places place → IsAllowed universe rules roots place.name place.version
    pub unbroken : (place : Pin) → Contains places place → (need : Need) → Contains (needs_in universe place.name place.version) need
        → (other : Pin) → Contains places other → need.name ≡ other.name → Meets other.version need.constraint

  pub sound_none : Sound []
  sound_none = record { follow = tt; allowed = λ p h. absurd (nowhere p h); unbroken = λ p h n k q l e. absurd (nowhere p h) }

  pub sound_push : (dead : Flags) (places : List Pin) (p : Pin) (release : Release) (index : ℕ) → Sound places → next universe roots.names places ≡ Some p.name
      → slice_get (releases_in universe p.name) index ≡ Some release → release.version ≡ p.version → Goes dead places p.name release → Sound (places ++ p ∷ [])
  sound_push dead places p release index sound at stands is goes =
      let needs : needs_in universe p.name p.version ≡ release.needs = ap (needs_in universe p.name) (sym is) ∙ needs_at universe p.name index release stands in
      record {
        follow = Follow-push universe roots.names [] places p sound.follow at;
        allowed = λ q h. elim (Contains-push_cases places p q h) [
          | inl k ↦ sound.allowed q k
          | inr e ↦ subst (λ (z : Pin). IsAllowed universe rules roots z.name z.version) e (record {
            released = subst (λ v. Contains (map (λ (r : Release). r.version) (releases_in universe p.name)) v) is (contains_map (λ (r : Release). r.version) (releases_in universe p.name) release (contains_at (releases_in universe p.name) index release stands));
            meets_pins = λ pin h e. sym is ∙ goes.goes_with_pins pin h e;
            meets_rules = λ rule h e. subst (λ v. Meets v rule.constraint) is (goes.goes_with_rules rule h e);
          })
        ];
        unbroken = λ q h need n r k e. elim (Contains-push_cases places p q h) [
          | inl old ↦ elim (Contains-push_cases places p r k) [
            | inl also ↦ sound.unbroken q old need n r also e
            | inr new ↦ subst (λ (z : Pin). Meets z.version need.constraint) new (subst (λ v. Meets v need.constraint) is (goes.goes_with_places q old need n (e ∙ ap (λ (z : Pin). z.name) (sym new))))
          ]
          | inr now ↦
              let own : Contains release.needs need = subst (λ ns. Contains ns need) needs (subst (λ (z : Pin). Contains (needs_in universe z.name z.version) need) (sym now) n) in
              elim (Contains-push_cases places p r k) [
                | inl old ↦ goes.places_go need own r old (sym e)
                | inr new ↦ subst (λ (z : Pin). Meets z.version need.constraint) new (subst (λ v. Meets v need.constraint) is (goes.goes_with_itself need own (e ∙ ap (λ (z : Pin). z.name) (sym new))))
              ]
        ];
      }

  pub sound_front : (front rest : List Pin) → Sound (front ++ rest) → Sound front
  sound_front front rest sound = record {
    follow = Follow-front universe roots.names [] front rest sound.follow;
    allowed = λ p h. sound.allowed p (Contains-append_left front rest p h);
    unbroken = λ p h n k q l e. sound.unbroken p (Contains-append_left front rest p h) n k q (Contains-append_left front rest q l) e;
  }

  -- a need that a solution meets has a version that isn't flagged
  pub solution_can : (dead : Flags) → AreNeverChosen universe rules roots dead → (choice : Choice) (need : Need) → IsSolution universe rules roots choice → IsMet choice need → CanMeet universe rules roots dead need
  solution_can dead never choice need solution met =
      let all = solution.allowed need.name met.0 met.1 in
      let found = released_at universe need.name met.0 all.released in
      record {
        index = found.0;
        release = found.1.release;
        stands = found.1.stands;
        alive = by found.0 found.1.release found.1.stands (met.1 ∙ ap Some (sym found.1.is)) (is_set (flags_of universe.cookbooks dead need.name) found.0) refl;
        choosable = subst (λ v. IsChoosable rules roots need v) (sym found.1.is) (record { meets = met.2; meets_all = record { meets_pins = all.meets_pins; meets_rules = all.meets_rules } });
      }
    where
      by : (k : ℕ) (r : Release) → slice_get (releases_in universe need.name) k ≡ Some r → finite.get choice need.name ≡ Some r.version → (b : Bool) → is_set (flags_of universe.cookbooks dead need.name) k ≡ b
          → is_set (flags_of universe.cookbooks dead need.name) k ≡ false
      by k r stands has true is = absurd (never need.name k r stands is choice solution has)
      by k r stands has false is = is

  -- what a solution's walk begins with goes with its next release
  pub solution_fits : (dead : Flags) → AreNeverChosen universe rules roots dead → (choice : Choice) (places : List Pin) (name : CookbookName) (release : Release) (index : ℕ) → IsSolution universe rules roots choice → Holds choice places
      → finite.get choice name ≡ Some release.version → slice_get (releases_in universe name) index ≡ Some release → Goes dead places name release
  solution_fits dead never choice places name release index solution holds has stands =
      let needs = needs_at universe name index release stands in
      let own : (need : Need) → Contains release.needs need → IsMet choice need = λ need h. solution.meets_needs name release.version has need (subst (λ ns. Contains ns need) (sym needs) h) in
      let all = solution.allowed name release.version has in
      record {
        goes_with_pins = all.meets_pins;
        goes_with_rules = all.meets_rules;
        goes_with_places = λ p h need n e. met_by choice need release.version (solution.meets_needs p.name p.version (holds p h) need n) (ap (finite.get choice) e ∙ has);
        goes_with_itself = λ need n e. met_by choice need release.version (own need n) (ap (finite.get choice) e ∙ has);
        places_go = λ need n p h e. met_by choice need p.version (own need n) (ap (finite.get choice) (sym e) ∙ holds p h);
        can_be_met = λ need n. solution_can dead never choice need solution (own need n);
      }

  -- a solution has the next name
  pub held : (choice : Choice) (places : List Pin) (name : CookbookName) → IsSolution universe rules roots choice → Holds choice places → next universe roots.names places ≡ Some name
      → (version : Version) × (finite.get choice name ≡ Some version)
  held choice places name solution holds at =
      elim (in_places universe roots.names places name (contains_at (with_places universe roots.names places) (length places) name at)) [
        | inl root ↦ some_of (finite.get choice name) (solution.holds_roots name root)
        | inr by ↦
            let p = by.place in
            let need = by.needed.need in
            let met = solution.meets_needs p.name p.version (holds p by.stands) need by.needed.among in
            (met.0, ap (finite.get choice) (sym by.needed.named) ∙ met.1)
      ]

  -- a version that isn't among those that were given up
  pub record Untried (name : CookbookName) (version : Version) (given_up : ℕ) : Type 0 where
    pub index : ℕ
    pub left : index + given_up < length (releases_in universe name)
    pub at : IsReleaseAt universe name index version

  -- the solution's walk begins with the places, and its next version wasn't given up
  pub record IsLeft (places : List Pin) (given_up : ℕ) (choice : Choice) : Type 0 where
    pub begins : Begins universe roots.names choice places
    pub untried : (name : CookbookName) (version : Version) → next universe roots.names places ≡ Some name → finite.get choice name ≡ Some version → Untried name version given_up

  -- the solution's walk has a lower version at the first place where it differs
  pub record IsPassed (places : List Pin) (choice : Choice) : Type 0 where
    pub alike : List Pin
    pub place : Pin
    pub rest : List Pin
    pub less : Version
    pub split : places ≡ alike ++ place ∷ rest
    pub below : IsBelow less place.version
    pub walk : Begins universe roots.names choice (alike ++ record { name = place.name; version = less } ∷ [])

  -- each solution is still to be found, or is passed
  unfoldable pub HasSearched : List Pin → ℕ → Type 0
  HasSearched places given_up = (choice : Choice) → IsSolution universe rules roots choice → IsLeft places given_up choice ⊎ IsPassed places choice

  untried_at_first : (choice : Choice) (name : CookbookName) (version : Version) → IsSolution universe rules roots choice → finite.get choice name ≡ Some version → Untried name version 0
  untried_at_first choice name version solution has =
      let found = released_at universe name version (solution.allowed name version has).released in
      record { index = found.0; left = omega (arith, slice_get_within (releases_in universe name) found.0 found.1.release found.1.stands); at = found.1 }

  pub begins_push : (choice : Choice) (places : List Pin) (p : Pin) → Begins universe roots.names choice places → next universe roots.names places ≡ Some p.name
      → finite.get choice p.name ≡ Some p.version → Begins universe roots.names choice (places ++ p ∷ [])
  begins_push choice places p begins at has = record {
    names = Follow-push universe roots.names [] places p begins.names at;
    versions = λ q h. elim (Contains-push_cases places p q h) [
      | inl k ↦ begins.versions q k
      | inr e ↦ subst (λ (z : Pin). finite.get choice z.name ≡ Some z.version) e has
    ];
  }

  pub begins_front : (choice : Choice) (front rest : List Pin) → Begins universe roots.names choice (front ++ rest) → Begins universe roots.names choice front
  begins_front choice front rest begins = record {
    names = Follow-front universe roots.names [] front rest begins.names;
    versions = λ q h. begins.versions q (Contains-append_left front rest q h);
  }

  pub search_starts : HasSearched [] 0
  unfolding HasSearched
  search_starts choice solution = inl (record {
    begins = record { names = tt; versions = λ p h. absurd (nowhere p h) };
    untried = λ name version at has. untried_at_first choice name version solution has;
  })

  passed_push : (places : List Pin) (p : Pin) (choice : Choice) → IsPassed places choice → IsPassed (places ++ p ∷ []) choice
  passed_push places p choice h = record {
    alike = h.alike;
    place = h.place;
    rest = h.rest ++ p ∷ [];
    less = h.less;
    split = ap (λ z. z ++ p ∷ []) h.split ∙ append_assoc h.alike (h.place ∷ h.rest) (p ∷ []);
    below = h.below;
    walk = h.walk;
  }

  pub search_chooses : (dead : Flags) → AreNeverChosen universe rules roots dead → (places : List Pin) (given_up : ℕ) (p : Pin) (release : Release) (index : ℕ) → HasSearched places given_up → next universe roots.names places ≡ Some p.name
      → slice_get (releases_in universe p.name) index ≡ Some release → release.version ≡ p.version
      → ((other : ℕ) (r : Release) → index < other → other + given_up < length (releases_in universe p.name) → slice_get (releases_in universe p.name) other ≡ Some r → Goes dead places p.name r → Opens places p.name r → ⊥)
      → HasSearched (places ++ p ∷ []) 0
  unfolding HasSearched
  search_chooses dead never places given_up p release index searched at stands is greater choice solution = elim (searched choice solution) [
    | inr passed ↦ inr (passed_push places p choice passed)
    | inl left ↦
        let has = held choice places p.name solution left.begins.versions at in
        let found = left.untried p.name has.0 at has.1 in
        elim (three found.index index) [
          | inl lower ↦ inr (record {
            alike = places;
            place = p;
            rest = [];
            less = has.0;
            split = refl;
            below = subst (λ v. IsBelow v p.version) found.at.is (subst (λ v. IsBelow found.at.release.version v) is (stands_before universe p.name found.index index found.at.release release found.at.stands stands lower));
            walk = begins_push choice places (record { name = p.name; version = has.0 }) left.begins at has.1;
          })
          | inr h ↦ elim h [
            | inl same ↦
                let one : found.at.release ≡ release = same_Some found.at.release release (sym found.at.stands ∙ ap (slice_get (releases_in universe p.name)) same ∙ stands) in
                let version : has.0 ≡ p.version = sym found.at.is ∙ ap (λ (r : Release). r.version) one ∙ is in
                inl (record {
                  begins = begins_push choice places p left.begins at (has.1 ∙ ap Some version);
                  untried = λ name v _ e. untried_at_first choice name v solution e;
                })
            | inr higher ↦ absurd (greater found.index found.at.release higher found.left found.at.stands
                (solution_fits dead never choice places p.name found.at.release found.index solution left.begins.versions (has.1 ∙ ap Some (sym found.at.is)) found.at.stands)
                (record { choice = choice; solution = solution; holds = left.begins.versions; has = has.1 ∙ ap Some (sym found.at.is) }))
          ]
        ]
  ]

  -- no solution is left that begins with the places
  abbrev pub NoneLeft : List Pin → ℕ → Type 0
  NoneLeft places given_up = (choice : Choice) → IsSolution universe rules roots choice → IsLeft places given_up choice → ⊥

  -- where no release goes, no solution is left
  pub none_left : (dead : Flags) → AreNeverChosen universe rules roots dead → (places : List Pin) (given_up : ℕ) (name : CookbookName) → next universe roots.names places ≡ Some name
      → ((other : ℕ) (r : Release) → other + given_up < length (releases_in universe name) → slice_get (releases_in universe name) other ≡ Some r → Goes dead places name r → Opens places name r → ⊥)
      → NoneLeft places given_up
  none_left dead never places given_up name at none choice solution left =
      let has = held choice places name solution left.begins.versions at in
      let found = left.untried name has.0 at has.1 in
      none found.index found.at.release found.left found.at.stands
      (solution_fits dead never choice places name found.at.release found.index solution left.begins.versions (has.1 ∙ ap Some (sym found.at.is)) found.at.stands)
      (record { choice = choice; solution = solution; holds = left.begins.versions; has = has.1 ∙ ap Some (sym found.at.is) })

  pub search_gives_up : (front : List Pin) (p : Pin) (release : Release) (index tried given_up : ℕ) → HasSearched (front ++ p ∷ []) given_up
      → Follow universe roots.names [] (front ++ p ∷ []) → slice_get (releases_in universe p.name) index ≡ Some release → release.version ≡ p.version → index + tried ≡ length (releases_in universe p.name)
      → NoneLeft (front ++ p ∷ []) given_up → HasSearched front tried
  unfolding HasSearched
  search_gives_up front p release index tried given_up searched follow stands is counted nobody choice solution = elim (searched choice solution) [
    | inl left ↦ absurd (nobody choice solution left)
    | inr passed ↦ elim (split_cases front p passed.alike passed.place passed.rest passed.split) [
      | inr h ↦ inr (record { alike = passed.alike; place = passed.place; rest = h.0; less = passed.less; split = h.1; below = passed.below; walk = passed.walk })
      | inl h ↦
          let name_is : p.name ≡ passed.place.name = ap (λ (z : Pin). z.name) h.1 in
          let walk : Begins universe roots.names choice (front ++ record { name = p.name; version = passed.less } ∷ []) =
          subst (λ n. Begins universe roots.names choice (front ++ record { name = n; version = passed.less } ∷ [])) (sym name_is)
          (subst (λ zs. Begins universe roots.names choice (zs ++ record { name = passed.place.name; version = passed.less } ∷ [])) (sym h.0) passed.walk) in
          let lower : IsBelow passed.less p.version = subst (λ (z : Pin). IsBelow passed.less z.version) (sym h.1) passed.below in
          inl (record {
            begins = begins_front choice front (record { name = p.name; version = passed.less } ∷ []) walk;
            untried = λ n v e has.
                let own : n ≡ p.name = same_Some n p.name (sym e ∙ next_at universe roots.names front p [] follow) in
                let version : v ≡ passed.less = same_Some v passed.less (sym has ∙ ap (finite.get choice) own ∙ walk.versions (record { name = p.name; version = passed.less }) (Contains-push front _)) in
                let has_own : finite.get choice p.name ≡ Some v = ap (finite.get choice) (sym own) ∙ has in
                let found = released_at universe p.name v (solution.allowed p.name v has_own).released in
                let under : IsBelow found.1.release.version release.version =
                subst (λ z. IsBelow z release.version) (sym (found.1.is ∙ version)) (subst (λ z. IsBelow passed.less z) (sym is) lower) in
                let earlier = before_from_below universe p.name found.0 index found.1.release release found.1.stands stands under in
                subst (λ m. Untried m v tried) (sym own) (record { index = found.0; left = omega arith; at = found.1 });
          })
    ]
  ]

  nothing_split : (alike : List Pin) (p : Pin) (rest : List Pin) → [] ≡ alike ++ p ∷ rest → ⊥
  nothing_split [] p rest e = cc
  nothing_split (a ∷ alike) p rest e = cc

  pub search_ends : (given_up : ℕ) → HasSearched [] given_up → NoneLeft [] given_up → (choice : Choice) → IsSolution universe rules roots choice → ⊥
  unfolding HasSearched
  search_ends given_up searched nobody choice solution = elim (searched choice solution) [
    | inl left ↦ nobody choice solution left
    | inr passed ↦ nothing_split passed.alike passed.place passed.rest passed.split
  ]
