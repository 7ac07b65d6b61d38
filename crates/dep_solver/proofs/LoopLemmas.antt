-- The loop of the search: what it keeps, and that each branch keeps it and comes nearer to the end.
use Rattle.std.proofs.Common.{◌≡◌, ℕ, ◌+◌, ◌*◌, ◌<◌, ◌≤◌, Bor, List, [], ◌∷◌, ◌++◌, length, map, take, slice_get, Some, None, Contains, arith, ap, refl, sym, subst, ◌∙◌, inl, inr, append_assoc, append-nil, take_at}
use Rattle.std.proofs.lemmas.List.{length-append, length-map, map_push, take-map}
use Rattle.version_rules.specs.Meets.{Meets}
use Rattle.dep_solver.specs.declared.roots.Pin.{Pin}
use Rattle.dep_solver.specs.declared.roots.Roots.{Roots}
use Rattle.dep_solver.specs.declared.rules.EnvRules.{EnvRules}
use Rattle.dep_solver.specs.declared.search.Place.{Place}
use Rattle.dep_solver.specs.declared.universe.Release.{Release}
use Rattle.dep_solver.specs.declared.universe.Universe.{Universe}
use Rattle.dep_solver.specs.Names.{CookbookName}
use Rattle.dep_solver.specs.Search.{AreNeverChosen, Begins, Chooses, FindsBest, Flags, Fits, GivesUp, GoesOn, IsGreatest, NoneGoesOn, pin_of, seen}
use Rattle.dep_solver.specs.declared.search.Search.{Search}
use Rattle.doc_tree.specs.declared.name.Name.{Name}
use Rattle.dep_solver.specs.Solutions.{Choice, IsSolution}
use Rattle.dep_solver.specs.Universes.{needs_in, releases_in}
use Rattle.dep_solver.specs.Walks.{next, with_needs, with_places}
use Rattle.dep_solver.proofs.EndLemmas.{found_best}
use Rattle.dep_solver.proofs.ListLemmas.{contains_map, in_tail, map_contains, nowhere}
use Rattle.dep_solver.proofs.MeasureLemmas.{few_places, few_releases, left_to_try, release_count, try_falls, try_stays}
use Rattle.dep_solver.proofs.ReleaseLemmas.{needs_at}
use Rattle.dep_solver.proofs.SearchLemmas.{Goes, HasSearched, NoneLeft, Opens, Sound, none_left, search_chooses, search_ends, search_gives_up, search_starts, sound_front, sound_none, sound_push}
use Rattle.dep_solver.proofs.WalkLemmas.{names_distinct, with_needs-grows, with_places-append}

-- where the release of a place stands, how many were tried, and how many names were reached before it
pub record KeptAt (universe : Universe) (roots : List CookbookName) (before : List Pin) (place : Place) : Type 0 where
  pub index : ℕ
  pub stands : slice_get (releases_in universe place.name.now) index ≡ Some place.release.now
  pub counted : index + place.tried ≡ length (releases_in universe place.name.now)
  pub reached : place.reached ≡ length (with_places universe roots before)

abbrev pub Kept : Universe → List CookbookName → List Pin → List Place → Type 0
Kept universe roots before [] = Unit {0}
Kept universe roots before (place ∷ places) = KeptAt universe roots before place × Kept universe roots (before ++ pin_of place ∷ []) places

Kept-push : (universe : Universe) (roots : List CookbookName) (before : List Pin) (places : List Place) (p : Place) → Kept universe roots before places → KeptAt universe roots (before ++ map pin_of places) p
    → Kept universe roots before (places ++ p ∷ [])
Kept-push universe roots before [] p kept at = (subst (λ zs. KeptAt universe roots zs p) (append-nil before) at, tt)
Kept-push universe roots before (q ∷ places) p kept at =
    (kept.0, Kept-push universe roots (before ++ pin_of q ∷ []) places p kept.1 (subst (λ zs. KeptAt universe roots zs p) (sym (append_assoc before (pin_of q ∷ []) (map pin_of places))) at))

Kept-pop : (universe : Universe) (roots : List CookbookName) (before : List Pin) (places : List Place) (p : Place) → Kept universe roots before (places ++ p ∷ [])
    → Kept universe roots before places × KeptAt universe roots (before ++ map pin_of places) p
Kept-pop universe roots before [] p kept = (tt, subst (λ zs. KeptAt universe roots zs p) (sym (append-nil before)) kept.0)
Kept-pop universe roots before (q ∷ places) p kept =
    let rest = Kept-pop universe roots (before ++ pin_of q ∷ []) places p kept.1 in
    ((kept.0, rest.0), subst (λ zs. KeptAt universe roots zs p) (append_assoc before (pin_of q ∷ []) (map pin_of places)) rest.1)

-- what a place needs is what its release needs
kept_needs : (universe : Universe) (roots : List CookbookName) (before : List Pin) (places : List Place) (p : Place) → Kept universe roots before places → Contains places p
    → needs_in universe p.name.now p.release.now.version ≡ p.release.now.needs
kept_needs universe roots before [] p kept h = absurd (nowhere p h)
kept_needs universe roots before (q ∷ places) p kept h = elim (in_tail q places p h) [
  | inl e ↦ subst (λ (z : Place). needs_in universe z.name.now z.release.now.version ≡ z.release.now.needs) e (needs_at universe q.name.now kept.0.index q.release.now kept.0.stands)
  | inr t ↦ kept_needs universe roots (before ++ pin_of q ∷ []) places p kept.1 t
]

module _ (universe : Universe) (rules : EnvRules) (roots : Roots) where
  -- what the loop keeps of the names that are reached, the places, and how many were given up at the next
  pub record Searches (names : List CookbookName) (places : List Place) (given_up : ℕ) : Type 0 where
    pub named : names ≡ with_places universe roots.names (map pin_of places)
    pub searched : HasSearched universe rules roots (map pin_of places) given_up
    pub sound : Sound universe rules roots (map pin_of places)
    pub kept : Kept universe roots.names [] places

  pub starts : (names : List CookbookName) → names ≡ roots.names → Searches names [] 0
  starts names e = record { named = e; searched = search_starts universe rules roots; sound = sound_none universe rules roots; kept = tt }

  next_is : (names : List CookbookName) (places : List Place) (given_up : ℕ) (name : CookbookName) → Searches names places given_up → slice_get names (length places) ≡ Some name
      → next universe roots.names (map pin_of places) ≡ Some name
  next_is names places given_up name s e = ap (λ n. slice_get (with_places universe roots.names (map pin_of places)) n) (length-map places pin_of) ∙ ap (λ ns. slice_get ns (length places)) (sym s.named) ∙ e

  -- ---- the measure

  pub to_do : List Place → ℕ → ℕ
  to_do places given_up = 2 * left_to_try (release_count universe) (length universe.cookbooks) (map (λ (p : Place). p.tried) places) given_up + length places

  pub gives_up_nearer : (places front : List Place) (last : Place) (given_up : ℕ) → places ≡ front ++ last ∷ [] → to_do front last.tried < to_do places given_up
  unfolding to_do
  gives_up_nearer places front last given_up split =
      let b = release_count universe in
      let d = length universe.cookbooks in
      let ts = map (λ (p : Place). p.tried) front in
      let stays : left_to_try b d ts last.tried ≤ left_to_try b d (ts ++ last.tried ∷ []) given_up = try_stays b d ts last.tried given_up in
      let was : map (λ (p : Place). p.tried) places ≡ ts ++ last.tried ∷ [] = ap (map (λ (p : Place). p.tried)) split ∙ map_push (λ (p : Place). p.tried) front last in
      let longer : length places ≡ length front + 1 = ap length split ∙ length-append front (last ∷ []) in
      subst (λ m. 2 * left_to_try b d ts last.tried + length front < 2 * left_to_try b d m given_up + length places) (sym was) (omega (arith, stays, longer))

  -- ---- the same of the search's own steps

  pub begun : (s : Search) → Begins roots s → Searches (seen s.names.items) s.places.items s.given_up
  begun s b = subst (λ g. Searches (seen s.names.items) s.places.items g) (sym b.given_up) (subst (λ ps. Searches (seen s.names.items) ps 0) (sym b.places) (starts (seen s.names.items) b.names))

  pub gave_up_nearer : (old new : Search) → GivesUp old new → to_do new.places.items new.given_up < to_do old.places.items old.given_up
  gave_up_nearer old new step =
      subst (λ g. to_do new.places.items g < to_do old.places.items old.given_up) (sym step.given_up) (gives_up_nearer old.places.items new.places.items step.last old.given_up step.places)

  pub found : (s : Search) → Searches (seen s.names.items) s.places.items s.given_up → slice_get (seen s.names.items) (length s.places.items) ≡ None → FindsBest universe rules roots (map pin_of s.places.items)
  found s keeps none =
      let ends : next universe roots.names (map pin_of s.places.items) ≡ None =
      ap (λ n. slice_get (with_places universe roots.names (map pin_of s.places.items)) n) (length-map s.places.items pin_of) ∙ ap (λ ns. slice_get ns (length s.places.items)) (sym keeps.named) ∙ none in
      found_best universe rules roots (map pin_of s.places.items) s.given_up keeps.searched keeps.sound ends

module _ (universe : Universe) (rules : EnvRules) (roots : Roots) (dead : Flags) (never : AreNeverChosen universe rules roots dead) where
  fits_goes : (places : List Place) (name : CookbookName) (release : Release) → Kept universe roots.names [] places → Fits universe rules roots dead places name release
      → Goes universe rules roots dead (map pin_of places) name release
  fits_goes places name release kept fits = record {
    goes_with_pins = fits.meets_pins;
    goes_with_rules = fits.meets_rules;
    goes_with_places = λ q h need n e.
        let at = map_contains pin_of places q h in
        let own : Contains (needs_in universe at.0.name.now at.0.release.now.version) need = subst (λ (z : Pin). Contains (needs_in universe z.name z.version) need) (sym at.2) n in
        fits.meets_places at.0 at.1 need (subst (λ ns. Contains ns need) (kept_needs universe roots.names [] places at.0 kept at.1) own) e;
    goes_with_itself = fits.meets_itself;
    places_go = λ need n q h e.
        let at = map_contains pin_of places q h in
        subst (λ (z : Pin). Meets z.version need.constraint) at.2 (fits.places_meet need n at.0 at.1 (ap (λ (z : Pin). z.name) at.2 ∙ e));
    can_be_met = fits.needs_can_be_met;
  }

  goes_fits : (places : List Place) (name : CookbookName) (release : Release) → Kept universe roots.names [] places → Goes universe rules roots dead (map pin_of places) name release
      → Fits universe rules roots dead places name release
  goes_fits places name release kept goes = record {
    meets_pins = goes.goes_with_pins;
    meets_rules = goes.goes_with_rules;
    meets_places = λ p h need n e. goes.goes_with_places (pin_of p) (contains_map pin_of places p h) need (subst (λ ns. Contains ns need) (sym (kept_needs universe roots.names [] places p kept h)) n) e;
    meets_itself = goes.goes_with_itself;
    places_meet = λ need n p h e. goes.places_go need n (pin_of p) (contains_map pin_of places p h) e;
    needs_can_be_met = goes.can_be_met;
  }

  goes_on : (places : List Place) (name : CookbookName) (release : Release) → Kept universe roots.names [] places → Goes universe rules roots dead (map pin_of places) name release
      → Opens universe rules roots (map pin_of places) name release → GoesOn universe rules roots dead places name release
  goes_on places name release kept goes opens =
      record { fits = goes_fits places name release kept goes; choice = opens.choice; solution = opens.solution; holds = opens.holds; has = opens.has }

  sound_chosen : (names : List CookbookName) (places : List Place) (given_up : ℕ) (name : CookbookName) (releases : List Release) (reached : ℕ) (place : Place) → Searches universe rules roots names places given_up
      → slice_get names (length places) ≡ Some name → releases ≡ releases_in universe name → IsGreatest universe rules roots dead places name releases given_up reached place
      → Sound universe rules roots (map pin_of places ++ pin_of place ∷ [])
  sound_chosen names places given_up name releases reached place s at are greatest =
      let stands : slice_get (releases_in universe place.name.now) greatest.index ≡ Some place.release.now =
      ap (λ n. slice_get (releases_in universe n) greatest.index) greatest.of_name ∙ ap (λ rs. slice_get rs greatest.index) (sym are) ∙ greatest.stands in
      sound_push universe rules roots dead (map pin_of places) (pin_of place) place.release.now greatest.index s.sound (next_is universe rules roots names places given_up name s at ∙ ap Some (sym greatest.of_name)) stands refl
      (fits_goes places place.name.now place.release.now s.kept (subst (λ n. Fits universe rules roots dead places n place.release.now) (sym greatest.of_name) greatest.fits))

  pub chosen : (names : List CookbookName) (places : List Place) (given_up : ℕ) (name : CookbookName) (releases : List Release) (reached : ℕ) (place : Place) (more : List CookbookName) → Searches universe rules roots names places given_up
      → slice_get names (length places) ≡ Some name → releases ≡ releases_in universe name → IsGreatest universe rules roots dead places name releases given_up reached place → reached ≡ length names
      → more ≡ with_needs names place.release.now.needs → Searches universe rules roots more (places ++ place ∷ []) 0
  chosen names places given_up name releases reached place more s at are greatest all needed =
      let seen : map pin_of (places ++ place ∷ []) ≡ map pin_of places ++ pin_of place ∷ [] = map_push pin_of places place in
      let in_own : releases ≡ releases_in universe place.name.now = are ∙ ap (releases_in universe) (sym greatest.of_name) in
      let stands : slice_get (releases_in universe place.name.now) greatest.index ≡ Some place.release.now = ap (λ rs. slice_get rs greatest.index) (sym in_own) ∙ greatest.stands in
      let needs = needs_at universe place.name.now greatest.index place.release.now stands in
      record {
        named = needed ∙ ap (λ ns. with_needs ns place.release.now.needs) s.named ∙ ap (λ ns. with_needs (with_places universe roots.names (map pin_of places)) ns) (sym needs)
            ∙ sym (with_places-append universe roots.names (map pin_of places) (pin_of place ∷ [])) ∙ ap (with_places universe roots.names) (sym seen);
        searched = subst (λ ps. HasSearched universe rules roots ps 0) (sym seen)
            (search_chooses universe rules roots dead never (map pin_of places) given_up (pin_of place) place.release.now greatest.index s.searched (next_is universe rules roots names places given_up name s at ∙ ap Some (sym greatest.of_name)) stands refl
            (λ other r above below e goes opens.
            greatest.greater other r above (subst (λ rs. other + given_up < length rs) (sym in_own) below) (ap (λ rs. slice_get rs other) in_own ∙ e)
            (subst (λ n. GoesOn universe rules roots dead places n r) greatest.of_name (goes_on places place.name.now r s.kept goes opens))));
        sound = subst (λ ps. Sound universe rules roots ps) (sym seen) (sound_chosen names places given_up name releases reached place s at are greatest);
        kept = Kept-push universe roots.names [] places place s.kept (record {
          index = greatest.index;
          stands = stands;
          counted = greatest.counted ∙ ap length in_own;
          reached = greatest.before ∙ all ∙ ap length s.named;
        });
      }

  none_goes : (names : List CookbookName) (places : List Place) (given_up : ℕ) (name : CookbookName) (releases : List Release) → Searches universe rules roots names places given_up → releases ≡ releases_in universe name
      → NoneGoesOn universe rules roots dead places name releases given_up
      → (other : ℕ) (r : Release) → other + given_up < length (releases_in universe name) → slice_get (releases_in universe name) other ≡ Some r → Goes universe rules roots dead (map pin_of places) name r
      → Opens universe rules roots (map pin_of places) name r → ⊥
  none_goes names places given_up name releases s are none other r below e goes opens =
      none other r (subst (λ rs. other + given_up < length rs) (sym are) below) (ap (λ rs. slice_get rs other) are ∙ e) (goes_on places name r s.kept goes opens)

  pub gives_up : (names : List CookbookName) (places : List Place) (given_up : ℕ) (front : List Place) (last : Place) (fewer : List CookbookName) → Searches universe rules roots names places given_up
      → NoneLeft universe rules roots (map pin_of places) given_up → places ≡ front ++ last ∷ [] → fewer ≡ take last.reached names → Searches universe rules roots fewer front last.tried
  gives_up names places given_up front last fewer s nobody split cut =
      let seen : map pin_of places ≡ map pin_of front ++ pin_of last ∷ [] = ap (map pin_of) split ∙ map_push pin_of front last in
      let kept = Kept-pop universe roots.names [] front last (subst (λ ps. Kept universe roots.names [] ps) split s.kept) in
      let own = kept.1 in
      let grows = with_needs-grows (with_places universe roots.names (map pin_of front)) (needs_in universe last.name.now last.release.now.version) in
      let all : names ≡ with_places universe roots.names (map pin_of front) ++ grows.rest =
      s.named ∙ ap (with_places universe roots.names) seen ∙ with_places-append universe roots.names (map pin_of front) (pin_of last ∷ []) ∙ grows.behind in
      record {
        named = cut ∙ ap (take last.reached) all ∙ take_at (with_places universe roots.names (map pin_of front)) grows.rest last.reached (sym own.reached);
        searched = search_gives_up universe rules roots (map pin_of front) (pin_of last) last.release.now own.index last.tried given_up
            (subst (λ ps. HasSearched universe rules roots ps given_up) seen s.searched)
            ((subst (λ ps. Sound universe rules roots ps) seen s.sound).follow)
            own.stands refl own.counted (subst (λ ps. NoneLeft universe rules roots ps given_up) seen nobody);
        sound = sound_front universe rules roots (map pin_of front) (pin_of last ∷ []) (subst (λ ps. Sound universe rules roots ps) seen s.sound);
        kept = kept.0;
      }

  pub fails : (names : List CookbookName) (places : List Place) (given_up : ℕ) → Searches universe rules roots names places given_up → NoneLeft universe rules roots (map pin_of places) given_up → places ≡ []
      → (choice : Choice) → IsSolution universe rules roots choice → ⊥
  fails names places given_up s nobody empty =
      let seen : map pin_of places ≡ [] = ap (map pin_of) empty in
      search_ends universe rules roots given_up (subst (λ ps. HasSearched universe rules roots ps given_up) seen s.searched) (subst (λ ps. NoneLeft universe rules roots ps given_up) seen nobody)

  -- where the search is stuck, no solution is left
  nobody_left : (names : List CookbookName) (places : List Place) (given_up : ℕ) (name : CookbookName) → Searches universe rules roots names places given_up → slice_get names (length places) ≡ Some name
      → NoneGoesOn universe rules roots dead places name (releases_in universe name) given_up → NoneLeft universe rules roots (map pin_of places) given_up
  nobody_left names places given_up name s at none =
      none_left universe rules roots dead never (map pin_of places) given_up name (next_is universe rules roots names places given_up name s at) (none_goes names places given_up name (releases_in universe name) s refl none)

  pub chosen_nearer : (names : List CookbookName) (places : List Place) (given_up : ℕ) (name : CookbookName) (releases : List Release) (reached : ℕ) (place : Place) (more : List Place) → Searches universe rules roots names places given_up
      → slice_get names (length places) ≡ Some name → releases ≡ releases_in universe name → IsGreatest universe rules roots dead places name releases given_up reached place
      → more ≡ places ++ place ∷ [] → to_do universe rules roots more 0 < to_do universe rules roots places given_up
  unfolding to_do
  chosen_nearer names places given_up name releases reached place more s at are greatest is =
      let b = release_count universe in
      let d = length universe.cookbooks in
      let ts = map (λ (p : Place). p.tried) places in
      let sound = sound_chosen names places given_up name releases reached place s at are greatest in
      let few : length (map pin_of places ++ pin_of place ∷ []) ≤ d =
      few_places universe (map pin_of places ++ pin_of place ∷ []) (names_distinct universe roots.names (map pin_of places ++ pin_of place ∷ []) roots.distinct sound.follow) (λ p h. (sound.allowed p h).released) in
      let long : length (map pin_of places ++ pin_of place ∷ []) ≡ length places + 1 = length-append (map pin_of places) (pin_of place ∷ []) ∙ ap (λ n. n + 1) (length-map places pin_of) in
      let tries : length ts ≡ length places = length-map places (λ (p : Place). p.tried) in
      let bound : length releases ≤ b = subst (λ rs. length rs ≤ b) (sym are) (few_releases universe name) in
      let falls : left_to_try b d (ts ++ place.tried ∷ []) 0 < left_to_try b d ts given_up =
      try_falls b d ts place.tried given_up (omega (arith, few, long, tries)) (omega (arith, greatest.counted, greatest.left)) (omega (arith, greatest.counted, bound)) in
      let now : map (λ (p : Place). p.tried) more ≡ ts ++ place.tried ∷ [] = ap (map (λ (p : Place). p.tried)) is ∙ map_push (λ (p : Place). p.tried) places place in
      let longer : length more ≡ length places + 1 = ap length is ∙ length-append places (place ∷ []) in
      subst (λ m. 2 * left_to_try b d m 0 + length more < 2 * left_to_try b d ts given_up + length places) (sym now) (omega (arith, falls, longer))

  pub chose : (old new : Search) (name : CookbookName) (place : Place) → Searches universe rules roots (seen old.names.items) old.places.items old.given_up → slice_get (seen old.names.items) (length old.places.items) ≡ Some name
      → IsGreatest universe rules roots dead old.places.items name (releases_in universe name) old.given_up (length (seen old.names.items)) place → Chooses old place new
      → Searches universe rules roots (seen new.names.items) new.places.items new.given_up
  chose old new name place s at greatest step =
      subst (λ g. Searches universe rules roots (seen new.names.items) new.places.items g) (sym step.given_up) (subst (λ ps. Searches universe rules roots (seen new.names.items) ps 0) (sym step.places)
      (chosen (seen old.names.items) old.places.items old.given_up name (releases_in universe name) (length (seen old.names.items)) place (seen new.names.items) s at refl greatest refl step.names))

  pub chose_nearer : (old new : Search) (name : CookbookName) (place : Place) → Searches universe rules roots (seen old.names.items) old.places.items old.given_up → slice_get (seen old.names.items) (length old.places.items) ≡ Some name
      → IsGreatest universe rules roots dead old.places.items name (releases_in universe name) old.given_up (length (seen old.names.items)) place → Chooses old place new
      → to_do universe rules roots new.places.items new.given_up < to_do universe rules roots old.places.items old.given_up
  chose_nearer old new name place s at greatest step =
      subst (λ g. to_do universe rules roots new.places.items g < to_do universe rules roots old.places.items old.given_up) (sym step.given_up)
      (chosen_nearer (seen old.names.items) old.places.items old.given_up name (releases_in universe name) (length (seen old.names.items)) place new.places.items s at refl greatest step.places)

  pub gave_up : (old new : Search) (name : CookbookName) → Searches universe rules roots (seen old.names.items) old.places.items old.given_up → slice_get (seen old.names.items) (length old.places.items) ≡ Some name
      → NoneGoesOn universe rules roots dead old.places.items name (releases_in universe name) old.given_up → GivesUp old new → Searches universe rules roots (seen new.names.items) new.places.items new.given_up
  gave_up old new name s at stuck step =
      let names : seen new.names.items ≡ take step.last.reached (seen old.names.items) = ap seen step.names ∙ sym (take-map (λ (n : Bor Name). n.now) step.last.reached old.names.items) in
      subst (λ g. Searches universe rules roots (seen new.names.items) new.places.items g) (sym step.given_up)
      (gives_up (seen old.names.items) old.places.items old.given_up new.places.items step.last (seen new.names.items) s (nobody_left (seen old.names.items) old.places.items old.given_up name s at stuck) step.places names)

  pub failed : (old : Search) (name : CookbookName) → Searches universe rules roots (seen old.names.items) old.places.items old.given_up → slice_get (seen old.names.items) (length old.places.items) ≡ Some name
      → NoneGoesOn universe rules roots dead old.places.items name (releases_in universe name) old.given_up → old.places.items ≡ [] → (choice : Choice) → IsSolution universe rules roots choice → ⊥
  failed old name s at stuck empty = fails (seen old.names.items) old.places.items old.given_up s (nobody_left (seen old.names.items) old.places.items old.given_up name s at stuck) empty
