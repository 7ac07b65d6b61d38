-- Conflicts: what terms say, and what follows of them.
use Rattle.std.proofs.Common.{◌≡◌, IfSome, MatchBool, MatchOption, not, ℕ, zero, suc, ◌+◌, ◌<◌, ◌≤◌, ◌⊎◌, min, max, Bool, true, false, List, Vec, Global, [], ◌∷◌, ◌++◌, length, map, get_or, slice_get, slice_set, Option, Some, None, Contains, arith, ap, refl, sym, subst, ◌∙◌, inl, inr, true≢false, bit_or, bit_and}
use Rattle.std.proofs.lemmas.List.Elements.{Contains-append_left, Contains-push, Contains-push_cases}
use Rattle.std.proofs.lemmas.Nat.Bits.{bit_at_and, bit_at_ones, bit_at_or}
use Rattle.std.proofs.lemmas.Option.{same_Some, slice_get-get_or}
use Rattle.std.specs.List.{items_where_true}
use Rattle.std.specs.Int.{bit_at}
use Rattle.std.specs.FinMap as finite
use Rattle.version_rules.specs.declared.versions.Version.{Version}
use Rattle.dep_solver.specs.declared.conflicts.Conflict.{Conflict}
use Rattle.dep_solver.specs.declared.conflicts.Term.{Term}
use Rattle.dep_solver.specs.declared.roots.Roots.{Roots}
use Rattle.dep_solver.specs.declared.rules.EnvRules.{EnvRules}
use Rattle.dep_solver.specs.declared.roots.Pin.{Pin}
use Rattle.dep_solver.specs.declared.search.Place.{Place}
use Rattle.dep_solver.specs.declared.store.Store.{Store}
use Rattle.dep_solver.specs.declared.universe.Cookbook.{Cookbook}
use Rattle.dep_solver.specs.declared.universe.Release.{Release}
use Rattle.dep_solver.specs.declared.universe.Universe.{Universe}
use Rattle.dep_solver.specs.Conflicts.{Adds, AddsOthers, AllowsEach, AreConflicts, Follows, HasAll, HasTerm, IsAmong, IsConflict, PlaceHas, PlacesHave, PlacesHaveAll, Resolves, Values}
use Rattle.dep_solver.specs.Search.{Flags, GoesOn, pin_of}
use Rattle.dep_solver.specs.Solutions.{Choice, IsSolution}
use Rattle.dep_solver.specs.Values.{value_at, value_in, value_of}
use Rattle.dep_solver.specs.Walks.{Holds}
use Rattle.dep_solver.proofs.EachLemmas.{EachBefore, each_all, each_more, read_inside}
use Rattle.dep_solver.proofs.ListLemmas.{contains_map, here, in_tail, map_contains, nowhere, there}
use Rattle.dep_solver.proofs.OrderLemmas.{three}

-- ---- values

value_of-below : (releases : List Release) (version : Option Version) → value_of releases version < 64
value_of-below releases None = omega arith
value_of-below releases (Some version) = omega arith

value_in-below : (choice : Choice) (cookbook : Option Cookbook) → value_in choice cookbook < 64
value_in-below choice None = omega arith
value_in-below choice (Some cookbook) = value_of-below cookbook.releases (finite.get choice cookbook.name)

pub value_at-below : (universe : Universe) (choice : Choice) (index : ℕ) → value_at universe choice index < 64
value_at-below universe choice index = value_in-below choice (slice_get universe.cookbooks index)

-- a bit of both numbers, and of one of them
pub both_bits : (a b i : ℕ) → bit_at (bit_and a b) i ≡ 1 → (bit_at a i ≡ 1) × (bit_at b i ≡ 1)
both_bits a b i e =
    let low : min (bit_at a i) (bit_at b i) ≡ 1 = sym (bit_at_and a b i) ∙ e in
    (omega (arith, low), omega (arith, low))

one_of : (m n : ℕ) → m < 2 → n < 2 → max m n ≡ 1 → (m ≡ 1) ⊎ (n ≡ 1)
one_of m n h k e = elim (three m 1) [
  | inl less ↦ inr (omega (arith, e))
  | inr r ↦ elim r [ inl same ↦ inl same | inr more ↦ absurd (omega arith) ]
]

pub one_bit : (a b i : ℕ) → bit_at (bit_or a b) i ≡ 1 → (bit_at a i ≡ 1) ⊎ (bit_at b i ≡ 1)
one_bit a b i e = one_of (bit_at a i) (bit_at b i) (omega arith) (omega arith) (sym (bit_at_or a b i) ∙ e)

pub either_bit : (a b i : ℕ) → (bit_at a i ≡ 1) ⊎ (bit_at b i ≡ 1) → bit_at (bit_or a b) i ≡ 1
either_bit a b i h =
    let low : bit_at a i < 2 = omega arith in
    let low' : bit_at b i < 2 = omega arith in
    bit_at_or a b i ∙ elim h [ inl e ↦ omega (arith, e, low, low') | inr e ↦ omega (arith, e, low, low') ]

-- ---- terms

pub all_push : (taken : Values) (terms more : List Term) (term : Term) → more ≡ terms ++ term ∷ [] → HasAll taken more → HasAll taken terms × HasTerm taken term
all_push taken terms more term e all =
    let pushed = subst (HasAll taken) e all in
    (λ t h. pushed t (Contains-append_left terms (term ∷ []) t h), pushed term (Contains-push terms term))

-- what follows of two conflicts
pub resolves : (one other first second new : List Term) (cookbook x y : ℕ) → AddsOthers one cookbook [] first → AddsOthers other cookbook first second → AllowsEach one cookbook x → AllowsEach other cookbook y
    → ((taken : Values) → ((index : ℕ) → taken index < 64) → HasAll taken new → HasAll taken second × (bit_at (bit_or x y) (taken cookbook) ≡ 1)) → Resolves one other new
resolves one other first second new cookbook x y adds_one adds_other of_one of_other ends taken below all =
    let at_end = ends taken below all in
    let others = adds_other taken at_end.0 in
    let ones = adds_one taken others.0 in
    elim (one_bit x y (taken cookbook) at_end.1) [
      | inl e ↦ inl (each one x of_one e ones.1)
      | inr e ↦ inr (each other y of_other e others.1)
    ]
  where
    each : (terms : List Term) (values : ℕ) → AllowsEach terms cookbook values → bit_at values (taken cookbook) ≡ 1 → ((term : Term) → Contains terms term → ¬ (term.cookbook ≡ cookbook) → HasTerm taken term) → HasAll taken terms
    each terms values allows e rest term h = elim (three term.cookbook cookbook) [
      | inl less ↦ rest term h (λ same. absurd (omega arith))
      | inr r ↦ elim r [
        | inl same ↦ subst (λ (n : ℕ). bit_at term.values n ≡ 1) (ap taken (sym same)) (allows (taken cookbook) (below cookbook) e term h same)
        | inr more ↦ rest term h (λ same. absurd (omega arith))
      ]
    ]

pub ends_pushed : (second new : List Term) (cookbook values : ℕ) → new ≡ second ++ record { cookbook = cookbook; values = values } ∷ []
    → (taken : Values) → ((index : ℕ) → taken index < 64) → HasAll taken new → HasAll taken second × (bit_at values (taken cookbook) ≡ 1)
ends_pushed second new cookbook values e taken below all = all_push taken second new (record { cookbook = cookbook; values = values }) e all

pub ends_full : (second new : List Term) (cookbook values : ℕ) → new ≡ second → values ≡ 18446744073709551615
    → (taken : Values) → ((index : ℕ) → taken index < 64) → HasAll taken new → HasAll taken second × (bit_at values (taken cookbook) ≡ 1)
ends_full second new cookbook values same full taken below all =
    (subst (HasAll taken) same all, ap (λ n. bit_at n (taken cookbook)) full ∙ bit_at_ones 64 (taken cookbook) (below cookbook))

-- a loop over the terms of others
pub others_more : (cookbook : ℕ) (others : List Term) (i : ℕ) (other : Term) (first old new : List Term) → i < length others → other ≡ get_or others i other
    → ((taken : Values) → HasAll taken new → HasAll taken old × (¬ (other.cookbook ≡ cookbook) → HasTerm taken other))
    → ((taken : Values) → HasAll taken old → HasAll taken first × EachBefore (λ (t : Term). ¬ (t.cookbook ≡ cookbook) → HasTerm taken t) others i)
    → (taken : Values) → HasAll taken new → HasAll taken first × EachBefore (λ (t : Term). ¬ (t.cookbook ≡ cookbook) → HasTerm taken t) others (i + 1)
others_more cookbook others i other first old new within is step before taken all =
    let now = step taken all in
    let rest = before taken now.0 in
    (rest.0, each_more (λ (t : Term). ¬ (t.cookbook ≡ cookbook) → HasTerm taken t) others i other within is rest.1 now.1)

-- ---- places

pub places_have : (universe : Universe) (places : List Place) (i : ℕ) (place : Place) (term : Term) → i < length places → place ≡ get_or places i place → PlaceHas universe place term → PlacesHave universe places term
places_have universe places i place term within is has choice holds = has choice (holds (pin_of place) (contains_map pin_of places place (read_inside places i place within is)))

-- ---- conflicts

module _ (universe : Universe) (rules : EnvRules) (roots : Roots) where
  pub resolved_conflict : (one other new : List Term) → Resolves one other new → IsConflict universe rules roots one → IsConflict universe rules roots other → IsConflict universe rules roots new
  resolved_conflict one other new resolves first second choice solution all = elim (resolves (value_at universe choice) (value_at-below universe choice) all) [
    | inl h ↦ first choice solution h
    | inr h ↦ second choice solution h
  ]

  -- places that have all of a conflict are in no solution
  pub breaks_out : (places : List Place) (terms : List Term) → IsConflict universe rules roots terms → PlacesHaveAll universe places terms → (choice : Choice) → IsSolution universe rules roots choice → Holds choice (map pin_of places) → ⊥
  breaks_out places terms conflict have choice solution holds = conflict choice solution (λ term h. have term h choice holds)

  -- one more conflict
  pub learned_more : (conflicts more : List Conflict) (conflict : Conflict) → AreConflicts universe rules roots conflicts → IsConflict universe rules roots conflict.terms.items
      → more ≡ conflicts ++ conflict ∷ [] → AreConflicts universe rules roots more
  learned_more conflicts more conflict learned is e c h = elim (Contains-push_cases conflicts conflict c (subst (λ cs. Contains cs c) e h)) [
    | inl old ↦ learned c old
    | inr new ↦ subst (λ (z : Conflict). IsConflict universe rules roots z.terms.items) new is
  ]

-- what is said of both cases of an option, where it is known which it is
pub some_says : {A : Type 0} (P : Type 0) (Q : A → Type 0) (o : Option A) (x : A) → o ≡ Some x → MatchOption o P Q → Q x
some_says P Q o x e m = subst (λ o. MatchOption o P Q) e m

pub none_says : {A : Type 0} (P : Type 0) (Q : A → Type 0) (o : Option A) → o ≡ None → MatchOption o P Q → P
none_says P Q o e m = subst (λ o. MatchOption o P Q) e m

pub if_some : {A : Type 0} (P : A → Type 0) (o : Option A) (x : A) → o ≡ Some x → IfSome o P → P x
if_some P o x e m = subst (λ o. IfSome o P) e m

-- ---- the loops

-- a term that is narrowed where it stands
pub adds_at : (terms : List Term) (i : ℕ) (old term : Term) → i < length terms → slice_get terms i ≡ Some old → old.cookbook ≡ term.cookbook
    → Adds terms term (slice_set terms i (record { cookbook = old.cookbook; values = bit_and old.values term.values }))
adds_at terms i old term within stands same taken all =
    let new : Term = record { cookbook = old.cookbook; values = bit_and old.values term.values } in
    let now : HasTerm taken new = all new (set_has terms i new within) in
    let both = both_bits old.values term.values (taken old.cookbook) now in
    (each terms i old stands new both.0 all, subst (λ (n : ℕ). bit_at term.values (taken n) ≡ 1) same both.1)
  where
    set_has : (terms : List Term) (i : ℕ) (new : Term) → i < length terms → Contains (slice_set terms i new) new
    set_has [] i new within = absurd (omega arith)
    set_has (t ∷ terms) zero new within = here new terms
    set_has (t ∷ terms) (suc i) new within = there t (slice_set terms i new) new (set_has terms i new (omega arith))

    each : (terms : List Term) (i : ℕ) (old : Term) → slice_get terms i ≡ Some old → (new : Term) → HasTerm taken old → HasAll taken (slice_set terms i new) → HasAll taken terms
    each [] i old stands new has all x h = absurd (nowhere x h)
    each (t ∷ terms) zero old stands new has all x h = elim (in_tail t terms x h) [
      | inl e ↦ subst (HasTerm taken) (sym (same_Some t old stands) ∙ e) has
      | inr r ↦ all x (there new terms x r)
    ]
    each (t ∷ terms) (suc i) old stands new has all x h = elim (in_tail t terms x h) [
      | inl e ↦ subst (HasTerm taken) e (all t (here t (slice_set terms i new)))
      | inr r ↦ each terms i old stands new has (λ y k. all y (there t (slice_set terms i new) y k)) x r
    ]

pub others_end : (cookbook : ℕ) (others : List Term) (i : ℕ) (first old : List Term) → length others ≤ i
    → ((taken : Values) → HasAll taken old → HasAll taken first × EachBefore (λ (t : Term). ¬ (t.cookbook ≡ cookbook) → HasTerm taken t) others i) → AddsOthers others cookbook first old
others_end cookbook others i first old past before taken all =
    let now = before taken all in (now.0, each_all (λ (t : Term). ¬ (t.cookbook ≡ cookbook) → HasTerm taken t) others i past now.1)

-- a loop that narrows values by each term on a cookbook
abbrev pub AllowsBefore : List Term → ℕ → ℕ → ℕ → Type 0
AllowsBefore terms cookbook i values = (value : ℕ) → value < 64 → bit_at values value ≡ 1 → EachBefore (λ (t : Term). t.cookbook ≡ cookbook → bit_at t.values value ≡ 1) terms i

pub allows_more : (terms : List Term) (cookbook i : ℕ) (term : Term) (old new : ℕ) → i < length terms → term ≡ get_or terms i term
    → ((value : ℕ) → bit_at new value ≡ 1 → (bit_at old value ≡ 1) × (term.cookbook ≡ cookbook → bit_at term.values value ≡ 1)) → AllowsBefore terms cookbook i old → AllowsBefore terms cookbook (i + 1) new
allows_more terms cookbook i term old new within is narrows before value small bit =
    let now = narrows value bit in
    each_more (λ (t : Term). t.cookbook ≡ cookbook → bit_at t.values value ≡ 1) terms i term within is (before value small now.0) now.1

pub narrows_to : (old values new : ℕ) (P : Type 0) → new ≡ bit_and old values → (value : ℕ) → bit_at new value ≡ 1 → (bit_at old value ≡ 1) × (P → bit_at values value ≡ 1)
narrows_to old values new P e value bit = let both = both_bits old values value (subst (λ n. bit_at n value ≡ 1) e bit) in (both.0, λ _. both.1)

-- ---- reads of lists of plain values

pub get_or_any : {A : Type 0} (xs : List A) (i : ℕ) (d e : A) → i < length xs → get_or xs i d ≡ get_or xs i e
get_or_any xs i d e within = same_Some (get_or xs i d) (get_or xs i e) (sym (slice_get-get_or xs i d within) ∙ slice_get-get_or xs i e within)

pub read_any : {A : Type 0} (xs : List A) (i : ℕ) (d : A) → i < length xs → get_or xs i d ≡ get_or xs i (get_or xs i d)
read_any xs i d within = get_or_any xs i d (get_or xs i d) within

-- ---- what is kept

pub kept_of : {A : Type 0} (bs : List Bool) (xs : List A) (x : A) → Contains (items_where_true bs xs) x → Contains xs x
kept_of [] xs x h = absurd (nowhere x h)
kept_of (b ∷ bs) [] x h = absurd (nowhere x h)
kept_of (true ∷ bs) (y ∷ xs) x h = elim (in_tail y (items_where_true bs xs) x h) [
  | inl e ↦ subst (Contains (y ∷ xs)) e (here y xs)
  | inr r ↦ there y xs x (kept_of bs xs x r)
]
kept_of (false ∷ bs) (y ∷ xs) x h = there y xs x (kept_of bs xs x h)

pub if_some_more : {A : Type 0} (P Q : A → Type 0) (o : Option A) → ((x : A) → P x → Q x) → IfSome o P → IfSome o Q
if_some_more P Q None h m = m
if_some_more P Q (Some x) h m = h x m

pub follows_known : (store : Store) (terms : List Term) → IsAmong store.known.items terms → Follows store terms
follows_known store terms among universe rules roots keeps = subst (IsConflict universe rules roots) among.2 (keeps.0 among.0 among.1)

pub follows_learned : (store : Store) (terms : List Term) → IsAmong store.learned.items terms → Follows store terms
follows_learned store terms among universe rules roots keeps = subst (IsConflict universe rules roots) among.2 (keeps.1 among.0 among.1)

pub follows_resolved : (store : Store) (one other new : List Term) → Resolves one other new → Follows store one → Follows store other → Follows store new
follows_resolved store one other new resolves first second universe rules roots keeps =
    resolved_conflict universe rules roots one other new resolves (first universe rules roots keeps) (second universe rules roots keeps)

-- a term that is narrowed where a vector has it
pub adds_read : (first terms : Vec Term Global) (i : ℕ) (narrowed read term : Term) → terms ≡ first → (end : ℕ) → end ≡ length first.items → i < end → narrowed ≡ get_or terms.items i narrowed → read ≡ get_or terms.items i read
    → read.cookbook ≡ term.cookbook → Adds first.items term (slice_set terms.items i (record { cookbook = narrowed.cookbook; values = bit_and narrowed.values term.values }))
adds_read first terms i narrowed read term kept end long below is is' same =
    let within : i < length terms.items = omega (arith, long, below, ap (λ (v : Vec Term Global). length v.items) kept) in
    let one : narrowed ≡ read = is ∙ get_or_any terms.items i narrowed read within ∙ sym is' in
    let stands : slice_get terms.items i ≡ Some narrowed = slice_get-get_or terms.items i narrowed within ∙ ap Some (sym is) in
    subst (λ (v : Vec Term Global). Adds v.items term (slice_set terms.items i (record { cookbook = narrowed.cookbook; values = bit_and narrowed.values term.values }))) kept
    (adds_at terms.items i narrowed term within stands (ap (λ (t : Term). t.cookbook) one ∙ same))

pub kept_true : (b : Bool) → false ≡ not b → b ≡ true
kept_true true e = refl
kept_true false e = absurd (true≢false (sym e))

-- ---- a place that is passed over

pub goes_by : (b : Bool) (P Q : Type 0) → P → (b ≡ true → Q) → MatchBool (not b) P Q
goes_by true P Q p q = q refl
goes_by false P Q p q = p

held_by_more : (choice : Choice) (places more : List Place) (place : Place) → more ≡ places ++ place ∷ [] → Holds choice (map pin_of places) → finite.get choice place.name.now ≡ Some place.release.now.version → Holds choice (map pin_of more)
held_by_more choice places more place e holds has pin h =
    let one = map_contains pin_of more pin h in
    elim (Contains-push_cases places place one.0 (subst (λ (ps : List Place). Contains ps one.0) e one.1)) [
      | inl old ↦ subst (λ (p : Pin). finite.get choice p.name ≡ Some p.version) one.2 (holds (pin_of one.0) (contains_map pin_of places one.0 old))
      | inr new ↦ subst (λ (p : Pin). finite.get choice p.name ≡ Some p.version) (ap pin_of new ∙ one.2) has
    ]

pub goes_not : (universe : Universe) (rules : EnvRules) (roots : Roots) (dead : Flags) (places more : List Place) (place : Place) (terms : List Term) → more ≡ places ++ place ∷ [] → IsConflict universe rules roots terms → PlacesHaveAll universe more terms
    → GoesOn universe rules roots dead places place.name.now place.release.now → ⊥
goes_not universe rules roots dead places more place terms e conflict have goes =
    breaks_out universe rules roots more terms conflict have goes.choice goes.solution (held_by_more goes.choice places more place e goes.holds goes.has)
