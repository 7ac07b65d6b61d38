-- The laws of walks and of solutions.
use Rattle.std.proofs.Common.{◌≡◌, ℕ, zero, suc, ◌+◌, ◌<◌, ◌⊎◌, List, [], ◌∷◌, ◌++◌, length, get_or, slice_get, Option, Some, None, Less, Equal, Greater, Ordering, arith, ap, refl, sym, subst, ◌∙◌, inl, inr, append-nil, append_assoc}
use Rattle.std.proofs.lemmas.List.{length-append}
use Rattle.std.proofs.lemmas.Option.{none-some, same_Some, slice_get-get_or}
use Rattle.std.specs.FinMap as finite
use Rattle.std.specs.Ordering.{ordering_reverse}
use Rattle.version_rules.specs.declared.versions.Version.{Version}
use Rattle.version_rules.specs.Order.{IsBelow, version_cmp}
use Rattle.dep_solver.specs.declared.roots.Pin.{Pin}
use Rattle.dep_solver.specs.declared.roots.Roots.{Roots}
use Rattle.dep_solver.specs.declared.rules.EnvRules.{EnvRules}
use Rattle.dep_solver.specs.declared.universe.Universe.{Universe}
use Rattle.dep_solver.specs.Best.{IsBetter}
use Rattle.dep_solver.specs.Laws.{BestIsNoneBetter, OneIsBetter, PlacesFixTheNext, SolutionsHaveWalks}
use Rattle.dep_solver.specs.Names.{CookbookName}
use Rattle.dep_solver.specs.Solutions.{Choice, IsSolution}
use Rattle.dep_solver.specs.Walks.{Begins, Follow, Holds, IsWalk, next}
use Rattle.dep_solver.proofs.EndLemmas.{same_choice}
use Rattle.dep_solver.proofs.ListLemmas.{here, nowhere, slice_get_at_end, slice_get_left, there}
use Rattle.dep_solver.proofs.OrderLemmas.{three}
use Rattle.dep_solver.proofs.MeasureLemmas.{few_places}
use Rattle.dep_solver.proofs.SearchLemmas.{begins_front, begins_push, held}
use Rattle.dep_solver.proofs.VersionLemmas.{below_both, below_from_less, not_below_itself, version_from_equal, versions_total}
use Rattle.dep_solver.proofs.WalkLemmas.{names_distinct, next_at}

-- places that go on from a front behind which a walk has ended
goes_past : (universe : Universe) (roots : List CookbookName) (front : List Pin) (p : Pin) (rest : List Pin) → next universe roots (front ++ []) ≡ None → Follow universe roots [] (front ++ p ∷ rest) → ⊥
goes_past universe roots front p rest e f =
    none-some p.name (sym e ∙ ap (next universe roots) (append-nil front) ∙ next_at universe roots front p rest f)

pub places_fix : PlacesFixTheNext
places_fix universe roots one other front [] [] a b = tt
places_fix universe roots one other front [] (p ∷ rest) a b = goes_past universe roots front p rest a.ends b.begins.names
places_fix universe roots one other front (p ∷ more) [] a b = goes_past universe roots front p more b.ends a.begins.names
places_fix universe roots one other front (p ∷ more) (q ∷ rest) a b =
    same_Some p.name q.name (sym (next_at universe roots front p more a.begins.names) ∙ next_at universe roots front q rest b.begins.names)

-- ---- each solution has a walk

walk_from : (universe : Universe) (rules : EnvRules) (roots : Roots) (choice : Choice) → IsSolution universe rules roots choice → (fuel : ℕ) (places : List Pin) → Begins universe roots.names choice places
    → length universe.cookbooks < length places + fuel → (walk : List Pin) × IsWalk universe roots.names choice walk
walk_from universe rules roots choice solution zero places begins enough =
    let few = few_places universe places (names_distinct universe roots.names places roots.distinct begins.names) (λ p h. (solution.allowed p.name p.version (begins.versions p h)).released) in
    absurd (omega arith)
walk_from universe rules roots choice solution (suc fuel) places begins enough =
    by (next universe roots.names places) refl
    (λ p more. walk_from universe rules roots choice solution fuel (places ++ p ∷ []) more (omega (arith, length-append places (p ∷ []))))
  where
    by : (o : Option CookbookName) → next universe roots.names places ≡ o
        → ((p : Pin) → Begins universe roots.names choice (places ++ p ∷ []) → (walk : List Pin) × IsWalk universe roots.names choice walk)
        → (walk : List Pin) × IsWalk universe roots.names choice walk
    by None e more = (places, record { begins = begins; ends = e })
    by (Some name) e more =
        let has = held universe rules roots choice places name solution begins.versions e in
        more (record { name = name; version = has.0 }) (begins_push universe rules roots choice places (record { name = name; version = has.0 }) begins e has.1)

pub have_walks : SolutionsHaveWalks
have_walks universe rules roots choice solution =
    walk_from universe rules roots choice solution (length universe.cookbooks + 1) [] (record { names = tt; versions = λ p h. absurd (nowhere p h) }) (omega arith)

-- ---- of two solutions one is better

-- two versions are one, or one is below the other
below_cases : (v w : Version) → IsBelow v w ⊎ (v ≡ w) ⊎ IsBelow w v
below_cases v w = by (version_cmp v w) refl
  where
    by : (o : Ordering) → version_cmp v w ≡ o → IsBelow v w ⊎ (v ≡ w) ⊎ IsBelow w v
    by Less e = inl (below_from_less v w e)
    by Equal e = inr (inl (version_from_equal v w e))
    by Greater e = inr (inr (below_from_less w v (versions_total.antisymm w v ∙ ap ordering_reverse e)))

compare_from : (universe : Universe) (rules : EnvRules) (roots : Roots) (one other : Choice) → IsSolution universe rules roots one → IsSolution universe rules roots other
    → (front rest : List Pin) → Begins universe roots.names one (front ++ rest) → Begins universe roots.names other front → next universe roots.names (front ++ rest) ≡ None
    → (one ≡ other) ⊎ IsBetter universe roots one other ⊎ IsBetter universe roots other one
compare_from universe rules roots one other a b front [] begins also ends =
    let ends_here : next universe roots.names front ≡ None = ap (next universe roots.names) (sym (append-nil front)) ∙ ends in
    let begins_here = begins_front universe rules roots one front [] begins in
    inl (same_choice universe rules roots front one also.names ends_here a begins_here.versions ∙ sym (same_choice universe rules roots front other also.names ends_here b also.versions))
compare_from universe rules roots one other a b front (p ∷ rest) begins also ends =
    let at = next_at universe roots.names front p rest begins.names in
    let has = held universe rules roots other front p.name b also.versions at in
    let own = begins_push universe rules roots other front (record { name = p.name; version = has.0 }) also at has.1 in
    let assoc : front ++ p ∷ [] ++ rest ≡ front ++ p ∷ rest = append_assoc front (p ∷ []) rest in
    let begins_then = subst (λ zs. Begins universe roots.names one zs) (sym assoc) begins in
    let first = begins_front universe rules roots one (front ++ p ∷ []) rest begins_then in
    elim (below_cases has.0 p.version) [
      | inl below ↦ inr (inl (record { alike = front; name = p.name; greater = p.version; less = has.0; below = below; one_walk = first; other_walk = own }))
      | inr h ↦ elim h [
        | inl same ↦ compare_from universe rules roots one other a b (front ++ p ∷ []) rest begins_then
            (begins_push universe rules roots other front p also at (has.1 ∙ ap Some same)) (ap (next universe roots.names) assoc ∙ ends)
        | inr above ↦ inr (inr (record { alike = front; name = p.name; greater = has.0; less = p.version; below = above; one_walk = own; other_walk = first }))
      ]
    ]

pub one_better : OneIsBetter
one_better universe rules roots one other a b =
    let walk = have_walks universe rules roots one a in
    compare_from universe rules roots one other a b [] walk.0 walk.1.begins (record { names = tt; versions = λ p h. absurd (nowhere p h) }) walk.1.ends

-- ---- the best solution is the one than which none is better

abbrev pin : CookbookName → Version → Pin
pin name version = record { name = name; version = version }

heads : (universe : Universe) (roots : List CookbookName) (choice : Choice) (before : List Pin) (x y : Pin) → next universe roots before ≡ Some x.name → next universe roots before ≡ Some y.name
    → finite.get choice x.name ≡ Some x.version → finite.get choice y.name ≡ Some y.version → x ≡ y
heads universe roots choice before x y a b h l =
    let name : x.name ≡ y.name = same_Some x.name y.name (sym a ∙ b) in
    let version : x.version ≡ y.version = same_Some x.version y.version (sym h ∙ ap (finite.get choice) name ∙ l) in
    λ i. record { name = name i; version = version i }

-- two lists that a walk of one choice begins with are alike at each place that both have
one_walk : (universe : Universe) (roots : List CookbookName) (choice : Choice) (before xs ys : List Pin) → Follow universe roots before xs → Follow universe roots before ys → Holds choice xs → Holds choice ys
    → (k : ℕ) (p q : Pin) → slice_get xs k ≡ Some p → slice_get ys k ≡ Some q → p ≡ q
one_walk universe roots choice before [] ys f g h l k p q a b = absurd (none-some p a)
one_walk universe roots choice before (x ∷ xs) [] f g h l k p q a b = absurd (none-some q b)
one_walk universe roots choice before (x ∷ xs) (y ∷ ys) f g h l zero p q a b = sym (same_Some x p a) ∙ heads universe roots choice before x y f.0 g.0 (h x (here x xs)) (l y (here y ys)) ∙ same_Some y q b
one_walk universe roots choice before (x ∷ xs) (y ∷ ys) f g h l (suc k) p q a b =
    let same = heads universe roots choice before x y f.0 g.0 (h x (here x xs)) (l y (here y ys)) in
    one_walk universe roots choice (before ++ x ∷ []) xs ys f.1 (subst (λ z. Follow universe roots (before ++ z ∷ []) ys) (sym same) g.1)
    (λ r m. h r (there x xs r m)) (λ r m. l r (there y ys r m)) k p q a b

-- two walks that part at different places contradict each other
parts_before : (universe : Universe) (roots : Roots) (one other : Choice) (front : List Pin) (p q : Pin) (longer : List Pin) (r s : Pin) → IsBelow q.version p.version
    → Begins universe roots.names one (front ++ p ∷ []) → Begins universe roots.names other (front ++ q ∷ []) → Begins universe roots.names other (longer ++ r ∷ []) → Begins universe roots.names one (longer ++ s ∷ [])
    → length front < length longer → ⊥
parts_before universe roots one other front p q longer r s below a b c d short =
    let at : slice_get longer (length front) ≡ Some (get_or longer (length front) p) = slice_get-get_or longer (length front) p short in
    let first : p ≡ get_or longer (length front) p =
    one_walk universe roots.names one [] (front ++ p ∷ []) (longer ++ s ∷ []) a.names d.names a.versions d.versions (length front) p (get_or longer (length front) p) (slice_get_at_end front p []) (slice_get_left longer (s ∷ []) (length front) (get_or longer (length front) p) at) in
    let second : q ≡ get_or longer (length front) p =
    one_walk universe roots.names other [] (front ++ q ∷ []) (longer ++ r ∷ []) b.names c.names b.versions c.versions (length front) q (get_or longer (length front) p) (slice_get_at_end front q []) (slice_get_left longer (r ∷ []) (length front) (get_or longer (length front) p) at) in
    not_below_itself p.version (subst (λ (z : Pin). IsBelow z.version p.version) (second ∙ sym first) below)

-- two solutions aren't each better than the other
pub not_both : (universe : Universe) (roots : Roots) (one other : Choice) → IsBetter universe roots one other → IsBetter universe roots other one → ⊥
not_both universe roots one other x y = elim (three (length x.alike) (length y.alike)) [
  | inl short ↦ parts_before universe roots one other x.alike (pin x.name x.greater) (pin x.name x.less) y.alike (pin y.name y.greater) (pin y.name y.less) x.below x.one_walk x.other_walk y.one_walk y.other_walk short
  | inr h ↦ elim h [
    | inl same ↦
        let first : pin x.name x.greater ≡ pin y.name y.less =
        one_walk universe roots.names one [] (x.alike ++ pin x.name x.greater ∷ []) (y.alike ++ pin y.name y.less ∷ []) x.one_walk.names y.other_walk.names x.one_walk.versions y.other_walk.versions (length x.alike)
        (pin x.name x.greater) (pin y.name y.less) (slice_get_at_end x.alike (pin x.name x.greater) []) (ap (slice_get (y.alike ++ pin y.name y.less ∷ [])) same ∙ slice_get_at_end y.alike (pin y.name y.less) []) in
        let second : pin x.name x.less ≡ pin y.name y.greater =
        one_walk universe roots.names other [] (x.alike ++ pin x.name x.less ∷ []) (y.alike ++ pin y.name y.greater ∷ []) x.other_walk.names y.one_walk.names x.other_walk.versions y.one_walk.versions (length x.alike)
        (pin x.name x.less) (pin y.name y.greater) (slice_get_at_end x.alike (pin x.name x.less) []) (ap (slice_get (y.alike ++ pin y.name y.greater ∷ [])) same ∙ slice_get_at_end y.alike (pin y.name y.greater) []) in
        below_both x.less x.greater x.below
        (subst (λ (z : Pin). IsBelow z.version x.less) (sym first) (subst (λ (z : Pin). IsBelow y.less z.version) (sym second) y.below))
    | inr long ↦ parts_before universe roots other one y.alike (pin y.name y.greater) (pin y.name y.less) x.alike (pin x.name x.greater) (pin x.name x.less) y.below y.one_walk y.other_walk x.one_walk x.other_walk long
  ]
]

pub best_none_better : BestIsNoneBetter
best_none_better universe rules roots choice = (
  λ best. (
    best.solution,
    λ other solution better. elim (best.best other solution) [
      | inl same ↦ let own = subst (λ c. IsBetter universe roots c choice) same better in not_both universe roots choice choice own own
      | inr worse ↦ not_both universe roots choice other worse better
    ],
  ),
  λ h. record {
    solution = h.0;
    best = λ other solution. elim (one_better universe rules roots choice other h.0 solution) [
      | inl same ↦ inl (sym same)
      | inr r ↦ elim r [ inl better ↦ inr better | inr worse ↦ absurd (h.1 other solution worse) ]
    ];
  },
)
