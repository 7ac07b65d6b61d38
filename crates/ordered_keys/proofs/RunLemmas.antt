-- Items in the order in which they stand to what is sought: parts of such a run, and what a cut tells.
use Rattle.std.proofs.Common.{◌≡◌, ◌≢◌, ℕ, inl, inr, List, [], ◌∷◌, ◌++◌, Option, Some, None, is_some, IsSome, true, false, not, ◌==◌, refl, sym, ap, subst, ◌∙◌}
use Rattle.std.specs.declared.cmp.Ordering.{Ordering}
use Rattle.std.specs.declared.cmp.Ordering.TheVariants.{Less, Equal, Greater}
use Rattle.std.specs.Ordering.{ordering_index}
use Rattle.ordered_keys.specs.Numbers.{Among}
use Rattle.ordered_keys.specs.Arranged.{AllAre, IsCutOf}
use Rattle.ordered_keys.specs.Tree.{AreOrderly, IsBelow, IsFrom, IsRun, IsUpTo, stand}
use Rattle.ordered_keys.proofs.NumberLemmas.{Among-left, Among-right, Among-split}

pub some_of : {T : Type 0} (o : Option T) → IsSome o → (x : T) × (o ≡ Some x)
some_of (Some x) h = (x, refl)
some_of None h = absurd (cc)

-- a test for the order 'less', and one for all but it
pub is_less : (r : Ordering) → true ≡ (ordering_index r == 0) → r ≡ Less
is_less Less e = refl
is_less Equal e = absurd (cc)
is_less Greater e = absurd (cc)

pub is_not_less : (r : Ordering) → false ≡ (ordering_index r == 0) → r ≢ Less
is_not_less Less e f = absurd (cc)
is_not_less Equal e f = absurd (cc)
is_not_less Greater e f = absurd (cc)

pub is_less_of_not : (r : Ordering) → false ≡ not (ordering_index r == 0) → r ≡ Less
is_less_of_not Less e = refl
is_less_of_not Equal e = absurd (cc)
is_less_of_not Greater e = absurd (cc)

pub is_not_less_of_not : (r : Ordering) → true ≡ not (ordering_index r == 0) → r ≢ Less
is_not_less_of_not Less e f = absurd (cc)
is_not_less_of_not Equal e f = absurd (cc)
is_not_less_of_not Greater e f = absurd (cc)

less_is_not_equal : (r : Ordering) → r ≡ Less → r ≡ Equal → ⊥
less_is_not_equal r e f = absurd (cc)

less_is_not_greater : (r : Ordering) → r ≡ Less → r ≡ Greater → ⊥
less_is_not_greater r e f = absurd (cc)

equal_is_not_greater : (r : Ordering) → r ≡ Equal → r ≡ Greater → ⊥
equal_is_not_greater r e f = absurd (cc)

pub above_of : (r : Ordering) → r ≢ Less → r ≢ Equal → r ≡ Greater
above_of Less one two = absurd (one refl)
above_of Equal one two = absurd (two refl)
above_of Greater one two = refl

module _ {T : Type 0} (standing : T → Ordering) (item : ℕ → Option T) where
  -- ---- what a cut tells

  orderly_append : (xs ys : List ℕ) → AreOrderly standing item xs → AreOrderly standing item ys → ((i j : ℕ) → Among xs i → Among ys j → IsUpTo standing item i j) → AreOrderly standing item (xs ++ ys)
  orderly_append [] ys one two across = two
  orderly_append (x ∷ xs) ys one two across = (
    λ j a. elim (Among-split xs ys j a) [ inl b ↦ one.0 j b | inr b ↦ across x j (inl refl) b ],
    orderly_append xs ys one.1 two (λ i j a b. across i j (inr a) b),
  )

  orderly_alike : (how : Ordering) (xs : List ℕ) → AllAre standing item how xs → AreOrderly standing item xs
  orderly_alike how [] all = tt
  orderly_alike how (x ∷ xs) all = (
    λ j a.
        let mine = all x (inl refl) in
        let its = all j (inr a) in
        (mine.0, its.0, mine.1, its.1, λ e. mine.2 ∙ sym its.2 ∙ e, λ e. its.2 ∙ sym mine.2 ∙ e),
    orderly_alike how xs (λ i a. all i (inr a)),
  )

  pub run_of_cut : (order : List ℕ) → IsCutOf standing item order → IsRun standing item order
  run_of_cut order cut = subst (IsRun standing item) (sym cut.whole) (record {
    live = λ i a. elim (Among-split cut.front (cut.same ++ cut.back) i a) [
      | inl b ↦ let x = cut.below i b in ap is_some x.1
      | inr b ↦ elim (Among-split cut.same cut.back i b) [
        | inl d ↦ let x = cut.equal i d in ap is_some x.1
        | inr d ↦ let x = cut.above i d in ap is_some x.1
      ]
    ];
    orderly = orderly_append cut.front (cut.same ++ cut.back) (orderly_alike Less cut.front cut.below)
        (orderly_append cut.same cut.back (orderly_alike Equal cut.same cut.equal) (orderly_alike Greater cut.back cut.above)
        (λ i j a b.
        let x = cut.equal i a in
        let y = cut.above j b in
        (x.0, y.0, x.1, y.1, λ e. absurd (less_is_not_greater (standing y.0) e y.2), λ e. y.2)))
        (λ i j a b.
        let x = cut.below i a in
        elim (Among-split cut.same cut.back j b) [
          | inl d ↦ let y = cut.equal j d in (x.0, y.0, x.1, y.1, λ e. x.2, λ e. absurd (less_is_not_greater (standing x.0) x.2 e))
          | inr d ↦ let y = cut.above j d in (x.0, y.0, x.1, y.1, λ e. x.2, λ e. y.2)
        ]);
  })

  -- ---- parts of a run

  orderly_left : (xs ys : List ℕ) → AreOrderly standing item (xs ++ ys) → AreOrderly standing item xs
  orderly_left [] ys h = tt
  orderly_left (x ∷ xs) ys h = (λ j a. h.0 j (Among-left xs ys j a), orderly_left xs ys h.1)

  orderly_right : (xs ys : List ℕ) → AreOrderly standing item (xs ++ ys) → AreOrderly standing item ys
  orderly_right [] ys h = h
  orderly_right (x ∷ xs) ys h = orderly_right xs ys h.1

  orderly_across : (xs ys : List ℕ) (i j : ℕ) → AreOrderly standing item (xs ++ ys) → Among xs i → Among ys j → IsUpTo standing item i j
  orderly_across [] ys i j h a b = absurd a
  orderly_across (x ∷ xs) ys i j h (inl e) b = subst (λ z. IsUpTo standing item z j) e (h.0 j (Among-right xs ys j b))
  orderly_across (x ∷ xs) ys i j h (inr a) b = orderly_across xs ys i j h.1 a b

  -- what a run is on either side of a number
  pub record Fork (left : List ℕ) (i : ℕ) (right : List ℕ) : Type 0 where
    pub left_run : IsRun standing item left
    pub right_run : IsRun standing item right
    pub live : IsSome (item i)
    pub before : (j : ℕ) → Among left j → IsUpTo standing item j i
    pub after : (j : ℕ) → Among right j → IsUpTo standing item i j

  pub forks : (all left : List ℕ) (i : ℕ) (right : List ℕ) → all ≡ left ++ i ∷ right → IsRun standing item all → Fork left i right
  forks all left i right is run =
      let orderly = subst (AreOrderly standing item) is run.orderly in
      let live : (j : ℕ) → Among (left ++ i ∷ right) j → IsSome (item j) = λ j a. run.live j (subst (λ z. Among z j) (sym is) a) in
      let behind = orderly_right left (i ∷ right) orderly in
      record {
        left_run = record { live = λ j a. live j (Among-left left (i ∷ right) j a); orderly = orderly_left left (i ∷ right) orderly };
        right_run = record { live = λ j a. live j (Among-right left (i ∷ right) j (inr a)); orderly = behind.1 };
        live = live i (Among-right left (i ∷ right) i (inl refl));
        before = λ j a. orderly_across left (i ∷ right) j i orderly a (inl refl);
        after = behind.0;
      }

  -- ---- how a number stands

  pub below_of : (i : ℕ) → IsSome (item i) → stand standing (item i) ≡ Less → IsBelow standing item i
  below_of i some less = let x = some_of (item i) some in (x.0, x.1, sym (ap (stand standing) x.1) ∙ less)

  pub from_of : (i : ℕ) → IsSome (item i) → stand standing (item i) ≢ Less → IsFrom standing item i
  from_of i some not_less = let x = some_of (item i) some in (x.0, x.1, λ less. not_less (ap (stand standing) x.1 ∙ less))

  pub equal_of : (i : ℕ) → stand standing (item i) ≡ Equal → (x : T) × (item i ≡ Some x) × (standing x ≡ Equal)
  equal_of i equal = elim (item i) as (λ o. item i ≡ o → stand standing o ≡ Equal → (x : T) × (item i ≡ Some x) × (standing x ≡ Equal)) [
    | Some x ↦ λ is e. (x, is, e)
    | None ↦ λ is e. absurd (cc)
  ] refl equal

  one_item : (i : ℕ) (x y : T) → item i ≡ Some x → item i ≡ Some y → x ≡ y
  one_item i x y one two = cc

  pub below_and_from : (i : ℕ) → IsBelow standing item i → IsFrom standing item i → ⊥
  below_and_from i below from = from.2 (ap standing (one_item i from.0 below.0 from.1 below.1) ∙ below.2)

  pub not_equal : (i : ℕ) → IsBelow standing item i → stand standing (item i) ≡ Equal → ⊥
  not_equal i below equal = less_is_not_equal (stand standing (item i)) (ap (stand standing) below.1 ∙ below.2) equal

  pub up_to_below : (j i : ℕ) → IsUpTo standing item j i → IsBelow standing item i → IsBelow standing item j
  up_to_below j i up below = (up.0, up.2, up.4 (ap standing (one_item i up.1 below.0 up.3 below.1) ∙ below.2))

  pub up_to_from : (i j : ℕ) → IsUpTo standing item i j → IsFrom standing item i → IsFrom standing item j
  up_to_from i j up from = (up.1, up.3, λ less. from.2 (ap standing (one_item i from.0 up.0 from.1 up.2) ∙ up.4 less))

  -- behind what is above nothing is equal
  pub not_equal_behind : (i j : ℕ) → IsUpTo standing item i j → stand standing (item i) ≡ Greater → stand standing (item j) ≡ Equal → ⊥
  not_equal_behind i j up greater equal =
      let mine : standing up.0 ≡ Greater = sym (ap (stand standing) up.2) ∙ greater in
      let its : standing up.1 ≡ Equal = sym (ap (stand standing) up.3) ∙ equal in
      equal_is_not_greater (standing up.1) its (up.5 mine)
