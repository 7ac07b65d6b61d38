-- A way down the tree: what is looked for lies below.
use Rattle.std.proofs.Common.{◌≡◌, ◌≢◌, ℕ, inl, inr, List, [], ◌∷◌, ◌++◌, Option, Some, is_some, sym, ap, subst, ◌∙◌}
use Rattle.std.specs.declared.cmp.Ordering.{Ordering}
use Rattle.std.specs.declared.cmp.Ordering.TheVariants.{Less, Equal, Greater}
use Rattle.ordered_keys.specs.Numbers.{Among}
use Rattle.ordered_keys.specs.Arranged.{IsCutOf, IsListing, IsWithin}
use Rattle.ordered_keys.specs.Tree.{Gathers, IsRun, stand}
use Rattle.ordered_keys.proofs.NumberLemmas.{Among-split}
use Rattle.ordered_keys.proofs.RunLemmas.{below_of, equal_of, forks, from_of, not_equal, not_equal_behind, run_of_cut, up_to_below, up_to_from}
use Rattle.ordered_keys.proofs.TreeLemmas.{within_not_below, within_not_from, within_of}

greater_is_not_equal : (r : Ordering) → r ≡ Greater → r ≡ Equal → ⊥
greater_is_not_equal r e f = absurd (cc)

-- all numbers that are looked for are among these
abbrev pub Covers : (ℕ → Type 0) → List ℕ → Type 0
Covers wanted part = (i : ℕ) → wanted i → Among part i

covers_right : (wanted : ℕ → Type 0) (part left : List ℕ) (i : ℕ) (right : List ℕ) → part ≡ left ++ i ∷ right → Covers wanted part → ((j : ℕ) → Among left j → wanted j → ⊥) → (wanted i → ⊥) → Covers wanted right
covers_right wanted part left i right is c not_left not_here j s = elim (Among-split left (i ∷ right) j (subst (λ z. Among z j) is (c j s))) [
  | inl a ↦ absurd (not_left j a s)
  | inr (inl e) ↦ absurd (not_here (subst wanted (sym e) s))
  | inr (inr a) ↦ a
]

covers_left : (wanted : ℕ → Type 0) (part left : List ℕ) (i : ℕ) (right : List ℕ) → part ≡ left ++ i ∷ right → Covers wanted part → (wanted i → ⊥) → ((j : ℕ) → Among right j → wanted j → ⊥) → Covers wanted left
covers_left wanted part left i right is c not_here not_right j s = elim (Among-split left (i ∷ right) j (subst (λ z. Among z j) is (c j s))) [
  | inl a ↦ a
  | inr (inl e) ↦ absurd (not_here (subst wanted (sym e) s))
  | inr (inr a) ↦ absurd (not_right j a s)
]

module _ {T : Type 0} (standing : T → Ordering) (item : ℕ → Option T) where
  -- the item under the number is equal to what is sought
  abbrev pub IsEqual : ℕ → Type 0
  IsEqual i = stand standing (item i) ≡ Equal

  -- all numbers of equal items are among these, which are a run
  pub record Seeks (part : List ℕ) : Type 0 where
    pub run : IsRun standing item part
    pub covers : Covers IsEqual part

  pub seeks_all : (order : List ℕ) → IsListing item order → IsCutOf standing item order → Seeks order
  seeks_all order listed cut = record { run = run_of_cut standing item order cut; covers = λ i e. (listed.live i).1 (let x = equal_of standing item i e in ap is_some x.1) }

  pub none_equal : (part : List ℕ) → Seeks part → part ≡ [] → (i : ℕ) (x : T) → item i ≡ Some x → standing x ≢ Equal
  none_equal part c is i x at equal = absurd (subst (λ z. Among z i) is (c.covers i (ap (stand standing) at ∙ equal)))

  pub seeks_right : (part left : List ℕ) (i : ℕ) (right : List ℕ) → part ≡ left ++ i ∷ right → stand standing (item i) ≡ Less → Seeks part → Seeks right
  seeks_right part left i right is less c =
      let fork = forks standing item part left i right is c.run in
      let mine = below_of standing item i fork.live less in
      record {
        run = fork.right_run;
        covers = covers_right IsEqual part left i right is c.covers (λ j a. not_equal standing item j (up_to_below standing item j i (fork.before j a) mine)) (not_equal standing item i mine);
      }

  pub seeks_left : (part left : List ℕ) (i : ℕ) (right : List ℕ) → part ≡ left ++ i ∷ right → stand standing (item i) ≡ Greater → Seeks part → Seeks left
  seeks_left part left i right is greater c =
      let fork = forks standing item part left i right is c.run in
      record {
        run = fork.left_run;
        covers = covers_left IsEqual part left i right is c.covers (greater_is_not_equal (stand standing (item i)) greater) (λ j a e. not_equal_behind standing item i j (fork.after j a) greater e);
      }

module _ {T : Type 0} (low high : T → Ordering) (item : ℕ → Option T) where
  -- all numbers of items between the bounds are among these, which are a run for either bound
  pub record Ranges (part : List ℕ) : Type 0 where
    pub low_run : IsRun low item part
    pub high_run : IsRun high item part
    pub covers : Covers (IsWithin low high item) part

  pub ranges_all : (order : List ℕ) → IsListing item order → IsCutOf low item order → IsCutOf high item order → Ranges order
  ranges_all order listed one two = record { low_run = run_of_cut low item order one; high_run = run_of_cut high item order two; covers = λ i w. (listed.live i).1 (ap is_some w.1) }

  pub none_within : (part : List ℕ) → Ranges part → part ≡ [] → (i : ℕ) × IsWithin low high item i → ⊥
  none_within part c is has = absurd (subst (λ z. Among z has.0) is (c.covers has.0 has.1))

  pub ranges_right : (part left : List ℕ) (i : ℕ) (right : List ℕ) → part ≡ left ++ i ∷ right → stand low (item i) ≡ Less → Ranges part → Ranges right
  ranges_right part left i right is less c =
      let fork = forks low item part left i right is c.low_run in
      let mine = below_of low item i fork.live less in
      record {
        low_run = fork.right_run;
        high_run = (forks high item part left i right is c.high_run).right_run;
        covers = covers_right (IsWithin low high item) part left i right is c.covers (λ j a w. within_not_below low high item j w (up_to_below low item j i (fork.before j a) mine)) (λ w. within_not_below low high item i w mine);
      }

  pub ranges_left : (part left : List ℕ) (i : ℕ) (right : List ℕ) → part ≡ left ++ i ∷ right → stand high (item i) ≢ Less → Ranges part → Ranges left
  ranges_left part left i right is not_less c =
      let fork = forks high item part left i right is c.high_run in
      let mine = from_of high item i fork.live not_less in
      record {
        low_run = (forks low item part left i right is c.low_run).left_run;
        high_run = fork.left_run;
        covers = covers_left (IsWithin low high item) part left i right is c.covers (λ w. within_not_from low high item i w mine) (λ j a w. within_not_from low high item j w (up_to_from high item i j (fork.after j a) mine));
      }

  pub within_here : (part left : List ℕ) (i : ℕ) (right : List ℕ) → part ≡ left ++ i ∷ right → stand low (item i) ≢ Less → stand high (item i) ≡ Less → Ranges part → IsWithin low high item i
  within_here part left i right is not_less less c =
      let fork = forks low item part left i right is c.low_run in
      within_of low high item i (from_of low item i fork.live not_less) (below_of high item i fork.live less)

  pub gathered_within : (order found : List ℕ) → IsListing item order → IsCutOf low item order → IsCutOf high item order → Gathers low high item order [] found → (i : ℕ) → (Among found i → IsWithin low high item i) × (IsWithin low high item i → Among found i)
  gathered_within order found listed one two h i =
      let gathered = h (run_of_cut low item order one) (run_of_cut high item order two) in (
        λ a. ((gathered.2 i).0 (subst (λ z. Among z i) gathered.1 a)).1,
        λ w. subst (λ z. Among z i) (sym gathered.1) ((gathered.2 i).1 ((listed.live i).1 (ap is_some w.1), w)),
      )
