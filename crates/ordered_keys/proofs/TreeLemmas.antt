-- What a change of one side does to a tree's numbers.
use Rattle.std.proofs.Common.{◌≡◌, ◌≢◌, ℕ, inl, inr, List, [], ◌∷◌, ◌++◌, Option, refl, sym, ap, subst, ◌∙◌, append_assoc}
use Rattle.std.specs.declared.cmp.Ordering.{Ordering}
use Rattle.std.specs.declared.cmp.Ordering.TheVariants.{Less, Equal, Greater}
use Rattle.ordered_keys.specs.Numbers.{Among, Loses}
use Rattle.ordered_keys.specs.Arranged.{IsWithin}
use Rattle.ordered_keys.specs.Tree.{Gathers, IsBelow, IsFrom, IsParted, IsPlaced, LeavesOut, stand}
use Rattle.ordered_keys.proofs.NumberLemmas.{Among-left, Among-right, Among-split, nothing_behind}
use Rattle.ordered_keys.proofs.RunLemmas.{below_and_from, below_of, forks, from_of, not_equal, not_equal_behind, up_to_below, up_to_from}

greater_is_not_equal : (r : Ordering) → r ≡ Greater → r ≡ Equal → ⊥
greater_is_not_equal r e f = absurd (cc)

module _ {T : Type 0} (standing : T → Ordering) (item : ℕ → Option T) where
  -- ---- a tree cut in two

  pub parted_right : (all left : List ℕ) (i : ℕ) (right front back now : List ℕ) → all ≡ left ++ i ∷ right → stand standing (item i) ≡ Less → IsParted standing item right front back → now ≡ left ++ i ∷ front → IsParted standing item all now back
  parted_right all left i right front back now is less p now_is = record {
    whole = is ∙ ap (λ z. left ++ i ∷ z) p.whole ∙ sym (append_assoc left (i ∷ front) back) ∙ ap (λ z. z ++ back) (sym now_is);
    below = λ run j a.
        let fork = forks standing item all left i right is run in
        let mine = below_of standing item i fork.live less in
        elim (Among-split left (i ∷ front) j (subst (λ z. Among z j) now_is a)) [
          | inl b ↦ up_to_below standing item j i (fork.before j b) mine
          | inr (inl e) ↦ subst (λ z. IsBelow standing item z) e mine
          | inr (inr b) ↦ p.below fork.right_run j b
        ];
    rest = λ run. p.rest (forks standing item all left i right is run).right_run;
  }

  pub parted_left : (all left : List ℕ) (i : ℕ) (right front back now : List ℕ) → all ≡ left ++ i ∷ right → stand standing (item i) ≢ Less → IsParted standing item left front back → now ≡ back ++ i ∷ right → IsParted standing item all front now
  parted_left all left i right front back now is not_less p now_is = record {
    whole = is ∙ ap (λ z. z ++ i ∷ right) p.whole ∙ append_assoc front back (i ∷ right) ∙ ap (λ z. front ++ z) (sym now_is);
    below = λ run. p.below (forks standing item all left i right is run).left_run;
    rest = λ run j a.
        let fork = forks standing item all left i right is run in
        let mine = from_of standing item i fork.live not_less in
        elim (Among-split back (i ∷ right) j (subst (λ z. Among z j) now_is a)) [
          | inl b ↦ p.rest fork.left_run j b
          | inr (inl e) ↦ subst (λ z. IsFrom standing item z) e mine
          | inr (inr b) ↦ up_to_from standing item i j (fork.after j b) mine
        ];
  }

  -- ---- a number more

  pub placed_right : (all left : List ℕ) (i : ℕ) (right more : List ℕ) (id : ℕ) (now : List ℕ) → all ≡ left ++ i ∷ right → stand standing (item i) ≡ Less → IsPlaced standing item right id more → now ≡ left ++ i ∷ more → IsPlaced standing item all id now
  placed_right all left i right more id now is less p now_is = record {
    front = left ++ i ∷ p.front;
    back = p.back;
    parted = parted_right all left i right p.front p.back (left ++ i ∷ p.front) is less p.parted refl;
    placed = now_is ∙ ap (λ z. left ++ i ∷ z) p.placed ∙ sym (append_assoc left (i ∷ p.front) (id ∷ p.back));
  }

  pub placed_left : (all left : List ℕ) (i : ℕ) (right more : List ℕ) (id : ℕ) (now : List ℕ) → all ≡ left ++ i ∷ right → stand standing (item i) ≢ Less → IsPlaced standing item left id more → now ≡ more ++ i ∷ right → IsPlaced standing item all id now
  placed_left all left i right more id now is not_less p now_is = record {
    front = p.front;
    back = p.back ++ i ∷ right;
    parted = parted_left all left i right p.front p.back (p.back ++ i ∷ right) is not_less p.parted refl;
    placed = now_is ∙ ap (λ z. z ++ i ∷ right) p.placed ∙ append_assoc p.front (id ∷ p.back) (i ∷ right);
  }

  -- ---- a number fewer

  pub left_out_right : (all left : List ℕ) (i : ℕ) (right less now : List ℕ) → all ≡ left ++ i ∷ right → stand standing (item i) ≡ Less → LeavesOut standing item right less → now ≡ left ++ i ∷ less → LeavesOut standing item all now
  left_out_right all left i right less now is below h now_is run id one =
      let fork = forks standing item all left i right is run in
      let mine = below_of standing item i fork.live below in
      elim (Among-split left (i ∷ right) id (subst (λ z. Among z id) is one.among)) [
        | inl b ↦ absurd (not_equal standing item id (up_to_below standing item id i (fork.before id b) mine) one.equal)
        | inr (inl e) ↦ absurd (not_equal standing item id (subst (λ z. IsBelow standing item z) e mine) one.equal)
        | inr (inr b) ↦
            let gone : Loses right id less = h fork.right_run id (record { among = b; equal = one.equal; alone = λ j a. one.alone j (subst (λ z. Among z j) (sym is) (Among-right left (i ∷ right) j (inr a))) }) in
            (left ++ i ∷ gone.0, gone.1, is ∙ ap (λ z. left ++ i ∷ z) gone.2 ∙ sym (append_assoc left (i ∷ gone.0) (id ∷ gone.1)), now_is ∙ ap (λ z. left ++ i ∷ z) gone.3 ∙ sym (append_assoc left (i ∷ gone.0) gone.1))
      ]

  pub left_out_left : (all left : List ℕ) (i : ℕ) (right less now : List ℕ) → all ≡ left ++ i ∷ right → stand standing (item i) ≡ Greater → LeavesOut standing item left less → now ≡ less ++ i ∷ right → LeavesOut standing item all now
  left_out_left all left i right less now is above h now_is run id one =
      let fork = forks standing item all left i right is run in
      elim (Among-split left (i ∷ right) id (subst (λ z. Among z id) is one.among)) [
        | inl b ↦
            let gone : Loses left id less = h fork.left_run id (record { among = b; equal = one.equal; alone = λ j a. one.alone j (subst (λ z. Among z j) (sym is) (Among-left left (i ∷ right) j a)) }) in
            (gone.0, gone.1 ++ i ∷ right, is ∙ ap (λ z. z ++ i ∷ right) gone.2 ∙ append_assoc gone.0 (id ∷ gone.1) (i ∷ right), now_is ∙ ap (λ z. z ++ i ∷ right) gone.3 ∙ append_assoc gone.0 gone.1 (i ∷ right))
        | inr (inl e) ↦ absurd (greater_is_not_equal (stand standing (item i)) above (ap (λ z. stand standing (item z)) e ∙ one.equal))
        | inr (inr b) ↦ absurd (not_equal_behind standing item i id (fork.after id b) above one.equal)
      ]

  pub left_out_here : (all left : List ℕ) (i : ℕ) (right now : List ℕ) → all ≡ left ++ i ∷ right → stand standing (item i) ≡ Equal → now ≡ left ++ right → LeavesOut standing item all now
  left_out_here all left i right now is here now_is run id one =
      let same : i ≡ id = one.alone i (subst (λ z. Among z i) (sym is) (Among-right left (i ∷ right) i (inl refl))) here in
      (left, right, is ∙ ap (λ z. left ++ z ∷ right) same, now_is)

module _ {T : Type 0} (low high : T → Ordering) (item : ℕ → Option T) where
  -- ---- the numbers between two bounds

  pub within_not_below : (i : ℕ) → IsWithin low high item i → IsBelow low item i → ⊥
  within_not_below i w below = below_and_from low item i below (w.0, w.1, w.2)

  pub within_not_from : (i : ℕ) → IsWithin low high item i → IsFrom high item i → ⊥
  within_not_from i w from = below_and_from high item i (w.0, w.1, w.3) from

  pub within_of : (i : ℕ) → IsFrom low item i → IsBelow high item i → IsWithin low high item i
  within_of i from below = (below.0, below.1, (λ less. below_and_from low item i (below.0, below.1, less) from), below.2)

  pub gathers_none : (all old new : List ℕ) → all ≡ [] → new ≡ old → Gathers low high item all old new
  gathers_none all old new is same run ran = ([], same ∙ nothing_behind old, λ i. (λ a. absurd a, λ t. absurd (subst (λ z. Among z i) is t.0)))

  pub gathers_right : (all left : List ℕ) (i : ℕ) (right old new : List ℕ) → all ≡ left ++ i ∷ right → stand low (item i) ≡ Less → Gathers low high item right old new → Gathers low high item all old new
  gathers_right all left i right old new is less h run ran =
      let fork = forks low item all left i right is run in
      let mine = below_of low item i fork.live less in
      let later = h fork.right_run (forks high item all left i right is ran).right_run in (
        later.0,
        later.1,
        λ j. (
          λ a. let is_in = (later.2 j).0 a in (subst (λ z. Among z j) (sym is) (Among-right left (i ∷ right) j (inr is_in.0)), is_in.1),
          λ t. (later.2 j).1 (
            elim (Among-split left (i ∷ right) j (subst (λ z. Among z j) is t.0)) [
              | inl b ↦ absurd (within_not_below j t.1 (up_to_below low item j i (fork.before j b) mine))
              | inr (inl e) ↦ absurd (within_not_below j t.1 (subst (λ z. IsBelow low item z) e mine))
              | inr (inr b) ↦ b
            ],
            t.1,
          ),
        ),
      )

  pub gathers_left : (all left : List ℕ) (i : ℕ) (right old new : List ℕ) → all ≡ left ++ i ∷ right → stand high (item i) ≢ Less → Gathers low high item left old new → Gathers low high item all old new
  gathers_left all left i right old new is not_less h run ran =
      let fork = forks high item all left i right is ran in
      let mine = from_of high item i fork.live not_less in
      let later = h (forks low item all left i right is run).left_run fork.left_run in (
        later.0,
        later.1,
        λ j. (
          λ a. let is_in = (later.2 j).0 a in (subst (λ z. Among z j) (sym is) (Among-left left (i ∷ right) j is_in.0), is_in.1),
          λ t. (later.2 j).1 (
            elim (Among-split left (i ∷ right) j (subst (λ z. Among z j) is t.0)) [
              | inl b ↦ b
              | inr (inl e) ↦ absurd (within_not_from j t.1 (subst (λ z. IsFrom high item z) e mine))
              | inr (inr b) ↦ absurd (within_not_from j t.1 (up_to_from high item i j (fork.after j b) mine))
            ],
            t.1,
          ),
        ),
      )

  pub gathers_all : (all left : List ℕ) (i : ℕ) (right old mid then new : List ℕ) → all ≡ left ++ i ∷ right → stand low (item i) ≢ Less → stand high (item i) ≡ Less → Gathers low high item left old mid → then ≡ mid ++ i ∷ [] → Gathers low high item right then new → Gathers low high item all old new
  gathers_all all left i right old mid then new is not_less less h pushed g run ran =
      let fork = forks low item all left i right is run in
      let forked = forks high item all left i right is ran in
      let mine = within_of i (from_of low item i fork.live not_less) (below_of high item i fork.live less) in
      let first = h fork.left_run forked.left_run in
      let last = g fork.right_run forked.right_run in (
        first.0 ++ i ∷ last.0,
        last.1 ∙ ap (λ z. z ++ last.0) (pushed ∙ ap (λ z. z ++ i ∷ []) first.1 ∙ append_assoc old first.0 (i ∷ [])) ∙ append_assoc old (first.0 ++ i ∷ []) last.0 ∙ ap (λ z. old ++ z) (append_assoc first.0 (i ∷ []) last.0),
        λ j. (
          λ a. elim (Among-split first.0 (i ∷ last.0) j a) [
            | inl b ↦ let is_in = (first.2 j).0 b in (subst (λ z. Among z j) (sym is) (Among-left left (i ∷ right) j is_in.0), is_in.1)
            | inr (inl e) ↦ (subst (λ z. Among z j) (sym is) (Among-right left (i ∷ right) j (inl e)), subst (λ z. IsWithin low high item z) e mine)
            | inr (inr b) ↦ let is_in = (last.2 j).0 b in (subst (λ z. Among z j) (sym is) (Among-right left (i ∷ right) j (inr is_in.0)), is_in.1)
          ],
          λ t. elim (Among-split left (i ∷ right) j (subst (λ z. Among z j) is t.0)) [
            | inl b ↦ Among-left first.0 (i ∷ last.0) j ((first.2 j).1 (b, t.1))
            | inr (inl e) ↦ Among-right first.0 (i ∷ last.0) j (inl e)
            | inr (inr b) ↦ Among-right first.0 (i ∷ last.0) j (inr ((last.2 j).1 (b, t.1)))
          ],
        ),
      )
