-- What follows from the rule of a book, and one rebuild of it for every step that changes one view.
use Rattle.std.proofs.Common.{◌≡◌, ◌≢◌, ◌⊎◌, ℕ, zero, suc, ◌+◌, ◌<◌, ◌≤◌, List, [], ◌∷◌, ◌++◌, length, get_or, set, refl, sym, ap, ◌∙◌, subst, inl, inr, ⊎_elim, arith, true, false, true≢false, Option, Some, None, eqb}
use Rattle.std.proofs.lemmas.Bool.Decides.{nat_tests}
use mathlib.Core.Option.{some, none, some-injective, some-ne-none}
use mathlib.Core.Logic.{dite}
use native.Mathlib.Decide.{ℕ_discrete}
use lib.ListN.{get_elem?}
use lib.Seq.{set-get_or}
use Rattle.atomic_table.specs.Table.{State, keeps, stepped}
use Rattle.atomic_table.proofs.Lists.{at_set, at_snoc}
use Rattle.std.specs.Option.{unwrap_or}
use Rattle.turn_book.specs.declared.views.View.{View}
use Rattle.turn_book.specs.declared.views.Stage.{Stage}
use Rattle.turn_book.specs.declared.views.Stage.TheVariants.{Empty, Filling, Idle, Out}
use Rattle.turn_book.specs.Counts.{same, times, is_ticket, below}
use Rattle.turn_book.specs.Views.{out, is_live, first_view}
use Rattle.turn_book.specs.Rule.{Agrees, tickets, outs, EachSeat, Turning, Kept}
use Rattle.turn_book.proofs.CountLemmas.{same_here, below_most, below_no, total_set, total_two, total_most, total_less}

pub Idle≢Out : Idle ≢ Out
Idle≢Out e = absurd (cc)

pub some_in : {A : Type 0} (a b : A) → Some a ≡ Some b → a ≡ b
some_in a b e = ap (λ o. unwrap_or o a) e

pub Empty≢Filling : Empty ≢ Filling
Empty≢Filling e = absurd (cc)

pub None≢Some : {A : Type 0} (a : A) → None ≢ Some a
None≢Some a e = absurd (cc)

pub ticket_cases : (t : Option ℕ) (n : ℕ) → (t ≡ Some n) ⊎ (t ≢ Some n)
ticket_cases None n = inr (None≢Some n)
ticket_cases (Some t) n = dite (ℕ_discrete t n) (λ e. inl (ap Some e)) (λ ne. inr (λ e. ne (some_in t n e)))

-- a count that was read at its end is at its end
pub ended_after : (n d : ℕ) → n ≡ d → eqb n 18446744073709551615 ≡ true → d ≡ 18446744073709551615
ended_after n d same h = grind (arith, nat_tests)

out_ticket : (st : Stage) (t : Option ℕ) (n : ℕ) → (st ≡ Out → t ≡ Some n) → out st ≤ is_ticket n t
out_ticket Empty t n h = omega arith
out_ticket Filling t n h = omega arith
out_ticket Idle t n h = omega arith
out_ticket Out t n h = subst (λ (u : Option ℕ). 1 ≤ is_ticket n u) (sym (h refl)) (omega (arith, same_here n))

out_is : (st : Stage) → 0 < out st → st ≡ Out
out_is Empty h = absurd (omega arith)
out_is Filling h = absurd (omega arith)
out_is Idle h = absurd (omega arith)
out_is Out h = refl

pub one_set : {A : Type 0} (l : List A) (a : A) → length l ≡ 1 → set l 0 a ≡ a ∷ []
one_set [] a e = absurd (omega arith)
one_set (x ∷ []) a e = refl
one_set (x ∷ y ∷ l) a e = absurd (omega arith)

pub sole : {A : Type 0} (a v : A) (i : ℕ) → get_elem? (a ∷ []) i ≡ some v → (i ≡ 0) × (a ≡ v)
sole a v zero e = (refl, some-injective a v e)
sole a v (suc i) e = absurd (some-ne-none v (sym e))

module _ {E O : Type 0} where
  pub each_set : (P Q : View E O → Type 0) (views : List (View E O)) (i : ℕ) (w : View E O) → Q w → ((j : ℕ) (u : View E O) → j ≢ i → get_elem? views j ≡ some u → P u → Q u) → EachSeat P views → EachSeat Q (set views i w)
  each_set P Q views i w mine others all j u e = ⊎_elim (λ (t : (j ≡ i) × (w ≡ u)). subst Q t.1 mine) (λ (t : (j ≢ i) × (get_elem? views j ≡ some u)). others j u t.0 t.1 (all j u t.1)) (at_set views i j w u e)

  pub each_snoc : (P : View E O → Type 0) (views : List (View E O)) (w : View E O) → P w → EachSeat P views → EachSeat P (views ++ w ∷ [])
  each_snoc P views w mine all j u e = ⊎_elim (all j u) (λ (t : w ≡ u). subst P t mine) (at_snoc views w u j e)

  module _ {S : Type 0} (stands : O → List E → S → Type 0) where
    -- a seat at a stage, with a view that is not the first's
    pub begun : (opened : S → O) (key : S) (s : State (Option S) (View E O)) (id : ℕ) (v : View E O) → is_live v.stage ≡ true → get_elem? s.views id ≡ some v → Kept stands opened key s → Turning stands (opened key) s
    begun opened key s id v live at (inl r) = r
    begun opened key s id v live at (inr o) = absurd (off id (subst (λ l. get_elem? l id ≡ some v) o.2 at))
      where
        dead : ((o.0 ≡ Empty) × (s.homes ≡ some None ∷ [])) ⊎ ((o.0 ≡ Filling) × (s.homes ≡ none ∷ [])) → is_live o.0 ≡ false
        dead (inl a) = ap is_live a.0
        dead (inr b) = ap is_live b.0

        off : (i : ℕ) → get_elem? (first_view (opened key) o.0 ∷ []) i ≡ some v → ⊥
        off zero e = true≢false (sym live ∙ (ap (λ (u : View E O). is_live u.stage) (sym (some-injective _ _ e)) ∙ dead o.1))
        off (suc i) e = some-ne-none v (sym e)

    module _ (o : O) where
      abbrev pub R : State (Option S) (View E O) → Type 0
      R = Turning stands o

      -- the seat id changes its view to w, and the words and the slot change with it
      pub moved : (s : State (Option S) (View E O)) (r : R s) (id : ℕ) (v w : View E O) (words : List ℕ) (homes : List (mathlib.Core.Option.Option (Option S))) (history : List E) (drawn : ℕ) → get_elem? s.views id ≡ some v
          → words ≡ drawn ∷ length history ∷ [] → drawn < 18446744073709551616 → length homes ≡ 1
          → ((k : ℕ) → is_ticket k w.ticket + below k r.drawn + below k (length history) ≡ is_ticket k v.ticket + below k drawn + below k (length r.history))
          → ((k : ℕ) → times k w.mine + below k (length r.history) ≡ times k v.mine + below k (length history))
          → length w.mine + length r.history ≡ length v.mine + length history
          → w.parts ≡ v.parts
          → Agrees o history drawn w
          → ((j : ℕ) (u : View E O) → j ≢ id → get_elem? s.views j ≡ some u → Agrees o r.history r.drawn u → Agrees o history drawn u)
          → (outs (set s.views id w) ≡ 0 → (x : S) × (homes ≡ some (Some x) ∷ []) × stands o history x)
          → (0 < outs (set s.views id w) → homes ≡ none ∷ [])
          → R record { words = words; homes = homes; views = set s.views id w }
      moved s r id v w words homes history drawn at is fits one tick place call part mine others home away = record {
        history = history;
        drawn = drawn;
        drawn_fits = fits;
        words_are = is;
        one_slot = one;
        tickets_are = λ k. let t = total_set (λ (u : View E O). is_ticket k u.ticket) s.views id v w at in let b = r.tickets_are k in let c = tick k in omega arith;
        places_are = λ k. let t = total_set (λ (u : View E O). times k u.mine) s.views id v w at in let b = r.places_are k in let c = place k in omega arith;
        calls_are = let t = total_set (λ (u : View E O). length u.mine) s.views id v w at in let b = r.calls_are in omega arith;
        parts_are = let t = total_set (λ (u : View E O). u.parts) s.views id v w at in let b = r.parts_are in omega arith;
        each = each_set (Agrees o r.history r.drawn) (Agrees o history drawn) s.views id w mine others r.each;
        home = home;
        away = away;
      }

      -- a step that changes no word and no slot, and nothing of the seat but what it saw
      pub stays : (s : State (Option S) (View E O)) (r : R s) (i id : ℕ) (v w : View E O) (c : List (ℕ × Option S)) → get_elem? s.views id ≡ some v → w.ticket ≡ v.ticket → w.mine ≡ v.mine → w.parts ≡ v.parts → out w.stage ≡ out v.stage
          → Agrees o r.history r.drawn w → R (stepped s i (get_or s.words i 0) id c w keeps)
      stays s r i id v w c at tick place part stage mine =
          let out_is : outs (set s.views id w) ≡ outs s.views = let t = total_set (λ (u : View E O). out u.stage) s.views id v w at in omega arith in
          moved s r id v w (set s.words i (get_or s.words i 0)) s.homes r.history r.drawn at (set-get_or s.words i 0 ∙ r.words_are) r.drawn_fits r.one_slot
          (λ k. let e : is_ticket k w.ticket ≡ is_ticket k v.ticket = ap (is_ticket k) tick in omega arith)
          (λ k. let e : times k w.mine ≡ times k v.mine = ap (times k) place in omega arith)
          (let e : length w.mine ≡ length v.mine = ap length place in omega arith) part mine (λ j u _ _ k. k)
          (λ z. r.home (sym out_is ∙ z)) (λ l. r.away (subst (λ (z : ℕ). 0 < z) out_is l))

      -- one seat at most has the value
      pub one_out : (s : State (Option S) (View E O)) (r : R s) → (outs s.views ≤ tickets (length r.history) s.views) × (tickets (length r.history) s.views ≤ 1)
      one_out s r = let n : ℕ = length r.history in let t = r.tickets_are n in let b = below_no n n (omega arith) in let m = below_most n r.drawn in (
        total_most (λ (u : View E O). out u.stage) (λ (u : View E O). is_ticket n u.ticket) s.views (λ j u e. out_ticket u.stage u.ticket n (λ is. ((r.each j u e).turn is).0)),
        omega arith,
      )

      -- where a seat's ticket is called and it has not taken the value, no other has
      pub all_home : (s : State (Option S) (View E O)) (r : R s) (id : ℕ) (v : View E O) → get_elem? s.views id ≡ some v → v.ticket ≡ Some (length r.history) → out v.stage ≡ 0 → outs s.views ≡ 0
      all_home s r id v at is idle = let n : ℕ = length r.history in
          let less = total_less (λ (u : View E O). out u.stage) (λ (u : View E O). is_ticket n u.ticket) s.views id v (λ j u e. out_ticket u.stage u.ticket n (λ is. ((r.each j u e).turn is).0)) at
          (let e : is_ticket n v.ticket ≡ 1 = ap (is_ticket n) is ∙ same_here n in omega arith) in
          let most = (one_out s r).1 in omega arith

      pub only_out : (s : State (Option S) (View E O)) (r : R s) (id j : ℕ) (v u : View E O) → j ≢ id → get_elem? s.views id ≡ some v → get_elem? s.views j ≡ some u → v.stage ≡ Out → u.stage ≢ Out
      only_out s r id j v u apart at there is is' = let two = total_two (λ (u : View E O). out u.stage) s.views id j v u (λ e. apart (sym e)) at there in
          let a : out v.stage ≡ 1 = ap out is in let b : out u.stage ≡ 1 = ap out is' in let most = one_out s r in let m0 = most.0 in let m1 = most.1 in absurd (omega arith)
