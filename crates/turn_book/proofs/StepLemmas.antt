-- Each step keeps the rule of a book.
use Rattle.std.proofs.Common.{◌≡◌, ◌≢◌, ℕ, ◌+◌, ◌<◌, ◌%◌, ◌^◌, List, [], ◌∷◌, ◌++◌, length, get_or, set, refl, sym, ap, ◌∙◌, subst, inl, inr, ⊎_elim, arith, true, true≢false, Bool, Option, Some, None, length-append, eqb, eq-eqb, ne_eqb, length-set}
use mathlib.Core.Option.{some, none}
use mathlib.Core.Logic.{dite}
use native.Mathlib.Decide.{ℕ_discrete}
use lib.ListN.{get_elem?}
use lib.Seq.{set-get_or}
use prog.Atomic.{either}
use Rattle.std.specs.Prelude.{if◌then◌else◌}
use Rattle.atomic_table.specs.Table.{State, Me, step, put_back, Act, Valid, carried_after, keeps, takes, gives, stepped, Allows, Splits, Joins, Final, Seen}
use Rattle.atomic_table.proofs.Lists.{at_set}
use Rattle.std.proofs.Math.Nat.{mod-eq_of_lt}
use Rattle.turn_book.specs.declared.views.View.{View}
use Rattle.turn_book.specs.declared.views.Stage.TheVariants.{Empty, Filling, Idle, Out}
use Rattle.turn_book.specs.Counts.{same, times, is_ticket, below}
use Rattle.turn_book.specs.Histories.{StartsWith, Stood}
use Rattle.turn_book.specs.Views.{out, is_live, first_view, filling, started, noted, holding, seeing, going_out, advanced, learned, less_one, one_part, joined, spent}
use Rattle.turn_book.specs.Rule.{Agrees, parts, outs, Turning, Kept}
use Rattle.turn_book.specs.Steps.{SeatOf, took_empty, began, read, drew, looked, gave, learned_both}
use Rattle.turn_book.specs.Seats.{ClosesSeat}
use Rattle.turn_book.proofs.CountLemmas.{same_here, below_no, below_yes, below_suc, times_append, total_set, total_snoc, total_at, total_alone}
use Rattle.turn_book.proofs.HistoryLemmas.{starts_whole, starts_empty, starts_more, longer_starts}
use Rattle.turn_book.proofs.RuleLemmas.{Idle≢Out, some_in, Empty≢Filling, None≢Some, ticket_cases, ended_after, one_set, sole, each_set, each_snoc, begun, moved, stays, one_out, all_home, only_out}

module _ {E O : Type 0} where
  module _ {S : Type 0} (stands : O → List E → S → Type 0) where
    module _ (opened : S → O) (key : S) where
      abbrev K : State (Option S) (View E O) → Type 0
      K = Kept stands opened key

      pub reads : (slots id : ℕ) (me : Me (Option S) (View E O)) → is_live me.0.stage ≡ true → Allows K slots id me 0 (λ n. n) (read (step slots 0 0 0 none) me)
      reads slots id me live s kept _ at _ = let v : View E O = me.0 in let r = begun stands opened key s id v live at kept in let n : ℕ = get_or s.words 0 0 in let k = r.each id v at in
          let is : n ≡ r.drawn = ap (λ (l : List ℕ). get_or l 0 0) r.words_are in (
            noted (eqb n 18446744073709551615) v,
            keeps,
            tt,
            inl (stays stands (opened key) s r 0 id v (noted (eqb n 18446744073709551615) v) me.1 at refl refl refl refl record {
              opened_is = k.opened_is;
              begins = k.begins;
              begins_told = k.begins_told;
              without = k.without;
              turn = k.turn;
              live = k.live;
              ended = ended_after n r.drawn is;
            }),
            refl,
          )

      pub draws : (slots id : ℕ) (me : Me (Option S) (View E O)) (old new : ℕ) → is_live me.0.stage ≡ true → out me.0.stage ≡ 0 → me.0.ticket ≡ None → 0 < me.0.parts → new ≡ old + 1 → new < 18446744073709551616
          → Allows K slots id me 0 (λ n. either (eqb n old) new n) (drew (step slots 0 old new none) me)
      draws slots id me old new live idle free part next fits s kept _ at _ = let v : View E O = me.0 in let r = begun stands opened key s id v live at kept in let n : ℕ = get_or s.words 0 0 in let k = r.each id v at in
          let is : n ≡ r.drawn = ap (λ (l : List ℕ). get_or l 0 0) r.words_are in
          let Goal : Bool → Type 0 = λ b. (w : View E O) × (a : Act (Option S)) × Valid s.homes me.1 a × K (stepped s 0 (either b new n) id me.1 w a)
          × ◌≡◌ {A = Me (Option S) (View E O)} (w, carried_after me.1 a) ((if b then holding n v else v), me.1) in
          dite (ℕ_discrete n old)
          (λ e. subst Goal (sym (eq-eqb n old e)) (
          let w : View E O = holding n v in
          let still : outs (set s.views id w) ≡ outs s.views = let t = total_set (λ (u : View E O). out u.stage) s.views id v w at in omega arith in (
            w,
            keeps,
            tt,
            inl (moved stands (opened key) s r id v w (set s.words 0 new) s.homes r.history new at (ap (λ (l : List ℕ). set l 0 new) r.words_are) fits r.one_slot
                (λ k'. let a : is_ticket k' v.ticket ≡ 0 = ap (is_ticket k') free in let b = below_suc k' r.drawn in let c : below k' new ≡ below k' (r.drawn + 1) = ap (below k') (omega arith) in let d : same k' n ≡ same k' r.drawn = ap (same k') is in omega arith)
                (λ k'. omega arith) (omega arith) refl
                record {
                  opened_is = k.opened_is;
                  begins = k.begins;
                  begins_told = k.begins_told;
                  without = λ z. absurd (omega arith);
                  turn = λ o. absurd (let z : out v.stage ≡ 1 = ap out o in omega arith);
                  live = live;
                  ended = λ b. absurd (let z = k.ended b in omega arith);
                }
                (λ j u _ _ x. record {
                  opened_is = x.opened_is;
                  begins = x.begins;
                  begins_told = x.begins_told;
                  without = x.without;
                  turn = x.turn;
                  live = x.live;
                  ended = λ b. absurd (let z = x.ended b in omega arith);
                })
                (λ z. r.home (sym still ∙ z)) (λ l. r.away (subst (λ (z : ℕ). 0 < z) still l))),
            refl,
          )))
          (λ ne. subst Goal (sym (ne_eqb n old ne)) (v, keeps, tt, inl (stays stands (opened key) s r 0 id v v me.1 at refl refl refl refl k), refl))

      pub looks : (slots id : ℕ) (me : Me (Option S) (View E O)) → me.0.stage ≡ Idle → Allows K slots id me 1 (λ n. n) (looked stands (step slots 1 0 0 none) me)
      looks slots id me idle s kept _ at _ = let v : View E O = me.0 in let r = begun stands opened key s id v (ap is_live idle) at kept in let n : ℕ = get_or s.words 1 0 in let k = r.each id v at in
          let is : n ≡ length r.history = ap (λ (l : List ℕ). get_or l 1 0) r.words_are in let resting : out v.stage ≡ 0 = ap out idle in
          ⊎_elim
          (λ (mine : v.ticket ≡ Some n).
          let called : v.ticket ≡ Some (length r.history) = mine ∙ ap Some is in
          let free = all_home stands (opened key) s r id v at called resting in
          let h = r.home free in
          let w : View E O = going_out r.history v in
          let one : outs (set s.views id w) ≡ 1 = let t = total_set (λ (u : View E O). out u.stage) s.views id v w at in omega arith in (
            w,
            takes 0 (Some h.0),
            ap (λ l. get_elem? l 0) h.1,
            inl (moved stands (opened key) s r id v w (set s.words 1 n) (set s.homes 0 none) r.history r.drawn at (set-get_or s.words 1 0 ∙ r.words_are) r.drawn_fits (length-set s.homes 0 none ∙ r.one_slot)
                (λ k'. omega arith) (λ k'. omega arith) (omega arith) refl
                record {
                  opened_is = k.opened_is;
                  begins = starts_whole r.history;
                  begins_told = k.begins_told;
                  without = λ z. absurd (None≢Some n (sym (k.without z).0 ∙ mine));
                  turn = λ _. (called, refl);
                  live = refl;
                  ended = k.ended;
                }
                (λ j u _ _ x. x) (λ z. absurd (omega arith)) (λ _. ap (λ l. set l 0 none) h.1)),
            (
              r.history,
              k.begins,
              sym is,
              (λ _. (h.0, refl, (opened key, k.opened_is (let part : v.parts ≢ 0 = λ z. None≢Some n (sym (k.without z).0 ∙ mine) in omega arith), h.2)), λ no. absurd (no mine)),
            ),
          ))
          (λ (other : v.ticket ≢ Some n).
          let w : View E O = seeing r.history v in (
            w,
            keeps,
            tt,
            inl (stays stands (opened key) s r 1 id v w me.1 at refl refl refl refl record {
              opened_is = k.opened_is;
              begins = starts_whole r.history;
              begins_told = k.begins_told;
              without = k.without;
              turn = λ o. absurd (Idle≢Out (sym idle ∙ o));
              live = k.live;
              ended = k.ended;
            }),
            (r.history, k.begins, sym is, (λ mine. absurd (other mine), λ _. refl)),
          ))
          (ticket_cases v.ticket n)

      pub advances : (slots id : ℕ) (me : Me (Option S) (View E O)) (e : E) (x : S) → me.0.stage ≡ Out → me.1 ≡ (0, Some x) ∷ [] → Stood stands me.0.opened (me.0.seen ++ e ∷ []) x
          → Allows K slots id me 1 (λ n. (n + 1) % 2 ^ 64) (gave (Some e) (step slots 1 1 0 none) me)
      advances slots id me e x is_out hand stood s kept _ at _ = let v : View E O = me.0 in let r = begun stands opened key s id v (ap is_live is_out) at kept in let n : ℕ = get_or s.words 1 0 in let k = r.each id v at in
          let h : List E = r.history in let h' : List E = h ++ e ∷ [] in let w : View E O = advanced e v in
          let is : n ≡ length h = ap (λ (l : List ℕ). get_or l 1 0) r.words_are in
          let mine = k.turn is_out in let longer : length h' ≡ length h + 1 = length-append h (e ∷ []) in
          let seen : length v.seen ≡ length h = ap length mine.1 in
          let lent : out v.stage ≡ 1 = ap out is_out in
          let most = one_out stands (opened key) s r in let most0 = most.0 in let most1 = most.1 in let mine_out = total_at (λ (u : View E O). out u.stage) s.views id v at in
          let mine_ticket = total_at (λ (u : View E O). is_ticket (length h) u.ticket) s.views id v at in
          let one : is_ticket (length h) v.ticket ≡ 1 = ap (is_ticket (length h)) mine.0 ∙ same_here (length h) in
          let drawn_is = r.tickets_are (length h) in let within : length h < r.drawn = below_yes (length h) r.drawn (omega arith) in let fits = r.drawn_fits in
          let next : (n + 1) % 2 ^ 64 ≡ length h' = mod-eq_of_lt (omega arith) ∙ omega arith in
          let none_out : outs (set s.views id w) ≡ 0 = let t = total_set (λ (u : View E O). out u.stage) s.views id v w at in omega arith in
          let part : v.parts ≢ 0 = λ z. let q : out v.stage ≡ 0 = (k.without z).2 in omega arith in
          let from : stood.0 ≡ opened key = some_in stood.0 (opened key) (sym stood.1 ∙ k.opened_is (omega arith)) in
          let home : put_back s.homes me.1 ≡ some (Some x) ∷ [] = ap (put_back s.homes) hand ∙ one_set s.homes (some (Some x)) r.one_slot in (
            w,
            gives,
            tt,
            inl (moved stands (opened key) s r id v w (set s.words 1 ((n + 1) % 2 ^ 64)) (put_back s.homes me.1) h' r.drawn at
                (ap (λ (l : List ℕ). set l 1 ((n + 1) % 2 ^ 64)) r.words_are ∙ ap (λ (z : ℕ). r.drawn ∷ z ∷ []) next) r.drawn_fits (ap length home)
                (λ k'. let a : is_ticket k' v.ticket ≡ same k' (length h) = ap (is_ticket k') mine.0 in let b = below_suc k' (length h) in let c : below k' (length h') ≡ below k' (length h + 1) = ap (below k') longer in omega arith)
                (λ k'. let a = times_append k' v.mine (length v.seen ∷ []) in let b = below_suc k' (length h) in let c : below k' (length h') ≡ below k' (length h + 1) = ap (below k') longer in let d : same k' (length v.seen) ≡ same k' (length h) = ap (same k') seen in omega arith)
                (let a = length-append v.mine (length v.seen ∷ []) in omega arith) refl
                record {
                  opened_is = k.opened_is;
                  begins = subst (λ (l : List E). StartsWith h' (l ++ e ∷ [])) (sym mine.1) (starts_whole h');
                  begins_told = starts_more h v.told (e ∷ []) k.begins_told;
                  without = λ z. absurd (part z);
                  turn = λ o. absurd (Idle≢Out o);
                  live = refl;
                  ended = k.ended;
                }
                (λ j u apart there y. record {
                  opened_is = y.opened_is;
                  begins = starts_more h u.seen (e ∷ []) y.begins;
                  begins_told = starts_more h u.told (e ∷ []) y.begins_told;
                  without = y.without;
                  live = y.live;
                  turn = λ o. absurd (only_out stands (opened key) s r id j v u apart at there is_out o);
                  ended = y.ended;
                })
                (λ _. (x, home, subst (λ (p : O × List E). stands p.0 (p.1 ++ e ∷ []) x) (λ i. (from i, mine.1 i)) stood.2))
                (λ l. absurd (omega arith))),
            refl,
          )

      pub takes_empty : (slots id : ℕ) (me : Me (Option S) (View E O)) → me.0 ≡ first_view (opened key) Empty → Allows K slots id me 0 (λ n. n) (took_empty (step slots 0 0 0 none) me)
      takes_empty slots id me is s (inl r) _ at _ = absurd (true≢false (sym (r.each id me.0 at).live ∙ ap (λ (u : View E O). is_live u.stage) is))
      takes_empty slots id me is s (inr o) _ at _ = let one = sole (first_view (opened key) o.0) me.0 id (subst (λ l. get_elem? l id ≡ some me.0) o.2 at) in
          let empty : o.0 ≡ Empty = ap (λ (u : View E O). u.stage) (one.1 ∙ is) in
          let home : s.homes ≡ some None ∷ [] = ⊎_elim (λ t. t.1) (λ (t : (o.0 ≡ Filling) × (s.homes ≡ none ∷ [])). absurd (Empty≢Filling (sym empty ∙ t.0))) o.1 in (
            filling me.0,
            takes 0 None,
            ap (λ l. get_elem? l 0) home,
            inr (Filling, inr (refl, ap (λ l. set l 0 none) home), ap (λ l. set l id (filling me.0)) o.2 ∙ ap (λ (j : ℕ). set (first_view (opened key) o.0 ∷ []) j (filling me.0)) one.0 ∙ ap (λ (u : View E O). filling u ∷ []) is, set-get_or s.words 0 0 ∙ o.3),
            refl,
          )

      pub begins : (slots id : ℕ) (me : Me (Option S) (View E O)) (x : S) → me.0 ≡ first_view (opened key) Filling → me.1 ≡ (0, Some x) ∷ [] → stands (opened key) [] x → Allows K slots id me 0 (λ n. n) (began (step slots 0 0 0 none) me)
      begins slots id me x is hand stood s (inl r) _ at _ = absurd (true≢false (sym (r.each id me.0 at).live ∙ ap (λ (u : View E O). is_live u.stage) is))
      begins slots id me x is hand stood s (inr o) _ at _ = let one = sole (first_view (opened key) o.0) me.0 id (subst (λ l. get_elem? l id ≡ some me.0) o.2 at) in
          let w : View E O = first_view (opened key) Idle in
          let views : set s.views id (started me.0) ≡ w ∷ [] = ap (λ l. set l id (started me.0)) o.2 ∙ ap (λ (j : ℕ). set (first_view (opened key) o.0 ∷ []) j (started me.0)) one.0 ∙ ap (λ (u : View E O). started u ∷ []) is in
          let long : length s.homes ≡ 1 = ⊎_elim (λ (t : (o.0 ≡ Empty) × (s.homes ≡ some None ∷ [])). ap length t.1) (λ (t : (o.0 ≡ Filling) × (s.homes ≡ none ∷ [])). ap length t.1) o.1 in
          let home : put_back s.homes me.1 ≡ some (Some x) ∷ [] = ap (put_back s.homes) hand ∙ one_set s.homes (some (Some x)) long in (
            started me.0,
            gives,
            tt,
            inl (subst (λ l. Turning stands (opened key) record { words = set s.words 0 (get_or s.words 0 0); homes = put_back s.homes me.1; views = l }) (sym views) record {
              history = [];
              drawn = 0;
              drawn_fits = omega arith;
              words_are = set-get_or s.words 0 0 ∙ o.3;
              one_slot = ap length home;
              tickets_are = λ k. omega arith;
              places_are = λ k. let b = below_no k 0 (omega arith) in omega arith;
              calls_are = omega arith;
              parts_are = omega arith;
              each = λ j u e. subst (Agrees (opened key) [] 0) (sole w u j e).1 record {
                opened_is = λ _. refl;
                begins = starts_empty [];
                begins_told = starts_empty [];
                without = λ z. absurd (omega arith);
                turn = λ t. absurd (Idle≢Out t);
                live = refl;
                ended = λ t. absurd (true≢false (sym t));
              };
              home = λ _. (x, home, stood);
              away = λ l. absurd (omega arith);
            }),
            refl,
          )

      pub learning : (slots id : ℕ) (me : Me (Option S) (View E O)) → me.0.stage ≡ Idle → Allows K slots id me 0 (λ n. n) (learned_both (step slots 0 0 0 none) me)
      learning slots id me idle s kept _ at _ = let v : View E O = me.0 in let r = begun stands opened key s id v (ap is_live idle) at kept in let k = r.each id v at in
          let both = longer_starts r.history v.seen v.told k.begins k.begins_told in (
            learned v,
            keeps,
            tt,
            inl (stays stands (opened key) s r 0 id v (learned v) me.1 at refl refl refl refl record {
              opened_is = k.opened_is;
              begins = both.0;
              begins_told = starts_empty r.history;
              without = k.without;
              turn = λ o. absurd (Idle≢Out (sym idle ∙ o));
              live = k.live;
              ended = k.ended;
            }),
            (refl, both.1, both.2),
          )

      pub splits : (id : ℕ) (v : View E O) → is_live v.stage ≡ true → 1 < v.parts → Splits K id v (less_one v) (one_part v)
      splits id v live more s kept at = let r = begun stands opened key s id v live at kept in let k = r.each id v at in let l : View E O = less_one v in let n : View E O = one_part v in let vs : List (View E O) = set s.views id l in
          let out_same : outs (vs ++ n ∷ []) ≡ outs s.views = let t = total_set (λ (u : View E O). out u.stage) s.views id v l at in let a = total_snoc (λ (u : View E O). out u.stage) vs n in omega arith in
          inl record {
            history = r.history;
            drawn = r.drawn;
            drawn_fits = r.drawn_fits;
            words_are = r.words_are;
            one_slot = r.one_slot;
            tickets_are = λ k'. let t = total_set (λ (u : View E O). is_ticket k' u.ticket) s.views id v l at in let a = total_snoc (λ (u : View E O). is_ticket k' u.ticket) vs n in let b = r.tickets_are k' in omega arith;
            places_are = λ k'. let t = total_set (λ (u : View E O). times k' u.mine) s.views id v l at in let a = total_snoc (λ (u : View E O). times k' u.mine) vs n in let b = r.places_are k' in omega arith;
            calls_are = let t = total_set (λ (u : View E O). length u.mine) s.views id v l at in let a = total_snoc (λ (u : View E O). length u.mine) vs n in let b = r.calls_are in omega arith;
            parts_are = let t = total_set (λ (u : View E O). u.parts) s.views id v l at in let a = total_snoc (λ (u : View E O). u.parts) vs n in let b = r.parts_are in omega arith;
            each = each_snoc (Agrees (opened key) r.history r.drawn) vs n
                record {
                  opened_is = λ _. k.opened_is (omega arith);
                  begins = k.begins;
                  begins_told = starts_empty r.history;
                  without = λ z. absurd (omega arith);
                  turn = λ o. absurd (Idle≢Out o);
                  live = refl;
                  ended = λ t. absurd (true≢false (sym t));
                }
                (each_set (Agrees (opened key) r.history r.drawn) (Agrees (opened key) r.history r.drawn) s.views id l
                record {
                  opened_is = λ _. k.opened_is (omega arith);
                  begins = k.begins;
                  begins_told = k.begins_told;
                  without = λ z. absurd (omega arith);
                  turn = k.turn;
                  live = k.live;
                  ended = k.ended;
                }
                (λ j u _ _ x. x) r.each);
            home = λ z. r.home (sym out_same ∙ z);
            away = λ h. r.away (subst (λ (z : ℕ). 0 < z) out_same h);
          }

      pub joins : (id : ℕ) (v : View E O) (other : ℕ) (w : View E O) → is_live v.stage ≡ true → 0 < v.parts → w.ticket ≡ None → out w.stage ≡ 0 → Joins K id v other w (joined v w) spent
      joins id v other w live part free idle s kept at apart there = let r = begun stands opened key s id v live at kept in let k = r.each id v at in let b : View E O = joined v w in let vs : List (View E O) = set s.views id b in
          let was : get_elem? s.views other ≡ some w = ⊎_elim (λ (t : (other ≡ id) × (b ≡ w)). absurd (apart t.0)) (λ (t : (other ≢ id) × (get_elem? s.views other ≡ some w)). t.1) (at_set s.views id other b w there) in
          let q = r.each other w was in
          let out_same : outs (set vs other spent) ≡ outs s.views = let t = total_set (λ (u : View E O). out u.stage) s.views id v b at in let a = total_set (λ (u : View E O). out u.stage) vs other w spent there in omega arith in
          inl record {
            history = r.history;
            drawn = r.drawn;
            drawn_fits = r.drawn_fits;
            words_are = r.words_are;
            one_slot = r.one_slot;
            tickets_are = λ k'. let t = total_set (λ (u : View E O). is_ticket k' u.ticket) s.views id v b at in let a = total_set (λ (u : View E O). is_ticket k' u.ticket) vs other w spent there in let c = r.tickets_are k' in let d : is_ticket k' w.ticket ≡ 0 = ap (is_ticket k') free in omega arith;
            places_are = λ k'. let t = total_set (λ (u : View E O). times k' u.mine) s.views id v b at in let a = total_set (λ (u : View E O). times k' u.mine) vs other w spent there in let c = r.places_are k' in let d = times_append k' v.mine w.mine in omega arith;
            calls_are = let t = total_set (λ (u : View E O). length u.mine) s.views id v b at in let a = total_set (λ (u : View E O). length u.mine) vs other w spent there in let c = r.calls_are in let d = length-append v.mine w.mine in omega arith;
            parts_are = let t = total_set (λ (u : View E O). u.parts) s.views id v b at in let a = total_set (λ (u : View E O). u.parts) vs other w spent there in let c = r.parts_are in omega arith;
            each = each_set (Agrees (opened key) r.history r.drawn) (Agrees (opened key) r.history r.drawn) vs other spent
                record {
                  opened_is = λ h. absurd (omega arith);
                  begins = starts_empty r.history;
                  begins_told = starts_empty r.history;
                  without = λ _. (refl, refl, refl);
                  turn = λ o. absurd (Idle≢Out o);
                  live = refl;
                  ended = λ t. absurd (true≢false (sym t));
                }
                (λ j u _ _ x. x)
                (each_set (Agrees (opened key) r.history r.drawn) (Agrees (opened key) r.history r.drawn) s.views id b
                record {
                  opened_is = λ _. k.opened_is part;
                  begins = k.begins;
                  begins_told = q.begins;
                  without = λ z. absurd (omega arith);
                  turn = k.turn;
                  live = k.live;
                  ended = k.ended;
                }
                (λ j u _ _ x. x) r.each);
            home = λ z. r.home (sym out_same ∙ z);
            away = λ h. r.away (subst (λ (z : ℕ). 0 < z) out_same h);
          }

      -- what the book has at the end
      pub closes : (id : ℕ) (m : SeatOf S E O) (ws : List ℕ) (xs : List (Option S)) → m.0.stage ≡ Idle → m.0.parts ≡ 4294967296 → Final (Seen K id m.0) ws xs → (x : S) × (get_elem? xs 0 ≡ some (Some x)) × ClosesSeat stands m x
      closes id m ws xs idle all f = let v : View E O = m.0 in let s = f.0 in let at = f.1.1 in let r = begun stands opened key s id v (ap is_live idle) at f.1.0 in let k = r.each id v at in
          let whole : parts s.views ≡ v.parts = r.parts_are ∙ sym all in let resting : out v.stage ≡ 0 = ap out idle in
          let out_none : outs s.views ≡ 0 = total_alone (λ (u : View E O). u.parts) (λ (u : View E O). out u.stage) s.views id v at whole (λ j u e z. ((r.each j u e).without z).2) ∙ resting in
          let made : length r.history ≡ length v.mine = sym r.calls_are ∙ total_alone (λ (u : View E O). u.parts) (λ (u : View E O). length u.mine) s.views id v at whole (λ j u e z. ap length ((r.each j u e).without z).1) in
          let here : (n : ℕ) → times n v.mine ≡ below n (length r.history) = λ n. sym (total_alone (λ (u : View E O). u.parts) (λ (u : View E O). times n u.mine) s.views id v at whole (λ j u e z. ap (times n) ((r.each j u e).without z).1)) ∙ r.places_are n in
          let h = r.home out_none in
          (h.0, f.4 0 (Some h.0) (ap (λ l. get_elem? l 0) h.1), (r.history, k.begins, made, here, (opened key, k.opened_is (omega arith), h.2)))
