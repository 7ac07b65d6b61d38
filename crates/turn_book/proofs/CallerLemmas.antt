-- What the steps of a call do to a seat, as its caller knows it.
use Rattle.std.proofs.Common.{◌≡◌, ◌<◌, List, [], ◌∷◌, ◌++◌, sym, ap, ◌∙◌, subst, inl, inr, arith, true, false, true≢false, Option, Some, None, IfSome}
use Rattle.atomic_table.specs.Seated.{TableId}
use Rattle.turn_book.specs.declared.views.View.{View}
use Rattle.turn_book.specs.declared.views.Stage.TheVariants.{Idle}
use Rattle.turn_book.specs.Histories.{StartsWith, longer, Stood}
use Rattle.turn_book.specs.Views.{is_out, first_view, advanced, learned, joined, less_one, one_part}
use Rattle.turn_book.specs.Steps.{SeatOf}
use Rattle.turn_book.specs.Seats.{IsIdle, IsOut, IsSettled, AtEnd, TookValue, AddsTo, ClosesSeat}
use Rattle.turn_book.specs.Callers.{Known, known, starting, ended, gone_out, given_back, one_less, one_of, both_of, HasOneHistory, TookOut, AddsEntry, Closes}

module _ {S E O : Type 0} where
  -- the value isn't out with a seat that is settled
  pub idle_of : (book : TableId) (k : Known E O) (m : SeatOf S E O) → IsSettled m → known book m.0 ≡ k → k.is_out ≡ false → IsIdle m
  idle_of book k m (inl idle) is rest = idle
  idle_of book k m (inr out) is rest = absurd (true≢false (sym (ap is_out out.stage_is) ∙ ap (λ (z : Known E O). z.is_out) is ∙ rest))

  -- the value is out with it
  pub out_of : (book : TableId) (k : Known E O) (m : SeatOf S E O) → IsSettled m → known book m.0 ≡ k → k.is_out ≡ true → IsOut m
  out_of book k m (inl idle) is out = absurd (true≢false (sym (ap (λ (z : Known E O). z.is_out) is ∙ out) ∙ ap is_out idle.stage_is))
  out_of book k m (inr out) is _ = out

  -- a new book's first seat
  pub first_settled : (o : O) (m : SeatOf S E O) → m ≡ (first_view o Idle, []) → IsSettled m
  first_settled o m is = inl record {
    has_part = subst (λ (z : SeatOf S E O). 0 < z.0.parts) (sym is) (omega arith);
    no_ticket = ap (λ (z : SeatOf S E O). z.0.ticket) is;
    stage_is = ap (λ (z : SeatOf S E O). z.0.stage) is;
    told_none = ap (λ (z : SeatOf S E O). z.0.told) is;
    hand_is = ap (λ (z : SeatOf S E O). z.1) is;
  }

  pub first_known : (book id : TableId) (o : O) (m : SeatOf S E O) → id ≡ book → m ≡ (first_view o Idle, []) → known id m.0 ≡ starting book o
  first_known book id o m own is = λ i. known (own i) ((is i).0)

  -- the tickets were at their end
  pub end_settled : (m m' : SeatOf S E O) → IsIdle m → AtEnd m m' → IsSettled m'
  end_settled m m' idle e = inl record {
    has_part = subst (λ (z : SeatOf S E O). 0 < z.0.parts) (sym e) idle.has_part;
    no_ticket = ap (λ (z : SeatOf S E O). z.0.ticket) e ∙ idle.no_ticket;
    stage_is = ap (λ (z : SeatOf S E O). z.0.stage) e ∙ idle.stage_is;
    told_none = ap (λ (z : SeatOf S E O). z.0.told) e ∙ idle.told_none;
    hand_is = ap (λ (z : SeatOf S E O). z.1) e ∙ idle.hand_is;
  }

  pub end_known : (book id : TableId) (k : Known E O) (m m' : SeatOf S E O) → id ≡ book → known book m.0 ≡ k → AtEnd m m' → known id m'.0 ≡ ended k
  end_known book id k m m' own is e = (λ i. known (own i) ((e i).0)) ∙ ap ended is

  module _ (stands : O → List E → S → Type 0) where
    -- the value is out
    pub took_settled : (x : S) (m m' : SeatOf S E O) → IsIdle m → TookValue stands m x m' → IsSettled m'
    took_settled x m m' idle took = inr record {
      has_part = subst (λ (z : SeatOf S E O). 0 < z.0.parts) (sym took.2) idle.has_part;
      stage_is = ap (λ (z : SeatOf S E O). z.0.stage) took.2;
      told_none = ap (λ (z : SeatOf S E O). z.0.told) took.2 ∙ idle.told_none;
      hand_is = ap (λ (z : SeatOf S E O). z.1) took.2;
    }

    pub took_known : (x : S) (book id : TableId) (k : Known E O) (m m' : SeatOf S E O) → id ≡ book → known book m.0 ≡ k → TookValue stands m x m' → TookOut stands k x (known id m'.0)
    took_known x book id k m m' own is took = record {
      history = took.0;
      one_history = record {
        begins = subst (λ (z : Known E O). StartsWith took.0 z.seen) is took.1;
        stood = subst (λ (z : Known E O). Stood stands z.opened took.0 x) is took.3;
      };
      after_is = (λ i. known (own i) ((took.2 i).0)) ∙ ap (gone_out took.0) is;
    }

    -- the entry that is picked is one that the seat can add
    pub adds_to : (book : TableId) (k : Known E O) (m : SeatOf S E O) (picked : Option E) (x : S) → known book m.0 ≡ k → AddsEntry stands k picked x → AddsTo stands m.0.opened m.0.seen picked x
    adds_to book k m picked x is adds = (adds.entry, adds.picked_is, subst (λ (z : Known E O). Stood stands z.opened (z.seen ++ adds.entry ∷ []) x) (sym is) adds.stood)

    pub gave_as : (k : Known E O) (picked : Option E) (x : S) (v : View E O) (m' : SeatOf S E O) (adds : AddsEntry stands k picked x) → IfSome picked (λ e. m' ≡ (advanced e v, [])) → m' ≡ (advanced adds.entry v, [])
    gave_as k picked x v m' adds gave = subst (λ (t : Option E). IfSome t (λ e. m' ≡ (advanced e v, []))) adds.picked_is gave

    pub gave_settled : (k : Known E O) (picked : Option E) (x : S) (m m' : SeatOf S E O) → IsOut m → AddsEntry stands k picked x → IfSome picked (λ e. m' ≡ (advanced e m.0, [])) → IsSettled m'
    gave_settled k picked x m m' out adds gave = let e : m' ≡ (advanced adds.entry m.0, []) = gave_as k picked x m.0 m' adds gave in inl record {
      has_part = subst (λ (z : SeatOf S E O). 0 < z.0.parts) (sym e) out.has_part;
      no_ticket = ap (λ (z : SeatOf S E O). z.0.ticket) e;
      stage_is = ap (λ (z : SeatOf S E O). z.0.stage) e;
      told_none = ap (λ (z : SeatOf S E O). z.0.told) e ∙ out.told_none;
      hand_is = ap (λ (z : SeatOf S E O). z.1) e;
    }

    pub gave_known : (book id : TableId) (k : Known E O) (picked : Option E) (m m' : SeatOf S E O) → id ≡ book → known book m.0 ≡ k → IfSome picked (λ e. m' ≡ (advanced e m.0, [])) → IfSome picked (λ e. known id m'.0 ≡ given_back e k)
    gave_known book id k None m m' own is gave = tt
    gave_known book id k (Some e) m m' own is gave = (λ i. known (own i) ((gave i).0)) ∙ ap (given_back e) is

    pub gave_history : (book id : TableId) (k : Known E O) (picked : Option E) (x : S) (m m' : SeatOf S E O) → id ≡ book → known book m.0 ≡ k → AddsEntry stands k picked x → IfSome picked (λ e. m' ≡ (advanced e m.0, [])) → HasOneHistory stands k (known id m'.0).seen x
    gave_history book id k picked x m m' own is adds gave =
        let e : m' ≡ (advanced adds.entry m.0, []) = gave_as k picked x m.0 m' adds gave in
        let seen : m'.0.seen ≡ k.seen ++ adds.entry ∷ [] = ap (λ (z : SeatOf S E O). z.0.seen) e ∙ ap (λ (z : Known E O). z.seen ++ adds.entry ∷ []) is in record {
          begins = (adds.entry ∷ [], seen);
          stood = subst (λ (h : List E). Stood stands k.opened h x) (sym seen) adds.stood;
        }

    pub closes_known : (book : TableId) (k : Known E O) (m : SeatOf S E O) (x : S) → known book m.0 ≡ k → ClosesSeat stands m x → Closes stands k x
    closes_known book k m x is closes = subst (λ (z : Known E O). Closes stands z x) is record {
      history = closes.0;
      one_history = record { begins = closes.1; stood = closes.4 };
      calls_are = closes.2;
      places_are = closes.3;
    }

  -- one part was given away
  pub less_settled : (m m' : SeatOf S E O) → IsIdle m → 1 < m.0.parts → m' ≡ (less_one m.0, m.1) → IsSettled m'
  less_settled m m' idle more e = inl record {
    has_part = subst (λ (z : SeatOf S E O). 0 < z.0.parts) (sym e) (omega arith);
    no_ticket = ap (λ (z : SeatOf S E O). z.0.ticket) e ∙ idle.no_ticket;
    stage_is = ap (λ (z : SeatOf S E O). z.0.stage) e ∙ idle.stage_is;
    told_none = ap (λ (z : SeatOf S E O). z.0.told) e ∙ idle.told_none;
    hand_is = ap (λ (z : SeatOf S E O). z.1) e ∙ idle.hand_is;
  }

  pub less_known : (book id : TableId) (k : Known E O) (m m' : SeatOf S E O) → id ≡ book → known book m.0 ≡ k → m' ≡ (less_one m.0, m.1) → known id m'.0 ≡ one_less k
  less_known book id k m m' own is e = (λ i. known (own i) ((e i).0)) ∙ ap one_less is

  pub part_settled : (v : View E O) (m' : SeatOf S E O) → m' ≡ (one_part v, []) → IsSettled m'
  part_settled v m' e = inl record {
    has_part = subst (λ (z : SeatOf S E O). 0 < z.0.parts) (sym e) (omega arith);
    no_ticket = ap (λ (z : SeatOf S E O). z.0.ticket) e;
    stage_is = ap (λ (z : SeatOf S E O). z.0.stage) e;
    told_none = ap (λ (z : SeatOf S E O). z.0.told) e;
    hand_is = ap (λ (z : SeatOf S E O). z.1) e;
  }

  pub part_known : (book id : TableId) (k : Known E O) (m m' : SeatOf S E O) → id ≡ book → known book m.0 ≡ k → m' ≡ (one_part m.0, []) → known id m'.0 ≡ one_of k
  part_known book id k m m' own is e = (λ i. known (own i) ((e i).0)) ∙ ap one_of is

  -- two seats became one
  pub both_settled : (m w m' : SeatOf S E O) → IsIdle m → m' ≡ (learned (joined m.0 w.0), m.1) → IsSettled m'
  both_settled m w m' idle e = let part = idle.has_part in inl record {
    has_part = subst (λ (z : SeatOf S E O). 0 < z.0.parts) (sym e) (omega arith);
    no_ticket = ap (λ (z : SeatOf S E O). z.0.ticket) e ∙ idle.no_ticket;
    stage_is = ap (λ (z : SeatOf S E O). z.0.stage) e ∙ idle.stage_is;
    told_none = ap (λ (z : SeatOf S E O). z.0.told) e;
    hand_is = ap (λ (z : SeatOf S E O). z.1) e ∙ idle.hand_is;
  }

  pub both_known : (book other id : TableId) (k l : Known E O) (m w m' : SeatOf S E O) → id ≡ book → known book m.0 ≡ k → known other w.0 ≡ l → m' ≡ (learned (joined m.0 w.0), m.1) → known id m'.0 ≡ both_of k l
  both_known book other id k l m w m' own is was e = (λ i. known (own i) ((e i).0)) ∙ (λ i. both_of (is i) (was i))

  -- and nothing that either had seen is forgotten
  pub both_begin : (book other : TableId) (k l n : Known E O) (m w : SeatOf S E O) → known book m.0 ≡ k → known other w.0 ≡ l → n ≡ both_of k l
      → StartsWith (longer m.0.seen w.0.seen) m.0.seen × StartsWith (longer m.0.seen w.0.seen) w.0.seen → StartsWith n.seen k.seen × StartsWith n.seen l.seen
  both_begin book other k l n m w is was new p =
      let back : (xs : List E) → StartsWith (longer k.seen l.seen) xs → StartsWith n.seen xs = λ xs. subst (λ (z : Known E O). StartsWith z.seen xs) (sym new) in
      let begins : Known E O → Known E O → Type 0 = λ a b. StartsWith (longer a.seen b.seen) a.seen × StartsWith (longer a.seen b.seen) b.seen in
      let both : begins k l = subst (λ (z : Known E O × Known E O). begins z.0 z.1) (λ i. (is i, was i)) p in
      (back k.seen both.0, back l.seen both.1)
