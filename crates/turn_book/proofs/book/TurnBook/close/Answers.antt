use Rattle.std.proofs.Common.{arith, ◌≡◌, ◌∙◌, ap, sym, refl, [], ◌∷◌, List, Bool, false, ℕ, ◌<◌, get_or, set}
use Rattle.std.specs.Slots.{slots_items, slots_filled, slots_len}
use Rattle.turn_book.proofs.StepLemmas.{closes}
use Rattle.turn_book.proofs.SeatLemmas.{closed_some, closed_none}
use Rattle.turn_book.proofs.CallerLemmas.{idle_of, closes_known}
use Rattle.turn_book.proofs.book.TurnBook.close.Goals as goal

-- the one slot is empty once its value is taken
emptied : (l : List Bool) (k : ℕ) → k < 1 → get_or (set l 0 false) k false ≡ false
emptied [] k h = refl
emptied (x ∷ l) k h = let e : k ≡ 0 = omega arith in ap (λ (j : ℕ). get_or (set (x ∷ l) 0 false) j false) e

pub close_with-closed-requires : goal.close_with-closed-requires
close_with-closed-requires g c = ap (λ k. k.book) c.turns.view_is ∙ c.requires.own ∙ sym c.self.view_is

pub take-value-requires : goal.take-value-requires
take-value-requires g c = let one = c.close_with-closed.ensures.counts.1 in let sized = c.self.invariant.1 in let some_slot : 0 < slots_len c.close_with-closed.result.slots = omega arith in (some_slot, c.close_with-closed.ensures.values.1 0 (omega arith) some_slot)

pub free-requires : goal.free-requires
free-requires g c = λ k h. let one = c.close_with-closed.ensures.counts.1 in let sized = c.self.invariant.1 in let others = c.take-value.ensures.others in let long = others.2 in
    ap (λ (l : List Bool). get_or l k false) others.1 ∙ emptied (slots_filled c.close_with-closed.result.slots) k (omega arith)

pub unreachable-requires : goal.unreachable-requires
unreachable-requires g c = closed_none g.S.Stands.stands c.turns.inside.seat.me (slots_items c.close_with-closed.result.slots) _ c.take-value.ensures.value c.in-None.is
    (closes g.S.Stands.stands g.S.Stands.opened c.self.inside.table.shared.key _ c.turns.inside.seat.me _ _ (idle_of c.turns.inside.seat.table_id c.args.turns c.turns.inside.seat.me c.turns.invariant c.turns.view_is c.requires.at_rest).stage_is
    (ap (λ k. k.parts) c.turns.view_is ∙ c.requires.all) c.close_with-closed.ensures.values.2)

pub returns : goal.returns
returns g c = record {
  closes = closes_known g.S.Stands.stands c.turns.inside.seat.table_id c.args.turns c.turns.inside.seat.me c.in-Some.value c.turns.view_is
      (closed_some g.S.Stands.stands c.turns.inside.seat.me (slots_items c.close_with-closed.result.slots) _ c.in-Some.value c.take-value.ensures.value c.in-Some.is
      (closes g.S.Stands.stands g.S.Stands.opened c.self.inside.table.shared.key _ c.turns.inside.seat.me _ _ (idle_of c.turns.inside.seat.table_id c.args.turns c.turns.inside.seat.me c.turns.invariant c.turns.view_is c.requires.at_rest).stage_is
      (ap (λ k. k.parts) c.turns.view_is ∙ c.requires.all) c.close_with-closed.ensures.values.2));
}
