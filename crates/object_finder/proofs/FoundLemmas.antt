-- Pairs that list the same meet the same queries.
use Rattle.std.proofs.Common.{◌≡◌, ◌||◌, ◌↔◌, Bool, true, false, IsTrue, ℕ, List, [], ◌∷◌, refl, sym, subst, inl, inr, ◌∙◌}
use Rattle.std.proofs.lemmas.Bool.{cases_Bool}
use Rattle.std.proofs.lemmas.Cmp.{eq_by_cmp_equiv}
use Rattle.query_text.specs.Query.{Ors, no_ors, then_ands, Ands, no_ands, then_item, Item, term, negated, group}
use Rattle.query_text.specs.declared.term.Term.{Term}
use Rattle.query_text.specs.declared.term.Term.TheVariants.{Every, AtField}
use Rattle.query_text.specs.declared.term.Wanted.{Wanted}
use Rattle.search_query.proofs.PairLemmas.{pair_same}
use Rattle.search_query.specs.Matching.{HasWanted, IsWanted, Meets, MeetsAll, MeetsItem, MeetsTerm}
use Rattle.search_query.specs.Pair.{Pair, pair_cmp_total, same_pair, lists}
use Rattle.object_finder.specs.Meeting.{Decided, holds, meets, meets_or_not}

-- ---- a pair that is the same

same_itself : (p : Pair) → same_pair p p ≡ true
same_itself p = (eq_by_cmp_equiv pair_cmp_total).refl p

-- ---- pairs that are listed

or_left : (a b : Bool) → a ≡ true → (a || b) ≡ true
or_left true b is = refl
or_left false b is = cc

or_right : (a b : Bool) → b ≡ true → (a || b) ≡ true
or_right true b is = refl
or_right false b is = is

-- the two list the same pairs
abbrev Alike : List Pair → List Pair → Type 0
Alike given due = (p : Pair) → lists given p ≡ lists due p

abbrev HasListed : List ℕ → Wanted → List Pair → Type 0
HasListed field w pairs = (p : Pair) × (lists pairs p ≡ true) × (p.field ≡ field) × IsWanted w p.value

-- a pair that is wanted is listed, and one that is listed is wanted
listed_of : (field : List ℕ) (w : Wanted) (pairs : List Pair) → HasWanted field w pairs → HasListed field w pairs
listed_of field w [] has = absurd has
listed_of field w (q ∷ pairs) (inl met) = (q, or_left (same_pair q q) (lists pairs q) (same_itself q), met.0, met.1)
listed_of field w (q ∷ pairs) (inr rest) = let more = listed_of field w pairs rest in (more.0, or_right (same_pair more.0 q) (lists pairs more.0) more.1, more.2, more.3)

of_listed : (field : List ℕ) (w : Wanted) (pairs : List Pair) (p : Pair) → lists pairs p ≡ true → p.field ≡ field → IsWanted w p.value → HasWanted field w pairs
of_listed field w [] p is at met = cc
of_listed field w (q ∷ pairs) p is at met = elim (cases_Bool (same_pair p q)) [
  | inl same ↦ inl (subst (λ (r : Pair). (r.field ≡ field) × IsWanted w r.value) (pair_same p q same) (at, met))
  | inr other ↦ let now : lists (q ∷ pairs) p ≡ lists pairs p = rw other refl in inr (of_listed field w pairs p (sym now ∙ is) at met)
]

wanted_alike : (field : List ℕ) (w : Wanted) (given due : List Pair) → Alike given due → HasWanted field w given → HasWanted field w due
wanted_alike field w given due alike has = let here = listed_of field w given has in of_listed field w due here.0 (sym (alike here.0) ∙ here.1) here.2 here.3

-- ---- queries

turned : (given due : List Pair) → Alike given due → Alike due given
turned given due alike p = sym (alike p)

term_alike : (t : Term) (given due : List Pair) → Alike given due → MeetsTerm t given → MeetsTerm t due
term_alike Every given due alike met = tt
term_alike (AtField field w) given due alike met = wanted_alike field w given due alike met

mutual
  item_alike : (x : Item) (given due : List Pair) → Alike given due → MeetsItem x given → MeetsItem x due
  item_alike (term t) given due alike met = term_alike t given due alike met
  item_alike (negated x) given due alike not = λ met. not (item_alike x due given (turned given due alike) met)
  item_alike (group q) given due alike met = query_alike q given due alike met

  all_alike : (a : Ands) (given due : List Pair) → Alike given due → MeetsAll a given → MeetsAll a due
  all_alike no_ands given due alike met = tt
  all_alike (then_item x more) given due alike met = (item_alike x given due alike met.0, all_alike more given due alike met.1)

  query_alike : (q : Ors) (given due : List Pair) → Alike given due → Meets q given → Meets q due
  query_alike no_ors given due alike met = met
  query_alike (then_ands a more) given due alike (inl met) = inl (all_alike a given due alike met)
  query_alike (then_ands a more) given due alike (inr met) = inr (query_alike more given due alike met)

decided_same : {P : Type 0} (b : Bool) (d : Decided P) → (b ≡ true → P) → (P → b ≡ true) → b ≡ holds d
decided_same true (inl p) there back = refl
decided_same true (inr not) there back = absurd (not (there refl))
decided_same false (inl p) there back = let is = back p in cc
decided_same false (inr not) there back = refl

-- what is told of some pairs is told of all that list the same
pub told : (query : Ors) (given due : List Pair) (b : Bool) → ((p : Pair) → lists given p ≡ lists due p) → (IsTrue b ↔ Meets query given) → b ≡ meets query due
told query given due b alike is =
    decided_same b (meets_or_not query due) (λ b_is. query_alike query given due alike (is.0 b_is)) (λ met. is.1 (query_alike query due given (turned given due alike) met))
