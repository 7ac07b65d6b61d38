-- The objects at a field meet the term.
use Rattle.std.proofs.Common.{◌↔◌, ℕ, List, IsTrue, false, sym, subst, refl}
use Rattle.query_text.specs.declared.term.Term.{Term}
use Rattle.search_query.specs.Matching.{MeetsTerm}
use Rattle.search_index.specs.declared.found.Found.{Found}
use Rattle.search_index.specs.Found.{has, is_in}
use Rattle.search_index.specs.Seeking.{Finds, HasGiven}
use Rattle.search_index.proofs.SeekLemmas.{field_is}
use Rattle.search_index.proofs.seek.of_term.Goals as goal

pub returns-in_ok-with_field-in-AtField : goal.returns-in_ok-with_field-in-AtField
returns-in_ok-with_field-in-AtField c =
    let numbers : List ℕ = c.in_ok-with_field-in-AtField.field-0 in
    let found : Found = record { others = false; numbers = numbers } in
    let gives = subst (λ (f : List ℕ). (x : ℕ) → IsTrue (has c.args.among.now x) → IsTrue (is_in numbers x) ↔ HasGiven c.args.terms.now c.args.postings.now c.args.scope f c.in-AtField.wanted x) c.as_slice.ensures c.in_ok-with_field-in-AtField.ensures in
    subst (λ (tm : Term). Finds c.args.terms.now c.args.postings.now c.args.scope c.args.among.now (MeetsTerm tm) found) (sym c.in-AtField.is)
    (field_is c.args.terms.now c.args.postings.now c.args.scope c.args.among.now c.in-AtField.field c.in-AtField.wanted found refl gives)
