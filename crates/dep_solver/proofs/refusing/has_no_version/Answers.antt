use Rattle.std.proofs.Common.{◌≡◌, Bool, true, false, not, refl, sym, ◌∙◌, true≢false}
use Rattle.dep_solver.proofs.refusing.has_no_version.Goals as goal

off : (b : Bool) → not b ≡ true → b ≡ false
off true h = sym h
off false h = refl

on : (b : Bool) → (b ≡ true → ⊥) → not b ≡ true
on true h = absurd (h refl)
on false h = refl

pub returns : goal.returns
returns c = (
  λ h. record {
    there = λ lacks. true≢false (sym (c.is_lacking.ensures.1 lacks) ∙ c.if-is_lacking.false);
    none = λ version allowed. true≢false (sym (c.has_allowed.ensures.1 (version, allowed)) ∙ off c.has_allowed.result h);
  },
  λ none. on c.has_allowed.result (λ h. let found = c.has_allowed.ensures.0 h in none.none found.0 found.1),
)
