-- What a keeper in memory holds.
use Rattle.std.specs.Prelude.{ℕ, List, refl}
use Rattle.std.specs.Coded.{Coded, code_by, coded×, coded_list, coded_ℕ}
use Rattle.outside_core.specs.Failures.{Plan}
use Rattle.outside_keeper.specs.Rows.{KeptRows, kept_rows_code}

-- its rows, and which of its calls fail
pub record HeldRows : Type 0 where
  pub rows : KeptRows
  pub failures : Plan

-- how the logic stores them
abbrev pub plan_code : Coded Plan
plan_code =
    code_by (List ℕ × (ℕ × ℕ)) (coded× (coded_list coded_ℕ) (coded× coded_ℕ coded_ℕ)) (λ p. (p.failing, (p.calls, p.faults)))
    (λ q. record { failing = q.0; calls = q.1.0; faults = q.1.1 }) (λ _. refl)

abbrev pub held_rows_code : Coded HeldRows
held_rows_code =
    code_by (KeptRows × Plan) (coded× kept_rows_code plan_code) (λ k. (k.rows, k.failures)) (λ p. record { rows = p.0; failures = p.1 }) (λ _. refl)
