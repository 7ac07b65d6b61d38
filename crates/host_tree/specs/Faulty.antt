-- A host in memory of which some calls fail.
use Rattle.std.specs.Prelude.{ℕ, Bool, List, refl}
use Rattle.std.specs.Coded.{Coded, code_by, coded×, coded_bool, coded_list, coded_ℕ}
use Rattle.host_tree.specs.Entries.{Entries, entries_code}
use Rattle.host_tree.specs.declared.caps.Caps.{Caps}
use Rattle.outside_core.specs.Failures.{Plan}

-- what it holds, what it offers, and which calls fail
pub record Faulty : Type 0 where
  pub host : Entries
  pub offers : Caps
  pub failures : Plan

abbrev caps_code : Coded Caps
caps_code = code_by (Bool × Bool) (coded× coded_bool coded_bool) (λ c. (c.links, c.modes)) (λ t. record { links = t.0; modes = t.1 }) (λ _. refl)

abbrev plan_code : Coded Plan
plan_code =
    code_by (List ℕ × (ℕ × ℕ)) (coded× (coded_list coded_ℕ) (coded× coded_ℕ coded_ℕ)) (λ p. (p.failing, (p.calls, p.faults))) (λ t. record { failing = t.0; calls = t.1.0; faults = t.1.1 }) (λ _. refl)

-- how the logic stores it
abbrev pub faulty_code : Coded Faulty
faulty_code =
    code_by (Entries × (Caps × Plan)) (coded× entries_code (coded× caps_code plan_code)) (λ f. (f.host, (f.offers, f.failures))) (λ t. record { host = t.0; offers = t.1.0; failures = t.1.1 }) (λ _. refl)
