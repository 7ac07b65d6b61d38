-- Who comes to an organisation.
use Rattle.std.specs.Prelude.{ℕ, List, refl}
use Rattle.std.specs.Coded.{Coded, code_by, coded_list, coded_ℕ, coded×}

-- the name of a new user or client, and the group that he joins
pub record Coming : Type 0 where
  pub name : List ℕ
  pub group : List ℕ

abbrev pub coming_code : Coded Coming
coming_code = code_by (List ℕ × List ℕ) (coded× (coded_list coded_ℕ) (coded_list coded_ℕ)) (λ c. (c.name, c.group)) (λ p. record { name = p.0; group = p.1 }) (λ _. refl)
