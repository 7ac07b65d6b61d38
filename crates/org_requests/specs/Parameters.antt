-- The parameters of a request's query.
use Rattle.std.specs.Prelude.{ℕ, ◌^◌, ◌-◌, List, bytes_eq, find, option_map, if◌then◌else◌, nat_le, Option, Some, None, Result, Ok, Err}
use Rattle.std.specs.Str.Parse.{digits_value}
use Rattle.version_rules.specs.Versions.{is_number}
use Rattle.org_requests.specs.declared.refusals.Refusal.{Refusal}
use Rattle.org_requests.specs.declared.refusals.Refusal.TheVariants.{BadParameter}
use Rattle.org_requests.specs.declared.requests.Parameter.{Parameter}

-- the value of the first parameter of this name
abbrev pub asked_for : List ℕ → List Parameter → Option (List ℕ)
asked_for name parameters = option_map (λ parameter. parameter.value) (find (λ parameter. bytes_eq parameter.name name) parameters)

-- the largest number that 64 bits hold
abbrev pub largest : ℕ
largest = 2 ^ 64 - 1

-- the number, or the largest where it is greater
abbrev pub capped : ℕ → ℕ
capped n = if nat_le n largest then n else largest

-- the number that one or more decimal digits write. Where it is past the largest, this one
abbrev pub number_in : List ℕ → Option ℕ
number_in text = if is_number text then Some (capped (digits_value 10 text)) else None

-- what a parameter of this name gives, or that it is bad
abbrev pub or_bad_parameter : {T : Type 0} → List ℕ → Option T → Result T Refusal
or_bad_parameter name (Some value) = Ok value
or_bad_parameter name None = Err (BadParameter name)
