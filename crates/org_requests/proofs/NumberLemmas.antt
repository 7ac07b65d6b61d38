-- Numbers that are capped at the largest.
use Rattle.std.proofs.Common.{◌≡◌, ℕ, ◌+◌, ◌*◌, arith}
use Rattle.std.proofs.lemmas.Bool.Decides.{nat_tests}
use Rattle.org_requests.specs.Parameters.{capped}

-- where a number is capped before it grows, it is capped all the same
pub capped_first : (n d : ℕ) → capped (capped n * 10 + d) ≡ capped (n * 10 + d)
capped_first n d = grind (arith, nat_tests)
