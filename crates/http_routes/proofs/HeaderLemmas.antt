-- Which values name a caller.
use Rattle.std.proofs.Common.{◌≡◌, Bool, true, false, ◌==◌, ℕ, List, Some, None, length, nat_lt, IsUtf8, refl, arith, rules}
use Rattle.std.specs.Str.{is_utf8}
use Rattle.std.proofs.lemmas.Str.{is_utf8-from_IsUtf8, IsUtf8-from_is_utf8}
use Rattle.std.proofs.lemmas.Bool.Decides.{nat_tests}
use Rattle.http_routes.specs.Headers.{caller_named}

-- text that isn't empty names a caller
pub caller_named-text : (name : List ℕ) → IsUtf8 name → (length name == 0) ≡ false → caller_named name ≡ Some name
caller_named-text name h filled =
    let some : nat_lt 0 (length name) ≡ true = grind (arith, nat_tests) in
    rw (some, is_utf8-from_IsUtf8 name h)

-- an empty value names none
pub caller_named-empty : (name : List ℕ) → (length name == 0) ≡ true → caller_named name ≡ None
caller_named-empty name empty =
    let none : nat_lt 0 (length name) ≡ false = grind (arith, nat_tests) in
    rw none

-- what isn't text names none
pub caller_named-no_text : (name : List ℕ) → (IsUtf8 name → ⊥) → caller_named name ≡ None
caller_named-no_text name h = by_test (is_utf8 name) refl where
  by_test : (t : Bool) → is_utf8 name ≡ t → caller_named name ≡ None
  by_test true e = absurd (h (IsUtf8-from_is_utf8 name e))
  by_test false e = rw e (search rules)

pub ruleset callers = (caller_named-text, caller_named-empty, caller_named-no_text)
