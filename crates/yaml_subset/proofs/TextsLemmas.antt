-- Which bytes are a text.
use Rattle.std.proofs.Common.{◌≡◌, ℕ, Bool, true, false, List, Some, None, IsUtf8, refl, if◌then◌else◌}
use Rattle.std.specs.Str.{is_utf8}
use Rattle.std.proofs.lemmas.Str.{is_utf8-from_IsUtf8, IsUtf8-from_is_utf8}
use Rattle.yaml_subset.specs.Quoted.{text_in}

pub text_in_is : (bytes : List ℕ) → IsUtf8 bytes → text_in bytes ≡ Some bytes
text_in_is bytes u = let is = is_utf8-from_IsUtf8 bytes u in rw is refl

none_at : (b : Bool) (bytes : List ℕ) → (b ≡ true → ⊥) → (if b then Some bytes else None) ≡ None
none_at true bytes no_ = absurd (no_ refl)
none_at false bytes no_ = refl

pub text_in_none : (bytes : List ℕ) → (IsUtf8 bytes → ⊥) → text_in bytes ≡ None
text_in_none bytes no_ = none_at (is_utf8 bytes) bytes (λ is. no_ (IsUtf8-from_is_utf8 bytes is))
