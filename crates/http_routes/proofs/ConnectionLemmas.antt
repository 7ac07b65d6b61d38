-- The options of a value, one by one.
use Rattle.std.proofs.Common.{◌≡◌, ℕ, Bool, List, [], ◌∷◌, drop, map, ◌||◌, refl, ap}
use Rattle.std.specs.List.{list_any, prefix_len}
use Rattle.std.specs.Char.{is_ascii_whitespace}
use Rattle.std.specs.Str.{IsTrimAscii}
use Rattle.std.proofs.lemmas.Str.Ascii.{trim_ascii_is}
use Rattle.http_routes.specs.Connections.{trimmed}

-- a test of what a function makes of each element
pub list_any-map : {X Y : Type 0} (test : Y → Bool) (f : X → Y) (xs : List X) → list_any (λ x. test (f x)) xs ≡ list_any test (map f xs)
list_any-map test f [] = refl
list_any-map test f (x ∷ xs) = ap (λ v. test (f x) || v) (list_any-map test f xs)

-- what is trimmed at both ends
pub trimmed_is : (s r : List ℕ) → IsTrimAscii s r → r ≡ trimmed s
trimmed_is s r h = trim_ascii_is s r (drop (prefix_len is_ascii_whitespace s) s) refl h
