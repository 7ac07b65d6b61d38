-- Beginnings of a history, and what a value stands for.
use Rattle.std.specs.Prelude.{◌≡◌, List, ◌++◌, length, if◌then◌else◌, nat_le, Option, Some}

-- the history begins with what was seen
abbrev pub StartsWith : {E : Type 0} → List E → List E → Type 0
StartsWith {E} history seen = (rest : List E) × (history ≡ seen ++ rest)

-- of two beginnings of one history, the one that has more of it
abbrev pub longer : {E : Type 0} → List E → List E → List E
longer xs ys = if nat_le (length ys) (length xs) then xs else ys

-- the value stands for the history, from what the book was opened with
abbrev pub Stood : {S E O : Type 0} → (O → List E → S → Type 0) → Option O → List E → S → Type 0
Stood {S} {E} {O} stands opened history value = (o : O) × (opened ≡ Some o) × stands o history value
