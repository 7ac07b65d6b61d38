-- What a demo prints: how many requests there were, and what their replies come to.
use Rattle.std.specs.Prelude.{ℕ, ◌==◌, ◌||◌, not, List, ◌++◌, length, map, filter, sum, codes, decimal, Bool}

-- what a reply comes to: its status, and how many bytes it has as a message
pub record Outcome : Type 0 where
  pub status : ℕ
  pub bytes : ℕ

-- what many replies come to
pub record Sums : Type 0 where
  pub requests : ℕ
  pub created : ℕ
  pub ok : ℕ
  pub refused : ℕ
  pub bytes : ℕ

-- how many replies have a status of this kind
abbrev pub count_of : (ℕ → Bool) → List Outcome → ℕ
count_of is_one outcomes = length (filter (λ o. is_one o.status) outcomes)

-- what these replies come to: all, those with status 201, those with 200, the others, and their bytes
abbrev pub sums_of : List Outcome → Sums
sums_of outcomes = record {
  requests = length outcomes;
  created = count_of (λ s. s == 201) outcomes;
  ok = count_of (λ s. s == 200) outcomes;
  refused = count_of (λ s. not (s == 201 || s == 200)) outcomes;
  bytes = sum (map (λ o. o.bytes) outcomes);
}

-- a line: a word, a space and a number
abbrev pub line : List ℕ → ℕ → List ℕ
line word number = word ++ codes " " ++ decimal number ++ codes "\n"

-- the five lines
abbrev pub lines_of : Sums → List ℕ
lines_of sums =
    line (codes "requests") sums.requests ++ line (codes "created") sums.created ++ line (codes "ok") sums.ok
    ++ line (codes "refused") sums.refused ++ line (codes "bytes") sums.bytes

-- the five lines that are printed of these replies
abbrev pub lines : List Outcome → List ℕ
lines outcomes = lines_of (sums_of outcomes)
