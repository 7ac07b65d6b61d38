-- Lists of texts in the order of their bytes, in which no text is there twice.
use Rattle.std.specs.Prelude.{ℕ, Bool, not, List, map, bytes_eq}
use Rattle.std.specs.List.{filter, list_any}
use Rattle.std.specs.List.Sorted.{IsStrictlySortedBy}
use Rattle.std.specs.FinMap as finite
use Rattle.std.specs.FinSet as set
use Rattle.doc_tree.specs.Text.{text_cmp}

-- a finite set of texts
abbrev pub Names : Type 0
Names = set.FinSet text_cmp

-- each of these texts is below those after it
abbrev pub IsRising : List (List ℕ) → Type 0
IsRising texts = IsStrictlySortedBy text_cmp texts

-- a finite map that has these texts as its keys, and nothing at each
abbrev pub as_keys : List (List ℕ) → finite.FinMap text_cmp (Unit {0})
as_keys texts = finite.from_entries (map (λ text. (text, tt)) texts)

-- these texts, in the order of their bytes and each once
abbrev pub in_order : List (List ℕ) → List (List ℕ)
in_order texts = finite.keys (as_keys texts)

-- the text is one of these
abbrev pub lists : List (List ℕ) → List ℕ → Bool
lists texts text = list_any (bytes_eq text) texts

-- the texts other than this one
abbrev pub without : List ℕ → List (List ℕ) → List (List ℕ)
without text texts = filter (λ other. not (bytes_eq text other)) texts
