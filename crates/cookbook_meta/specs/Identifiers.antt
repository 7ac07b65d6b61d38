-- The identifier of a manifest.
use Rattle.std.specs.Prelude.{◌≡◌, ℕ, List, [], ◌∷◌, ◌++◌, map}
use Rattle.std.specs.Cmp.Lexicographic.{slice_cmp}
use Rattle.std.specs.List.Sorted.{IsPermutation, IsSorted}
use Rattle.std.specs.Ordering.{nat_cmp}
use Rattle.hex.specs.Hex.{encode_lower}
use Rattle.sha1.specs.Sha1.{sha1}
use Rattle.cookbook_meta.specs.declared.entries.Entry.{Entry}

-- the line of an entry: its path, a colon and its checksum
abbrev pub line_of : Entry → List ℕ
line_of e = e.path ++ 58 ∷ e.checksum

-- lines, each ended by a line feed
abbrev pub text_of_lines : List (List ℕ) → List ℕ
text_of_lines [] = []
text_of_lines (line ∷ lines) = line ++ 10 ∷ text_of_lines lines

-- the text is the SHA-1, in lower-case hexadecimal digits, of the lines of the entries, one an entry, in the order of their bytes
pub record IsIdentifier (files : List Entry) (text : List ℕ) : Type 0 where
  pub lines : List (List ℕ)
  pub same : IsPermutation (map line_of files) lines
  pub order : IsSorted (slice_cmp nat_cmp) lines
  pub digest : text ≡ encode_lower (sha1 (text_of_lines lines))
