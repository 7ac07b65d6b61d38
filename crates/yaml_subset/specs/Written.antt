-- The YAML text of a document: one key or one dash a line, each part two spaces deeper than what it is part of.
use Rattle.std.specs.Prelude.{ℕ, ◌-◌, ◌&&◌, ◌||◌, ◌==◌, Bool, true, false, nat_lt, if◌then◌else◌, List, [], ◌∷◌, ◌++◌, codes}
use Rattle.std.specs.Char.{digit_char, encode_utf8, is_ascii_alphabetic, is_ascii_digit}
use Rattle.std.specs.Fmt.{signed_decimal}
use Rattle.std.specs.List.{list_all}
use Rattle.std.specs.Str.{chars}
use Rattle.doc_tree.specs.Doc.{Doc, null, boolean, whole, words, list, dict, Docs, no_docs, then_doc, Pairs, no_pairs, then_pair}
use Rattle.yaml_subset.specs.Scalar.{is_false, is_null, is_true}

-- a letter, a digit or one of `_ . / -`
abbrev pub is_inner : ℕ → Bool
is_inner b = is_ascii_alphabetic b || (is_ascii_digit b || (b == 95 || (b == 46 || (b == 47 || b == 45))))

-- a word of null or of a truth value
abbrev pub is_word : List ℕ → Bool
is_word s = is_null s || (is_true s || is_false s)

-- a text that stands without quotes
abbrev pub is_bare : List ℕ → Bool
is_bare [] = false
is_bare (b ∷ s) = (is_ascii_alphabetic b || b == 47) && (list_all is_inner s && (if is_word (b ∷ s) then false else true))

-- `\u00` and two hexadecimal digits
abbrev pub hex_text : ℕ → List ℕ
hex_text c = codes "\\u00" ++ (if nat_lt c 16 then 48 ∷ digit_char c ∷ [] else (if nat_lt c 32 then 49 ∷ digit_char (c - 16) ∷ [] else codes "7f"))

-- a character in double quotes
abbrev pub char_text : ℕ → List ℕ
char_text c =
    if c == 92 then codes "\\\\"
    else (if c == 34 then codes "\\\"" else (if c == 10 then codes "\\n" else (if c == 13 then codes "\\r" else (if c == 9 then codes "\\t" else (if c == 0 then codes "\\0" else (if nat_lt c 32 || c == 127 then hex_text c else encode_utf8 c))))))

-- characters in double quotes
abbrev pub escaped : List ℕ → List ℕ
escaped [] = []
escaped (c ∷ cs) = char_text c ++ escaped cs

-- a text or a key
abbrev pub words_text : List ℕ → List ℕ
words_text s = if is_bare s then s else 34 ∷ (escaped (chars s) ++ 34 ∷ [])

-- a list or a dict that isn't empty
abbrev pub is_block : Doc → Bool
is_block null = false
is_block (boolean b) = false
is_block (whole z) = false
is_block (words s) = false
is_block (list no_docs) = false
is_block (list (then_doc d ds)) = true
is_block (dict no_pairs) = false
is_block (dict (then_pair k d ps)) = true

-- what stands on one line
abbrev pub scalar_text : Doc → List ℕ
scalar_text null = codes "null"
scalar_text (boolean b) = if b then codes "true" else codes "false"
scalar_text (whole z) = signed_decimal z
scalar_text (words s) = words_text s
scalar_text (list ds) = codes "[]"
scalar_text (dict ps) = codes "{}"

-- a node behind a dash or a key: on its line, or as a block on the lines below
abbrev pub node_text : Bool → List ℕ → List ℕ → List ℕ
node_text block scalar below = if block then 10 ∷ below else 32 ∷ (scalar ++ 10 ∷ [])

-- two spaces deeper
abbrev pub deeper : List ℕ → List ℕ
deeper front = front ++ 32 ∷ 32 ∷ []

abbrev mutual
  -- the lines of a block, behind these spaces
  pub block_text : List ℕ → Doc → List ℕ
  block_text front null = []
  block_text front (boolean b) = []
  block_text front (whole z) = []
  block_text front (words s) = []
  block_text front (list ds) = items_text front ds
  block_text front (dict ps) = pairs_text front ps

  -- a line for each item, and below it its block
  pub items_text : List ℕ → Docs → List ℕ
  items_text front no_docs = []
  items_text front (then_doc d ds) = (front ++ (45 ∷ node_text (is_block d) (scalar_text d) (block_text (deeper front) d))) ++ items_text front ds

  -- a line for each key, and below it its block
  pub pairs_text : List ℕ → Pairs → List ℕ
  pairs_text front no_pairs = []
  pairs_text front (then_pair k d ps) = (front ++ (words_text k ++ (58 ∷ node_text (is_block d) (scalar_text d) (block_text (deeper front) d)))) ++ pairs_text front ps

-- the text of a document
abbrev pub written : Doc → List ℕ
written d = if is_block d then block_text [] d else scalar_text d ++ 10 ∷ []
