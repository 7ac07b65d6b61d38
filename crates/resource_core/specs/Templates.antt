-- Texts with attributes in them: `#{node['a']['b']}` stands for the attribute at the path of these keys.
use Rattle.std.specs.Prelude.{ℕ, zero, suc, Bool, true, false, ◌&&◌, ◌==◌, nat_eq, nat_lt, if◌then◌else◌, List, [], ◌∷◌, ◌++◌, length, drop, codes, Option, Some, None, option_and_then, option_map}
use Rattle.std.specs.List.{starts_with, position_or_len, before_first, after_first}
use Rattle.std.specs.Option.{option_or}
use Rattle.std.specs.Fmt.{signed_decimal}
use Rattle.doc_tree.specs.Doc.{Doc, null, boolean, whole, words, list, dict}
use Rattle.doc_tree.specs.Part.{at}
use Rattle.resource_core.specs.declared.templates.Piece.{Piece}
use Rattle.resource_core.specs.declared.templates.Piece.TheVariants.{Plain, Attribute}
use Rattle.resource_core.specs.declared.templates.Stated.{Stated}
use Rattle.resource_core.specs.declared.templates.Stated.TheVariants.{NotThere, Malformed, Missing, Words}

-- what stands behind a front, where the text begins with it
abbrev pub behind : List ℕ → List ℕ → Option (List ℕ)
behind front text = if starts_with nat_eq text front then Some (drop (length front) text) else None

-- a byte in front of the first of two parts
abbrev pub in_front : ℕ → List ℕ × List ℕ → List ℕ × List ℕ
in_front b parts = (b ∷ parts.0, parts.1)

-- what stands before the first `#{` and what stands behind it, if there is one
abbrev pub parted : List ℕ → Option (List ℕ × List ℕ)
parted [] = None
parted (b ∷ []) = None
parted (b ∷ c ∷ rest) = if b == 35 && c == 123 then Some ([], rest) else option_map (in_front b) (parted (c ∷ rest))

-- what stands before the first of this byte and what stands behind it, if there is one
abbrev pub cut_at : ℕ → List ℕ → Option (List ℕ × List ℕ)
cut_at q text = if nat_lt (position_or_len (λ b. b == q) text) (length text) then Some (before_first (λ b. b == q) text, after_first (λ b. b == q) text) else None

-- a key between brackets and two of these quotes, at the front of a text, with what stands behind it
abbrev pub key_between : List ℕ → ℕ → List ℕ → Option (List ℕ × List ℕ)
key_between opening quote text =
    option_and_then (λ inner. option_and_then (λ parts. option_map (λ rest. (parts.0, rest)) (behind (codes "]") parts.1)) (cut_at quote inner)) (behind opening text)

-- `['a']` or `["a"]`
abbrev pub key_at : List ℕ → Option (List ℕ × List ℕ)
key_at text = option_or (key_between (codes "['") 39 text) (key_between (codes "[\"") 34 text)

-- a key before others
abbrev pub key_first : List ℕ → List (List ℕ) × List ℕ → List (List ℕ) × List ℕ
key_first key more = (key ∷ more.0, more.1)

-- keys, one or more and at most so many, up to `}`, with what stands behind it
abbrev pub keys_at : ℕ → List ℕ → Option (List (List ℕ) × List ℕ)
keys_at zero text = None
keys_at (suc n) text =
    option_and_then (λ found. option_or (option_map (λ rest. (found.0 ∷ [], rest)) (behind (codes "}") found.1)) (option_map (key_first found.0) (keys_at n found.1))) (key_at text)

-- the path that stands behind `#{`: `node`, its keys and `}`, with what stands behind that
abbrev pub path_at : List ℕ → Option (List (List ℕ) × List ℕ)
path_at text = option_and_then (λ keys. keys_at (length keys) keys) (behind (codes "node") text)

-- these pieces in front of others
abbrev pub pieces_first : List ℕ → List (List ℕ) → List Piece → List Piece
pieces_first plain path more = Plain plain ∷ Attribute path ∷ more

-- what is made of a text's parts, or the text as one piece where it has no `#{`
abbrev pub or_plain : List ℕ → Option (Option (List Piece)) → Option (List Piece)
or_plain text None = Some (Plain text ∷ [])
or_plain text (Some made) = made

-- the pieces of a text with at most so many attributes, if each `#{` begins a path
abbrev pub pieces_within : ℕ → List ℕ → Option (List Piece)
pieces_within zero text = None
pieces_within (suc n) text =
    or_plain text (option_map (λ parts. option_and_then (λ found. option_map (pieces_first parts.0 found.0) (pieces_within n found.1)) (path_at parts.1)) (parted text))

-- the pieces of a text
abbrev pub pieces_of : List ℕ → Option (List Piece)
pieces_of text = pieces_within (suc (length text)) text

-- the text that stands for an attribute: a text itself, a whole number in decimal, or a truth value
abbrev pub scalar_text : Doc → Option (List ℕ)
scalar_text null = None
scalar_text (boolean b) = Some (if b then codes "true" else codes "false")
scalar_text (whole z) = Some (signed_decimal z)
scalar_text (words text) = Some text
scalar_text (list ds) = None
scalar_text (dict ps) = None

-- the text of the attribute at a path
abbrev pub attribute_text : Doc → List (List ℕ) → Option (List ℕ)
attribute_text attributes path = option_and_then scalar_text (at path attributes)

-- a text in front of what others make
abbrev pub text_first : List ℕ → Stated → Stated
text_first text NotThere = NotThere
text_first text Malformed = Malformed
text_first text (Missing path) = Missing path
text_first text (Words more) = Words (text ++ more)

-- the text of a path's attribute in front of what others make, or the path where there is none
abbrev pub attribute_first : List (List ℕ) → Option (List ℕ) → Stated → Stated
attribute_first path None more = Missing path
attribute_first path (Some text) more = text_first text more

-- the text that pieces make, or the first path that has no text, whole number or truth value
abbrev pub filled : Doc → List Piece → Stated
filled attributes [] = Words []
filled attributes (Plain text ∷ pieces) = text_first text (filled attributes pieces)
filled attributes (Attribute path ∷ pieces) = attribute_first path (attribute_text attributes path) (filled attributes pieces)

-- what pieces make, if there are any
abbrev pub filled_if : Doc → Option (List Piece) → Stated
filled_if attributes None = Malformed
filled_if attributes (Some pieces) = filled attributes pieces

-- what a document states as a text
abbrev pub stated_of : Doc → Doc → Stated
stated_of attributes null = Malformed
stated_of attributes (boolean b) = Malformed
stated_of attributes (whole z) = Malformed
stated_of attributes (words text) = filled_if attributes (pieces_of text)
stated_of attributes (list ds) = Malformed
stated_of attributes (dict ps) = Malformed

-- what is stated as a text where a document may be
abbrev pub stated : Doc → Option Doc → Stated
stated attributes None = NotThere
stated attributes (Some d) = stated_of attributes d

-- the text, where there is one
abbrev pub words_of : Stated → Option (List ℕ)
words_of NotThere = None
words_of Malformed = None
words_of (Missing path) = None
words_of (Words text) = Some text

-- the path that has no text, where there is one
abbrev pub missing_of : Stated → Option (List (List ℕ))
missing_of NotThere = None
missing_of Malformed = None
missing_of (Missing path) = Some path
missing_of (Words text) = None

-- it has the form of a text with attributes, or isn't there
abbrev pub is_formed : Stated → Bool
is_formed NotThere = true
is_formed Malformed = false
is_formed (Missing path) = true
is_formed (Words text) = true
