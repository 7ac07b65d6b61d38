-- How a line is read byte by byte: its dashes and its key, and what stands behind them.
use Rattle.std.specs.Prelude.{ℕ, ◌+◌, true, false, ◌&&◌, ◌||◌, ◌==◌, if◌then◌else◌, List, [], ◌∷◌, ◌++◌, drop, Option, Some, None, option_map}
use Rattle.doc_tree.specs.Doc.{Doc, words}
use Rattle.yaml_subset.specs.Signs.{is_apart, is_quote, is_tail, trimmed}
use Rattle.yaml_subset.specs.Quoted.{quoted_text}
use Rattle.yaml_subset.specs.Scalar.{plain_doc}
use Rattle.yaml_subset.specs.Flow.{flow_doc}
use Rattle.yaml_subset.specs.Says.{a_said, key_of}
use Rattle.yaml_subset.specs.declared.mark.Mark.{Mark}
use Rattle.yaml_subset.specs.declared.mark.Mark.TheVariants.{Dash, Key}
use Rattle.yaml_subset.specs.declared.said.Rest.{Rest}
use Rattle.yaml_subset.specs.declared.said.Rest.TheVariants.{Nothing, Scalar, Literal}
use Rattle.yaml_subset.specs.declared.said.Said.{Said}

-- a quoted scalar, and behind it nothing but a comment
abbrev pub quoted_value : Option (List ℕ × ℕ) → List ℕ → Option Doc
quoted_value None text = None
quoted_value (Some p) text = if is_tail (drop p.1 text) then Some (words p.0) else None

-- the value that begins with this byte: a quoted scalar, a flow or a plain scalar
abbrev pub value_doc : ℕ → List ℕ → Option Doc
value_doc b text = if is_quote b then quoted_value (quoted_text b text) text else (if b == 91 || b == 123 then flow_doc (b ∷ text) else plain_doc (trimmed (b ∷ text)))

-- what follows a literal's `|`: whether its text keeps the line feed at its end
abbrev pub literal_of : List ℕ → Option Rest
literal_of [] = Some (Literal true)
literal_of (b ∷ text) = if is_tail (b ∷ text) then Some (Literal true) else (if b == 45 && is_tail text then Some (Literal false) else None)

-- what stands behind dashes and a key: nothing or a comment, a literal's sign, or a value
abbrev pub rest_of : List ℕ → Option Rest
rest_of [] = Some Nothing
rest_of (b ∷ text) = if b == 32 then rest_of text else (if b == 35 then Some Nothing else (if b == 124 then literal_of text else option_map Scalar (value_doc b text)))

-- the same, behind these marks
abbrev pub behind_marks : List Mark → Option Said → Option Said
behind_marks heads said = option_map (λ s. a_said (heads ++ s.heads) s.above s.rest) said

-- a key and what stands behind it, or a value alone
abbrev pub content_with : Option (List ℕ × ℕ) → ℕ → ℕ → List ℕ → Option Said
content_with None above c text = option_map (a_said [] above) (rest_of text)
content_with (Some p) above c text = option_map (a_said (Key c p.0 ∷ []) (c + 1)) (rest_of (drop p.1 text))

abbrev pub content : ℕ → ℕ → List ℕ → Option Said
content above c text = content_with (key_of text) above c text

-- what a line says from this column on: spaces, dashes that a space or the end follows, and then its content
abbrev pub said_at : ℕ → ℕ → List ℕ → Option Said
said_at above c [] = Some (a_said [] above Nothing)
said_at above c (b ∷ text) =
    if b == 32 then said_at above (c + 1) text
    else (if b == 35 then Some (a_said [] above Nothing)
    else (if b == 45 && is_apart text then behind_marks (Dash c ∷ []) (said_at (c + 1) (c + 1) text) else content above c (b ∷ text)))
