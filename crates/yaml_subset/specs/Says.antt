-- What a line says (YAML 1.2.2, chapters 7 and 8): the dashes and the key that it begins with, at their columns, and what stands behind them.
use Rattle.std.specs.Prelude.{◌≡◌, ℕ, ◌+◌, Bool, true, false, ◌&&◌, ◌||◌, ◌==◌, if◌then◌else◌, List, [], ◌∷◌, take, drop, Option, Some, None, option_map}
use Rattle.doc_tree.specs.Doc.{Doc, words}
use Rattle.yaml_subset.specs.Signs.{colon_at, is_apart, is_passed, is_quote, is_tail, trimmed}
use Rattle.yaml_subset.specs.Quoted.{quoted_text, text_in}
use Rattle.yaml_subset.specs.Scalar.{is_plain, plain_doc}
use Rattle.yaml_subset.specs.Tokens.{tokens}
use Rattle.yaml_subset.specs.Flows.{SpellsFlow}
use Rattle.yaml_subset.specs.declared.token.Token.{Token}
use Rattle.yaml_subset.specs.declared.mark.Mark.{Mark}
use Rattle.yaml_subset.specs.declared.mark.Mark.TheVariants.{Dash, Key}
use Rattle.yaml_subset.specs.declared.said.Rest.{Rest}
use Rattle.yaml_subset.specs.declared.said.Rest.TheVariants.{Nothing, Scalar, Literal}
use Rattle.yaml_subset.specs.declared.said.Said.{Said}

-- a colon, before a space or the end
abbrev pub is_colon : List ℕ → Bool
is_colon [] = false
is_colon (b ∷ text) = b == 58 && is_apart text

-- a quoted key: its colon follows at once
abbrev pub quoted_key : Option (List ℕ × ℕ) → List ℕ → Option (List ℕ × ℕ)
quoted_key None text = None
quoted_key (Some p) text = if is_colon (drop p.1 text) then Some (p.0, p.1 + 2) else None

-- a plain key up to the colon at this place: spaces before the colon are cut
abbrev pub plain_key : Option ℕ → List ℕ → Option (List ℕ × ℕ)
plain_key None plain = None
plain_key (Some i) plain = if is_plain (trimmed (take i plain)) then option_map (λ k. (k, i + 1)) (text_in (trimmed (take i plain))) else None

-- the key that a text begins with, and how many bytes it takes with its colon
abbrev pub key_of : List ℕ → Option (List ℕ × ℕ)
key_of [] = None
key_of (b ∷ text) = if is_quote b then quoted_key (quoted_text b text) text else plain_key (colon_at (trimmed (b ∷ text))) (trimmed (b ∷ text))

-- a bracket that opens a flow
abbrev pub is_opener : ℕ → Bool
is_opener b = b == 91 || b == 123

-- what stands behind dashes and a key, or alone: nothing or a comment; a plain scalar; a quoted one; a flow, whole on the line; the sign of a literal, `|` or `|-`
pub data Stands : List ℕ → Rest → Type 0 where
  blank : {text : List ℕ} → is_passed text ≡ true → Stands text Nothing
  gap : {text : List ℕ} {rest : Rest} → Stands text rest → Stands (32 ∷ text) rest
  plain : {text : List ℕ} {d : Doc} → is_apart text ≡ false → plain_doc (trimmed text) ≡ Some d → Stands text (Scalar d)
  quoted : {mark length : ℕ} {inner s : List ℕ} → is_quote mark ≡ true → quoted_text mark inner ≡ Some (s, length) → is_tail (drop length inner) ≡ true
      → Stands (mark ∷ inner) (Scalar (words s))
  flow : {opener : ℕ} {text : List ℕ} {found : List Token} {d : Doc} → is_opener opener ≡ true → tokens 0 (opener ∷ text) ≡ Some found → SpellsFlow found d
      → Stands (opener ∷ text) (Scalar d)
  literal : {text : List ℕ} → is_tail text ≡ true → Stands (124 ∷ text) (Literal true)
  bare_literal : {text : List ℕ} → is_tail text ≡ true → Stands (124 ∷ 45 ∷ text) (Literal false)

-- marks, the least indent of a literal behind them, and what stands behind them
abbrev pub a_said : List Mark → ℕ → Rest → Said
a_said heads above rest = record { heads = heads; above = above; rest = rest }

-- what a text says from this column on, where the lines of a literal are indented by `above` at least: spaces are passed over; a dash that a space or the end follows; a key and what stands behind it; what stands there alone
pub data Says : ℕ → ℕ → List ℕ → Said → Type 0 where
  space : {above column : ℕ} {text : List ℕ} {s : Said} → Says above (column + 1) text s → Says above column (32 ∷ text) s
  dash : {above column : ℕ} {text : List ℕ} {s : Said} → is_apart text ≡ true → Says (column + 1) (column + 1) text s
      → Says above column (45 ∷ text) (a_said (Dash column ∷ s.heads) s.above s.rest)
  key : {above column length : ℕ} {text k : List ℕ} {rest : Rest} → is_apart text ≡ false → key_of text ≡ Some (k, length) → Stands (drop length text) rest
      → Says above column text (a_said (Key column k ∷ []) (column + 1) rest)
  value : {above column : ℕ} {text : List ℕ} {rest : Rest} → Stands text rest → Says above column text (a_said [] above rest)
