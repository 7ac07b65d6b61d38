-- The tokens of flow lists and maps (YAML 1.2.2, section 7.4), in the bytes of a line.
use Rattle.std.specs.Prelude.{ℕ, zero, suc, ◌+◌, ◌-◌, Bool, true, false, ◌&&◌, ◌||◌, ◌==◌, if◌then◌else◌, List, [], ◌∷◌, take, drop, length, Option, Some, None, option_map}
use Rattle.doc_tree.specs.Doc.{words}
use Rattle.yaml_subset.specs.Signs.{colon_at, is_flow_sign, is_quote, trimmed}
use Rattle.yaml_subset.specs.Quoted.{begins, quoted_text, text_in}
use Rattle.yaml_subset.specs.Scalar.{is_plain, plain_doc}
use Rattle.yaml_subset.specs.declared.token.Token.{Token}
use Rattle.yaml_subset.specs.declared.token.Token.TheVariants.{OpenList, OpenMap, CloseList, CloseMap, Comma, Key, Scalar}

-- the text up to the first sign of a flow
abbrev pub before_sign : List ℕ → List ℕ
before_sign [] = []
before_sign (b ∷ text) = if is_flow_sign b then [] else b ∷ before_sign text

-- a colon and a space
abbrev pub is_key_end : List ℕ → Bool
is_key_end [] = false
is_key_end (b ∷ text) = b == 58 && begins 32 text

-- what may stand behind a quoted scalar
abbrev pub ends_scalar : List ℕ → Bool
ends_scalar [] = true
ends_scalar (b ∷ text) = b == 32 || is_flow_sign b

-- a quoted key or scalar, and how many bytes stand behind its first one
abbrev pub behind_quotes : List ℕ → ℕ → List ℕ → Option (Token × ℕ)
behind_quotes s n rest = if is_key_end rest then Some (Key s, n + 1) else (if ends_scalar rest then Some (Scalar (words s), n) else None)

abbrev pub quoted_token : Option (List ℕ × ℕ) → List ℕ → Option (Token × ℕ)
quoted_token None text = None
quoted_token (Some p) text = behind_quotes p.0 p.1 (drop p.1 text)

-- a plain key: a space follows its colon
abbrev pub plain_key : ℕ → List ℕ → Option (Token × ℕ)
plain_key i key = if is_plain key then option_map (λ k. (Key k, i)) (text_in key) else None

-- a plain key or scalar, and how many bytes stand behind its first one
abbrev pub plain_token : Option ℕ → List ℕ → List ℕ → Option (Token × ℕ)
plain_token None plain text = option_map (λ d. (Scalar d, length plain - 1)) (plain_doc plain)
plain_token (Some i) plain text = if begins 32 (drop i text) then plain_key i (trimmed (take i plain)) else None

-- the sign of a flow that this byte is
abbrev pub sign_of : ℕ → Option Token
sign_of b =
    if b == 91 then Some OpenList
    else (if b == 93 then Some CloseList else (if b == 123 then Some OpenMap else (if b == 125 then Some CloseMap else (if b == 44 then Some Comma else None))))

abbrev pub scalar_token : ℕ → List ℕ → Option (Token × ℕ)
scalar_token b text =
    if is_quote b then quoted_token (quoted_text b text) text else plain_token (colon_at (trimmed (before_sign (b ∷ text)))) (trimmed (before_sign (b ∷ text))) text

abbrev pub token_with : Option Token → ℕ → List ℕ → Option (Token × ℕ)
token_with None b text = scalar_token b text
token_with (Some sign) b text = Some (sign, 0)

-- the token that begins with this byte, and how many bytes of it stand behind that
abbrev pub token_at : ℕ → List ℕ → Option (Token × ℕ)
token_at b text = token_with (sign_of b) b text

-- a token, and then those found so many bytes further on
abbrev pub next_token : Option (Token × ℕ) → (ℕ → Option (List Token)) → Option (List Token)
next_token None rest = None
next_token (Some p) rest = option_map (λ ts. p.0 ∷ ts) (rest p.1)

-- the tokens up to the end of the line or its comment, where so many bytes are passed over first
abbrev pub tokens : ℕ → List ℕ → Option (List Token)
tokens n [] = Some []
tokens zero (b ∷ text) = if b == 32 then (if begins 35 text then Some [] else tokens 0 text) else next_token (token_at b text) (λ n. tokens n text)
tokens (suc n) (b ∷ text) = tokens n text
