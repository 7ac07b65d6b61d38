-- A copy of a map with texts as its keys.
use Rattle.std.proofs.Common.{◌≡◌, ℕ, Bool, true, false, cond, List, [], ◌∷◌, Option, None, Some, is_some, bytes_eq, string_bytes, sym, ap, refl, ◌∙◌}
use mathlib.Core.Bool.{true≢false}
use Rattle.std.specs.Cmp.Lexicographic.{bytes_decides, nat_list_eq_equiv}
use Rattle.std.specs.List.{AllByRecursion, IsDistinct}
use Rattle.std.specs.Map.{lookup, keys_of}
use Rattle.std.specs.Option.{option_or}
use Rattle.std.specs.String.{string_eq}
use Rattle.std.specs.declared.alloc.Global.{Global}
use Rattle.std.specs.declared.random_state.RandomState.{RandomState}
use Rattle.std.specs.declared.string.String.{String}
use Rattle.indexmap.specs.IndexMap.{IndexMap, get_by_text}
use Rattle.doc_tree.specs.Doc.{Doc}

-- the key has this text
abbrev pub text : List ℕ → String Global → Bool
text w k = bytes_eq w (string_bytes k)

-- a text that is that of no key isn't found
absent : {V : Type 0} (w : List ℕ) (k : String Global) (es : List (String Global × V)) → bytes_eq (string_bytes k) w ≡ true → AllByRecursion (λ l. string_eq k l ≡ false) (keys_of es) → lookup (text w) es ≡ None
absent w k [] own apart = refl
absent w k (e ∷ es) own apart =
    let same : string_bytes k ≡ w = (bytes_decides (string_bytes k) w).0 own in
    ap (λ b. cond b (Some e.1) (lookup (text w) es)) (ap (λ t. bytes_eq t (string_bytes e.0)) (sym same) ∙ apart.0) ∙ absent w k es own apart.1

module _ {V : Type 0} (shown : Option V → List ℕ → Option Doc) where
  -- a copy has these entries so far, and these are left
  pub record Copied (whole : List (String Global × V)) (made : IndexMap (String Global) V RandomState) (left : List (String Global × V)) : Type 0 where
    pub same : (w n : List ℕ) → shown (option_or (get_by_text made w) (lookup (text w) left)) n ≡ shown (lookup (text w) whole) n
    pub apart : (w : List ℕ) → is_some (lookup (text w) left) ≡ true → get_by_text made w ≡ None
    pub distinct : IsDistinct string_eq (keys_of left)

  -- nothing is copied yet
  pub Copied-none : (whole : List (String Global × V)) (made : IndexMap (String Global) V RandomState) → made.entries ≡ [] → IsDistinct string_eq (keys_of whole) → Copied whole made whole
  Copied-none whole made empty distinct = record {
    same = λ w n. ap (λ es. shown (option_or (lookup (text w) es) (lookup (text w) whole)) n) empty;
    apart = λ w there. ap (lookup (text w)) empty;
    distinct = distinct;
  }

  -- one entry more is copied
  pub Copied-more : (whole : List (String Global × V)) (made now : IndexMap (String Global) V RandomState) (k : String Global) (v : V) (rest : List (String Global × V)) (copied : String Global) (fresh : V)
      → Copied whole made ((k, v) ∷ rest) → string_bytes copied ≡ string_bytes k → ((n : List ℕ) → shown (Some fresh) n ≡ shown (Some v) n)
      → ((w : List ℕ) → get_by_text now w ≡ cond (bytes_eq (string_bytes copied) w) (Some fresh) (get_by_text made w))
      → Copied whole now rest
  unfolding IsDistinct
  Copied-more whole made now k v rest copied fresh before same_text same_value written = record {
    same = λ w n. same_at w n (bytes_eq (string_bytes k) w) refl;
    apart = λ w there. apart_at w there (bytes_eq (string_bytes k) w) refl;
    distinct = before.distinct.1;
  }
    where
      now_at : (w : List ℕ) → get_by_text now w ≡ cond (bytes_eq (string_bytes k) w) (Some fresh) (get_by_text made w)
      now_at w = written w ∙ ap (λ t. cond (bytes_eq t w) (Some fresh) (get_by_text made w)) same_text

      left_at : (w : List ℕ) → lookup (text w) ((k, v) ∷ rest) ≡ cond (bytes_eq (string_bytes k) w) (Some v) (lookup (text w) rest)
      left_at w = ap (λ b. cond b (Some v) (lookup (text w) rest)) (nat_list_eq_equiv.symm w (string_bytes k))

      same_at : (w n : List ℕ) (b : Bool) → bytes_eq (string_bytes k) w ≡ b → shown (option_or (get_by_text now w) (lookup (text w) rest)) n ≡ shown (lookup (text w) whole) n
      same_at w n true own =
          let here : lookup (text w) ((k, v) ∷ rest) ≡ Some v = left_at w ∙ ap (λ b. cond b (Some v) (lookup (text w) rest)) own in
          let none : get_by_text made w ≡ None = before.apart w (ap is_some here) in
          ap (λ o. shown (option_or o (lookup (text w) rest)) n) (now_at w ∙ ap (λ b. cond b (Some fresh) (get_by_text made w)) own)
          ∙ same_value n
          ∙ ap (λ o. shown o n) (sym (ap (λ o. option_or o (lookup (text w) ((k, v) ∷ rest))) none ∙ here))
          ∙ before.same w n
      same_at w n false own =
          ap (λ o. shown (option_or o (lookup (text w) rest)) n) (now_at w ∙ ap (λ b. cond b (Some fresh) (get_by_text made w)) own)
          ∙ ap (λ o. shown (option_or (get_by_text made w) o) n) (sym (left_at w ∙ ap (λ b. cond b (Some v) (lookup (text w) rest)) own))
          ∙ before.same w n

      apart_at : (w : List ℕ) → is_some (lookup (text w) rest) ≡ true → (b : Bool) → bytes_eq (string_bytes k) w ≡ b → get_by_text now w ≡ None
      apart_at w there true own = absurd (true≢false (sym there ∙ ap is_some (absent w k rest own before.distinct.0)))
      apart_at w there false own =
          now_at w
          ∙ ap (λ b. cond b (Some fresh) (get_by_text made w)) own
          ∙ before.apart w (ap is_some (left_at w ∙ ap (λ b. cond b (Some v) (lookup (text w) rest)) own) ∙ there)

  -- all are copied
  pub Copied-all : (whole left : List (String Global × V)) (made : IndexMap (String Global) V RandomState) → Copied whole made left → left ≡ [] → (w n : List ℕ) → shown (get_by_text made w) n ≡ shown (lookup (text w) whole) n
  Copied-all whole left made copied none w n =
      ap (λ o. shown o n) (or-none (get_by_text made w))
      ∙ ap (λ es. shown (option_or (get_by_text made w) (lookup (text w) es)) n) (sym none)
      ∙ copied.same w n
    where
      or-none : (o : Option V) → o ≡ option_or o None
      or-none None = refl
      or-none (Some v) = refl
