-- From `serde_json`'s values to trees.
use Rattle.std.proofs.Common.{◌≡◌, ℕ, List, [], ◌∷◌, ◌++◌, map, Bool, true, false, Option, Some, None, option_map, Less, nat_cmp, String, Global, string_bytes, string_cmp, IsUtf8, refl, sym, ap, ◌∙◌, append_assoc}
use Rattle.std.proofs.lemmas.List.{map-append}
use Rattle.std.proofs.lemmas.Str.{IsUtf8-from_is_utf8, is_utf8-from_IsUtf8}
use Rattle.std.specs.Cmp.Lexicographic.{slice_cmp}
use Rattle.std.specs.List.{AllByRecursion}
use Rattle.std.specs.List.Sorted.{IsStrictlySortedBy}
use Rattle.std.specs.Map.{keys_of}
use Rattle.std.specs.Str.{is_utf8}
use Rattle.serde_json.specs.Data.{Data}
use Rattle.serde_json.specs.Read.{read}
use Rattle.serde_json.specs.View.{view, members_view}
use Rattle.serde_json.specs.declared.value.Value.{Value}
use Rattle.doc_tree.specs.Data.{doc_in, pairs_in}
use Rattle.doc_tree.specs.Doc.{Doc}
use Rattle.doc_tree.specs.Read.{json_value}
use Rattle.doc_tree.specs.Valid.{InOrder}

abbrev pub Entry : Type 0
Entry = String Global × Value

-- ---- the value of bytes

pub json_value-some : (bytes : List ℕ) (d : Data) → IsUtf8 bytes → read bytes ≡ Some d → json_value bytes ≡ Some d
json_value-some bytes d text is = rw (is_utf8-from_IsUtf8 bytes text) is

json_value-at : (bytes : List ℕ) (b : Bool) → is_utf8 bytes ≡ b → (IsUtf8 bytes → read bytes ≡ None) → json_value bytes ≡ None
json_value-at bytes true is none = rw is (none (IsUtf8-from_is_utf8 bytes is))
json_value-at bytes false is none = rw is

pub json_value-none : (bytes : List ℕ) → (IsUtf8 bytes → read bytes ≡ None) → json_value bytes ≡ None
json_value-none bytes none = json_value-at bytes _ refl none

-- ---- the members of an object, one by one

below_front : (first : List ℕ) (done : List Entry) (e : Entry) (more : List Entry) → AllByRecursion (λ (y : String Global). slice_cmp nat_cmp first (string_bytes y) ≡ Less) (keys_of (done ++ e ∷ more))
    → AllByRecursion (λ y. slice_cmp nat_cmp first y ≡ Less) (map (λ (e : Entry). string_bytes e.0) done ++ string_bytes e.0 ∷ [])
below_front first [] e more h = (h.0, tt)
below_front first (d ∷ done) e more h = (h.0, below_front first done e more h.1)

-- the keys of a map's first entries are in order
pub InOrder-front : (done : List Entry) (e : Entry) (more : List Entry) → IsStrictlySortedBy string_cmp (keys_of (done ++ e ∷ more))
    → InOrder (map (λ (e : Entry). string_bytes e.0) done ++ string_bytes e.0 ∷ [])
unfolding IsStrictlySortedBy
InOrder-front [] e more h = (tt, tt)
InOrder-front (d ∷ done) e more h = (below_front (string_bytes d.0) done e more h.0, InOrder-front done e more h.1)

then_rest : (fields : List (List ℕ × Doc)) (p : List ℕ × Doc) (o : Option (List (List ℕ × Doc))) → option_map (λ rest. fields ++ rest) (option_map (λ ps. p ∷ ps) o) ≡ option_map (λ rest. (fields ++ p ∷ []) ++ rest) o
then_rest fields p None = refl
then_rest fields p (Some ps) = ap Some (sym (append_assoc fields (p ∷ []) ps))

-- one more member becomes one more pair, under its name
pub keys_of-step : (done : List Entry) (e : Entry) (fields new : List (List ℕ × Doc)) (k : List ℕ) (d : Doc) → keys_of fields ≡ map (λ (e : Entry). string_bytes e.0) done → k ≡ string_bytes e.0
    → new ≡ fields ++ (k, d) ∷ [] → keys_of new ≡ map (λ (e : Entry). string_bytes e.0) (done ++ e ∷ [])
keys_of-step done e fields new k d names named is =
    rw (is, map-append (λ (p : List ℕ × Doc). p.0) fields ((k, d) ∷ []), map-append (λ (e : Entry). string_bytes e.0) done (e ∷ []), names, named)

pub pairs_in-step : (all : Option (List (List ℕ × Doc))) (left after : List Entry) (e : Entry) (fields new : List (List ℕ × Doc)) (k : List ℕ) (d : Doc) → left ≡ e ∷ after → doc_in (view e.1) ≡ Some d
    → k ≡ string_bytes e.0 → new ≡ fields ++ (k, d) ∷ [] → all ≡ option_map (λ rest. fields ++ rest) (pairs_in (members_view left)) → all ≡ option_map (λ rest. new ++ rest) (pairs_in (members_view after))
pairs_in-step all left after e fields new k d steps is named grown so_far =
    rw (grown, named) (so_far ∙ rw (steps, is) (then_rest fields (string_bytes e.0, d) (pairs_in (members_view after))))
