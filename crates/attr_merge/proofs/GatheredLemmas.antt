-- What is gathered at keys, as the entries of an ordered map are gone through.
use Rattle.std.proofs.Common.{◌≡◌, ℕ, List, [], ◌∷◌, ◌++◌, Bool, true, false, cond, Option, Some, None, Ordering, Less, Greater, nat_cmp, is_eq, bytes_eq, if◌then◌else◌, refl, sym, ap, ◌∙◌}
use Rattle.std.proofs.lemmas.Cmp.{nat_list_cmp_total}
use Rattle.std.proofs.lemmas.List.{append-nil}
use Rattle.std.proofs.lemmas.Map.Text.{is_eq-slice_cmp}
use Rattle.std.specs.BTreeMap.{is_at}
use Rattle.std.specs.Cmp.Lexicographic.{slice_cmp}
use Rattle.std.specs.List.{AllByRecursion}
use Rattle.std.specs.List.Sorted.{IsStrictlySortedBy}
use Rattle.std.specs.Map.{lookup, keys_of}
use Rattle.std.specs.Ordering.{ordering_reverse}
use Rattle.std.specs.declared.vec.Vec.{Vec}
use Rattle.attr_merge.specs.Parts.{gathered_in, found_pieces, pieces_of}
use Rattle.attr_merge.specs.Pieces.{Piece}
use Rattle.attr_merge.specs.declared.parts.Part.{Part}
use Rattle.attr_merge.proofs.FieldLemmas.{equal-keys}
use Rattle.attr_merge.proofs.OriginLemmas.{lookup-append-none, lookup-append-other, key-self}

module _ {X : Type 0} where
  all_at : (P : List ℕ → Type 0) (xs : List (List ℕ × X)) (k : List ℕ) (v : X) (ys : List (List ℕ × X)) → AllByRecursion P (keys_of (xs ++ (k, v) ∷ ys)) → P k
  all_at P [] k v ys all = all.0
  all_at P (x ∷ xs) k v ys all = all_at P xs k v ys all.1

  -- a key isn't among those before it
  pub absent : (xs : List (List ℕ × X)) (k : List ℕ) (v : X) (ys : List (List ℕ × X)) → IsStrictlySortedBy (slice_cmp nat_cmp) (keys_of (xs ++ (k, v) ∷ ys)) → lookup (is_at (slice_cmp nat_cmp k)) xs ≡ None
  unfolding IsStrictlySortedBy
  absent [] k v ys order = refl
  absent (x ∷ xs) k v ys order =
      let below : slice_cmp nat_cmp x.0 k ≡ Less = all_at (λ (y : List ℕ). slice_cmp nat_cmp x.0 y ≡ Less) xs k v ys order.0 in
      let above : slice_cmp nat_cmp k x.0 ≡ Greater = nat_list_cmp_total.antisymm k x.0 ∙ ap ordering_reverse below in
      ap (λ (o : Ordering). cond (is_eq o) (Some x.1) (lookup (is_at (slice_cmp nat_cmp k)) xs)) above ∙ absent xs k v ys order.1

module _ {A : Type 0} where
  pub gathered-other : (q k : List ℕ) (xs : List (List ℕ × Vec Part A)) (child : Vec Part A) → is_eq (slice_cmp nat_cmp q k) ≡ false → gathered_in (xs ++ (k, child) ∷ []) q ≡ gathered_in xs q
  gathered-other q k xs child other =
      ap found_pieces (lookup-append-other (is_at (slice_cmp nat_cmp q)) xs ((k, child) ∷ []) (ap (λ (b : Bool). cond b (Some child) None) other))

  pub gathered-own : (k : List ℕ) (xs : List (List ℕ × Vec Part A)) (child : Vec Part A) (ys : List (List ℕ × Vec Part A)) → lookup (is_at (slice_cmp nat_cmp k)) xs ≡ None → gathered_in (xs ++ (k, child) ∷ ys) k ≡ pieces_of child.items
  gathered-own k xs child ys none =
      ap found_pieces (lookup-append-none (is_at (slice_cmp nat_cmp k)) xs ((k, child) ∷ ys) none ∙ ap (λ (o : Ordering). cond (is_eq o) (Some child) (lookup (is_at (slice_cmp nat_cmp k)) ys)) (key-self k))

  pub gathered-none : (k : List ℕ) (xs : List (List ℕ × Vec Part A)) → lookup (is_at (slice_cmp nat_cmp k)) xs ≡ None → gathered_in xs k ≡ []
  gathered-none k xs none = ap found_pieces none

-- ---- one part more

module _ {A : Type 0} where
  -- what is gathered where one part went to a key, below those that were there
  pub gathered-added : (q k : List ℕ) (before after : List (List ℕ × Vec Part A)) (old : Option (Vec Part A)) (new : Vec Part A) (piece : Piece)
      → lookup (is_at (slice_cmp nat_cmp q)) after ≡ cond (is_eq (slice_cmp nat_cmp k q)) (Some new) (lookup (is_at (slice_cmp nat_cmp q)) before)
      → lookup (is_at (slice_cmp nat_cmp k)) before ≡ old
      → pieces_of new.items ≡ found_pieces old ++ piece ∷ []
      → gathered_in after q ≡ gathered_in before q ++ (if bytes_eq k q then piece ∷ [] else [])
  gathered-added q k before after old new piece updated was items =
      ap found_pieces (updated ∙ ap (λ (b : Bool). cond b (Some new) (lookup (is_at (slice_cmp nat_cmp q)) before)) (is_eq-slice_cmp k q))
      ∙ at_key (bytes_eq k q) (λ same. sym (ap (λ (l : List ℕ). lookup (is_at (slice_cmp nat_cmp l)) before) (equal-keys k q same)) ∙ was)
    where
      at_key : (b : Bool) → (b ≡ true → lookup (is_at (slice_cmp nat_cmp q)) before ≡ old) → found_pieces (cond b (Some new) (lookup (is_at (slice_cmp nat_cmp q)) before)) ≡ gathered_in before q ++ (if b then piece ∷ [] else [])
      at_key true here = items ∙ ap (λ r. found_pieces r ++ piece ∷ []) (sym (here refl))
      at_key false here = sym (append-nil (gathered_in before q))
