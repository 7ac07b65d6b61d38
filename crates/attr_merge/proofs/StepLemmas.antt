-- One key more of a dict that is merged.
use Rattle.std.proofs.Common.{◌≡◌, ℕ, List, [], ◌∷◌, ◌++◌, Bool, true, false, None, option_and_then, nat_cmp, is_eq, bytes_eq, refl, sym, ap, subst, ◌∙◌}
use Rattle.std.proofs.lemmas.Map.Text.{is_eq-slice_cmp}
use Rattle.std.specs.BTreeMap.{is_at}
use Rattle.std.specs.Cmp.Lexicographic.{slice_cmp, nat_list_eq_equiv}
use Rattle.std.specs.List.Sorted.{IsStrictlySortedBy}
use Rattle.std.specs.Map.{lookup, keys_of}
use Rattle.std.specs.declared.vec.Vec.{Vec}
use Rattle.doc_tree.specs.Doc.{Doc, pairs_of}
use Rattle.doc_tree.specs.Part.{at, pair_at, with_pair}
use Rattle.attr_merge.specs.Effective.{IsEffective}
use Rattle.attr_merge.specs.Merged.{origin_at, path_cmp}
use Rattle.attr_merge.specs.Nodes.{below_key}
use Rattle.attr_merge.specs.Parts.{gathered_in, pieces_of}
use Rattle.attr_merge.specs.declared.parts.Part.{Part}
use Rattle.attr_merge.proofs.FieldLemmas.{equal-keys}
use Rattle.attr_merge.proofs.GatheredLemmas.{absent, gathered-other, gathered-own, gathered-none}
use Rattle.attr_merge.proofs.OriginLemmas.{lookup-append-none, lookup-append-other, origin-below-same, origin-below-other}
use Rattle.attr_merge.proofs.PairLemmas.{pair_at-own, pair_at-other}
use Rattle.attr_merge.proofs.SeenLemmas.{effective-same}

-- the leaves of a document, as a list
abbrev Leaves : Type 0
Leaves = List (List (List ℕ) × List ℕ)

module _ {A : Type 0} where
  -- what was merged of entries: at each key, and at each path below it
  abbrev pub AreMerged : List (List ℕ × Vec Part A) → List (List ℕ × Doc) → List (List (List ℕ) × List ℕ) → Type 0
  AreMerged entries fields leaves = (q : List ℕ) (p : List (List ℕ)) → IsEffective (gathered_in entries q) p (option_and_then (at p) (pair_at q (pairs_of fields))) (origin_at (q ∷ p) leaves)

  merged-own : (k : List ℕ) (child : Vec Part A) (entries : List (List ℕ × Vec Part A)) (fields : List (List ℕ × Doc)) (leaves : Leaves) (d : Doc) (below : Leaves)
      → lookup (is_at (slice_cmp nat_cmp k)) entries ≡ None → AreMerged entries fields leaves
      → ((p : List (List ℕ)) → IsEffective (pieces_of child.items) p (at p d) (origin_at p below))
      → (p : List (List ℕ)) → IsEffective (gathered_in (entries ++ (k, child) ∷ []) k) p (option_and_then (at p) (pair_at k (pairs_of (with_pair k d fields)))) (origin_at (k ∷ p) (leaves ++ below_key k below))
  merged-own k child entries fields leaves d below none before node p =
      let nothing : IsEffective [] p (option_and_then (at p) (pair_at k (pairs_of fields))) (origin_at (k ∷ p) leaves) = effective-same p (gathered-none k entries none) refl refl (before k p) in
      let origin : origin_at (k ∷ p) (leaves ++ below_key k below) ≡ origin_at p below = lookup-append-none (is_at (path_cmp (k ∷ p))) leaves (below_key k below) nothing.1 ∙ origin-below-same k p below in
      effective-same p (sym (gathered-own k entries child [] none)) (ap (option_and_then (at p)) (sym (pair_at-own k d fields))) (sym origin) (node p)

  merged-other : (q k : List ℕ) (child : Vec Part A) (entries : List (List ℕ × Vec Part A)) (fields : List (List ℕ × Doc)) (leaves : Leaves) (d : Doc) (below : Leaves)
      → is_eq (slice_cmp nat_cmp q k) ≡ false → AreMerged entries fields leaves
      → (p : List (List ℕ)) → IsEffective (gathered_in (entries ++ (k, child) ∷ []) q) p (option_and_then (at p) (pair_at q (pairs_of (with_pair k d fields)))) (origin_at (q ∷ p) (leaves ++ below_key k below))
  merged-other q k child entries fields leaves d below other before p =
      let apart : bytes_eq k q ≡ false = nat_list_eq_equiv.symm k q ∙ sym (is_eq-slice_cmp q k) ∙ other in
      effective-same p (sym (gathered-other q k entries child other)) (ap (option_and_then (at p)) (sym (pair_at-other q k d fields apart)))
      (sym (lookup-append-other (is_at (path_cmp (q ∷ p))) leaves (below_key k below) (origin-below-other q k p below other))) (before q p)

  -- the entries with one more of which a document was merged
  pub merged-more : (k : List ℕ) (child : Vec Part A) (entries : List (List ℕ × Vec Part A)) (fields : List (List ℕ × Doc)) (leaves : List (List (List ℕ) × List ℕ)) (d : Doc) (below : List (List (List ℕ) × List ℕ))
      → lookup (is_at (slice_cmp nat_cmp k)) entries ≡ None → AreMerged entries fields leaves
      → ((p : List (List ℕ)) → IsEffective (pieces_of child.items) p (at p d) (origin_at p below))
      → AreMerged (entries ++ (k, child) ∷ []) (with_pair k d fields) (leaves ++ below_key k below)
  merged-more k child entries fields leaves d below none before node q p = by_key (is_eq (slice_cmp nat_cmp q k)) refl
    where
      by_key : (b : Bool) → is_eq (slice_cmp nat_cmp q k) ≡ b
          → IsEffective (gathered_in (entries ++ (k, child) ∷ []) q) p (option_and_then (at p) (pair_at q (pairs_of (with_pair k d fields)))) (origin_at (q ∷ p) (leaves ++ below_key k below))
      by_key true same =
          let keys : k ≡ q = sym (equal-keys q k (sym (is_eq-slice_cmp q k) ∙ same)) in
          let P : List ℕ → Type 0 = λ l. IsEffective (gathered_in (entries ++ (k, child) ∷ []) l) p (option_and_then (at p) (pair_at l (pairs_of (with_pair k d fields)))) (origin_at (l ∷ p) (leaves ++ below_key k below)) in
          subst P keys (merged-own k child entries fields leaves d below none before node p)
      by_key false other = merged-other q k child entries fields leaves d below other before p

  none-gathered : (q k : List ℕ) (child : Vec Part A) (entries : List (List ℕ × Vec Part A)) → child.items ≡ [] → lookup (is_at (slice_cmp nat_cmp k)) entries ≡ None → gathered_in (entries ++ (k, child) ∷ []) q ≡ gathered_in entries q
  none-gathered q k child entries empty none = by_key (is_eq (slice_cmp nat_cmp q k)) refl
    where
      by_key : (b : Bool) → is_eq (slice_cmp nat_cmp q k) ≡ b → gathered_in (entries ++ (k, child) ∷ []) q ≡ gathered_in entries q
      by_key true same =
          let keys : k ≡ q = sym (equal-keys q k (sym (is_eq-slice_cmp q k) ∙ same)) in
          let P : List ℕ → Type 0 = λ l. gathered_in (entries ++ (k, child) ∷ []) l ≡ gathered_in entries l in
          subst P keys (gathered-own k entries child [] none ∙ ap pieces_of empty ∙ sym (gathered-none k entries none))
      by_key false other = gathered-other q k entries child other

  -- the entries with one more that has nothing
  pub merged-same : (k : List ℕ) (child : Vec Part A) (entries : List (List ℕ × Vec Part A)) (fields : List (List ℕ × Doc)) (leaves : List (List (List ℕ) × List ℕ))
      → child.items ≡ [] → lookup (is_at (slice_cmp nat_cmp k)) entries ≡ None → AreMerged entries fields leaves
      → AreMerged (entries ++ (k, child) ∷ []) fields leaves
  merged-same k child entries fields leaves empty none before q p = effective-same p (sym (none-gathered q k child entries empty none)) refl refl (before q p)

  -- an entry of ordered ones: its key isn't among those before it, and its child is what is gathered at its key
  pub entry-turn : (all before after : List (List ℕ × Vec Part A)) (k : List ℕ) (child : Vec Part A) → all ≡ before ++ (k, child) ∷ after → IsStrictlySortedBy (slice_cmp nat_cmp) (keys_of all)
      → (lookup (is_at (slice_cmp nat_cmp k)) before ≡ None) × (pieces_of child.items ≡ gathered_in all k)
  entry-turn all before after k child is order =
      let none : lookup (is_at (slice_cmp nat_cmp k)) before ≡ None = absent before k child after (subst (λ (es : List (List ℕ × Vec Part A)). IsStrictlySortedBy (slice_cmp nat_cmp) (keys_of es)) is order) in
      (none, sym (gathered-own k before child after none) ∙ ap (λ (es : List (List ℕ × Vec Part A)). gathered_in es k) (sym is))
