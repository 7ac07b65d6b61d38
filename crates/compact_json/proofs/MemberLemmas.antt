-- The members of an object go in one after another, each above those before it.
use Rattle.std.proofs.Common.{◌≡◌, ℕ, List, [], ◌∷◌, ◌++◌, Less, Greater, nat_cmp, refl, ap, ◌∙◌}
use Rattle.std.proofs.lemmas.Cmp.{nat_list_cmp_total}
use Rattle.std.specs.Cmp.Lexicographic.{slice_cmp}
use Rattle.std.specs.List.{AllByRecursion}
use Rattle.std.specs.List.Sorted.{IsStrictlySortedBy}
use Rattle.std.specs.Map.{keys_of}
use Rattle.std.specs.Ordering.{ordering_reverse}
use Rattle.serde_json.specs.Data as json
use Rattle.doc_tree.specs.Data.{data_of, members_of}
use Rattle.doc_tree.specs.Doc.{Doc, pairs_of}
use Rattle.doc_tree.specs.Valid.{InOrder}

below_later : (first : List ℕ) (done : List (List ℕ × Doc)) (p : List ℕ × Doc) (more : List (List ℕ × Doc)) → AllByRecursion (λ y. slice_cmp nat_cmp first y ≡ Less) (keys_of (done ++ p ∷ more))
    → slice_cmp nat_cmp first p.0 ≡ Less
below_later first [] p more h = h.0
below_later first (q ∷ done) p more h = below_later first done p more h.1

pub put_last : (done : List (List ℕ × Doc)) (k : List ℕ) (d : Doc) (more : List (List ℕ × Doc)) → InOrder (keys_of (done ++ (k, d) ∷ more))
    → json.put k (data_of d) (members_of (pairs_of done)) ≡ members_of (pairs_of (done ++ (k, d) ∷ []))
unfolding IsStrictlySortedBy
put_last [] k d more order = refl
put_last (p ∷ done) k d more order =
    let above : slice_cmp nat_cmp k p.0 ≡ Greater = nat_list_cmp_total.antisymm k p.0 ∙ ap ordering_reverse (below_later p.0 done (k, d) more order.0) in
    rw above (ap (json.member p.0 (data_of p.1)) (put_last done k d more order.1))
