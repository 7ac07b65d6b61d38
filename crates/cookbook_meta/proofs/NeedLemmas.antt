-- One more of the needs that fields tell.
use Rattle.std.proofs.Common.{◌≡◌, ◌<◌, ◌+◌, ℕ, List, [], ◌∷◌, ◌++◌, map, length, drop, get_or, Result, Ok, Err, refl, sym, ap, ◌∙◌, append_assoc}
use Rattle.std.proofs.lemmas.List.{drop_more}
use Rattle.doc_tree.specs.Doc.{Doc, pairs_of}
use Rattle.version_rules.specs.declared.needs.Need.{Need}
use Rattle.cookbook_meta.specs.Faults.{then_do}
use Rattle.cookbook_meta.specs.Metadata.{need_of, needs_in}
use Rattle.cookbook_meta.specs.declared.fault.Flaw.{Flaw}
use Rattle.cookbook_meta.proofs.DoneLemmas.{same_ok}

-- the needs of fields, of which the first is at hand
needs_here : {C : Type 0} (view : C → List ℕ × Doc) (cs : List C) (i : ℕ) (c : C) → i < length cs → c ≡ get_or cs i c
    → needs_in (pairs_of (map view (drop i cs)))
    ≡ then_do (need_of (view c).0 (view c).1) (λ need. then_do (needs_in (pairs_of (map view (drop (i + 1) cs)))) (λ later. Ok (need ∷ later)))
needs_here view cs i c within is =
    ap (λ ds. needs_in (pairs_of (map view ds))) (drop_more cs i c within)
    ∙ ap (λ d. then_do (need_of (view d).0 (view d).1) (λ need. then_do (needs_in (pairs_of (map view (drop (i + 1) cs)))) (λ later. Ok (need ∷ later)))) (sym is)

gone_on : (need : Result Need Flaw) (rest : Result (List Need) Flaw) (made after : List Need) → then_do need (λ n. Ok (made ++ n ∷ [])) ≡ Ok after
    → then_do (then_do need (λ n. then_do rest (λ later. Ok (n ∷ later)))) (λ later. Ok (made ++ later)) ≡ then_do rest (λ later. Ok (after ++ later))
gone_on (Ok n) (Ok later) made after is = ap Ok (sym (append_assoc made (n ∷ []) later) ∙ ap (λ needs. needs ++ later) (same_ok Flaw (made ++ n ∷ []) after is))
gone_on (Ok n) (Err f) made after is = refl
gone_on (Err f) rest made after is = cc

-- after one more, all needs are those so far and then those of the fields that are left
pub needs_more : {C : Type 0} (view : C → List ℕ × Doc) (all : Result (List Need) Flaw) (cs : List C) (i : ℕ) (c : C) (made after : List Need) → i < length cs → c ≡ get_or cs i c
    → then_do (need_of (view c).0 (view c).1) (λ need. Ok (made ++ need ∷ [])) ≡ Ok after
    → all ≡ then_do (needs_in (pairs_of (map view (drop i cs)))) (λ later. Ok (made ++ later))
    → all ≡ then_do (needs_in (pairs_of (map view (drop (i + 1) cs)))) (λ later. Ok (after ++ later))
needs_more view all cs i c made after within is one so_far =
    so_far ∙ ap (λ r. then_do r (λ later. Ok (made ++ later))) (needs_here view cs i c within is)
    ∙ gone_on (need_of (view c).0 (view c).1) (needs_in (pairs_of (map view (drop (i + 1) cs)))) made after one
