-- What is fired by what is heard, one by one.
use Rattle.std.proofs.Common.{◌≡◌, ℕ, zero, suc, ◌+◌, ◌<◌, ◌==◌, true, false, List, [], ◌∷◌, ◌++◌, map, length, take, get_or, set, refl, sym, ap, ◌∙◌, append_assoc, arith}
use Rattle.std.specs.List.{filter}
use Rattle.std.proofs.lemmas.List.{append-nil, map-append, take_more}
use Rattle.std.proofs.lemmas.List.Elements.{filter-append}
use Rattle.resource_core.specs.Links.{fires_from, heard_of}
use Rattle.resource_core.specs.Linking.{with_fire}
use Rattle.resource_core.specs.declared.links.Heard.{Heard}
use Rattle.resource_core.specs.declared.links.Notification.{Notification}

heard_of-append : (place : ℕ) (hs gs : List Heard) → heard_of place (hs ++ gs) ≡ heard_of place hs ++ heard_of place gs
heard_of-append place hs gs =
    ap (map (λ (h : Heard). h.fire)) (filter-append (λ (h : Heard). h.by == place) hs gs)
    ∙ map-append (λ (h : Heard). h.fire) (filter (λ (h : Heard). h.by == place) hs) (filter (λ (h : Heard). h.by == place) gs)

-- what is heard of another place changes nothing
heard_elsewhere : (place : ℕ) (hs : List Heard) (h : Heard) → (h.by == place) ≡ false → heard_of place (hs ++ h ∷ []) ≡ heard_of place hs
heard_elsewhere place hs h other = heard_of-append place hs (h ∷ []) ∙ rw other (append-nil (heard_of place hs))

heard_here : (place : ℕ) (hs : List Heard) (h : Heard) → (h.by == place) ≡ true → heard_of place (hs ++ h ∷ []) ≡ heard_of place hs ++ h.fire ∷ []
heard_here place hs h same = heard_of-append place hs (h ∷ []) ∙ rw same refl

-- those behind the place hear nothing of it
fires_after : (from : ℕ) (own : List (List Notification)) (hs : List Heard) (h : Heard) → h.by < from → fires_from from own (hs ++ h ∷ []) ≡ fires_from from own hs
fires_after from [] hs h less = refl
fires_after from (o ∷ own) hs h less =
    let other : (h.by == from) ≡ false = grind arith in
    λ i. (o ++ heard_elsewhere from hs h other i) ∷ fires_after (suc from) own hs h (omega arith) i

-- one more that is heard of the place so far from the first
fires_at : (from : ℕ) (own : List (List Notification)) (hs : List Heard) (h : Heard) (n : ℕ) → h.by ≡ from + n
    → fires_from from own (hs ++ h ∷ []) ≡ set (fires_from from own hs) n (get_or (fires_from from own hs) n [] ++ h.fire ∷ [])
fires_at from [] hs h n is = refl
fires_at from (o ∷ own) hs h zero is =
    let same : (h.by == from) ≡ true = grind arith in
    λ i. (ap (λ fs. o ++ fs) (heard_here from hs h same) ∙ sym (append_assoc o (heard_of from hs) (h.fire ∷ []))) i ∷ fires_after (suc from) own hs h (omega arith) i
fires_at from (o ∷ own) hs h (suc n) is =
    let other : (h.by == from) ≡ false = grind arith in
    λ i. (o ++ heard_elsewhere from hs h other i) ∷ fires_at (suc from) own hs h n (omega arith) i

-- one more that is heard
pub fires_more : (own : List (List Notification)) (all : List Heard) (i : ℕ) (d : Heard) (fires after : List (List Notification)) → i < length all → fires ≡ fires_from 0 own (take i all)
    → after ≡ with_fire (get_or all i d) fires → after ≡ fires_from 0 own (take (i + 1) all)
fires_more own all i d fires after within so_far pushed =
    let h = get_or all i d in
    pushed ∙ ap (with_fire h) so_far ∙ sym (fires_at 0 own (take i all) h h.by (omega arith))
    ∙ ap (fires_from 0 own) (sym (take_more all i d within))

-- nothing is heard
pub fires_none : (from : ℕ) (own : List (List Notification)) → own ≡ fires_from from own []
fires_none from [] = refl
fires_none from (o ∷ own) = λ i. sym (append-nil o) i ∷ fires_none (suc from) own i
