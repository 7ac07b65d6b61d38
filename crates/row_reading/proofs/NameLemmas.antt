-- Names of rows, split at their first slash.
use Rattle.std.proofs.Common.{◌≡◌, ◌<◌, ◌+◌, ℕ, suc, List, [], ◌∷◌, ◌&&◌, Bool, true, false, cond, not, nat_eq, nat_lt, length, take, drop, Bor, MatchOption, Option, Some, None, option_map, option_and_then, Result, Ok, Err, IfOk, IfSome, refl, sym, ap, ◌∙◌, arith}
use Rattle.std.proofs.lemmas.Bool.{le-ltb, lt-ltb, ltb-true}
use Rattle.std.specs.List.{after_first, before_first, position_or_len}
use Rattle.doc_tree.specs.Kind.{word_of}
use Rattle.doc_tree.specs.Name.{is_name}
use Rattle.doc_tree.specs.declared.kind.Kind.{Kind}
use Rattle.doc_tree.specs.declared.kind.Kind.TheVariants as kinds
use Rattle.object_forms.specs.Forms.{is_id}
use Rattle.object_store.specs.Keys.{key}
use Rattle.object_store.specs.Shelving.{has_slash, is_slash}
use Rattle.outside_keeper.specs.Rows.{row_key}
use Rattle.org_rows.specs.Places.{IsPlace, behind_none, item_place, lengthened, object, place_in, split_as, split_at_slash, where_}
use Rattle.org_rows.proofs.PlaceLemmas.{IsPlace-place_of}
use Rattle.org_rows.proofs.WordLemmas.{kind_named-word, split-whole}
use Rattle.row_reading.proofs.TextLemmas.{same_truth}
use Rattle.row_reading.specs.Seen.{place_seen}
use Rattle.row_reading.specs.declared.place.Place.{Place}

lengthened_if : (c : ℕ) (before behind : List ℕ) (b : Bool) → option_map (lengthened c) (cond b (Some (before, behind)) None) ≡ cond b (Some (c ∷ before, behind)) None
lengthened_if c before behind true = refl
lengthened_if c before behind false = refl

-- one character more in front
shift : (c : ℕ) (rest : List ℕ) (n m k : ℕ) → m ≡ suc n → k ≡ suc (n + 1)
    → option_map (lengthened c) (cond (nat_lt n (length rest)) (Some (take n rest, drop (n + 1) rest)) None) ≡ cond (nat_lt m (suc (length rest))) (Some (take m (c ∷ rest), drop k (c ∷ rest))) None
shift c rest n m k more further =
    let same : nat_lt n (length rest) ≡ nat_lt m (suc (length rest)) =
    same_truth (nat_lt n (length rest)) (nat_lt m (suc (length rest)))
    (λ lt. lt-ltb m (suc (length rest)) (omega (arith, ltb-true n (length rest) lt, more)))
    (λ lt. lt-ltb n (length rest) (omega (arith, ltb-true m (suc (length rest)) lt, more))) in
    lengthened_if c (take n rest) (drop (n + 1) rest) (nat_lt n (length rest))
    ∙ (λ i. cond (same i) (Some (take (sym more i) (c ∷ rest), drop (sym further i) (c ∷ rest))) None)

-- the first slash by its place
split_is : (text : List ℕ) → split_at_slash text ≡ cond (has_slash text) (Some (before_first is_slash text, after_first is_slash text)) None
split_is [] = refl
split_is (c ∷ rest) =
    elim (nat_eq c 47) as (λ b. cond b (Some (behind_none rest)) (option_map (lengthened c) (split_at_slash rest))
    ≡ cond (nat_lt (cond (not b) (1 + position_or_len is_slash rest) 0) (suc (length rest)))
    (Some (take (cond (not b) (1 + position_or_len is_slash rest) 0) (c ∷ rest), drop (cond (not b) (1 + position_or_len is_slash rest) 0 + 1) (c ∷ rest))) None) [
      | true ↦ sym (ap (λ b. cond {A = Option (List ℕ × List ℕ)} b (Some (behind_none rest)) None) (lt-ltb 0 (suc (length rest)) (omega arith)))
      | false ↦
          ap (option_map (lengthened c)) (split_is rest)
          ∙ shift c rest (position_or_len is_slash rest) (1 + position_or_len is_slash rest) (1 + position_or_len is_slash rest + 1) (omega arith) (omega arith)
    ]

-- the parts that are found at the first slash are those before and behind it
pub split_told : (text : List ℕ) (found : Option (Bor (List ℕ) × Bor (List ℕ)))
    → MatchOption found (position_or_len is_slash text ≡ length text) (λ x. (position_or_len is_slash text < length text) × (x.0.now ≡ before_first is_slash text) × (x.1.now ≡ after_first is_slash text))
    → option_map (λ (parts : Bor (List ℕ) × Bor (List ℕ)). (parts.0.now, parts.1.now)) found ≡ split_at_slash text
split_told text None none =
    sym (split_is text ∙ ap (λ b. cond b (Some (before_first is_slash text, after_first is_slash text)) None) (le-ltb (position_or_len is_slash text) (length text) (omega (arith, none))))
split_told text (Some parts) some =
    (λ i. Some (some.1 i, some.2 i))
    ∙ sym (split_is text ∙ ap (λ b. cond b (Some (before_first is_slash text, after_first is_slash text)) None) (lt-ltb (position_or_len is_slash text) (length text) some.0))

-- an item is of its whole name
pub item_told : (name bag id : List ℕ) → split_at_slash name ≡ Some (bag, id) → where_ (is_name bag && is_id id) (object (key kinds.Item name)) ≡ split_as item_place name
item_told name bag id parts =
    ap (λ n. where_ (is_name bag && is_id id) (object (key kinds.Item n))) (sym (split-whole name bag id parts))
    ∙ sym (ap (option_and_then (λ (p : List ℕ × List ℕ). item_place p.0 p.1)) parts)

own_some : (kind : Kind) (name : List ℕ) (found : Option Place) → option_map place_seen found ≡ place_in kind name → IfSome found (λ place. IsPlace (place_seen place))
own_some kind name None is = tt
own_some kind name (Some place) is =
    IsPlace-place_of (row_key [] (word_of kind) name) (place_seen place) (ap (option_and_then (λ k. place_in k name)) (kind_named-word kind) ∙ sym is)

-- the row of a place that is told is of that place
pub own_ok : {E : Type 0} (kind : Kind) (name : List ℕ) (r : Result (Option Place) E) → IfOk r (λ found. option_map place_seen found ≡ place_in kind name) → IfOk r (λ found. IfSome found (λ place. IsPlace (place_seen place)))
own_ok kind name (Ok found) is = own_some kind name found is
own_ok kind name (Err e) is = tt
