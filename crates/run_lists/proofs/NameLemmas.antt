-- Names in items, and where the first `::` parts them.
use Rattle.std.proofs.Common.{◌≡◌, ◌≢◌, ℕ, zero, suc, ◌<◌, ◌≤◌, ◌&&◌, ◌==◌, true, nat_lt, nat_le, List, [], ◌∷◌, length, take, drop, Some, None, refl, arith, inl, inr}
use Rattle.std.specs.List.{list_all}
use Rattle.std.proofs.lemmas.Bool.{and_from, and_parts, cases_Bool, eqb-true}
use Rattle.doc_tree.specs.Name.{is_name, is_name_byte}
use Rattle.run_lists.specs.Names.{is_item_name, is_item_name_byte, parted}

is_name_byte-item : (b : ℕ) → is_item_name_byte b ≡ true → is_name_byte b ≡ true
is_name_byte-item b item = grind arith

are_name_bytes-item : (bs : List ℕ) → list_all is_item_name_byte bs ≡ true → list_all is_name_byte bs ≡ true
are_name_bytes-item [] item = refl
are_name_bytes-item (b ∷ bs) item =
    let parts = and_parts (is_item_name_byte b) (list_all is_item_name_byte bs) item in
    and_from (is_name_byte b) (list_all is_name_byte bs) (is_name_byte-item b parts.0) (are_name_bytes-item bs parts.1)

-- an item's name is a name
pub is_name-item : (bs : List ℕ) → is_item_name bs ≡ true → is_name bs ≡ true
is_name-item bs item =
    let parts = and_parts (nat_lt 0 (length bs) && nat_le (length bs) 255) (list_all is_item_name_byte bs) item in
    and_from (nat_lt 0 (length bs) && nat_le (length bs) 255) (list_all is_name_byte bs) parts.0 (are_name_bytes-item bs parts.1)

-- the first `::` parts a name
pub parted-found : (name : List ℕ) (i : ℕ) (rest : List ℕ) → ((k : ℕ) → k < i → (r : List ℕ) → drop k name ≢ 58 ∷ 58 ∷ r)
    → drop i name ≡ 58 ∷ 58 ∷ rest → parted name ≡ Some (take i name, rest)
parted-found [] zero rest none e = cc e
parted-found [] (suc i) rest none e = cc e
parted-found (b ∷ []) zero rest none e = cc e
parted-found (b ∷ []) (suc zero) rest none e = cc e
parted-found (b ∷ []) (suc (suc i)) rest none e = cc e
parted-found (b ∷ c ∷ r) zero rest none e =
    let first : b ≡ 58 = cc e in
    let second : c ≡ 58 = cc e in
    let same : r ≡ rest = cc e in
    rw (first, second, same) refl
parted-found (b ∷ c ∷ r) (suc i) rest none e = elim (cases_Bool (b == 58 && c == 58)) [
  | inl both ↦
      let parts = and_parts (b == 58) (c == 58) both in
      let first = eqb-true b 58 parts.0 in
      let second = eqb-true c 58 parts.1 in
      absurd (none 0 (omega arith) r (rw (first, second) refl))
  | inr other ↦
      let more = parted-found (c ∷ r) i rest (λ k below t f. none (suc k) (omega arith) t f) e in
      rw (other, more) refl
]

-- where there is none, the name is not parted
pub parted-none : (name : List ℕ) → ((k : ℕ) → k ≤ length name → (r : List ℕ) → drop k name ≢ 58 ∷ 58 ∷ r) → parted name ≡ None
parted-none [] none = refl
parted-none (b ∷ []) none = refl
parted-none (b ∷ c ∷ r) none = elim (cases_Bool (b == 58 && c == 58)) [
  | inl both ↦
      let parts = and_parts (b == 58) (c == 58) both in
      let first = eqb-true b 58 parts.0 in
      let second = eqb-true c 58 parts.1 in
      absurd (none 0 (omega arith) r (rw (first, second) refl))
  | inr other ↦
      let more = parted-none (c ∷ r) (λ k within t f. none (suc k) (omega arith) t f) in
      rw (other, more) refl
]
