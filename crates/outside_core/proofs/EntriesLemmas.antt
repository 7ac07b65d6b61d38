-- A file that is put in is found by its name, and every other as before.
use Rattle.std.proofs.Common.{◌≡◌, ◌≢◌, ℕ, Bool, true, false, cond, List, [], ◌∷◌, Some, None, refl, sym, ap, subst, ◌∙◌, bytes_eq, Result, Ok, Err, OnOk, is_ok, true≢false}
use Rattle.std.specs.Cmp.Lexicographic.{bytes_decides, nat_list_eq_equiv}
use Rattle.std.specs.Map.{lookup}
use Rattle.indexmap.specs.IndexMap.{insert_entry}
use Rattle.outside_core.specs.Disk.{Replaces}
use Rattle.outside_core.specs.MemoryDisk.{files_in}

-- names that are not the same are told apart
apart : (a b : List ℕ) (r : Bool) → bytes_eq a b ≡ r → a ≢ b → bytes_eq a b ≡ false
apart a b true e differ = absurd (differ ((bytes_decides a b).0 e))
apart a b false e differ = e

own-step : (name bytes : List ℕ) (e : List ℕ × List ℕ) (es : List (List ℕ × List ℕ)) (r : Bool) → bytes_eq name e.0 ≡ r → lookup (bytes_eq name) (insert_entry bytes_eq es name bytes) ≡ Some bytes
    → lookup (bytes_eq name) (cond r ((e.0, bytes) ∷ es) (e ∷ insert_entry bytes_eq es name bytes)) ≡ Some bytes
own-step name bytes e es true same rest = ap (λ b. cond b (Some bytes) (lookup (bytes_eq name) es)) same
own-step name bytes e es false same rest = ap (λ b. cond b (Some e.1) (lookup (bytes_eq name) (insert_entry bytes_eq es name bytes))) same ∙ rest

own : (name bytes : List ℕ) (es : List (List ℕ × List ℕ)) → lookup (bytes_eq name) (insert_entry bytes_eq es name bytes) ≡ Some bytes
own name bytes [] = ap (λ b. cond b (Some bytes) None) (nat_list_eq_equiv.refl name)
own name bytes (e ∷ es) = own-step name bytes e es (bytes_eq name e.0) refl (own name bytes es)

other-step : (name bytes other : List ℕ) (e : List ℕ × List ℕ) (es : List (List ℕ × List ℕ)) (r : Bool) → bytes_eq name e.0 ≡ r → bytes_eq other name ≡ false
    → lookup (bytes_eq other) (insert_entry bytes_eq es name bytes) ≡ lookup (bytes_eq other) es
    → lookup (bytes_eq other) (cond r ((e.0, bytes) ∷ es) (e ∷ insert_entry bytes_eq es name bytes)) ≡ lookup (bytes_eq other) (e ∷ es)
other-step name bytes other e es true same differ rest =
    let none : bytes_eq other e.0 ≡ false = subst (λ k. bytes_eq other k ≡ false) ((bytes_decides name e.0).0 same) differ in
    ap (λ b. cond b (Some bytes) (lookup (bytes_eq other) es)) none ∙ sym (ap (λ b. cond b (Some e.1) (lookup (bytes_eq other) es)) none)
other-step name bytes other e es false same differ rest = ap (λ found. cond (bytes_eq other e.0) (Some e.1) found) rest

others : (name bytes other : List ℕ) (es : List (List ℕ × List ℕ)) → bytes_eq other name ≡ false → lookup (bytes_eq other) (insert_entry bytes_eq es name bytes) ≡ lookup (bytes_eq other) es
others name bytes other [] differ = ap (λ b. cond b (Some bytes) None) differ
others name bytes other (e ∷ es) differ = other-step name bytes other e es (bytes_eq name e.0) refl differ (others name bytes other es differ)

-- a file that is put in replaces the one of its name
pub replaced : (name bytes : List ℕ) (es after : List (List ℕ × List ℕ)) → after ≡ insert_entry bytes_eq es name bytes → Replaces name bytes (Some (files_in es)) (Some (files_in after))
replaced name bytes es after put = (
  files_in after,
  refl,
  ap (lookup (bytes_eq name)) put ∙ own name bytes es,
  λ other differ. ap (lookup (bytes_eq other)) put ∙ others name bytes other es (apart other name (bytes_eq other name) refl differ),
)

-- what holds of an Ok holds where the result is one
pub when_ok : {T E P : Type 0} (r : Result T E) → is_ok r ≡ true → OnOk r P → P
when_ok (Ok x) e p = p
when_ok (Err x) e p = absurd (true≢false (sym e))
