-- Maps keyed by texts, and lists of entries that are searched for a text: for the crates above.
use Rattle.std.proofs.Common.{◌≡◌, ℕ, zero, suc, List, [], ◌∷◌, take, drop, slice_get, Bool, true, false, cond, Some, None, nat_cmp, bytes_eq, BTreeMap, is_eq, refl, sym, ap, ◌∙◌}
use Rattle.std.proofs.lemmas.Cmp.{nat_list_cmp_total}
use Rattle.std.proofs.lemmas.Map.Text.{is_eq-slice_cmp}
use Rattle.std.proofs.lemmas.Option.{same_Some}
use Rattle.std.specs.BTreeMap.{get, is_at}
use Rattle.std.specs.Cmp.Lexicographic.{slice_cmp, nat_list_eq_equiv}
use Rattle.std.specs.FinMap as map
use Rattle.std.specs.FinMap.{FinMap, find, from_entries, same_map, get-from_entries, get-insert, slice_cmp-IsAntisymmetric, nat_cmp-IsAntisymmetric}
use Rattle.std.specs.Map.{lookup}
use Rattle.std.specs.Ordering.{eq_by_cmp}

-- whether texts are the same by their order is whether their bytes are
pub eq_by_cmp-text : (a b : List ℕ) → eq_by_cmp (slice_cmp nat_cmp) a b ≡ bytes_eq a b
eq_by_cmp-text a b = is_eq-slice_cmp a b

pub bytes_eq-symm : (a b : List ℕ) → bytes_eq a b ≡ bytes_eq b a
bytes_eq-symm a b = nat_list_eq_equiv.symm a b

eq_by_cmp-symm : (a b : List ℕ) → eq_by_cmp (slice_cmp nat_cmp) a b ≡ eq_by_cmp (slice_cmp nat_cmp) b a
eq_by_cmp-symm a b = eq_by_cmp-text a b ∙ bytes_eq-symm a b ∙ sym (eq_by_cmp-text b a)

module _ {X : Type 0} where
  -- what a text has among entries, from its first on
  pub find-first : (q : List ℕ) (e : List ℕ × X) (es : List (List ℕ × X)) → find (slice_cmp nat_cmp) q (e ∷ es) ≡ cond (bytes_eq q e.0) (Some e.1) (find (slice_cmp nat_cmp) q es)
  find-first q e es = ap (λ b. cond b (Some e.1) (find (slice_cmp nat_cmp) q es)) (eq_by_cmp-text q e.0)

  -- one step of a search that goes on from an index
  pub find-drop : (q : List ℕ) (es : List (List ℕ × X)) (i : ℕ) (e : List ℕ × X) → slice_get es i ≡ Some e
      → find (slice_cmp nat_cmp) q (drop i es) ≡ cond (bytes_eq q e.0) (Some e.1) (find (slice_cmp nat_cmp) q (drop (suc i) es))
  find-drop q [] i e is = cc
  find-drop q (f ∷ es) zero e is = find-first q f es ∙ ap (λ (p : List ℕ × X). cond (bytes_eq q p.0) (Some p.1) (find (slice_cmp nat_cmp) q es)) (same_Some f e is)
  find-drop q (f ∷ es) (suc i) e is = find-drop q es i e is

  -- a text that isn't among the entries before an index, and is the key at it
  pub find-item : (q : List ℕ) (es : List (List ℕ × X)) (i : ℕ) (e : List ℕ × X) → find (slice_cmp nat_cmp) q (take i es) ≡ None → slice_get es i ≡ Some e → bytes_eq q e.0 ≡ true
      → find (slice_cmp nat_cmp) q es ≡ Some e.1
  find-item q [] i e before is here = cc
  find-item q (f ∷ es) zero e before is here =
      find-first q f es ∙ ap (λ (p : List ℕ × X). cond (bytes_eq q p.0) (Some p.1) (find (slice_cmp nat_cmp) q es)) (same_Some f e is) ∙ rw here
  find-item q (f ∷ es) (suc i) e before is here = later (eq_by_cmp (slice_cmp nat_cmp) q f.0) before (λ rest. find-item q es i e rest is here)
    where
      later : (b : Bool) → cond b (Some f.1) (find (slice_cmp nat_cmp) q (take i es)) ≡ None → (find (slice_cmp nat_cmp) q (take i es) ≡ None → find (slice_cmp nat_cmp) q es ≡ Some e.1)
          → cond b (Some f.1) (find (slice_cmp nat_cmp) q es) ≡ Some e.1
      later true none rest = cc
      later false none rest = rest none

  -- the entries of an ordered map, searched one by one, have what the map has
  pub get_text : (m : BTreeMap (List ℕ) X) (q : List ℕ) → get (slice_cmp nat_cmp) m q ≡ find (slice_cmp nat_cmp) q m.entries
  get_text m q = in_entries m.entries
    where
      in_entries : (es : List (List ℕ × X)) → lookup (is_at (slice_cmp nat_cmp q)) es ≡ find (slice_cmp nat_cmp) q es
      in_entries [] = refl
      in_entries (e ∷ es) = ap (cond (is_eq (slice_cmp nat_cmp q e.0)) (Some e.1)) (in_entries es)

  -- an ordered map as a map from texts
  abbrev pub text_map : BTreeMap (List ℕ) X → FinMap (slice_cmp nat_cmp) X
  text_map m = from_entries m.entries

  get-text_map : (m : BTreeMap (List ℕ) X) (q : List ℕ) → map.get (text_map m) q ≡ get (slice_cmp nat_cmp) m q
  get-text_map m q = get-from_entries nat_list_cmp_total m.entries q ∙ sym (get_text m q)

  -- what an insert into the one does to the other
  pub text_map-insert : (m n : BTreeMap (List ℕ) X) (k : List ℕ) (v : X) → ((q : List ℕ) → get (slice_cmp nat_cmp) n q ≡ cond (is_at (slice_cmp nat_cmp k) q) (Some v) (get (slice_cmp nat_cmp) m q))
      → text_map n ≡ map.insert (text_map m) k v
  text_map-insert m n k v updated =
      same_map nat_list_cmp_total (slice_cmp-IsAntisymmetric nat_cmp-IsAntisymmetric) (text_map n) (map.insert (text_map m) k v)
      (λ q. get-text_map n q ∙ updated q ∙ rw (eq_by_cmp-symm k q, sym (get-text_map m q)) (sym (get-insert nat_list_cmp_total (text_map m) k v q)))
