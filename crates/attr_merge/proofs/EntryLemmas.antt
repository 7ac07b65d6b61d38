-- The map of leaves, by its entries.
use Rattle.std.proofs.Common.{◌≡◌, ℕ, List, [], ◌∷◌, ◌++◌, map, Bool, true, false, cond, Some, option_map, Ordering, Less, Equal, Greater, is_eq, refl, sym, ap, ◌∙◌}
use Rattle.std.proofs.lemmas.Cmp.{nat_list_cmp_total, lists_total}
use Rattle.std.specs.BTreeMap.{insert_entry}
use Rattle.std.specs.Cmp.{IsTotalOrder}
use Rattle.std.specs.List.{AllByRecursion}
use Rattle.std.specs.List.Sorted.{IsStrictlySortedBy}
use Rattle.std.specs.Map.{lookup, keys_of}
use Rattle.std.specs.Ordering.{match_ordering, ordering_reverse}
use Rattle.std.specs.declared.vec.Vec.{Vec}
use Rattle.attr_merge.specs.Merged.{path_cmp, origin_at}
use Rattle.attr_merge.specs.Nodes.{leaves_of, entries_of, key_path}
use Rattle.attr_merge.specs.declared.nodes.Leaf.{Leaf}

path_total : IsTotalOrder path_cmp
path_total = lists_total nat_list_cmp_total

-- ---- two paths that are at one path compare as equal

equal-when : (o : Ordering) → is_eq o ≡ true → o ≡ Equal
equal-when Less h = cc
equal-when Equal h = refl
equal-when Greater h = cc

both-at : (p k e : List (List ℕ)) → is_eq (path_cmp p k) ≡ true → is_eq (path_cmp p e) ≡ true → path_cmp k e ≡ Equal
both-at p k e at_k at_e = sym (path_total.congr p k e (equal-when (path_cmp p k) at_k)) ∙ equal-when (path_cmp p e) at_e

same-at : (p k e : List (List ℕ)) → path_cmp k e ≡ Equal → is_eq (path_cmp p k) ≡ is_eq (path_cmp p e)
same-at p k e same =
    ap is_eq (path_total.antisymm p k ∙ ap ordering_reverse (path_total.congr k e p same) ∙ sym (path_total.antisymm p e))

-- ---- an entry goes in

module _ {X : Type 0} where
  two : (b c : Bool) (x y z : X) → (b ≡ true → c ≡ true → ⊥) → cond b x (cond c y z) ≡ cond c y (cond b x z)
  two true true x y z apart = absurd (apart refl refl)
  two true false x y z apart = refl
  two false c x y z apart = refl

  once : (b c : Bool) (x y z : X) → b ≡ c → cond c x z ≡ cond b x (cond c y z)
  once true true x y z same = refl
  once true false x y z same = cc
  once false true x y z same = cc
  once false false x y z same = refl

greater_equal : Greater ≡ Equal → ⊥
greater_equal h = cc

module _ {A : Type 0} where
  abbrev pub vec_cmp : Vec (List ℕ) A → Vec (List ℕ) A → Ordering
  vec_cmp x y = path_cmp x.items y.items

  above-all : (x : Vec (List ℕ) A) (ks : List (Vec (List ℕ) A)) → AllByRecursion (λ (y : Vec (List ℕ) A). vec_cmp x y ≡ Less) ks → AllByRecursion (λ (y : List (List ℕ)). path_cmp x.items y ≡ Less) (map key_path ks)
  above-all x [] all = tt
  above-all x (k ∷ ks) all = (all.0, above-all x ks all.1)

  -- the paths are in order where the keys are
  pub paths-order : (ks : List (Vec (List ℕ) A)) → IsStrictlySortedBy vec_cmp ks → IsStrictlySortedBy path_cmp (map key_path ks)
  unfolding IsStrictlySortedBy
  paths-order [] order = tt
  paths-order (k ∷ ks) order = (above-all k ks order.0, paths-order ks order.1)

module _ {A B : Type 0} where
  pub origin-inserted : (p : List (List ℕ)) (k : Vec (List ℕ) A) (v : Vec ℕ B) (es : List (Vec (List ℕ) A × Vec ℕ B))
      → origin_at p (entries_of (insert_entry vec_cmp es k v)) ≡ cond (is_eq (path_cmp p k.items)) (Some v.items) (origin_at p (entries_of es))
  origin-inserted p k v [] = refl
  origin-inserted p k v (e ∷ es) = placed (vec_cmp k e.0) refl (origin-inserted p k v es)
    where
      placed : (o : Ordering) → vec_cmp k e.0 ≡ o → origin_at p (entries_of (insert_entry vec_cmp es k v)) ≡ cond (is_eq (path_cmp p k.items)) (Some v.items) (origin_at p (entries_of es))
          → origin_at p (entries_of (match_ordering o ((k, v) ∷ e ∷ es) ((e.0, v) ∷ es) (e ∷ insert_entry vec_cmp es k v)))
          ≡ cond (is_eq (path_cmp p k.items)) (Some v.items) (origin_at p (entries_of (e ∷ es)))
      placed Less is rest = refl
      placed Equal is rest = once (is_eq (path_cmp p k.items)) (is_eq (path_cmp p e.0.items)) (Some v.items) (Some e.1.items) (origin_at p (entries_of es)) (same-at p k.items e.0.items is)
      placed Greater is rest =
          ap (cond (is_eq (path_cmp p e.0.items)) (Some e.1.items)) rest
          ∙ sym (two (is_eq (path_cmp p k.items)) (is_eq (path_cmp p e.0.items)) (Some v.items) (Some e.1.items) (origin_at p (entries_of es)) (λ at_k at_e. greater_equal (sym is ∙ both-at p k.items e.0.items at_k at_e)))

  -- the value at a path, by the map's own test
  pub origin-entries : (p : List (List ℕ)) (es : List (Vec (List ℕ) A × Vec ℕ B))
      → option_map (λ (o : Vec ℕ B). o.items) (lookup (λ (k : Vec (List ℕ) A). is_eq (path_cmp p k.items)) es) ≡ origin_at p (entries_of es)
  origin-entries p [] = refl
  origin-entries p (e ∷ es) = first (is_eq (path_cmp p e.0.items)) (origin-entries p es)
    where
      first : (b : Bool) → option_map (λ (o : Vec ℕ B). o.items) (lookup (λ (k : Vec (List ℕ) A). is_eq (path_cmp p k.items)) es) ≡ origin_at p (entries_of es)
          → option_map (λ (o : Vec ℕ B). o.items) (cond b (Some e.1) (lookup (λ (k : Vec (List ℕ) A). is_eq (path_cmp p k.items)) es)) ≡ cond b (Some e.1.items) (origin_at p (entries_of es))
      first true rest = refl
      first false rest = rest

  -- the paths of the entries are those of the keys
  pub paths-entries : (es : List (Vec (List ℕ) A × Vec ℕ B)) → map key_path (keys_of es) ≡ map (λ (leaf : List (List ℕ) × List ℕ). leaf.0) (entries_of es)
  paths-entries [] = refl
  paths-entries (e ∷ es) = ap (λ (rest : List (List (List ℕ))). e.0.items ∷ rest) (paths-entries es)

-- a leaf that went from the end of a list into the map
pub origin-moved : (p : List (List ℕ)) (xs : List Leaf) (x : Leaf) (before after : List (List (List ℕ) × List ℕ))
    → origin_at p after ≡ cond (is_eq (path_cmp p x.path.items)) (Some x.origin.items) (origin_at p before)
    → origin_at p (leaves_of xs ++ after) ≡ origin_at p (leaves_of (xs ++ x ∷ []) ++ before)
origin-moved p [] x before after h = h
origin-moved p (y ∷ xs) x before after h = ap (cond (is_eq (path_cmp p y.path.items)) (Some y.origin.items)) (origin-moved p xs x before after h)
