-- The cookbook of a name, found by halving.
use Rattle.std.proofs.Common.{◌≡◌, ℕ, zero, suc, ◌+◌, ◌<◌, ◌≤◌, ◌⊎◌, inl, inr, Bool, true, false, cond, List, [], ◌∷◌, length, map, get_or, slice_get, find, Some, None, HoldsAt, Less, Equal, Greater, Ordering, is_lt, arith, ap, refl, sym, subst, ◌∙◌, unwrap_or}
use Rattle.std.proofs.lemmas.Cmp.{tied_itself}
use Rattle.std.proofs.lemmas.List.Sorted.{searchable_from_sorted}
use Rattle.std.proofs.lemmas.Map.Keys.{sorted_head, sorted_tail}
use Rattle.std.proofs.lemmas.Option.{none-some, same_Some, slice_get-get_or}
use Rattle.std.specs.Cmp.Lexicographic.{nat_list_cmp_total}
use Rattle.std.specs.List.{AllByRecursion}
use Rattle.std.specs.List.Sorted.{IsNonDecreasingBy, IsPartitionPoint, IsStrictlySortedBy}
use Rattle.std.specs.Ordering.{ordering_index, ordering_reverse}
use Rattle.doc_tree.specs.Text.{text_cmp}
use Rattle.dep_solver.specs.declared.universe.Cookbook.{Cookbook}
use Rattle.dep_solver.specs.declared.universe.Universe.{Universe}
use Rattle.dep_solver.specs.Universes.{cookbook_in}
use Rattle.dep_solver.specs.Search.{Flags, flags_of}
use Rattle.dep_solver.specs.Names.{CookbookName, same_name}
use Rattle.dep_solver.proofs.ChoiceLemmas.{names_apart}
use Rattle.dep_solver.proofs.OrderLemmas.{less_from_sorted, three}
use Rattle.dep_solver.proofs.WalkLemmas.{name_from_same, same_from_name}

-- names of which one is before the other aren't the same
same_off : (x y : CookbookName) (o : Ordering) → text_cmp x y ≡ o → (o ≡ Equal → ⊥) → same_name x y ≡ false
same_off x y o e not = by (same_name x y) refl
  where
    by : (b : Bool) → same_name x y ≡ b → same_name x y ≡ false
    by true is = absurd (not (sym e ∙ ap (text_cmp x) (sym (name_from_same x y is)) ∙ tied_itself nat_list_cmp_total x))
    by false is = is

all_at : (P : CookbookName → Type 0) (cookbooks : List Cookbook) (k : ℕ) (c : Cookbook) → AllByRecursion P (map (λ (c : Cookbook). c.name) cookbooks) → slice_get cookbooks k ≡ Some c → P c.name
all_at P [] k c h e = absurd (none-some c e)
all_at P (x ∷ cookbooks) zero c h e = subst (λ (z : Cookbook). P z.name) (same_Some x c e) h.0
all_at P (x ∷ cookbooks) (suc k) c h e = all_at P cookbooks k c h.1 e

pub find_at : (cookbooks : List Cookbook) (k : ℕ) (c : Cookbook) → IsStrictlySortedBy text_cmp (map (λ (c : Cookbook). c.name) cookbooks) → slice_get cookbooks k ≡ Some c
    → find (λ (x : Cookbook). same_name x.name c.name) cookbooks ≡ Some c
find_at [] k c up e = absurd (none-some c e)
find_at (x ∷ cookbooks) zero c up e =
    let same : x ≡ c = same_Some x c e in
    ap (λ b. cond b (Some x) (find (λ (y : Cookbook). same_name y.name c.name) cookbooks)) (same_from_name x.name c.name (ap (λ (z : Cookbook). z.name) same)) ∙ ap Some same
find_at (x ∷ cookbooks) (suc k) c up e =
    let less = all_at (λ n. text_cmp x.name n ≡ Less) cookbooks k c (sorted_head text_cmp x.name (map (λ (c : Cookbook). c.name) cookbooks) up) e in
    ap (λ b. cond b (Some x) (find (λ (y : Cookbook). same_name y.name c.name) cookbooks)) (same_off x.name c.name Less less (λ h. cc))
    ∙ find_at cookbooks k c (sorted_tail text_cmp x.name (map (λ (c : Cookbook). c.name) cookbooks) up) e

-- the cookbook at an index whose name ties with the name is the one that is found
pub found_at : (cookbooks : List Cookbook) (k : ℕ) (c : Cookbook) (name : CookbookName) → IsStrictlySortedBy text_cmp (map (λ (c : Cookbook). c.name) cookbooks) → k < length cookbooks → c ≡ get_or cookbooks k c
    → HoldsAt (λ (y : Cookbook). text_cmp y.name name ≡ Equal) cookbooks k → Some c ≡ find (λ (x : Cookbook). same_name x.name name) cookbooks
found_at cookbooks k c name up within is ties =
    let own : c.name ≡ name = names_apart c.name name (ap (λ (z : Cookbook). text_cmp z.name name) is ∙ ties c) in
    sym (find_at cookbooks k c up (slice_get-get_or cookbooks k c within ∙ ap Some (sym is))) ∙ ap (λ n. find (λ (x : Cookbook). same_name x.name n) cookbooks) own

find_none : (cookbooks : List Cookbook) (name : CookbookName) → ((k : ℕ) (d : Cookbook) → k < length cookbooks → same_name (get_or cookbooks k d).name name ≡ false) → find (λ (x : Cookbook). same_name x.name name) cookbooks ≡ None
find_none [] name none = refl
find_none (c ∷ cookbooks) name none =
    ap (λ b. cond b (Some c) (find (λ (x : Cookbook). same_name x.name name) cookbooks)) (none 0 c (omega arith))
    ∙ find_none cookbooks name (λ k d h. none (suc k) d (omega arith))

reversed : (o : Ordering) → o ≡ Less → is_lt (ordering_reverse o) ≡ false
reversed Less e = refl
reversed Equal e = refl
reversed Greater e = cc

rising : (cookbooks : List Cookbook) (name : CookbookName) → IsStrictlySortedBy text_cmp (map (λ (c : Cookbook). c.name) cookbooks) → IsNonDecreasingBy (λ (c : Cookbook). ordering_index (text_cmp c.name name)) cookbooks
rising cookbooks name up =
    searchable_from_sorted nat_list_cmp_total (λ (c : Cookbook). c.name) cookbooks name
    (λ k d low below.
    ap is_lt (nat_list_cmp_total.antisymm (get_or cookbooks (k + 1) d).name (get_or cookbooks k d).name)
    ∙ reversed (text_cmp (get_or cookbooks k d).name (get_or cookbooks (k + 1) d).name) (less_from_sorted (λ (c : Cookbook). c.name) text_cmp cookbooks k d below up))

-- where the name has its place between two cookbooks, none has it
none_same : (cookbooks : List Cookbook) (i : ℕ) (name : CookbookName) → IsStrictlySortedBy text_cmp (map (λ (c : Cookbook). c.name) cookbooks)
    → (IsNonDecreasingBy (λ (c : Cookbook). ordering_index (text_cmp c.name name)) cookbooks → IsPartitionPoint (λ (c : Cookbook). text_cmp c.name name ≡ Less) (λ (c : Cookbook). text_cmp c.name name ≡ Greater) cookbooks i)
    → (k : ℕ) (d : Cookbook) → k < length cookbooks → same_name (get_or cookbooks k d).name name ≡ false
none_same cookbooks i name up parts k d h =
    let point = parts (rising cookbooks name up) in
    elim (lt_or k i) [
      | inl below ↦ same_off (get_or cookbooks k d).name name Less (point.0 k d (omega arith) below) (λ e. cc)
      | inr above ↦ same_off (get_or cookbooks k d).name name Greater (point.1 k d above h) (λ e. cc)
    ]
  where
    lt_or : (k i : ℕ) → (k < i) ⊎ (i ≤ k)
    lt_or k i = elim (three k i) [
      | inl h ↦ inl h
      | inr h ↦ elim h [ inl e ↦ inr (omega arith) | inr g ↦ inr (omega arith) ]
    ]

-- ---- flags

flags_at : (cookbooks : List Cookbook) (flags : Flags) (k : ℕ) (c : Cookbook) → IsStrictlySortedBy text_cmp (map (λ (c : Cookbook). c.name) cookbooks) → slice_get cookbooks k ≡ Some c
    → flags_of cookbooks flags c.name ≡ unwrap_or (slice_get flags k) []
flags_at [] flags k c up e = absurd (none-some c e)
flags_at (x ∷ cookbooks) [] k c up e = refl
flags_at (x ∷ cookbooks) (f ∷ flags) zero c up e =
    ap (λ b. cond b f (flags_of cookbooks flags c.name)) (same_from_name x.name c.name (ap (λ (z : Cookbook). z.name) (same_Some x c e)))
flags_at (x ∷ cookbooks) (f ∷ flags) (suc k) c up e =
    let less = all_at (λ n. text_cmp x.name n ≡ Less) cookbooks k c (sorted_head text_cmp x.name (map (λ (c : Cookbook). c.name) cookbooks) up) e in
    ap (λ b. cond b f (flags_of cookbooks flags c.name)) (same_off x.name c.name Less less (λ h. cc))
    ∙ flags_at cookbooks flags k c (sorted_tail text_cmp x.name (map (λ (c : Cookbook). c.name) cookbooks) up) e

flags_none : (cookbooks : List Cookbook) (flags : Flags) (name : CookbookName) → ((k : ℕ) (d : Cookbook) → k < length cookbooks → same_name (get_or cookbooks k d).name name ≡ false) → flags_of cookbooks flags name ≡ []
flags_none [] flags name none = refl
flags_none (c ∷ cookbooks) [] name none = refl
flags_none (c ∷ cookbooks) (f ∷ flags) name none =
    ap (λ b. cond b f (flags_of cookbooks flags name)) (none 0 c (omega arith)) ∙ flags_none cookbooks flags name (λ k d h. none (suc k) d (omega arith))

pub flags_found_in : (universe : Universe) (flags : Flags) (cookbooks : List Cookbook) → cookbooks ≡ universe.cookbooks → (k : ℕ) (name : CookbookName) → k < length cookbooks
    → HoldsAt (λ (y : Cookbook). text_cmp y.name name ≡ Equal) cookbooks k → (found : List Bool) → found ≡ unwrap_or (slice_get flags k) [] → found ≡ flags_of universe.cookbooks flags name
flags_found_in universe flags [] are k name within ties found is = absurd (omega arith)
flags_found_in universe flags (x ∷ rest) are k name within ties found is =
    let c = get_or (x ∷ rest) k x in
    let own : c.name ≡ name = names_apart c.name name (ties x) in
    is ∙ sym (flags_at (x ∷ rest) flags k c (subst (λ (cs : List Cookbook). IsStrictlySortedBy text_cmp (map (λ (c : Cookbook). c.name) cs)) (sym are) universe.in_order) (slice_get-get_or (x ∷ rest) k x within))
    ∙ ap (flags_of (x ∷ rest) flags) own ∙ ap (λ cs. flags_of cs flags name) are

pub flags_missing_in : (universe : Universe) (flags : Flags) (cookbooks : List Cookbook) → cookbooks ≡ universe.cookbooks → (i : ℕ) (name : CookbookName)
    → (IsNonDecreasingBy (λ (c : Cookbook). ordering_index (text_cmp c.name name)) cookbooks → IsPartitionPoint (λ (c : Cookbook). text_cmp c.name name ≡ Less) (λ (c : Cookbook). text_cmp c.name name ≡ Greater) cookbooks i)
    → [] ≡ flags_of universe.cookbooks flags name
flags_missing_in universe flags cookbooks are i name parts =
    sym (flags_none cookbooks flags name (none_same cookbooks i name (subst (λ (cs : List Cookbook). IsStrictlySortedBy text_cmp (map (λ (c : Cookbook). c.name) cs)) (sym are) universe.in_order) parts))
    ∙ ap (λ cs. flags_of cs flags name) are

-- the same of the list of a universe's cookbooks
pub found_in : (universe : Universe) (cookbooks : List Cookbook) → cookbooks ≡ universe.cookbooks → (k : ℕ) (c : Cookbook) (name : CookbookName) → k < length cookbooks → c ≡ get_or cookbooks k c
    → HoldsAt (λ (y : Cookbook). text_cmp y.name name ≡ Equal) cookbooks k → Some c ≡ cookbook_in universe name
found_in universe cookbooks are k c name within is ties =
    found_at cookbooks k c name (subst (λ (cs : List Cookbook). IsStrictlySortedBy text_cmp (map (λ (c : Cookbook). c.name) cs)) (sym are) universe.in_order) within is ties
    ∙ ap (find (λ (x : Cookbook). same_name x.name name)) are

pub not_found_in : (universe : Universe) (cookbooks : List Cookbook) → cookbooks ≡ universe.cookbooks → (i : ℕ) (name : CookbookName)
    → (IsNonDecreasingBy (λ (c : Cookbook). ordering_index (text_cmp c.name name)) cookbooks → IsPartitionPoint (λ (c : Cookbook). text_cmp c.name name ≡ Less) (λ (c : Cookbook). text_cmp c.name name ≡ Greater) cookbooks i)
    → None ≡ cookbook_in universe name
not_found_in universe cookbooks are i name parts =
    sym (find_none cookbooks name (none_same cookbooks i name (subst (λ (cs : List Cookbook). IsStrictlySortedBy text_cmp (map (λ (c : Cookbook). c.name) cs)) (sym are) universe.in_order) parts))
    ∙ ap (find (λ (x : Cookbook). same_name x.name name)) are
