-- What items ask for, with one more at the end.
use Rattle.std.proofs.Common.{◌≡◌, ℕ, ◌+◌, ◌<◌, Bool, true, false, cond, List, [], ◌∷◌, ◌++◌, append-nil, length, take, get_or, Option, Some, None, refl, sym, ap, subst, ◌∙◌}
use Rattle.std.proofs.Props.{props}
use Rattle.std.proofs.lemmas.List.{take_more}
use Rattle.std.proofs.lemmas.List.Elements.{filter_map-append}
use Rattle.std.proofs.lemmas.Map.Keys.{IsDistinct-push}
use Rattle.std.specs.Cmp.{IsEquivalence}
use Rattle.std.specs.Cmp.Lexicographic.{nat_list_eq_equiv}
use Rattle.std.specs.List.{IsDistinct, cons_option, filter_map}
use Rattle.std.specs.Set.{is_member}
use mathlib.Core.HLevel.{Σ_prop_path}
use Rattle.run_lists.specs.Stored.{Stored}
use Rattle.dep_solver.specs.Names.{CookbookName, same_name}
use Rattle.dep_solver.specs.Walks.{with_name}
use Rattle.dep_solver.specs.declared.roots.Pin.{Pin}
use Rattle.dep_solver.specs.declared.roots.Roots.{Roots}
use Rattle.run_lists.specs.Asking.{cookbook_named, names_in, pin_of, pins_in}
use Rattle.run_lists.specs.Firsts.{firsts}
use Rattle.run_lists.proofs.FirstsLemmas.{firsts-push}

abbrev laws : IsEquivalence same_name
laws = nat_list_eq_equiv

-- the names stay distinct
distinct_by : (names : List CookbookName) (name : CookbookName) (b : Bool) → is_member same_name names name ≡ b → IsDistinct same_name names
    → IsDistinct same_name (cond b names (names ++ name ∷ []))
distinct_by names name true e distinct = distinct
distinct_by names name false e distinct = IsDistinct-push laws names name distinct e

pub distinct_kept : (names : List CookbookName) (name : CookbookName) → IsDistinct same_name names → IsDistinct same_name (with_name names name)
distinct_kept names name distinct = distinct_by names name (is_member same_name names name) refl distinct

pub distinct_none : IsDistinct same_name []
unfolding IsDistinct
distinct_none = tt

-- ---- one more item

filter_map_push : {A B : Type 0} (h : A → Option B) (xs : List A) (x : A) (o : Option B) → h x ≡ o → filter_map h (xs ++ x ∷ []) ≡ filter_map h xs ++ cons_option o []
filter_map_push h xs x o e = filter_map-append h xs (x ∷ []) ∙ ap (λ o. filter_map h xs ++ cons_option o []) e

-- the items up to one more
items_more : (items : List Stored) (i : ℕ) (item : Stored) → i < length items → item ≡ get_or items i item → take (i + 1) items ≡ take i items ++ item ∷ []
items_more items i item within is = take_more items i item within ∙ ap (λ z. take i items ++ z ∷ []) (sym is)

-- the names are those that the first items ask for, each once
abbrev pub AreNames : List Stored → ℕ → List CookbookName → Type 0
AreNames items i names = (names ≡ names_in (take i items)) × IsDistinct same_name names

pub named_more : (items : List Stored) (i : ℕ) (item : Stored) (names more : List CookbookName) (cookbook : CookbookName) → i < length items → item ≡ get_or items i item → cookbook_named item ≡ Some cookbook
    → AreNames items i names → more ≡ with_name names cookbook → AreNames items (i + 1) more
named_more items i item names more cookbook within is asks before e =
    let all : names_in (take (i + 1) items) ≡ with_name (names_in (take i items)) cookbook =
    ap names_in (items_more items i item within is) ∙ ap (firsts same_name) (filter_map_push cookbook_named (take i items) item (Some cookbook) asks) ∙ firsts-push same_name laws (filter_map cookbook_named (take i items)) cookbook in
    (e ∙ ap (λ ns. with_name ns cookbook) before.0 ∙ sym all, subst (IsDistinct same_name) (sym e) (distinct_kept names cookbook before.1))

pub unnamed_more : (items : List Stored) (i : ℕ) (item : Stored) (names more : List CookbookName) → i < length items → item ≡ get_or items i item → cookbook_named item ≡ None
    → AreNames items i names → more ≡ names → AreNames items (i + 1) more
unnamed_more items i item names more within is asks before e =
    let all : names_in (take (i + 1) items) ≡ names_in (take i items) =
    ap names_in (items_more items i item within is) ∙ ap (firsts same_name) (filter_map_push cookbook_named (take i items) item None asks ∙ append-nil (filter_map cookbook_named (take i items))) in
    (e ∙ before.0 ∙ sym all, subst (IsDistinct same_name) (sym e) before.1)

pub pinned_more : (items : List Stored) (i : ℕ) (item : Stored) (pins more : List Pin) (pin : Pin) → i < length items → item ≡ get_or items i item → pin_of item.named ≡ Some pin
    → pins ≡ pins_in (take i items) → more ≡ pins ++ pin ∷ [] → more ≡ pins_in (take (i + 1) items)
pinned_more items i item pins more pin within is asks before e =
    e ∙ ap (λ ps. ps ++ pin ∷ []) before ∙ sym (ap pins_in (items_more items i item within is) ∙ filter_map_push (λ item. pin_of item.named) (take i items) item (Some pin) asks)

pub unpinned_more : (items : List Stored) (i : ℕ) (item : Stored) (pins more : List Pin) → i < length items → item ≡ get_or items i item → pin_of item.named ≡ None
    → pins ≡ pins_in (take i items) → more ≡ pins → more ≡ pins_in (take (i + 1) items)
unpinned_more items i item pins more within is asks before e =
    e ∙ before ∙ sym (ap pins_in (items_more items i item within is) ∙ filter_map_push (λ item. pin_of item.named) (take i items) item None asks ∙ append-nil (pins_in (take i items)))

-- ---- roots are told by their names and pins

pub same_roots : (a b : Roots) → a.names ≡ b.names → a.pins ≡ b.pins → a ≡ b
same_roots a b names pins =
    let once : (ns : List CookbookName) → IsProp (IsDistinct same_name ns) = λ ns. hlevel props in
    let pairs : ◌≡◌ {A = (ns : List CookbookName) × IsDistinct same_name ns} (a.names, a.distinct) (b.names, b.distinct) = Σ_prop_path once names in
    λ i. record { names = (pairs i).0; pins = pins i; distinct = (pairs i).1 }
