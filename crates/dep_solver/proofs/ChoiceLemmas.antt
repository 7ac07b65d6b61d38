-- The choice of a list of places: what it has.
use Rattle.std.proofs.Common.{◌≡◌, Bool, true, false, cond, List, [], ◌∷◌, map, Some, Contains, is_eq, ap, refl, sym, ◌∙◌, inl, inr, true≢false}
use Rattle.std.proofs.lemmas.Cmp.{tied_itself}
use Rattle.std.proofs.lemmas.List.Elements.{All-contains, All-from_recursion}
use Rattle.std.proofs.lemmas.Map.Keys.{IsDistinct-head, IsDistinct-tail}
use Rattle.std.proofs.lemmas.Map.Views.{tells_apart}
use Rattle.std.proofs.lemmas.Option.{none-some, same_Some}
use Rattle.std.specs.Cmp.Lexicographic.{nat_list_cmp_total}
use Rattle.std.specs.FinMap as finite
use Rattle.std.specs.List.{IsDistinct}
use Rattle.std.specs.Ordering.{eq_by_cmp}
use Rattle.doc_tree.specs.Text.{text_cmp}
use Rattle.version_rules.specs.declared.versions.Version.{Version}
use Rattle.dep_solver.specs.declared.roots.Pin.{Pin}
use Rattle.dep_solver.specs.Names.{CookbookName, same_name}
use Rattle.dep_solver.specs.Solutions.{choice_of}
use Rattle.dep_solver.proofs.ListLemmas.{contains_map, here, in_tail, nowhere, there}
use Rattle.dep_solver.proofs.WalkLemmas.{same_from_name}

pub names_apart : finite.IsAntisymmetric text_cmp
names_apart = finite.slice_cmp-IsAntisymmetric finite.nat_cmp-IsAntisymmetric

-- a place has the name at the version
pub record IsChosen (places : List Pin) (name : CookbookName) (version : Version) : Type 0 where
  pub place : Pin
  pub among : Contains places place
  pub named : place.name ≡ name
  pub at_version : place.version ≡ version

find_chosen : (places : List Pin) (name : CookbookName) (version : Version) → finite.find text_cmp name (map (λ (p : Pin). (p.name, p.version)) places) ≡ Some version → IsChosen places name version
find_chosen [] name version e = absurd (none-some version e)
find_chosen (p ∷ places) name version e = by (eq_by_cmp text_cmp name p.name) refl (λ found. rest (find_chosen places name version found)) e
  where
    rest : (found : IsChosen places name version) → IsChosen (p ∷ places) name version
    rest found = record { place = found.place; among = there p places found.place found.among; named = found.named; at_version = found.at_version }

    by : (b : Bool) → eq_by_cmp text_cmp name p.name ≡ b → (finite.find text_cmp name (map (λ (p : Pin). (p.name, p.version)) places) ≡ Some version → IsChosen (p ∷ places) name version)
        → cond b (Some p.version) (finite.find text_cmp name (map (λ (p : Pin). (p.name, p.version)) places)) ≡ Some version → IsChosen (p ∷ places) name version
    by true is more found = record { place = p; among = here p places; named = sym (tells_apart names_apart name p.name is); at_version = same_Some p.version version found }
    by false is more found = more found

-- what the choice has is a place's
pub choice_found : (places : List Pin) (name : CookbookName) (version : Version) → finite.get (choice_of places) name ≡ Some version → IsChosen places name version
choice_found places name version e = find_chosen places name version (sym (finite.get-from_entries nat_list_cmp_total (map (λ (p : Pin). (p.name, p.version)) places) name) ∙ e)

eq_itself : (name other : CookbookName) → name ≡ other → eq_by_cmp text_cmp name other ≡ true
eq_itself name other e = ap is_eq (ap (text_cmp name) (sym e) ∙ tied_itself nat_list_cmp_total name)

find_has : (places : List Pin) (p : Pin) → IsDistinct same_name (map (λ (p : Pin). p.name) places) → Contains places p → finite.find text_cmp p.name (map (λ (p : Pin). (p.name, p.version)) places) ≡ Some p.version
find_has [] p d h = absurd (nowhere p h)
find_has (q ∷ places) p d h = elim (in_tail q places p h) [
  | inl e ↦ ap (λ b. cond b (Some q.version) (finite.find text_cmp p.name (map (λ (p : Pin). (p.name, p.version)) places))) (eq_itself p.name q.name (ap (λ (z : Pin). z.name) (sym e)))
      ∙ ap (λ (z : Pin). Some z.version) e
  | inr t ↦ by (eq_by_cmp text_cmp p.name q.name) refl (find_has places p (IsDistinct-tail same_name q.name (map (λ (p : Pin). p.name) places) d) t)
      (All-contains (λ y. same_name q.name y ≡ false) (map (λ (p : Pin). p.name) places) p.name
      (All-from_recursion (λ y. same_name q.name y ≡ false) (map (λ (p : Pin). p.name) places) (IsDistinct-head same_name q.name (map (λ (p : Pin). p.name) places) d))
      (contains_map (λ (p : Pin). p.name) places p t))
]
  where
    by : (b : Bool) → eq_by_cmp text_cmp p.name q.name ≡ b → finite.find text_cmp p.name (map (λ (p : Pin). (p.name, p.version)) places) ≡ Some p.version → same_name q.name p.name ≡ false
        → cond (eq_by_cmp text_cmp p.name q.name) (Some q.version) (finite.find text_cmp p.name (map (λ (p : Pin). (p.name, p.version)) places)) ≡ Some p.version
    by true is rest apart = absurd (true≢false (sym (same_from_name q.name p.name (sym (tells_apart names_apart p.name q.name is))) ∙ apart))
    by false is rest apart = ap (λ b. cond b (Some q.version) (finite.find text_cmp p.name (map (λ (p : Pin). (p.name, p.version)) places))) is ∙ rest

-- the choice has each place
pub choice_has : (places : List Pin) (p : Pin) → IsDistinct same_name (map (λ (p : Pin). p.name) places) → Contains places p → finite.get (choice_of places) p.name ≡ Some p.version
choice_has places p d h = finite.get-from_entries nat_list_cmp_total (map (λ (p : Pin). (p.name, p.version)) places) p.name ∙ find_has places p d h
