-- The names that a search of a scope gives.
use Rattle.std.proofs.Common.{◌≡◌, ◌∙◌, ◌↔◌, ℕ, List, Some, IsTrue, true, sym, ap}
use Rattle.query_text.specs.Query.{Ors}
use Rattle.search_query.specs.Pair.{Pair}
use Rattle.search_query.specs.Matching.{Meets}
use Rattle.search_index.specs.declared.scope.Scope.{Scope}
use Rattle.search_index.specs.declared.found.Found.{Found}
use Rattle.search_index.specs.Arena.{ArePairs, Contents, HasObject, IsWhole}
use Rattle.search_index.specs.Found.{has}
use Rattle.ordered_keys.specs.Keys.{IsAt, key_of}
use Rattle.search_index.specs.KeyOrder.{object_key}
use Rattle.search_index.specs.Names.{lists_name}
use Rattle.search_index.specs.Scope.{scope_cmp}
use Rattle.search_index.specs.Seeking.{AreNames, Finds, PairsAt}
use Rattle.search_index.proofs.EqualKeys.{same_scopes}

module _ (c : Contents) (whole : IsWhole c) (scope : Scope) (number : ℕ) (at : IsAt scope_cmp c.scopes scope number) where
  scope_is : key_of c.scopes number ≡ Some scope
  scope_is = at.there ∙ ap Some (same_scopes at.key scope at.equal)

  object_is : (name : List ℕ) → HasObject c scope name → (i : ℕ) × (key_of c.objects i ≡ Some (object_key number name))
  object_is name h = (h.1, h.3 ∙ ap (λ a. Some (object_key a name)) (whole.scopes_once h.0 number scope h.2 scope_is))

  pairs_at : (name : List ℕ) (pairs : List Pair) (i : ℕ) → key_of c.objects i ≡ Some (object_key number name) → ArePairs c scope name pairs → PairsAt c.terms c.net number i pairs
  pairs_at name pairs i is are p = (
    λ m.
        let h = (are p).0 m in
        let same : h.0 ≡ number = whole.scopes_once h.0 number scope h.4 scope_is in
        let mine : key_of c.objects h.1 ≡ Some (object_key number name) = h.5 ∙ ap (λ a. Some (object_key a name)) same in
        let one : h.1 ≡ i = whole.tied.objects_once h.1 i (object_key number name) mine is in
        (h.2, h.6 ∙ ap (λ a. Some (record { scope = a; pair = p })) same, (h.3, h.7 ∙ ap (λ k. Some (k, h.2)) one)),
    λ t. (are p).1 (number, i, t.0, t.2.0, scope_is, is, t.1, t.2.1),
  )

  pub names_meet : (query : Ors) (every found : Found) (names result : List (List ℕ)) → ((x : ℕ) → has every x ≡ true) → Finds c.terms c.net number every (Meets query) found → AreNames c.objects number found names → ((name : List ℕ) → lists_name result name ≡ lists_name names name)
      → (name : List ℕ) (pairs : List Pair) → HasObject c scope name → ArePairs c scope name pairs → IsTrue (lists_name result name) ↔ Meets query pairs
  names_meet query every found names result all finds named same name pairs h are =
      let object = object_is name h in
      let told = finds object.0 pairs (pairs_at name pairs object.0 object.1 are) (all object.0) in (
        λ l.
            let t = (named name).0 (sym (same name) ∙ l) in
            let one : t.0 ≡ object.0 = whole.tied.objects_once t.0 object.0 (object_key number name) t.1 object.1 in
            told.0 (ap (has found) (sym one) ∙ t.2),
        λ m. same name ∙ (named name).1 (object.0, object.1, told.1 m),
      )

  pub names_there : (found : Found) (names result : List (List ℕ)) → AreNames c.objects number found names → ((name : List ℕ) → lists_name result name ≡ lists_name names name) → (name : List ℕ) → IsTrue (lists_name result name) → HasObject c scope name
  names_there found names result named same name l = let t = (named name).0 (sym (same name) ∙ l) in (number, t.0, scope_is, t.1)
