-- The tests tell which objects are there and which pairs they have.
use Rattle.std.proofs.Common.{◌≡◌, ◌∙◌, ◌↔◌, ◌==◌, ℕ, List, Option, Some, None, IsTrue, ap, refl, sym}
use Rattle.std.proofs.lemmas.Bool.{eq-eqb, eqb-true}
use Rattle.std.proofs.lemmas.Option.{same_Some}
use Rattle.std.specs.Cmp.{Equal-is, tied_itself}
use Rattle.std.specs.Ordering.{is_eq}
use Rattle.search_index.proofs.EqualKeys.{same_pairs, same_scopes}
use Rattle.search_index.specs.Arena.{Contents, HasObject, Holds}
use Rattle.ordered_keys.specs.Keys.{key_of}
use Rattle.search_index.specs.KeyOrder.{TermKey, object_key}
use Rattle.search_index.specs.Scope.{same_scope, scope_cmp, scope_cmp_total}
use Rattle.search_index.specs.declared.key.ObjectKey.{ObjectKey}
use Rattle.search_index.specs.declared.scope.Scope.{Scope}
use Rattle.search_query.specs.Pair.{Pair, pair_cmp, pair_cmp_total, same_pair}
use Rattle.shard_core.specs.Holding.{is_object, is_pair, is_posted, is_scope, is_term, is_there, says}
use Rattle.shard_core.proofs.SlotLemmas.{any_told, both_told, no, text_told}

-- ---- parts

none_is : {A P : Type 0} (x : A) → None ≡ Some x → P
none_is x is = cc

-- a term of a scope's number
abbrev term_of : ℕ → Pair → TermKey
term_of scope p = record { scope = scope; pair = p }

same_scope_told : (s t : Scope) → IsTrue (same_scope s t) ↔ (t ≡ s)
same_scope_told s t = (λ is. sym (same_scopes s t ((Equal-is (scope_cmp s t)).0 is)), λ same. ap (same_scope s) same ∙ ap is_eq (tied_itself scope_cmp_total s))

same_pair_told : (p q : Pair) → IsTrue (same_pair p q) ↔ (q ≡ p)
same_pair_told p q = (λ is. sym (same_pairs p q ((Equal-is (pair_cmp p q)).0 is)), λ same. ap (same_pair p) same ∙ ap is_eq (tied_itself pair_cmp_total p))

number_told : (a b : ℕ) → IsTrue (a == b) ↔ (b ≡ a)
number_told a b = (λ is. sym (eqb-true a b is), λ same. eq-eqb a b (sym same))

scope_told : (scope : Scope) (found : Option Scope) → IsTrue (is_scope scope found) ↔ (found ≡ Some scope)
scope_told scope None = (λ is. no is, λ is. none_is scope is)
scope_told scope (Some other) = (λ is. ap (λ s. Some s) ((same_scope_told scope other).0 is), λ is. (same_scope_told scope other).1 (same_Some other scope is))

-- ---- objects

abbrev IsObject : Contents → Scope → List ℕ → Option ObjectKey → Type 0
IsObject c scope name found = (a : ℕ) × (key_of c.scopes a ≡ Some scope) × (found ≡ Some (object_key a name))

object_told : (c : Contents) (scope : Scope) (name : List ℕ) (found : Option ObjectKey) → IsTrue (is_object c scope name found) ↔ IsObject c scope name found
object_told c scope name None = (λ is. no is, λ h. none_is (object_key h.0 name) h.2)
object_told c scope name (Some object) =
    let told = both_told (is_scope scope (key_of c.scopes object.scope)) _ (scope_told scope (key_of c.scopes object.scope)) (text_told name object.name) in (
      λ is. let h = told.0 is in (object.scope, h.0, ap (λ n. Some (object_key object.scope n)) h.1),
      λ h.
          let same = same_Some object (object_key h.0 name) h.2 in
          told.1 (ap (λ (o : ObjectKey). key_of c.scopes o.scope) same ∙ h.1, ap (λ (o : ObjectKey). o.name) same),
    )

-- which objects are there is told
pub there_told : (c : Contents) (scope : Scope) (name : List ℕ) → IsTrue (is_there c scope name) ↔ HasObject c scope name
there_told c scope name =
    let told = any_told (is_object c scope name) (λ is. no is, λ is. absurd is) c.objects.slots in (
      λ is. let at = told.0 is in let h = (object_told c scope name (key_of c.objects at.0)).0 at.1 in (h.0, at.0, h.1, h.2),
      λ h. told.1 (h.1, (object_told c scope name (key_of c.objects h.1)).1 (h.0, h.2, h.3)),
    )

-- ---- pairs

term_told : (object : ObjectKey) (p : Pair) (found : Option TermKey) → IsTrue (is_term object p found) ↔ (found ≡ Some (term_of object.scope p))
term_told object p None = (λ is. no is, λ is. none_is (term_of object.scope p) is)
term_told object p (Some term) =
    let told = both_told (object.scope == term.scope) (same_pair p term.pair) (number_told object.scope term.scope) (same_pair_told p term.pair) in (
      λ is. let h = told.0 is in λ i. Some (term_of (h.0 i) (h.1 i)),
      λ is. let same = same_Some term (term_of object.scope p) is in told.1 (ap (λ (t : TermKey). t.scope) same, ap (λ (t : TermKey). t.pair) same),
    )

abbrev IsPair : Contents → Scope → List ℕ → Pair → Option ObjectKey → Option TermKey → Type 0
IsPair c scope name p object term = (a : ℕ) × (key_of c.scopes a ≡ Some scope) × (object ≡ Some (object_key a name)) × (term ≡ Some (term_of a p))

pair_told : (c : Contents) (scope : Scope) (name : List ℕ) (p : Pair) (object : Option ObjectKey) (term : Option TermKey) → IsTrue (is_pair c scope name p object term) ↔ IsPair c scope name p object term
pair_told c scope name p None term = (λ is. no is, λ h. none_is (object_key h.0 name) h.2)
pair_told c scope name p (Some object) term =
    let told = both_told (is_object c scope name (Some object)) (is_term object p term) (object_told c scope name (Some object)) (term_told object p term) in (
      λ is.
          let h = told.0 is in
          let same = same_Some object (object_key h.0.0 name) h.0.2 in
          (h.0.0, h.0.1, h.0.2, h.1 ∙ ap (λ (o : ObjectKey). Some (term_of o.scope p)) same),
      λ h.
          let same = same_Some object (object_key h.0 name) h.2 in
          told.1 ((h.0, h.1, h.2), h.3 ∙ ap (λ (o : ObjectKey). Some (term_of o.scope p)) (sym same)),
    )

abbrev Says : Contents → Scope → List ℕ → Pair → Option (ℕ × ℕ) → Type 0
Says c scope name p posting = (a i j : ℕ) × (key_of c.scopes a ≡ Some scope) × (key_of c.objects i ≡ Some (object_key a name)) × (key_of c.terms j ≡ Some (term_of a p)) × (posting ≡ Some (i, j))

says_told : (c : Contents) (scope : Scope) (name : List ℕ) (p : Pair) (posting : Option (ℕ × ℕ)) → IsTrue (says c scope name p posting) ↔ Says c scope name p posting
says_told c scope name p None = (λ is. no is, λ h. none_is (h.1, h.2) h.6)
says_told c scope name p (Some at) =
    let told = pair_told c scope name p (key_of c.objects at.0) (key_of c.terms at.1) in (
      λ is. let h = told.0 is in (h.0, at.0, at.1, h.1, h.2, h.3, refl),
      λ h.
          let same = same_Some at (h.1, h.2) h.6 in
          told.1 (h.0, h.3, ap (λ (z : ℕ × ℕ). key_of c.objects z.0) same ∙ h.4, ap (λ (z : ℕ × ℕ). key_of c.terms z.1) same ∙ h.5),
    )

-- which pairs they have is told
pub posted_told : (c : Contents) (scope : Scope) (name : List ℕ) (p : Pair) → IsTrue (is_posted c scope name p) ↔ Holds c scope name p
posted_told c scope name p =
    let told = any_told (says c scope name p) (λ is. no is, λ is. absurd is) c.net.slots in (
      λ is. let at = told.0 is in let h = (says_told c scope name p _).0 at.1 in (h.0, h.1, h.2, at.0, h.3, h.4, h.5, h.6),
      λ h. told.1 (h.3, (says_told c scope name p _).1 (h.0, h.1, h.2, h.4, h.5, h.6, h.7)),
    )
