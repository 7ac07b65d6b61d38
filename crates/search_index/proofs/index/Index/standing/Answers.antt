-- The object stands under the numbers that were found, or it isn't there.
use Rattle.std.proofs.Common.{◌∙◌, Some, ap, subst}
use Rattle.ordered_keys.specs.Keys.{IsAbsent, IsAt}
use Rattle.search_index.specs.Arena.{Contents, HasObject, StandsAt}
use Rattle.search_index.specs.KeyOrder.{object_cmp, object_key}
use Rattle.search_index.specs.Scope.{scope_at}
use Rattle.search_index.proofs.EqualKeys.{same_objects, same_scopes}
use Rattle.search_index.proofs.GoneLemmas.{no_object, no_scope}
use Rattle.search_index.proofs.index.Index.standing.Goals as goal

pub returns-in_default : goal.returns-in_default
returns-in_default c =
    let was : Contents = record { scopes = c.self.inside.scopes; objects = c.self.inside.objects; terms = c.self.inside.terms; net = c.self.inside.postings } in
    subst (λ (k : Contents). HasObject k (scope_at c.args.scope) c.args.name.now → ⊥) c.self.view_is (no_scope was (scope_at c.args.scope) c.args.name.now c.in_default.ensures)

pub returns-in-Some-find : goal.returns-in-Some-find
returns-in-Some-find c =
    let scope = c.in-Some.ensures in
    let object = subst (λ z. IsAt object_cmp c.self.inside.objects (object_key c.in-Some.number z) c.in-Some-find.object) c.as_bytes.ensures.value c.in-Some-find.ensures in
    subst (λ (k : Contents). StandsAt k (scope_at c.args.scope) c.args.name.now c.in-Some.number c.in-Some-find.object) c.self.view_is (record {
      scope_at = scope.there ∙ ap Some (same_scopes scope.key (scope_at c.args.scope) scope.equal);
      object_at = object.there ∙ ap Some (same_objects object.key (object_key c.in-Some.number c.args.name.now) object.equal);
    })

pub returns-in-None : goal.returns-in-None
returns-in-None c =
    let was : Contents = record { scopes = c.self.inside.scopes; objects = c.self.inside.objects; terms = c.self.inside.terms; net = c.self.inside.postings } in
    let absent = subst (λ z. IsAbsent object_cmp c.self.inside.objects (object_key c.in-Some.number z)) c.as_bytes.ensures.value c.in-None.ensures in
    subst (λ (k : Contents). HasObject k (scope_at c.args.scope) c.args.name.now → ⊥) c.self.view_is (no_object was (scope_at c.args.scope) c.args.name.now c.in-Some.number c.self.invariant c.in-Some.ensures absent)
