-- The key is below the least one exactly where all keys are in order with it, and then it is at none of them.
use Rattle.std.proofs.Common.{◌-◌, ◌∷◌, ℕ, List, length, slice_get, refl, ap, sym, subst, ◌∙◌}
use Rattle.std.specs.Map.{keys_of}
use Rattle.doc_tree.specs.Doc.{Doc}
use Rattle.doc_tree.specs.Valid.{InOrder}
use Rattle.doc_tree.specs.declared.tree.Field.{Field}
use Rattle.yaml_subset.proofs.FallingLemmas.{alone_below, below_field, field_below, none_below}
use Rattle.yaml_subset.proofs.falling.Falling.is_below.Goals as goal

pub returns-in-Some-clause-order : goal.returns-in-Some-clause-order
returns-in-Some-clause-order c =
    let last = c.in-Some.ensures.value ∙ ap (λ (fs : List Field). slice_get fs (length fs - 1)) c.as_slice.ensures.value in (
      λ holds. subst (λ (es : List (List ℕ × Doc)). InOrder (c.args.key.now ∷ keys_of es)) c.self.view_is
          (field_below c.self.inside.entries.items c.in-Some.least.now c.args.key.now c.lt.result c.self.invariant last c.lt.ensures holds),
      λ order. below_field c.self.inside.entries.items c.in-Some.least.now c.args.key.now c.lt.result last c.lt.ensures
          (subst (λ (es : List (List ℕ × Doc)). InOrder (c.args.key.now ∷ keys_of es)) (sym c.self.view_is) order),
    )

pub returns-in-Some-clause-free : goal.returns-in-Some-clause-free
returns-in-Some-clause-free c holds = none_below c.args.self.now c.args.key.now ((returns-in-Some-clause-order c).0 holds)

pub returns-in-None-clause-order : goal.returns-in-None-clause-order
returns-in-None-clause-order c =
    let none = c.in-None.ensures.value ∙ ap (λ (fs : List Field). slice_get fs (length fs - 1)) c.as_slice.ensures.value in
    (λ holds. subst (λ (es : List (List ℕ × Doc)). InOrder (c.args.key.now ∷ keys_of es)) c.self.view_is (alone_below c.self.inside.entries.items c.args.key.now none), λ order. refl)
