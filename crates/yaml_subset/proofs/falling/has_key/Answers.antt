-- The field that has the key, and one more that hasn't.
use Rattle.std.proofs.Common.{◌≡◌, ℕ, false, is_some, map, take, add-one, sym, subst, ◌∙◌}
use Rattle.doc_tree.specs.Doc.{pairs_of}
use Rattle.doc_tree.specs.Part.{pair_at}
use Rattle.doc_tree.specs.Tree.{pair_of}
use Rattle.yaml_subset.proofs.FallingLemmas.{found_at, none_more}
use Rattle.yaml_subset.proofs.falling.has_key.Goals as goal

pub returns-then-eq : goal.returns-then-eq
returns-then-eq c = found_at c.args.key.now c.args.fields.now c.loop-field.field-index c.field-item.result c.loop-field-test.true c.field-item.is (sym c.eq.ensures ∙ c.if-eq.true)

pub loop-field-preserved : goal.loop-field-preserved
loop-field-preserved c =
    subst (λ (n : ℕ). is_some (pair_at c.args.key.now (pairs_of (map pair_of (take n c.args.fields.now)))) ≡ false) (sym (add-one c.loop-field.field-index))
    (none_more c.args.key.now c.args.fields.now c.loop-field.field-index c.field-item.result c.loop-field-test.true c.field-item.is (sym c.eq.ensures ∙ c.if-eq.false) c.loop-field.invariant)
