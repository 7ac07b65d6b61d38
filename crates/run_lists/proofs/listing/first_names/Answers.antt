use Rattle.std.proofs.Common.{ℕ, List, Bor, bytes_eq, arith, ◌∙◌}
use Rattle.std.specs.Cmp.Lexicographic.{nat_list_eq_equiv}
use Rattle.doc_tree.specs.declared.name.Name.{Name}
use Rattle.run_lists.proofs.KeysLemmas.{noted_none, noted_more, noted_all, map-id}
use Rattle.run_lists.proofs.listing.first_names.Goals as goal

pub loop-name-init : goal.loop-name-init
loop-name-init c = noted_none bytes_eq (λ (n : List ℕ). n) (λ (n : List ℕ). n) _ _ c.new-seen.ensures.empty c.new-names.ensures

pub loop-name-preserved : goal.loop-name-preserved
loop-name-preserved c =
    noted_more bytes_eq nat_list_eq_equiv (λ (n : List ℕ). n) (λ (n : List ℕ). n) (λ (n : Bor Name). n.now) c.args.all.now c.loop-name.name-index c.name-item.result _ _ _ _
    (omega arith) c.name-item.is c.loop-name.invariant c.in_ok-add_name.ensures.keys c.in_ok-add_name.ensures.names

pub returns : goal.returns
returns c =
    noted_all bytes_eq (λ (n : List ℕ). n) (λ (n : List ℕ). n) (λ (n : Bor Name). n.now) c.args.all.now c.loop-name.name-index _ _ (omega (arith, c.loop-name-test.false)) c.loop-name.invariant
    ∙ map-id _
