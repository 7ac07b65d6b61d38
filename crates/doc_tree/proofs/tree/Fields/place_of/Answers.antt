-- The middle of what is left is compared, and half of it drops out.
use Rattle.std.proofs.Common.{◌≡◌, ◌+◌, ◌-◌, ◌/◌, ℕ, List, drop, length, Less, Equal, Greater, nat_cmp, sym, ap, ◌∙◌, subst, arith, add-one}
use Rattle.std.proofs.lemmas.List.{length-map}
use Rattle.std.specs.Map.{keys_of}
use Rattle.doc_tree.specs.Doc.{Doc}
use Rattle.doc_tree.specs.Valid.{InOrder}
use Rattle.std.specs.Cmp.Lexicographic.{slice_cmp}
use Rattle.doc_tree.specs.Tree.{pair_of}
use Rattle.doc_tree.proofs.Pairwise.{slice_get_view}
use Rattle.doc_tree.proofs.Place.{IsBelow, above_middle, below_middle, is_gap, is_held}
use Rattle.doc_tree.proofs.tree.Fields.place_of.Goals as goal

in_order : {ps qs : List (List ℕ × Doc)} → ps ≡ qs → InOrder (keys_of ps) → InOrder (keys_of qs)
in_order same order = subst (λ (ps : List (List ℕ × Doc)). InOrder (keys_of ps)) same order

pub loop-low-preserved-in-Less : goal.loop-low-preserved-in-Less
loop-low-preserved-in-Less c =
    let middle : ℕ = c.loop-low.low + (c.loop-low.high - c.loop-low.low) / 2 in
    let len = length-map c.self.inside.entries.items pair_of in
    let read = slice_get_view pair_of c.self.inside.entries.items c.args.self.now middle c.index.result.now c.self.view_is (omega (arith, len, ap length c.self.view_is)) c.index.ensures in
    let less : slice_cmp nat_cmp c.args.key.now c.index.result.now.key ≡ Less = ap (slice_cmp nat_cmp c.args.key.now) (sym c.as_str.ensures.value) ∙ sym c.cmp.ensures ∙ c.in-Less.is in
    record {
      order = omega arith;
      within = omega arith;
      above = c.loop-low.invariant.above;
      below = below_middle c.args.key.now c.args.self.now middle _ (in_order c.self.view_is c.self.invariant.1) read less;
    }

pub returns-in-Equal-clause-place : goal.returns-in-Equal-clause-place
returns-in-Equal-clause-place c =
    let middle : ℕ = c.loop-low.low + (c.loop-low.high - c.loop-low.low) / 2 in
    let len = length-map c.self.inside.entries.items pair_of in
    let read = slice_get_view pair_of c.self.inside.entries.items c.args.self.now middle c.index.result.now c.self.view_is (omega (arith, len, ap length c.self.view_is)) c.index.ensures in
    let same : slice_cmp nat_cmp c.args.key.now c.index.result.now.key ≡ Equal = ap (slice_cmp nat_cmp c.args.key.now) (sym c.as_str.ensures.value) ∙ sym c.cmp.ensures ∙ c.in-Equal.is in
    is_held c.args.key.now c.args.self.now middle _ (in_order c.self.view_is c.self.invariant.1) read same

pub loop-low-preserved : goal.loop-low-preserved
loop-low-preserved c =
    let middle : ℕ = c.loop-low.low + (c.loop-low.high - c.loop-low.low) / 2 in
    let len = length-map c.self.inside.entries.items pair_of in
    let read = slice_get_view pair_of c.self.inside.entries.items c.args.self.now middle c.index.result.now c.self.view_is (omega (arith, len, ap length c.self.view_is)) c.index.ensures in
    let greater : slice_cmp nat_cmp c.args.key.now c.index.result.now.key ≡ Greater = ap (slice_cmp nat_cmp c.args.key.now) (sym c.as_str.ensures.value) ∙ sym c.cmp.ensures ∙ c.in-Greater.is in
    record {
      order = omega arith;
      within = c.loop-low.invariant.within;
      above = rw add-one (above_middle c.args.key.now c.args.self.now middle _ (in_order c.self.view_is c.self.invariant.1) read greater);
      below = c.loop-low.invariant.below;
    }

pub returns-clause-place : goal.returns-clause-place
returns-clause-place c =
    let end : c.loop-low.high ≡ c.loop-low.low = omega arith in
    is_gap c.args.key.now c.args.self.now c.loop-low.low (omega arith) c.loop-low.invariant.above
    (subst (λ (i : ℕ). IsBelow c.args.key.now (drop i c.args.self.now)) end c.loop-low.invariant.below)
