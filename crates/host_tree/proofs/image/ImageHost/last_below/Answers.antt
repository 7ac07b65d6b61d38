use Rattle.std.proofs.Common.{List, ℕ, ◌<◌, length, Some, subst, sym}
use Rattle.host_tree.specs.Below.{AreEnds}
use Rattle.host_tree.specs.Image.{IsLastBelow}
use Rattle.host_tree.proofs.BelowLemmas.{ends-of}
use Rattle.host_tree.proofs.KeptLemmas.{last_below, none_below}
use Rattle.host_tree.proofs.image.ImageHost.last_below.Goals as goal

pub range-requires : goal.range-requires
range-requires c = ends-of c.ends.inside.from c.ends.inside.to c.ends.invariant.0

pub returns-in_ok-copy-in-Some : goal.returns-in_ok-copy-in-Some
returns-in_ok-copy-in-Some c =
    subst (λ (p : List ℕ). IsLastBelow c.args.self.now c.args.ends.now (Some p)) (sym c.in_ok-copy-in-Some.ensures)
    (last_below c.self.inside.entries c.args.self.now c.args.ends.now c.ends.inside.from c.ends.inside.to c.range.result c.next_back.new.self (c.in-Some.path.now, c.in-Some.field-0-1.now) c.self.view_is
    (subst (λ (p : List ℕ). 0 < length p) c.ends.view_is c.ends.invariant.1) (subst (λ (p : List ℕ). AreEnds p c.ends.inside.from c.ends.inside.to) c.ends.view_is c.ends.invariant.0)
    (c.range.ensures.in_range tt) c.in-Some.ensures.steps)

pub returns-in-None : goal.returns-in-None
returns-in-None c =
    none_below c.self.inside.entries c.args.self.now c.args.ends.now c.ends.inside.from c.ends.inside.to c.range.result c.self.view_is
    (subst (λ (p : List ℕ). 0 < length p) c.ends.view_is c.ends.invariant.1) (subst (λ (p : List ℕ). AreEnds p c.ends.inside.from c.ends.inside.to) c.ends.view_is c.ends.invariant.0)
    (c.range.ensures.in_range tt) c.in-None.ensures.steps.0
