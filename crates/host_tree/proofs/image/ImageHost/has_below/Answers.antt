use Rattle.std.proofs.Common.{List, ℕ, ◌<◌, length, ap, subst, ◌∙◌}
use Rattle.std.specs.Map.Iter.{deref_pair}
use Rattle.host_tree.specs.Below.{AreEnds}
use Rattle.host_tree.specs.Entries.{has_below}
use Rattle.host_tree.proofs.BelowLemmas.{ends-of}
use Rattle.host_tree.proofs.KeptLemmas.{first_below}
use Rattle.host_tree.proofs.image.ImageHost.has_below.Goals as goal

pub range-requires : goal.range-requires
range-requires c = ends-of c.ends.inside.from c.ends.inside.to c.ends.invariant.0

pub returns : goal.returns
returns c =
    c.is_some.ensures
    ∙ first_below deref_pair c.self.inside.entries c.args.self.now c.in_ok-ends.ends c.ends.inside.from c.ends.inside.to c.range.result c.next.new.self c.next.result c.self.view_is
    (subst (λ (p : List ℕ). 0 < length p) c.ends.view_is c.ends.invariant.1) (subst (λ (p : List ℕ). AreEnds p c.ends.inside.from c.ends.inside.to) c.ends.view_is c.ends.invariant.0)
    (c.range.ensures.in_range tt) c.next.ensures.steps
    ∙ ap (has_below c.args.self.now) c.in_ok-ends.ensures
