use Rattle.std.proofs.Common.{Some, option_map, option_copied, sym, ap, ◌∙◌}
use Rattle.attr_merge.specs.Merged.{Effective, origin_at}
use Rattle.attr_merge.proofs.EntryLemmas.{origin-entries}
use Rattle.attr_merge.proofs.merged.Merged.origin.Goals as goal

pub returns-in-Some : goal.returns-in-Some
returns-in-Some c =
    ap Some c.as_slice.ensures.value
    ∙ ap (λ r. option_map (λ o. o.items) (option_copied r)) (sym c.in-Some.is)
    ∙ ap (option_map (λ o. o.items)) c.get.ensures.value
    ∙ origin-entries c.args.path.now c.self.inside.leaves.entries
    ∙ ap (λ (e : Effective). origin_at c.args.path.now e.leaves) c.self.view_is

pub returns-in-None : goal.returns-in-None
returns-in-None c =
    ap (λ r. option_map (λ o. o.items) (option_copied r)) (sym c.in-None.is)
    ∙ ap (option_map (λ o. o.items)) c.get.ensures.value
    ∙ origin-entries c.args.path.now c.self.inside.leaves.entries
    ∙ ap (λ (e : Effective). origin_at c.args.path.now e.leaves) c.self.view_is
