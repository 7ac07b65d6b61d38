-- Another posting is in the place.
use Rattle.std.proofs.Common.{◌∙◌, ap, subst, sym}
use Rattle.search_index.specs.Places.{IsTaken, with_value}
use Rattle.search_index.proofs.StoreLemmas.{rewritten, stored_rewrite, taken_at}
use Rattle.search_index.proofs.places.Places.write.Goals as goal

pub invariant_of-self : goal.invariant_of-self
invariant_of-self c =
    let old = taken_at c.self.inside.items.items c.args.place (subst (λ n. IsTaken n c.args.place) (sym c.self.view_is) c.requires.taken) in
    stored_rewrite c.self.inside.items.items c.self.inside.taken c.self.inside.free c.args.place old.0 c.args.posting c.self.invariant old.1 old.2 c.requires.object

pub returns : goal.returns
returns c = rewritten c.self.inside.items.items _ c.args.place c.args.posting c.requires.object ∙ ap (λ n. with_value n c.args.place c.args.posting) c.self.view_is
