use Rattle.std.proofs.Common.{◌≡◌, ◌++◌, ap, refl, sym, ◌∙◌}
use Rattle.dep_solver.specs.declared.straight.Needed.{Needed}
use Rattle.dep_solver.specs.declared.straight.Taken.{Taken}
use Rattle.dep_solver.specs.Keys.{key_of}
use Rattle.dep_solver.specs.Straight.{all_needs}
use Rattle.dep_solver.proofs.MarkLemmas.{all_push, marks_more, marks_moved}
use Rattle.dep_solver.proofs.straight.Straight.choose.Goals as goal

pub returns-clause-marked : goal.returns-clause-marked
returns-clause-marked c =
    let places = c.args.self.now.search.places.items in
    record {
      reached = c.in_ok-reach_needs.ensures.reached;
      needed = marks_moved (λ (mark : Needed). mark.need.now) (λ (mark : Needed). mark.key ≡ key_of mark.need.now.name) (all_needs places ++ c.as_slice-needs.result.now) (all_needs c.push-2.new.self.items) c.mark_needs.new.needed.items
          (ap all_needs c.in_ok-push-2.ensures.items ∙ all_push places c.args.place ∙ ap (λ ns. all_needs places ++ ns) (sym c.as_slice-needs.ensures))
          (c.in_ok-mark_needs.ensures (all_needs places) c.requires.needed);
      taken = marks_more (λ (mark : Taken). mark.place) (λ (mark : Taken). mark.key ≡ key_of mark.place.name.now) places c.push-2.new.self.items c.args.self.now.taken.items c.push.new.self.items c.args.place _
          c.requires.taken refl c.key_of.ensures c.in_ok-push-2.ensures.items c.in_ok-push.ensures.items;
    }
