-- The place behind another is the next of the object's places.
use Rattle.std.proofs.Common.{◌∙◌, ap, subst, sym}
use Rattle.search_index.specs.Net.{IsCut, IsListed, place_behind}
use Rattle.search_index.proofs.ListedLemmas.{listed, place_after}
use Rattle.search_index.proofs.postings.Postings.after.Goals as goal

pub returns-clause-next : goal.returns-clause-next
returns-clause-next c front back cut =
    c.place_behind.ensures ∙ ap (λ z. place_behind c.self.inside.items z c.args.object c.args.before) c.deref.ensures.value
    ∙ place_after c.self.inside.items c.self.inside.objects.items c.self.inside.terms.items c.args.object c.args.before front back c.self.invariant.sound (subst (λ n. IsCut n c.args.object c.args.before front back) (sym c.self.view_is) cut)

pub returns-clause-listed : goal.returns-clause-listed
returns-clause-listed c = subst (λ n. IsListed n c.args.object) c.self.view_is (listed c.self.inside.items c.self.inside.objects.items c.self.inside.terms.items c.args.object c.self.invariant.sound)
