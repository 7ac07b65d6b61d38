-- The first posting of an object is out, or it has none.
use Rattle.std.proofs.Common.{◌≡◌, ◌∙◌, IsSome, None, Some, get_or, is_some, option_map, ap, refl, subst, sym}
use Rattle.search_index.specs.Net.{HasNone, Takes, held}
use Rattle.search_index.specs.Posting.{pair_of}
use Rattle.search_index.proofs.NetLemmas.{held-net}
use Rattle.search_index.proofs.PlaceLemmas.{one_object, place_there}
use Rattle.search_index.proofs.WalkLemmas.{first_there, no_posting}
use Rattle.search_index.proofs.postings.Postings.take.Goals as goal

pub take_at-requires : goal.take_at-requires
take_at-requires c =
    let first : get_or c.self.inside.objects.items c.args.object None ≡ Some c.in-Some.place = ap (λ z. get_or z c.args.object None) (sym c.deref.ensures.value) ∙ sym c.first_of.ensures ∙ c.in-Some.is in
    let there = first_there c.self.inside.items c.self.inside.objects.items c.self.inside.terms.items c.args.object c.in-Some.place c.self.invariant.sound first in
    subst (λ n. IsSome (held n c.in-Some.place)) c.self.view_is ((place_there c.self.inside.items c.self.inside.objects.items c.self.inside.terms.items c.in-Some.place).1 (ap is_some there.1))

pub returns-in-Some : goal.returns-in-Some
returns-in-Some c =
    let first : get_or c.self.inside.objects.items c.args.object None ≡ Some c.in-Some.place = ap (λ z. get_or z c.args.object None) (sym c.deref.ensures.value) ∙ sym c.first_of.ensures ∙ c.in-Some.is in
    let there = first_there c.self.inside.items c.self.inside.objects.items c.self.inside.terms.items c.args.object c.in-Some.place c.self.invariant.sound first in
    let x = there.0 in
    let stands = subst (λ n. held n c.in-Some.place ≡ Some (x.object, x.term)) c.self.view_is (held-net c.self.inside.items c.self.inside.objects.items c.self.inside.terms.items c.in-Some.place ∙ ap (option_map pair_of) there.1) in
    let took = c.take_at.ensures in
    let was = ap (held c.args.self.now) (sym took.at) ∙ took.takes.was in
    subst (λ o. Takes c.args.self.now c.take_at.new.self o c.take_at.result) (one_object c.args.self.now c.in-Some.place took.object c.take_at.result x.object x.term was stands ∙ there.2) took.takes

pub returns-in-None : goal.returns-in-None
returns-in-None c =
    let none : get_or c.self.inside.objects.items c.args.object None ≡ None = ap (λ z. get_or z c.args.object None) (sym c.deref.ensures.value) ∙ sym c.first_of.ensures ∙ c.in-None.is in
    (refl, subst (λ n. HasNone n c.args.object) c.self.view_is (no_posting c.self.inside.items c.self.inside.objects.items c.self.inside.terms.items c.args.object c.self.invariant.sound none))
