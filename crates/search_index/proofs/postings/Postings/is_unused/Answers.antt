-- A term without a first place has no posting.
use Rattle.std.proofs.Common.{◌≡◌, ◌∙◌, ◌↔◌, Bool, true, false, not, Option, None, Some, is_some, IsTrue, get_or, refl, sym, ap, subst}
use Rattle.std.proofs.lemmas.Bool.{false≢true}
use Rattle.search_index.specs.Net.{IsUnused}
use Rattle.search_index.proofs.WalkLemmas.{unused_is}
use Rattle.search_index.proofs.postings.Postings.is_unused.Goals as goal

tells : {X : Type 0} (o : Option X) (b : Bool) → is_some o ≡ not b → IsTrue b ↔ (o ≡ None)
tells None true e = (λ h. refl, λ h. refl)
tells None false e = absurd (false≢true e)
tells (Some x) true e = absurd (false≢true (sym e))
tells (Some x) false e = (λ h. absurd (false≢true h), λ h. absurd (cc))

pub returns : goal.returns
returns c =
    let is = unused_is c.self.inside.items c.self.inside.objects.items c.self.inside.terms.items c.args.term c.self.invariant.sound in
    let told = tells c.first_of.result c.is_none.result c.is_none.ensures in
    let read = ap (λ z. get_or z c.args.term None) (sym c.deref.ensures.value) ∙ sym c.first_of.ensures in
    subst (λ n. IsTrue c.is_none.result ↔ IsUnused n c.args.term) c.self.view_is
    (λ h. is.0 (read ∙ told.0 h), λ h. told.1 (sym read ∙ is.1 h))
