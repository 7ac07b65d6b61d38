-- A posting is in both chains.
use Rattle.std.proofs.Common.{◌≡◌, ◌∙◌, ◌++◌, ◌∷◌, ◌<◌, List, Option, None, Some, ap, arith, length, set, subst, sym, ℕ}
use Rattle.std.proofs.lemmas.List.{length-set}
use Rattle.std.proofs.lemmas.Option.{slice_get-get_or}
use Rattle.search_index.specs.Chains.{HasChain, first_in}
use Rattle.search_index.specs.Net.{AddsAt, IsCut, Net, changed_at, heads_without, links, net_of, place_behind}
use Rattle.search_index.specs.Places.{Updates}
use Rattle.search_index.specs.Posting.{link, with_before, with_next}
use Rattle.search_index.specs.declared.posting.Side.TheVariants as side
use Rattle.search_index.proofs.ChainLemmas.{length-heads_without}
use Rattle.search_index.proofs.ListedLemmas.{behind_is, order_chain, order_is}
use Rattle.search_index.proofs.NetLemmas.{IsAdded, added}
use Rattle.search_index.proofs.postings.Postings.join_behind.Goals as goal

put_in : (c : goal.After-self-1) → Updates c.self.inside.items c.put-place.new.self c.put-place.result (Some (record { object = c.args.object; term = c.args.term; of_object = link c.args.before c.place_behind-next.result; of_term = link None c.index-of_term.result.now }))
put_in c =
    subst (λ b. Updates c.self.inside.items c.put-place.new.self c.put-place.result (Some (record { object = c.args.object; term = c.args.term; of_object = link c.args.before c.place_behind-next.result; of_term = link b c.index-of_term.result.now }))) c.none.ensures c.put-place.ensures.updates

heads_are : (c : goal.After-self-1) → c.set_head.new.heads.items ≡ heads_without c.self.inside.objects.items c.args.object c.args.before (Some c.put-place.result)
heads_are c = c.set_head.ensures ∙ ap (λ h. heads_without c.self.inside.objects.items c.args.object c.args.before h) c.at-here.ensures

put : (c : goal.After-self-1) (front back : List ℕ) → IsCut c.args.self.now c.args.object c.args.before front back
    → IsAdded c.self.inside.items c.set_before-2.new.items c.self.inside.objects.items c.self.inside.terms.items c.set_head.new.heads.items (set c.self.inside.terms.items c.args.term c.at-here.result) c.args.object c.args.term c.put-place.result front back
put c front back told =
    let object : c.args.object < length c.self.inside.objects.items = subst (λ (n : Net). c.args.object < n.objects) (sym c.self.view_is) c.requires.object in
    let term : c.args.term < length c.self.inside.terms.items = subst (λ (n : Net). c.args.term < n.terms) (sym c.self.view_is) c.requires.term in
    let cut : IsCut (net_of c.self.inside.items c.self.inside.objects.items c.self.inside.terms.items) c.args.object c.args.before front back = subst (λ n. IsCut n c.args.object c.args.before front back) (sym c.self.view_is) told in
    let has : HasChain (links side.Object c.self.inside.items) c.self.inside.objects.items c.args.object (front ++ back) = order_chain c.self.inside.items c.self.inside.objects.items c.self.inside.terms.items c.args.object (front ++ back) c.self.invariant.sound object cut.parts in
    let next : c.place_behind-next.result ≡ first_in back =
    c.place_behind-next.ensures ∙ ap (λ z. place_behind c.self.inside.items z c.args.object c.args.before) c.deref.ensures.value ∙ behind_is c.self.inside.items c.self.inside.objects.items c.args.object c.args.before front back has cut.last in
    subst (λ (h : List (Option ℕ)). IsAdded c.self.inside.items c.set_before-2.new.items c.self.inside.objects.items c.self.inside.terms.items h (set c.self.inside.terms.items c.args.term c.at-here.result) c.args.object c.args.term c.put-place.result front back) (sym (heads_are c))
    (subst (λ (h : Option ℕ). IsAdded c.self.inside.items c.set_before-2.new.items c.self.inside.objects.items c.self.inside.terms.items (heads_without c.self.inside.objects.items c.args.object c.args.before (Some c.put-place.result)) (set c.self.inside.terms.items c.args.term h) c.args.object c.args.term c.put-place.result front back) (sym c.at-here.ensures)
    (added c.self.inside.items c.put-place.new.self c.set_next.new.items c.set_before.new.items c.set_before-2.new.items c.self.inside.objects.items c.self.inside.terms.items
    c.args.object c.args.term c.put-place.result c.args.before c.place_behind-next.result c.index-of_term.result.now front back c.self.invariant.sound has cut.last (sym next)
    (slice_get-get_or _ _ c.index-of_term.result.now term ∙ ap Some (sym c.index-of_term.ensures)) c.put-place.ensures.was_free (put_in c) c.put-place.ensures.count c.put-place.ensures.capacity
    (c.set_next.ensures ∙ ap (λ h. changed_at c.put-place.new.self c.args.before (with_next side.Object h)) c.at-here.ensures)
    (c.set_before.ensures ∙ ap (λ h. changed_at c.set_next.new.items c.place_behind-next.result (with_before side.Object h)) c.at-here.ensures)
    (c.set_before-2.ensures ∙ ap (λ h. changed_at c.set_before.new.items c.index-of_term.result.now (with_before side.Term h)) c.at-here.ensures)))

pub invariant_of-self : goal.invariant_of-self
invariant_of-self c =
    let cut = c.requires.before in
    record {
      sound = (put c cut.0 cut.1 cut.2).sound;
      objects_numbered = omega (arith, c.self.invariant.objects_numbered, ap length c.set_head.ensures, length-heads_without c.self.inside.objects.items c.args.object c.args.before c.at-here.result);
      terms_numbered = omega (arith, c.self.invariant.terms_numbered, length-set c.self.inside.terms.items c.args.term c.at-here.result);
    }

pub returns : goal.returns
returns c =
    let cut = c.requires.before in
    let one = put c cut.0 cut.1 cut.2 in
    let now = net_of c.set_before-2.new.items c.set_head.new.heads.items (set c.self.inside.terms.items c.args.term c.at-here.result) in
    subst (λ n. AddsAt n now c.args.object c.args.term c.args.before c.at-here.result) c.self.view_is (record {
      adds = one.adds;
      at = c.at-here.ensures ∙ ap Some (sym one.at);
      order = λ front back told.
          let other = put c front back (subst (λ n. IsCut n c.args.object c.args.before front back) c.self.view_is told) in
          order_is c.set_before-2.new.items c.set_head.new.heads.items (set c.self.inside.terms.items c.args.term c.at-here.result) c.args.object (front ++ one.adds.place ∷ back) one.sound
          (subst (λ p. HasChain (links side.Object c.set_before-2.new.items) c.set_head.new.heads.items c.args.object (front ++ p ∷ back)) (sym one.at) other.chain);
    })
