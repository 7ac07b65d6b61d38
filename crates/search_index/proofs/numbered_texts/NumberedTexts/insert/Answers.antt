-- The last free number has the text.
use Rattle.std.proofs.Common.{◌<◌, ℕ, List, Some, length, set, sym, subst}
use Rattle.std.specs.Vec.{vec_capacity}
use Rattle.ordered_keys.specs.Keys.{Inserts, Keys}
use Rattle.search_index.specs.NumberedTexts.{AreNumbered}
use Rattle.search_index.proofs.NumberedLemmas.{put_in}
use Rattle.search_index.proofs.numbered_texts.NumberedTexts.insert.Goals as goal

pub index_mut-requires : goal.index_mut-requires
index_mut-requires c = subst (λ n. c.in-Some.number < n) (sym c.self.inside.items.ok.0) (put_in c.self.inside.items.items c.self.inside.free.items c.pop.new.self.items (vec_capacity c.self.inside.free) c.args.text c.in-Some.number c.self.invariant c.in-Some.ensures.items).within

pub invariant_of-self : goal.invariant_of-self
invariant_of-self c =
    let put = put_in c.self.inside.items.items c.self.inside.free.items c.pop.new.self.items (vec_capacity c.self.inside.free) c.args.text c.in-Some.number c.self.invariant c.in-Some.ensures.items in
    subst (λ n. AreNumbered (set c.self.inside.items.items c.in-Some.number (Some c.args.text)) c.pop.new.self.items n) (sym c.pop.ensures.capacity) put.numbered

pub returns : goal.returns
returns c =
    let put = put_in c.self.inside.items.items c.self.inside.free.items c.pop.new.self.items (vec_capacity c.self.inside.free) c.args.text c.in-Some.number c.self.invariant c.in-Some.ensures.items in
    subst (λ (k : Keys (List ℕ)). Inserts k (record { slots = set c.self.inside.items.items c.in-Some.number (Some c.args.text); room = length c.pop.new.self.items }) c.args.text c.in-Some.number) c.self.view_is put.inserts
