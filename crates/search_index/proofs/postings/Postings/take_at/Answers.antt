-- A posting is out of both chains.
use Rattle.std.proofs.Common.{◌++◌, IsSome, arith, subst, sym}
use Rattle.search_index.specs.Net.{TakesAt, held, net_of}
use Rattle.search_index.specs.declared.posting.Side.TheVariants as side
use Rattle.search_index.proofs.ListedLemmas.{listed, order_is, place_chain}
use Rattle.search_index.proofs.NetLemmas.{IsTaken, kept_side, taken}
use Rattle.search_index.proofs.PlaceLemmas.{place_there}
use Rattle.search_index.proofs.postings.Postings.take_at.Goals as goal

pub posting-requires : goal.posting-requires
posting-requires c = (place_there c.self.inside.items c.self.inside.objects.items c.self.inside.terms.items c.args.place).0 (subst (λ n. IsSome (held n c.args.place)) (sym c.self.view_is) c.requires)

pub unlink-requires-2-clause-linked : goal.unlink-requires-2-clause-linked
unlink-requires-2-clause-linked c = kept_side side.Object c.self.inside.items c.unlink.new.items c.self.inside.objects.items c.unlink.ensures.pairs c.unlink.ensures.other c.self.invariant.sound.of_objects

took : (c : goal.After-remove) → IsTaken c.self.inside.items c.remove.new.self c.self.inside.objects.items c.self.inside.terms.items c.unlink-2.new.heads.items c.unlink.new.heads.items c.args.place c.posting.result.now
took c = taken c.self.inside.items c.unlink.new.items c.unlink-2.new.items c.remove.new.self c.self.inside.objects.items c.self.inside.terms.items c.unlink-2.new.heads.items c.unlink.new.heads.items
    c.args.place c.posting.result.now c.self.invariant.sound c.posting.ensures c.unlink.ensures c.unlink-2.ensures c.remove.ensures.updates c.remove.ensures.count c.remove.ensures.capacity

pub invariant_of-self : goal.invariant_of-self
invariant_of-self c = record {
  sound = (took c).sound;
  objects_numbered = omega (arith, c.self.invariant.objects_numbered, c.unlink-2.ensures.count);
  terms_numbered = omega (arith, c.self.invariant.terms_numbered, c.unlink.ensures.count);
}

pub returns : goal.returns
returns c =
    let now = net_of c.remove.new.self c.unlink-2.new.heads.items c.unlink.new.heads.items in
    subst (λ n. TakesAt n now c.args.place c.posting.result.now.term) c.self.view_is (record {
      object = c.posting.result.now.object;
      takes = (took c).takes;
      at = (took c).at;
      order = λ i front back told. order_is c.remove.new.self c.unlink-2.new.heads.items c.unlink.new.heads.items i (front ++ back) (took c).sound
          ((took c).chain i front back (place_chain c.self.inside.items c.self.inside.objects.items c.self.inside.terms.items i c.args.place front back c.self.invariant.sound told));
      listed = λ i. listed c.remove.new.self c.unlink-2.new.heads.items c.unlink.new.heads.items i (took c).sound;
    })
