-- One number more is met, where something stands under it.
use Rattle.std.proofs.Common.{◌+◌, ◌∙◌, sym, subst}
use Rattle.search_index.proofs.HashedLemmas.{AreMetBefore, none_here, one_met, small_of}
use Rattle.search_index.proofs.hashed_numbers.HashedNumbers.begin_anew.Goals as goal
use Rattle.search_index.proofs.hashed_numbers.HashedNumbers.begin_anew.Goals.{in-Some, in_default}

pub loop-number-preserved : goal.loop-number-preserved
loop-number-preserved g c =
    let hash = g.H.Hashes.hash c.args.things.now in
    let number = c.loop-number.number in
    elim c.match-hash_at.branch [
      | in-Some w ↦
          let at = sym c.hash_at.ensures ∙ w.in-Some.is in
          subst (λ z. AreMetBefore hash z (number + 1)) (sym w.self-is)
          (one_met hash c.loop-number.self w.put.new.self number w.in-Some.hash c.loop-number.invariant (small_of hash number w.in-Some.hash c.requires at) at w.put.ensures.met w.put.ensures.keeps)
      | in_default w ↦
          subst (λ z. AreMetBefore hash z (number + 1)) (sym w.self-is)
          (none_here hash c.loop-number.self number c.loop-number.invariant (λ h is. w.in_default.not-Some h (c.hash_at.ensures ∙ is)))
    ]
