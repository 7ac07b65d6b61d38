-- The words are as they were, in as many numbers as there was memory for.
use Rattle.std.proofs.Common.{refl, arith}
use Rattle.search_index.specs.Words.{Vocabulary}
use Rattle.search_index.proofs.WordLemmas.{grown_words, grows_at_most, more_uses, reserved}
use Rattle.search_index.proofs.words.Words.reserve.Goals as goal

pub invariant_of-self : goal.invariant_of-self
invariant_of-self c =
    let old : Vocabulary = record { texts = c.self.inside.texts; uses = c.self.inside.uses.items } in
    let counted = c.self.invariant.counted in
    let counts = counted.counts in
    let more = more_uses c.self.inside.uses.items c.pad.new.uses.items c.pad.ensures.pads in
    record {
      counted = reserved old c.self.inside.texts c.pad.new.uses.items counted c.pad.ensures.pads (λ i. refl) (omega (arith, counts, more)) counted.few;
      met = c.self.invariant.met;
    }

pub invariant_of-self-in_err-grow : goal.invariant_of-self-in_err-grow
invariant_of-self-in_err-grow c =
    let old : Vocabulary = record { texts = c.self.inside.texts; uses = c.self.inside.uses.items } in
    let grows = grows_at_most c.grow.result c.self.inside.texts c.grow.new.self c.saturating_sub-more.result c.grow.ensures.ok c.grow.ensures.err in
    let all = c.in-Some.ensures.1 in
    let was = c.size.ensures in
    let most = c.if-size-gt-MOST_NUMBERS.false in
    let are = grown_words old c.grow.new.self c.pad.new.uses.items c.self.inside.hashed c.self.inside.hasher c.saturating_sub-more.result c.in-Some.size c.self.invariant c.pad.ensures.pads grows (omega (arith, all, was)) (omega (arith, most)) c.in_ok-pad.ensures.ok in
    are

pub invariant_of-self-in_err-begin_anew : goal.invariant_of-self-in_err-begin_anew
invariant_of-self-in_err-begin_anew c =
    let old : Vocabulary = record { texts = c.self.inside.texts; uses = c.self.inside.uses.items } in
    let grows = grows_at_most c.grow.result c.self.inside.texts c.grow.new.self c.saturating_sub-more.result c.grow.ensures.ok c.grow.ensures.err in
    let all = c.in-Some.ensures.1 in
    let was = c.size.ensures in
    let most = c.if-size-gt-MOST_NUMBERS.false in
    let are = grown_words old c.grow.new.self c.pad.new.uses.items c.self.inside.hashed c.self.inside.hasher c.saturating_sub-more.result c.in-Some.size c.self.invariant c.pad.ensures.pads grows (omega (arith, all, was)) (omega (arith, most)) c.in_ok-pad.ensures.ok in
    record { counted = are.counted; met = c.begin_anew.ensures }

pub invariant_of-self-in-Continue-branch-3 : goal.invariant_of-self-in-Continue-branch-3
invariant_of-self-in-Continue-branch-3 c =
    let old : Vocabulary = record { texts = c.self.inside.texts; uses = c.self.inside.uses.items } in
    let grows = grows_at_most c.grow.result c.self.inside.texts c.grow.new.self c.saturating_sub-more.result c.grow.ensures.ok c.grow.ensures.err in
    let all = c.in-Some.ensures.1 in
    let was = c.size.ensures in
    let most = c.if-size-gt-MOST_NUMBERS.false in
    let are = grown_words old c.grow.new.self c.pad.new.uses.items c.self.inside.hashed c.self.inside.hasher c.saturating_sub-more.result c.in-Some.size c.self.invariant c.pad.ensures.pads grows (omega (arith, all, was)) (omega (arith, most)) c.in_ok-pad.ensures.ok in
    record { counted = are.counted; met = c.begin_anew.ensures }

pub invariant_of-self-else-is_full_with : goal.invariant_of-self-else-is_full_with
invariant_of-self-else-is_full_with c =
    let old : Vocabulary = record { texts = c.self.inside.texts; uses = c.self.inside.uses.items } in
    let grows = grows_at_most c.grow.result c.self.inside.texts c.grow.new.self c.saturating_sub-more.result c.grow.ensures.ok c.grow.ensures.err in
    let all = c.in-Some.ensures.1 in
    let was = c.size.ensures in
    let most = c.if-size-gt-MOST_NUMBERS.false in
    let are = grown_words old c.grow.new.self c.pad.new.uses.items c.self.inside.hashed c.self.inside.hasher c.saturating_sub-more.result c.in-Some.size c.self.invariant c.pad.ensures.pads grows (omega (arith, all, was)) (omega (arith, most)) c.in_ok-pad.ensures.ok in
    are
