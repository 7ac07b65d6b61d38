-- The word is there, and is used once more.
use Rattle.std.proofs.Common.{◌+◌, ◌<◌, ◌^◌, ℕ, List, set, sym, ap, subst, arith}
use Rattle.search_index.specs.Words.{Vocabulary, uses_at}
use Rattle.search_index.proofs.WordLemmas.{taken_in, used_before}
use Rattle.search_index.proofs.words.Words.take_in.Goals as goal

pub overflow_add-index_mut : goal.overflow_add-index_mut
overflow_add-index_mut c =
    let number = c.number_of-number.result in
    let old : Vocabulary = record { texts = c.self.inside.texts; uses = c.self.inside.uses.items } in
    let small = subst (λ (v : Vocabulary). uses_at v number < 2 ^ 63) (sym c.self.view_is) (c.requires.uses number) in
    let is = used_before old c.number_of-number.new.texts c.args.text number c.index_mut.result.now c.self.invariant.counted c.number_of-number.ensures.numbers c.index_mut.ensures.value in
    omega (arith, is, small)

pub invariant_of-self : goal.invariant_of-self
invariant_of-self c =
    let number = c.number_of-number.result in
    let uses : List ℕ = c.self.inside.uses.items in
    let old : Vocabulary = record { texts = c.self.inside.texts; uses = uses } in
    let is = used_before old c.number_of-number.new.texts c.args.text number c.index_mut.result.now c.self.invariant.counted c.number_of-number.ensures.numbers c.index_mut.ensures.value in
    record {
      counted = taken_in old c.number_of-number.new.texts (set uses number (c.index_mut.result.now + 1)) c.args.text number c.self.invariant.counted c.number_of-number.ensures.numbers (ap (λ n. set uses number (n + 1)) is);
      met = c.number_of-number.ensures.met;
    }
