-- The word is met with the others.
use Rattle.std.proofs.Common.{◌∙◌, ap, subst}
use Rattle.search_index.specs.HashedNumbers.{IsMet}
use Rattle.search_index.specs.Hashing.{hash_of}
use Rattle.search_index.proofs.WordLemmas.{words_met_with}
use Rattle.search_index.proofs.words.put_in.Goals as goal

pub returns-clause-met : goal.returns-clause-met
returns-clause-met c =
    words_met_with c.args.hasher c.args.texts.now c.insert-number.new.self c.args.text c.insert-number.result c.args.hashed.now c.put.new.self c.requires.few c.insert-number.ensures c.requires.met
    (subst (λ h. IsMet c.put.new.self h c.insert-number.result) (c.hash_of-hash.ensures ∙ ap (hash_of c.args.hasher) c.as_bytes.ensures.value) c.put.ensures.met) c.put.ensures.keeps
