-- The number of the word, and each is met.
use Rattle.std.proofs.Common.{◌≡◌, ◌≢◌, ℕ, MatchOption, Some, subst}
use Rattle.ordered_keys.specs.Keys.{key_of}
use Rattle.search_index.proofs.WordLemmas.{number_put, number_there}
use Rattle.search_index.proofs.words.number_of.Goals as goal

pub returns-in-Some-clause-numbers : goal.returns-in-Some-clause-numbers
returns-in-Some-clause-numbers c =
    number_there c.args.texts.now c.args.text c.in-Some.number c.requires.once
    (subst (λ o. MatchOption o ((i : ℕ) → key_of c.args.texts.now i ≢ Some c.args.text) (λ number. key_of c.args.texts.now number ≡ Some c.args.text)) c.in-Some.is c.requires.found)

pub returns-in-None-clause-numbers : goal.returns-in-None-clause-numbers
returns-in-None-clause-numbers c =
    number_put c.args.texts.now c.put_in.new.texts c.args.text c.put_in.result c.requires.once
    (subst (λ o. MatchOption o ((i : ℕ) → key_of c.args.texts.now i ≢ Some c.args.text) (λ number. key_of c.args.texts.now number ≡ Some c.args.text)) c.in-None.is c.requires.found)
    c.put_in.ensures.inserts
