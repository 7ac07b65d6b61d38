-- The words so far.
use Rattle.std.proofs.Common.{◌≡◌, take}
use Rattle.command_words.specs.Words.{and_more, words_alone}
use Rattle.command_words.specs.Gathering.{given_told}
use Rattle.command_words.proofs.given.Given.add_words.Given as goal

abbrev pub invariant-loop-word : goal.invariant-loop-word
invariant-loop-word l = given_told l.self ≡ and_more (given_told l.fn.self) (words_alone (take l.word-index l.words))
