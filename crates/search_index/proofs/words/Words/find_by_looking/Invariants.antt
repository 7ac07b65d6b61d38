-- None so far is the word.
use Rattle.std.proofs.Common.{◌≢◌, ◌<◌, ℕ, Some}
use Rattle.ordered_keys.specs.Keys.{key_of}
use Rattle.search_index.proofs.words.Words.find_by_looking.Given as goal

abbrev pub invariant-loop-number : goal.invariant-loop-number
invariant-loop-number l = (i : ℕ) → i < l.number → key_of l.sought.texts.now i ≢ Some l.sought.word.now
