-- What is given so far, with what the words that are left give.
use Rattle.std.proofs.Common.{◌≡◌, length}
use Rattle.command_words.specs.Gathering.{given_told, with_left}
use Rattle.command_words.proofs.given.Given.add_all.Given as goal

abbrev pub invariant-loop-left : goal.invariant-loop-left
invariant-loop-left l = with_left (given_told l.fn.self) l.words ≡ with_left (given_told l.self) l.left

abbrev pub decreases-loop-left : goal.decreases-loop-left
decreases-loop-left l = length l.left
