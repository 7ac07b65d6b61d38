use Rattle.membership.proofs.ListsLemmas.{follows_lists, follows_row, takes_the_last}
use Rattle.membership.proofs.laws.changes_follow_the_lists.Goals as goal

pub returns : goal.returns
returns c = record { organisation = follows_lists; members = follows_row; groups = takes_the_last }
