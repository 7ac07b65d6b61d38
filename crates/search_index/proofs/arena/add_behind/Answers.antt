-- The term has its number, and its posting is put in.
use Rattle.search_index.proofs.arena.add_behind.Goals as goal

pub returns : goal.returns
returns c =
    let joins = c.join_behind.ensures in
    record { first = record { term = c.number_of-term.result; numbers = c.number_of-term.ensures; adds = joins.adds }; at = joins.at; order = joins.order }
