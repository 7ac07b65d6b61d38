-- The posting in the place is out, and its term where it was the last.
use Rattle.search_index.proofs.arena.drop_at.Goals as goal

pub returns : goal.returns
returns c =
    let took = c.take_at-term.ensures in
    record { object = took.object; first = record { term = c.take_at-term.result; takes = took.takes; drops = c.drop_unused.ensures }; at = took.at; order = took.order; listed = took.listed }
