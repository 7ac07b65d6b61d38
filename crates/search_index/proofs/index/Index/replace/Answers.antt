-- The object is in with its new pairs: where it stood, or put in where it wasn't there.
use Rattle.search_index.proofs.MergeLemmas.{put_in_place}
use Rattle.search_index.proofs.index.Index.replace.Goals as goal

pub change-requires-clause-stands : goal.change-requires-clause-stands
change-requires-clause-stands c = (c.args.scope, c.args.name, c.in-Some.ensures)

pub insert-requires-clause-absent : goal.insert-requires-clause-absent
insert-requires-clause-absent c = c.in-None.ensures

pub returns-in-Some-clause-replaces : goal.returns-in-Some-clause-replaces
returns-in-Some-clause-replaces c = c.change.ensures.replaces c.args.scope c.args.name c.in-Some.ensures

pub returns-in-Some-clause-room : goal.returns-in-Some-clause-room
returns-in-Some-clause-room c = c.change.ensures.room

pub returns-in-None-clause-replaces : goal.returns-in-None-clause-replaces
returns-in-None-clause-replaces c = put_in_place c.args.self.now c.insert.new.self c.args.scope c.args.name c.args.pairs c.in-None.ensures c.insert.ensures.adds

pub returns-in-None-clause-room : goal.returns-in-None-clause-room
returns-in-None-clause-room c = c.insert.ensures.room
