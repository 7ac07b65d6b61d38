-- The number of a key that is there, or of a new one.
use Rattle.ordered_keys.proofs.KeyLemmas.{numbers_found, numbers_new}
use Rattle.ordered_keys.proofs.keys.Ordered.number_of.Goals as goal

pub returns-in-Some : goal.returns-in-Some
returns-in-Some g c = numbers_found g.K.Ord.cmp g.met.K.Ord.total c.args.self.now c.args.key c.in-Some.number c.requires.alike c.requires.once c.in-Some.ensures

pub returns-in-None : goal.returns-in-None
returns-in-None g c = numbers_new g.K.Ord.cmp g.met.K.Ord.total c.args.self.now c.insert.new.self c.args.key c.insert.result c.requires.once c.in-None.ensures c.insert.ensures
