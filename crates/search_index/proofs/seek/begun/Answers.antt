-- An AND may begin with one of its items.
use Rattle.std.proofs.Common.{◌<◌, arith, length, refl}
use Rattle.std.proofs.lemmas.Option.{slice_get_read}
use Rattle.search_index.proofs.SeekLemmas.{begun_is}
use Rattle.search_index.proofs.seek.begun.Goals as goal

pub returns-in-Some-get : goal.returns-in-Some-get
returns-in-Some-get c =
    let within : c.in-Some.place < length c.args.items.now = grind (arith, c.in-Some-get.ensures.lookup.0) in
    begun_is c.args.terms.now c.args.postings.now c.args.scope c.args.among.now c.args.items.now c.in-Some.place c.in-Some-get.item.now c.begun_with.result
    (slice_get_read c.args.items.now (length c.args.items.now) c.in-Some.place c.in-Some-get.item.now refl within c.in-Some-get.ensures.lookup.1) c.begun_with.ensures
