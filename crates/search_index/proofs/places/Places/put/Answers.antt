-- The posting is in the first free place.
use Rattle.std.proofs.Common.{◌≡◌, ◌∙◌, Some, ap, slice_get, sym}
use Rattle.std.specs.Prelude.{vec_capacity}
use Rattle.std.proofs.lemmas.Option.{slice_get_within, slice_get-get_or}
use Rattle.search_index.proofs.StoreLemmas.{fills, first_free, stored_fill}
use Rattle.search_index.proofs.places.Places.put.Goals as goal

first : (c : goal.After-self-in-Some-3-1) → c.self.inside.free ≡ Some c.in-Some.place
first c = sym c.get.ensures ∙ c.in-Some.is

found : (c : goal.After-self-in-Some-3-1) → slice_get c.self.inside.items.items c.in-Some.place ≡ Some c.index.result.now
found c =
    let free = first_free c.self.inside.items.items c.self.inside.taken c.self.inside.free c.in-Some.place c.self.invariant (first c) in
    slice_get-get_or c.self.inside.items.items c.in-Some.place c.index.result.now (slice_get_within c.self.inside.items.items c.in-Some.place free.posting free.there) ∙ ap Some (sym c.index.ensures)

pub invariant_of-self : goal.invariant_of-self
invariant_of-self c = stored_fill c.self.inside.items.items c.self.inside.taken c.self.inside.free c.in-Some.place c.index.result.now c.args.posting c.self.invariant (first c) (found c) c.requires.object

pub returns-in-Some-clause-was_free : goal.returns-in-Some-clause-was_free
returns-in-Some-clause-was_free c = rw (← c.self.view_is) ((fills c.self.inside.items.items c.self.inside.taken c.self.inside.free (vec_capacity c.self.inside.items) c.in-Some.place c.index.result.now c.args.posting c.self.invariant (first c) (found c) c.requires.object).was_free)

pub returns-in-Some-clause-updates : goal.returns-in-Some-clause-updates
returns-in-Some-clause-updates c = rw (← c.self.view_is) ((fills c.self.inside.items.items c.self.inside.taken c.self.inside.free (vec_capacity c.self.inside.items) c.in-Some.place c.index.result.now c.args.posting c.self.invariant (first c) (found c) c.requires.object).updates)

pub returns-in-Some-clause-count : goal.returns-in-Some-clause-count
returns-in-Some-clause-count c = rw (← c.self.view_is) ((fills c.self.inside.items.items c.self.inside.taken c.self.inside.free (vec_capacity c.self.inside.items) c.in-Some.place c.index.result.now c.args.posting c.self.invariant (first c) (found c) c.requires.object).count)
