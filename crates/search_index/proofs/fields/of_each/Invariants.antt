-- Those so far that have what is wanted.
use Rattle.std.proofs.Common.{◌↔◌, ℕ, take}
use Rattle.ordered_keys.specs.Numbers.{Among}
use Rattle.search_index.specs.Seeking.{HasGiven}
use Rattle.search_index.proofs.fields.of_each.Given as goal

abbrev pub invariant-loop-object : goal.invariant-loop-object
invariant-loop-object l = (x : ℕ) → Among l.found.items x ↔ (Among (take l.object-index l.object-items) x × HasGiven l.terms l.postings l.scope l.field l.wanted x)
