-- The parts of a posting, for the private clauses.
use Rattle.std.specs.Prelude.{ℕ, Option}
use Rattle.search_index.specs.declared.posting.Link.{Link}
use Rattle.search_index.specs.declared.posting.Side.{Side}
use Rattle.search_index.specs.declared.posting.Side.TheVariants as side
use Rattle.search_index.specs.declared.posting.Posting.{Posting}

-- the neighbours in a chain
abbrev pub link_of : Side → Posting → Link
link_of side.Term p = p.of_term
link_of side.Object p = p.of_object

-- the number of the term or object whose chain it is
abbrev pub owner_of : Side → Posting → ℕ
owner_of side.Term p = p.term
owner_of side.Object p = p.object

-- a link to these two
abbrev pub link : Option ℕ → Option ℕ → Link
link before next = record { before = before; next = next }

-- the posting with another link in a chain
abbrev pub with_link : Side → Link → Posting → Posting
with_link side.Term l p = record { object = p.object; term = p.term; of_object = p.of_object; of_term = l }
with_link side.Object l p = record { object = p.object; term = p.term; of_object = l; of_term = p.of_term }

-- the posting with another place behind it
abbrev pub with_next : Side → Option ℕ → Posting → Posting
with_next s next p = with_link s (link (link_of s p).before next) p

-- the posting with another place before it
abbrev pub with_before : Side → Option ℕ → Posting → Posting
with_before s before p = with_link s (link before (link_of s p).next) p

-- its object and its term
abbrev pub pair_of : Posting → ℕ × ℕ
pair_of p = (p.object, p.term)

-- the object or the term of the two
abbrev pub owner_in : Side → ℕ × ℕ → ℕ
owner_in side.Term p = p.1
owner_in side.Object p = p.0

-- the other chain
abbrev pub other_side : Side → Side
other_side side.Term = side.Object
other_side side.Object = side.Term
