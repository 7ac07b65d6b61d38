-- Places linked forward and backward, for the private clauses.
use Rattle.std.specs.Prelude.{◌≡◌, ◌≢◌, ◌↔◌, ℕ, zero, suc, ◌<◌, List, [], ◌∷◌, length, Option, Some, None, slice_get}
use Rattle.ordered_keys.specs.Numbers.{Among}
use Rattle.search_index.specs.Posting.{link}
use Rattle.search_index.specs.declared.posting.Link.{Link}

-- the links lead from the first place to the others in turn, and then end
abbrev pub IsPath : (ℕ → Option Link) → Option ℕ → List ℕ → Type 0
IsPath links first [] = first ≡ None
IsPath links first (p ∷ ps) = (l : Link) × (first ≡ Some p) × (links p ≡ Some l) × IsPath links l.next ps

-- the links lead from the first place to the others in turn and back again
abbrev pub IsChain : (ℕ → Option Link) → Option ℕ → Option ℕ → List ℕ → Type 0
IsChain links before first [] = first ≡ None
IsChain links before first (p ∷ ps) = (next : Option ℕ) × (first ≡ Some p) × (links p ≡ Some (link before next)) × IsChain links (Some p) next ps

-- the first of some places
abbrev pub first_in : List ℕ → Option ℕ
first_in [] = None
first_in (p ∷ ps) = Some p

-- the last of some places, or this where there is none
abbrev pub last_from : Option ℕ → List ℕ → Option ℕ
last_from before [] = before
last_from before (p ∷ ps) = last_from (Some p) ps

-- where a link leads
abbrev pub next_in : Option Link → Option ℕ
next_in None = None
next_in (Some l) = l.next

-- the places to which links lead from a first one in turn, so many at most
abbrev pub walk : (ℕ → Option Link) → ℕ → Option ℕ → List ℕ
walk links zero first = []
walk links (suc n) None = []
walk links (suc n) (Some p) = p ∷ walk links n (next_in (links p))

-- the chain of a head has these places in their order
pub record HasChain (links : ℕ → Option Link) (heads : List (Option ℕ)) (h : ℕ) (ps : List ℕ) : Type 0 where
  pub first : Option ℕ
  pub there : slice_get heads h ≡ Some first
  pub chain : IsChain links None first ps

-- from each head a chain leads to just the places of its owner
pub record IsLinked (links : ℕ → Option Link) (owner : ℕ → Option ℕ) (heads : List (Option ℕ)) : Type 0 where
  pub chain : (h : ℕ) (first : Option ℕ) → slice_get heads h ≡ Some first → (ps : List ℕ) × IsChain links None first ps × ((p : ℕ) → Among ps p ↔ (owner p ≡ Some h))
  pub headed : (p h : ℕ) → owner p ≡ Some h → h < length heads

-- the links lead from one place to the other and back, and are as before elsewhere
pub record Joins (old new : ℕ → Option Link) (before next : Option ℕ) : Type 0 where
  pub front : (x : ℕ) (l : Link) → before ≡ Some x → old x ≡ Some l → new x ≡ Some (link l.before next)
  pub back : (x : ℕ) (l : Link) → next ≡ Some x → old x ≡ Some l → new x ≡ Some (link before l.next)
  pub others : (x : ℕ) → before ≢ Some x → next ≢ Some x → new x ≡ old x

-- a place was put between two, and the links are as before elsewhere
pub record Enters (old new : ℕ → Option Link) (place : ℕ) (before next : Option ℕ) : Type 0 where
  pub put : new place ≡ Some (link before next)
  pub front : (x : ℕ) (l : Link) → before ≡ Some x → old x ≡ Some l → new x ≡ Some (link l.before (Some place))
  pub back : (x : ℕ) (l : Link) → next ≡ Some x → old x ≡ Some l → new x ≡ Some (link (Some place) l.next)
  pub others : (x : ℕ) → x ≢ place → before ≢ Some x → next ≢ Some x → new x ≡ old x

-- the owners without one place
pub record IsWithout (owner less : ℕ → Option ℕ) (place : ℕ) : Type 0 where
  pub gone : less place ≡ None
  pub others : (x : ℕ) → x ≢ place → less x ≡ owner x

-- the owners with one place more
pub record IsWith (owner more : ℕ → Option ℕ) (place h : ℕ) : Type 0 where
  pub free : owner place ≡ None
  pub put : more place ≡ Some h
  pub others : (x : ℕ) → x ≢ place → more x ≡ owner x
