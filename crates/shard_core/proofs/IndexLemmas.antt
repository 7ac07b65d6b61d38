-- The index of a shard stays exact when one organisation changes.
use Rattle.std.proofs.Common.{◌≡◌, ℕ, Bool, true, false, cond, List, Option, Some, None, sym, ap, subst, refl, ◌∙◌}
use Rattle.std.specs.Str.{bytes_eq}
use Rattle.std.specs.Cmp.Lexicographic.{bytes_decides}
use Rattle.object_store.specs.Objects.{Objects}
use Rattle.object_finder.specs.Held.{Held}
use Rattle.object_finder.specs.Exact.{HoldsExactly, OthersStay}
use Rattle.org_core.specs.States.{Kept, State, objects_of, state_in}
use Rattle.shard_core.specs.Indexing.{IsIndexed, objects_at}
use Rattle.shard_core.specs.Organisations.{KeptOrganisations, kept_at, state_at}

-- what is held of another organisation is as before, so it is exact as before
others_exact : (org name : List ℕ) (old new : Held) (objects : Objects) → OthersStay org old new → bytes_eq org name ≡ false → HoldsExactly old name objects → HoldsExactly new name objects
others_exact org name old new objects stay other exact = record {
  there = λ word n. stay.objects name word n other ∙ exact.there word n;
  pairs = λ word n p. stay.pairs name word n p other ∙ exact.pairs word n p;
}

-- under one name: its own organisation is as the request leaves it, any other as before
exact_under : (own : Bool) (org name : List ℕ) (before now left : Option Kept) (old new : Held)
    → bytes_eq org name ≡ own
    → now ≡ cond own left before
    → OthersStay org old new
    → HoldsExactly new org (objects_of (state_at left))
    → HoldsExactly old name (objects_of (state_at before))
    → HoldsExactly new name (objects_of (state_at now))
exact_under true org name before now left old new own put stay is was =
    subst (λ (n : List ℕ). HoldsExactly new n (objects_of (state_at now))) ((bytes_decides org name).0 own)
    (subst (λ (k : Option Kept). HoldsExactly new org (objects_of (state_at k))) (sym put) is)
exact_under false org name before now left old new own put stay is was =
    subst (λ (k : Option Kept). HoldsExactly new name (objects_of (state_at k))) (sym put)
    (others_exact org name old new (objects_of (state_at before)) stay own was)

-- what is kept under the name of an organisation is replaced, and what the index holds of it
pub index-written : (before now : KeptOrganisations) (old new : Held) (org : List ℕ) (left : Option Kept)
    → ((name : List ℕ) → kept_at now name ≡ cond (bytes_eq org name) left (kept_at before name))
    → OthersStay org old new
    → HoldsExactly new org (objects_of (state_at left))
    → IsIndexed before old
    → IsIndexed now new
index-written before now old new org left put stay is was name =
    exact_under (bytes_eq org name) org name (kept_at before name) (kept_at now name) left old new refl (put name) stay is (was name)

-- exact for an organisation is exact under its name for what is kept of it
pub exact_at : (held : Held) (name org : List ℕ) (kept : Option Kept) (state : State) → name ≡ org → state_at kept ≡ state → HoldsExactly held name (objects_of state) → HoldsExactly held org (objects_of (state_at kept))
exact_at held name org kept state named is exact =
    subst (λ (s : State). HoldsExactly held org (objects_of s)) (sym is) (subst (λ (n : List ℕ). HoldsExactly held n (objects_of state)) named exact)

-- and the other way
pub exact_of : (held : Held) (name org : List ℕ) (kept : Option Kept) (state : State) → name ≡ org → state_at kept ≡ state → HoldsExactly held org (objects_of (state_at kept)) → HoldsExactly held name (objects_of state)
exact_of held name org kept state named is exact =
    subst (λ (s : State). HoldsExactly held name (objects_of s)) is (subst (λ (n : List ℕ). HoldsExactly held n (objects_of (state_at kept))) (sym named) exact)
