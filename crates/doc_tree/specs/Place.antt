-- Where a key stands in a dict, or would stand.
use Rattle.std.specs.Prelude.{◌≡◌, ℕ, zero, suc, ◌<◌, ◌≤◌, List, [], ◌∷◌, length, insert, None, option_map, slice_get}
use Rattle.doc_tree.specs.Doc.{Doc, pairs_of}
use Rattle.doc_tree.specs.Part.{pair_at, with_pair}
use Rattle.doc_tree.specs.declared.fields.Place.{Place}
use Rattle.doc_tree.specs.declared.fields.Place.TheVariants.{Held, Gap}

-- the pairs with this document at the key of this index
abbrev pub replaced : ℕ → Doc → List (List ℕ × Doc) → List (List ℕ × Doc)
replaced i d [] = []
replaced zero d (p ∷ ps) = (p.0, d) ∷ ps
replaced (suc i) d (p ∷ ps) = p ∷ replaced i d ps

-- the key has its document at this place and changes it there, or has none and goes in there
abbrev pub IsPlace : List ℕ → List (List ℕ × Doc) → Place → Type 0
IsPlace key ps (Held i) =
    (i < length ps) × (pair_at key (pairs_of ps) ≡ option_map (λ p. p.1) (slice_get ps i)) × ((d : Doc) → with_pair key d ps ≡ replaced i d ps)
IsPlace key ps (Gap i) = (i ≤ length ps) × (pair_at key (pairs_of ps) ≡ None) × ((d : Doc) → with_pair key d ps ≡ insert ps i (key, d))
