-- What sets and maps of titles hold.
use Rattle.std.specs.Prelude.{◌≡◌, ℕ, ◌||◌, List, Some, None, bytes_eq, if◌then◌else◌}
use Rattle.std.specs.BTreeMap.{BTreeMap, get}
use Rattle.std.specs.BTreeSet.{BTreeSet, contains}
use Rattle.std.specs.Borrow.{Bor}
use Rattle.std.specs.Cmp.Lexicographic.{slice_cmp}
use Rattle.std.specs.List.{list_any}
use Rattle.std.specs.Option.{option_or}
use Rattle.std.specs.Ordering.{nat_cmp}
use Rattle.doc_tree.specs.Doc.{Doc, Pairs, pairs_of}
use Rattle.resource_core.specs.Drafts.{place_of}

-- the set has these texts and no others
abbrev pub HasTitles : List (List ℕ) → BTreeSet (List ℕ) → Type 0
HasTitles titles set = (text : List ℕ) → contains (slice_cmp nat_cmp) set text ≡ list_any (bytes_eq text) titles

-- the set gains these texts and no others
abbrev pub Adds : List (List ℕ) → BTreeSet (List ℕ) → BTreeSet (List ℕ) → Type 0
Adds titles old new = (text : List ℕ) → contains (slice_cmp nat_cmp) new text ≡ (contains (slice_cmp nat_cmp) old text || list_any (bytes_eq text) titles)

-- the map has each of these texts with the first place at which it stands, and no others
abbrev pub HasFirsts : List (List ℕ) → BTreeMap (List ℕ) ℕ → Type 0
HasFirsts titles map = (text : List ℕ) → get (slice_cmp nat_cmp) map text ≡ place_of text titles

-- the pairs of borrowed fields
abbrev pub pairs_by : Bor (List (List ℕ × Doc)) → Pairs
pairs_by fields = pairs_of fields.now

-- the map has the place of this title too, unless it has one of it
abbrev pub Notes : List ℕ → ℕ → BTreeMap (List ℕ) ℕ → BTreeMap (List ℕ) ℕ → Type 0
Notes title place old new =
    (text : List ℕ) → get (slice_cmp nat_cmp) new text ≡ option_or (get (slice_cmp nat_cmp) old text) (if bytes_eq text title then Some place else None)
