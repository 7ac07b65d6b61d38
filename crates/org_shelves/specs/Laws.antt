-- What holds of every stored manifest, and what a move on the shelves keeps.
use Rattle.std.specs.Prelude.{◌≡◌, true, IsTrue, is_some, ℕ, List, Ok, Some}
use Rattle.std.specs.FinMap as finite
use Rattle.cookbook_meta.specs.Artifacts.{artifact_from}
use Rattle.cookbook_meta.specs.Manifests.{manifest_from}
use Rattle.cookbook_meta.specs.declared.manifests.Manifest.{Manifest}
use Rattle.doc_tree.specs.Doc.{Doc}
use Rattle.doc_tree.specs.Name.{is_name}
use Rattle.doc_tree.specs.Tree.{doc_of}
use Rattle.sandboxes.specs.Sandboxes.{Holding}
use Rattle.shelves.specs.Shelves.{value_at}
use Rattle.version_rules.specs.Laws.{FitsVersion}
use Rattle.version_rules.specs.declared.versions.Version.{Version}
use Rattle.org_shelves.specs.Conditions.{IsArtifactOf, IsRevisionOf, IsVersionOf, ShelfConditions}
use Rattle.org_shelves.specs.Editions.{is_frozen, names_sum}
use Rattle.org_shelves.specs.Files.{AreThere, is_committed}
use Rattle.org_shelves.specs.Frozen.{freeze}
use Rattle.org_shelves.specs.Shelved.{Assigned, Policies, Shelved}
use Rattle.org_shelves.specs.ShelfMoves.{after_shelf_move, files_after_shelf_move}
use Rattle.org_shelves.specs.StoredManifests.{IsKept, IsStored, IsStoredArtifact, Says}
use Rattle.org_shelves.specs.declared.shelf_moves.ShelfMove.{ShelfMove}
use Rattle.org_shelves.specs.declared.shelf_moves.ShelfMove.TheVariants.{PutVersion, TakeVersion, PutArtifact, TakeArtifact, PutRevision, TakePolicy, PutGroup, TakeGroup}

-- ---- stored manifests

-- a manifest that a body gives is kept
abbrev pub ManifestsAreKept : Type 0
ManifestsAreKept = (name : List ℕ) (version : Version) (body : Doc) (m : Manifest) → FitsVersion version → manifest_from name version body ≡ Ok m → IsKept m

-- and what is stored of it is of that name and version
abbrev pub ManifestsAreStored : Type 0
ManifestsAreStored = (name : List ℕ) (version : Version) (body : Doc) (m : Manifest) → FitsVersion version → manifest_from name version body ≡ Ok m → IsStored name version (doc_of m.whole)

-- what is stored of an artifact that a body gives is of that name and identifier
abbrev pub ArtifactsAreStored : Type 0
ArtifactsAreStored = (name id : List ℕ) (body : Doc) (m : Manifest) → FitsVersion m.version → artifact_from name id body ≡ Ok m → IsStoredArtifact name id (doc_of m.whole)

-- what is stored of a manifest says what the manifest does
abbrev pub StoredManifestsSay : Type 0
StoredManifestsSay = (m : Manifest) → IsKept m → Says (doc_of m.whole) m

-- a stored manifest that is frozen is one of the same name and version, and says that it is frozen
pub record StaysStored (name : List ℕ) (version : Version) (doc : Doc) : Type 0 where
  pub stored : IsStored name version (freeze doc)
  pub frozen : is_frozen (freeze doc) ≡ true

-- what is stored of a manifest stays so once it is frozen
abbrev pub FrozenAreStored : Type 0
FrozenAreStored = (name : List ℕ) (version : Version) (doc : Doc) → IsStored name version doc → StaysStored name version doc

-- ---- moves

-- each revision that is assigned is there
abbrev pub AreRevisions : Assigned → Policies → Type 0
AreRevisions assigned policies = (policy revision : List ℕ) → finite.get assigned policy ≡ Some revision → IsTrue (is_some (value_at policies policy revision))

-- what a move puts in is stored as its kind is, under its own name
abbrev pub IsSound : ShelfMove → Shelved → Type 0
IsSound (PutVersion name version manifest) s = IsVersionOf name version manifest
IsSound (TakeVersion name version) s = Unit {0}
IsSound (PutArtifact name id manifest) s = IsArtifactOf name id manifest
IsSound (TakeArtifact name id) s = Unit {0}
IsSound (PutRevision policy revision lock) s = IsRevisionOf policy revision lock
IsSound (TakePolicy policy) s = Unit {0}
IsSound (PutGroup name assigned) s = (is_name name ≡ true) × AreRevisions assigned s.policies
IsSound (TakeGroup name) s = Unit {0}

-- such a move keeps the conditions
abbrev pub SoundMovesKeep : Type 0
SoundMovesKeep = (move : ShelfMove) (s : Shelved) → ShelfConditions s → IsSound move s → ShelfConditions (after_shelf_move move s)

-- each file that what is put in names is there and committed
abbrev pub NamesWhatIsThere : ShelfMove → Holding → Type 0
NamesWhatIsThere (PutVersion name version manifest) files = (sum : List ℕ) → names_sum manifest sum ≡ true → is_committed files sum ≡ true
NamesWhatIsThere (TakeVersion name version) files = Unit {0}
NamesWhatIsThere (PutArtifact name id manifest) files = (sum : List ℕ) → names_sum manifest sum ≡ true → is_committed files sum ≡ true
NamesWhatIsThere (TakeArtifact name id) files = Unit {0}
NamesWhatIsThere (PutRevision policy revision lock) files = Unit {0}
NamesWhatIsThere (TakePolicy policy) files = Unit {0}
NamesWhatIsThere (PutGroup name assigned) files = Unit {0}
NamesWhatIsThere (TakeGroup name) files = Unit {0}

-- where that is so, each file that is named after a move is there
abbrev pub NamedFilesStay : Type 0
NamedFilesStay = (move : ShelfMove) (s : Shelved) (files : Holding) → AreThere s files → NamesWhatIsThere move files → AreThere (after_shelf_move move s) (files_after_shelf_move move s files)
