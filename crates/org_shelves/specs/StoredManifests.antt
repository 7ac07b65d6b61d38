-- Manifests that are stored.
use Rattle.std.specs.Prelude.{◌≡◌, ℕ, List, Result, Ok}
use Rattle.doc_tree.specs.Doc.{Doc}
use Rattle.doc_tree.specs.Tree.{doc_of}
use Rattle.version_rules.specs.declared.versions.Version.{Version}
use Rattle.cookbook_meta.specs.Artifacts.{artifact_from}
use Rattle.cookbook_meta.specs.Checksums.{checksums_of}
use Rattle.cookbook_meta.specs.Faults.{then_do}
use Rattle.cookbook_meta.specs.Manifests.{manifest_from}
use Rattle.cookbook_meta.specs.declared.fault.MetaFault.{MetaFault}
use Rattle.cookbook_meta.specs.declared.manifests.Manifest.{Manifest}
use Rattle.org_shelves.specs.Editions.{needs_in, is_frozen, sums_in}

-- the manifest is the one that is read, under its name and version, from what is stored of it
abbrev pub IsKept : Manifest → Type 0
IsKept m = manifest_from m.name m.version (doc_of m.whole) ≡ Ok m

-- what is stored of the manifest that a document gives under this name and version
abbrev pub stored_from : List ℕ → Version → Doc → Result Doc MetaFault
stored_from name version body = then_do (manifest_from name version body) (λ m. Ok (doc_of m.whole))

-- the document is what is stored of a manifest of this name and version
pub record IsStored (name : List ℕ) (version : Version) (doc : Doc) : Type 0 where
  pub manifest : Manifest
  pub read : manifest_from name version doc ≡ Ok manifest
  pub whole : doc_of manifest.whole ≡ doc

-- what is stored of the artifact that a document gives under this name and identifier
abbrev pub artifact_stored_from : List ℕ → List ℕ → Doc → Result Doc MetaFault
artifact_stored_from name id body = then_do (artifact_from name id body) (λ m. Ok (doc_of m.whole))

-- the document is what is stored of an artifact of this name and identifier
pub record IsStoredArtifact (name id : List ℕ) (doc : Doc) : Type 0 where
  pub manifest : Manifest
  pub read : artifact_from name id doc ≡ Ok manifest
  pub whole : doc_of manifest.whole ≡ doc

-- the document says of needs, freezing and checksums what the manifest does
pub record Says (doc : Doc) (m : Manifest) : Type 0 where
  pub needs : needs_in doc ≡ m.metadata.needs
  pub frozen : is_frozen doc ≡ m.frozen
  pub sums : sums_in doc ≡ checksums_of m.files
