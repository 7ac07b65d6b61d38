-- What a stored manifest is read as.
use Rattle.std.specs.Prelude.{◌≡◌, ℕ, List, Ok}
use Rattle.doc_tree.specs.Doc.{Doc}
use Rattle.doc_tree.specs.Tree.{doc_of}
use Rattle.version_rules.specs.Laws.{FitsVersion}
use Rattle.version_rules.specs.declared.versions.Version.{Version}
use Rattle.cookbook_meta.specs.Artifacts.{artifact_from}
use Rattle.cookbook_meta.specs.Manifests.{manifest_from}
use Rattle.cookbook_meta.specs.declared.manifests.Manifest.{Manifest}

-- what a body gave is read, from the object that is stored of it, as itself
abbrev pub ManifestsReadBack : Type 0
ManifestsReadBack = (name : List ℕ) (version : Version) (body : Doc) (m : Manifest) → FitsVersion version → manifest_from name version body ≡ Ok m → manifest_from name version (doc_of m.whole) ≡ Ok m

-- the version of what a body gave as an artifact fits 64 bits a part
abbrev pub ArtifactVersionsFit : Type 0
ArtifactVersionsFit = (name id : List ℕ) (body : Doc) (m : Manifest) → artifact_from name id body ≡ Ok m → FitsVersion m.version

-- what a body gave as an artifact is read, from the object that is stored of it, as itself
abbrev pub ArtifactsReadBack : Type 0
ArtifactsReadBack = (name id : List ℕ) (body : Doc) (m : Manifest) → FitsVersion m.version → artifact_from name id body ≡ Ok m → artifact_from name id (doc_of m.whole) ≡ Ok m
