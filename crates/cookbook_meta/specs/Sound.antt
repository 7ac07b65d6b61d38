-- What every manifest that was read keeps.
use Rattle.std.specs.Prelude.{◌≡◌, ℕ, IsTrue, List, map, bytes_eq}
use Rattle.std.specs.List.{IsDistinct, list_all}
use Rattle.version_rules.specs.declared.versions.Version.{Version}
use Rattle.cookbook_meta.specs.Checksums.{checksums_of}
use Rattle.cookbook_meta.specs.Parts.{is_checksum}
use Rattle.cookbook_meta.specs.declared.entries.Entry.{Entry}
use Rattle.cookbook_meta.specs.declared.manifests.Manifest.{Manifest}

-- the manifest and its metadata are of this name and version
pub record IsOf (name : List ℕ) (version : Version) (m : Manifest) : Type 0 where
  pub name_is : m.name ≡ name
  pub version_is : m.version ≡ version
  pub metadata_name : m.metadata.name ≡ name
  pub metadata_version : m.metadata.version ≡ version

-- no two entries have one path
abbrev pub HasOwnPaths : List Entry → Type 0
HasOwnPaths files = IsDistinct bytes_eq (map (λ (e : Entry). e.path) files)

-- each entry names a file by 32 lower-case hexadecimal digits
abbrev pub HasChecksums : List Entry → Type 0
HasChecksums files = IsTrue (list_all is_checksum (checksums_of files))
