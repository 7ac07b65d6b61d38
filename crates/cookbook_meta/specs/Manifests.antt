-- The manifest of a cookbook's version.
use Rattle.std.specs.Prelude.{ℕ, ◌&&◌, List, [], Result, Ok, Err, codes, bytes_eq}
use Rattle.doc_tree.specs.Doc.{Doc, dict, Pairs}
use Rattle.doc_tree.specs.Part.{pair_at}
use Rattle.doc_tree.specs.declared.tree.Tree.TheVariants as tree
use Rattle.version_rules.specs.declared.versions.Version.{Version}
use Rattle.cookbook_meta.specs.Faults.{then_do, keep_if, in_field, inside}
use Rattle.cookbook_meta.specs.Parts.{needed, truth_of}
use Rattle.cookbook_meta.specs.Metadata.{metadata_from}
use Rattle.cookbook_meta.specs.Segments.{segments, with_segments}
use Rattle.cookbook_meta.specs.Fields.{are_as_asked, told_by, same_version}
use Rattle.cookbook_meta.specs.Stored.{metadata_key, whole_of}
use Rattle.cookbook_meta.specs.declared.fault.Flaw.{Flaw}
use Rattle.cookbook_meta.specs.declared.fault.Flaw.TheVariants.{NameDiffers}
use Rattle.cookbook_meta.specs.declared.fault.MetaFault.{MetaFault}
use Rattle.cookbook_meta.specs.declared.fault.MetaFault.TheVariants as fault
use Rattle.cookbook_meta.specs.declared.manifests.Manifest.{Manifest}
use Rattle.cookbook_meta.specs.declared.metadata.Metadata.{Metadata}

-- these metadata, if they are of this name and version
abbrev pub of_release : List ℕ → Version → Metadata → Result Metadata Flaw
of_release name version metadata = keep_if (bytes_eq metadata.name name && same_version metadata.version version) metadata NameDiffers

-- the metadata that a document gives, which are of this name and version
abbrev pub metadata_of : List ℕ → Version → Doc → Result Metadata Flaw
metadata_of name version d = then_do (inside (metadata_from d)) (of_release name version)

-- the manifest that a Dict gives under the path's name and version: what tells it, frozen?, metadata and the segments,
-- looked at in this order
abbrev pub manifest_in : List ℕ → Version → Pairs → Result Manifest MetaFault
manifest_in name version body =
    then_do (are_as_asked (told_by name version) body) (λ told.
    then_do (in_field (codes "frozen?") (truth_of (pair_at (codes "frozen?") body))) (λ frozen.
    then_do (in_field metadata_key (then_do (needed metadata_key body) (metadata_of name version))) (λ metadata.
    then_do (with_segments segments body []) (λ files.
    Ok (record { name = name; version = version; metadata = metadata; frozen = frozen; files = files; whole = tree.Dict (whole_of name version frozen files body) })))))

-- the manifest that a document gives, where what is no Dict fails as its first field
abbrev pub manifest_from : List ℕ → Version → Doc → Result Manifest MetaFault
manifest_from name version (dict body) = manifest_in name version body
manifest_from name version d = Err (fault.WrongKind (codes "cookbook_name"))
