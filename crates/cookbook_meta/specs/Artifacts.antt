-- An artifact: the manifest of a cookbook under its identifier.
use Rattle.std.specs.Prelude.{ℕ, List, [], Result, Ok, Err, codes, bytes_eq}
use Rattle.doc_tree.specs.Doc.{Doc, dict, Pairs}
use Rattle.doc_tree.specs.Part.{pair_at}
use Rattle.doc_tree.specs.declared.tree.Tree.TheVariants as tree
use Rattle.cookbook_meta.specs.Faults.{then_do, keep_if, in_field}
use Rattle.cookbook_meta.specs.Fields.{are_as_asked, named_rows, stated_rows}
use Rattle.cookbook_meta.specs.Manifests.{metadata_of}
use Rattle.cookbook_meta.specs.Parts.{needed, text_of, version_of, truth_of, is_identifier}
use Rattle.cookbook_meta.specs.Segments.{segments, with_segments}
use Rattle.cookbook_meta.specs.Stored.{metadata_key, artifact_whole}
use Rattle.cookbook_meta.specs.declared.fault.Flaw.{Flaw}
use Rattle.cookbook_meta.specs.declared.fault.Flaw.TheVariants.{WrongKind, NameDiffers}
use Rattle.cookbook_meta.specs.declared.fault.MetaFault.{MetaFault}
use Rattle.cookbook_meta.specs.declared.fault.MetaFault.TheVariants as fault
use Rattle.cookbook_meta.specs.declared.manifests.Manifest.{Manifest}

-- the key of the identifier
abbrev pub identifier_key : List ℕ
identifier_key = codes "identifier"

-- a text of an identifier's form
abbrev pub identifier_of : Doc → Result (List ℕ) Flaw
identifier_of d = then_do (text_of d) (λ text. keep_if (is_identifier text) text WrongKind)

-- the document is this identifier
abbrev pub is_identified : List ℕ → Doc → Result (Unit {0}) Flaw
is_identified id d = then_do (identifier_of d) (λ sent. keep_if (bytes_eq sent id) tt NameDiffers)

-- the artifact that a Dict gives under the path's name and identifier: name, version, chef_type and json_class, frozen?,
-- metadata of its name and version, the segments and the identifier, looked at in this order
abbrev pub artifact_in : List ℕ → List ℕ → Pairs → Result Manifest MetaFault
artifact_in name id body =
    then_do (are_as_asked (named_rows name) body) (λ named.
    then_do (in_field (codes "version") (then_do (needed (codes "version") body) version_of)) (λ version.
    then_do (are_as_asked stated_rows body) (λ stated.
    then_do (in_field (codes "frozen?") (truth_of (pair_at (codes "frozen?") body))) (λ frozen.
    then_do (in_field metadata_key (then_do (needed metadata_key body) (metadata_of name version))) (λ metadata.
    then_do (with_segments segments body []) (λ files.
    then_do (in_field identifier_key (then_do (needed identifier_key body) (is_identified id))) (λ identified.
    Ok (record { name = name; version = version; metadata = metadata; frozen = frozen; files = files; whole = tree.Dict (artifact_whole name version id frozen files body) }))))))))

-- the artifact that a document gives, where what is no Dict fails as its first field
abbrev pub artifact_from : List ℕ → List ℕ → Doc → Result Manifest MetaFault
artifact_from name id (dict body) = artifact_in name id body
artifact_from name id d = Err (fault.WrongKind (codes "name"))
