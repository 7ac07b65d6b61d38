-- A manifest as it is stored.
use Rattle.std.specs.Prelude.{ℕ, Bool, not, List, [], ◌∷◌, ◌++◌, ◌||◌, map, codes, bytes_eq, Option, Some}
use Rattle.std.specs.List.{list_any, filter}
use Rattle.doc_tree.specs.Doc.{Doc, boolean, words, list, dict, Pairs, no_pairs, docs_of, pairs_of, pairs_list}
use Rattle.doc_tree.specs.Part.{pair_at, with_pair}
use Rattle.version_rules.specs.Versions.{version_text}
use Rattle.version_rules.specs.declared.versions.Version.{Version}
use Rattle.cookbook_meta.specs.Fields.{release_name}
use Rattle.cookbook_meta.specs.Metadata.{stored_metadata}
use Rattle.cookbook_meta.specs.Segments.{segments, segment_docs}
use Rattle.cookbook_meta.specs.declared.entries.Entry.{Entry}

-- the key of the metadata
abbrev pub metadata_key : List ℕ
metadata_key = codes "metadata"

-- the keys of a manifest's fields before its segments
abbrev pub head_keys : List (List ℕ)
head_keys =
    codes "cookbook_name"
    ∷ codes "name"
    ∷ codes "version"
    ∷ codes "chef_type"
    ∷ codes "json_class"
    ∷ codes "frozen?"
    ∷ metadata_key
    ∷ []

-- the key is one of these
abbrev pub is_among : List ℕ → List (List ℕ) → Bool
is_among key keys = list_any (λ other. bytes_eq other key) keys

-- the key is one of these or that of a segment
abbrev pub is_field : List (List ℕ) → List ℕ → Bool
is_field keys key = is_among key keys || is_among key segments

-- these pairs without those at listed keys
abbrev pub beside : (List ℕ → Bool) → List (List ℕ × Doc) → List (List ℕ × Doc)
beside is_listed pairs = filter (λ (p : List ℕ × Doc). not (is_listed p.0)) pairs

-- what these pairs have beside the fields
abbrev pub unlisted : List (List ℕ × Doc) → List (List ℕ × Doc)
unlisted body = beside (is_field head_keys) body

-- what is stored of the fields that tell which cookbook's version it is
abbrev pub told_fields : List ℕ → Version → List (List ℕ × Doc)
told_fields name version =
    (codes "cookbook_name", words name)
    ∷ (codes "name", words (release_name name version))
    ∷ (codes "version", words (version_text version))
    ∷ (codes "chef_type", words (codes "cookbook_version"))
    ∷ (codes "json_class", words (codes "Chef::CookbookVersion"))
    ∷ []

-- what is stored of these segments
abbrev pub segment_fields : List (List ℕ) → List Entry → List (List ℕ × Doc)
segment_fields names files = map (λ segment. (segment, list (docs_of (segment_docs segment files)))) names

-- what is stored of frozen?, the metadata and the segments
abbrev pub settled_fields : Bool → List (List ℕ × Doc) → List Entry → List (List ℕ × Doc)
settled_fields frozen metadata files = (codes "frozen?", boolean frozen) ∷ (metadata_key, dict (pairs_of metadata)) ∷ segment_fields segments files

-- what is stored of all fields
abbrev pub stored_fields : List ℕ → Version → Bool → List (List ℕ × Doc) → List Entry → List (List ℕ × Doc)
stored_fields name version frozen metadata files =
    told_fields name version ++ settled_fields frozen metadata files

-- the pairs with these put among them, one by one
abbrev pub with_pairs : List (List ℕ × Doc) → List (List ℕ × Doc) → List (List ℕ × Doc)
with_pairs [] made = made
with_pairs (p ∷ ps) made = with_pairs ps (with_pair p.0 p.1 made)

-- the pairs of the metadata that a body holds
abbrev pub metadata_sent : Option Doc → Pairs
metadata_sent (Some (dict ps)) = ps
metadata_sent found = no_pairs

-- the stored object of a manifest: the fields, put among what its body has beside them
abbrev pub whole_of : List ℕ → Version → Bool → List Entry → Pairs → List (List ℕ × Doc)
whole_of name version frozen files body = with_pairs (stored_fields name version frozen (stored_metadata (metadata_sent (pair_at metadata_key body))) files) (unlisted (pairs_list body))

-- the keys of an artifact's fields before its segments, with that by which a cookbook's version is told, which isn't stored
abbrev pub artifact_keys : List (List ℕ)
artifact_keys = codes "identifier" ∷ head_keys

-- what is stored of the fields that tell which artifact it is
abbrev pub told_artifact : List ℕ → Version → List ℕ → List (List ℕ × Doc)
told_artifact name version id =
    (codes "name", words name)
    ∷ (codes "version", words (version_text version))
    ∷ (codes "chef_type", words (codes "cookbook_version"))
    ∷ (codes "json_class", words (codes "Chef::CookbookVersion"))
    ∷ (codes "identifier", words id)
    ∷ []

-- what is stored of all fields of an artifact
abbrev pub artifact_fields : List ℕ → Version → List ℕ → Bool → List (List ℕ × Doc) → List Entry → List (List ℕ × Doc)
artifact_fields name version id frozen metadata files = told_artifact name version id ++ settled_fields frozen metadata files

-- the stored object of an artifact: the fields, put among what its body has beside them
abbrev pub artifact_whole : List ℕ → Version → List ℕ → Bool → List Entry → Pairs → List (List ℕ × Doc)
artifact_whole name version id frozen files body =
    with_pairs (artifact_fields name version id frozen (stored_metadata (metadata_sent (pair_at metadata_key body))) files) (beside (is_field artifact_keys) (pairs_list body))
