-- A stored manifest, put together step by step.
use Rattle.std.proofs.Common.{◌≡◌, ℕ, Bool, List, codes, sym, ap, ◌∙◌}
use Rattle.doc_tree.proofs.Docs.{pairs_list-pairs_of}
use Rattle.doc_tree.specs.Doc.{Doc, boolean, dict, pairs_of}
use Rattle.doc_tree.specs.Part.{pair_at, with_pair}
use Rattle.version_rules.specs.declared.versions.Version.{Version}
use Rattle.cookbook_meta.specs.Metadata.{stored_metadata}
use Rattle.cookbook_meta.specs.Segments.{segments}
use Rattle.cookbook_meta.specs.Stored.{artifact_keys, artifact_whole, beside, head_keys, is_field, metadata_key, metadata_sent, settled_fields, told_artifact, told_fields, segment_fields, with_pairs, whole_of}
use Rattle.cookbook_meta.specs.declared.entries.Entry.{Entry}

-- what is made, with frozen?, the metadata and the segments put in
pub settled_made : (frozen : Bool) (files : List Entry) (body made first metadata second whole : List (List ℕ × Doc))
    → first ≡ with_pair (codes "frozen?") (boolean frozen) made
    → metadata ≡ stored_metadata (metadata_sent (pair_at metadata_key (pairs_of body)))
    → second ≡ with_pair metadata_key (dict (pairs_of metadata)) first
    → whole ≡ with_pairs (segment_fields segments files) second
    → whole ≡ with_pairs (settled_fields frozen (stored_metadata (metadata_sent (pair_at metadata_key (pairs_of body)))) files) made
settled_made frozen files body made first metadata second whole e1 em e2 e3 =
    e3 ∙ ap (with_pairs (segment_fields segments files)) (e2 ∙ (λ i. with_pair metadata_key (dict (pairs_of (em i))) (e1 i)))

-- the body's own pairs, put together with the fields
pub whole_made : (name : List ℕ) (version : Version) (frozen : Bool) (files : List Entry) (body first told whole : List (List ℕ × Doc)) (keys : List (List ℕ)) → keys ≡ head_keys
    → first ≡ beside (is_field keys) body
    → told ≡ with_pairs (told_fields name version) first
    → whole ≡ with_pairs (settled_fields frozen (stored_metadata (metadata_sent (pair_at metadata_key (pairs_of body)))) files) told
    → whole ≡ whole_of name version frozen files (pairs_of body)
whole_made name version frozen files body first told whole keys ek e0 e1 e2 =
    let settled = settled_fields frozen (stored_metadata (metadata_sent (pair_at metadata_key (pairs_of body)))) files in
    e2 ∙ ap (with_pairs settled) (e1 ∙ ap (with_pairs (told_fields name version)) (e0 ∙ ap (λ ks. beside (is_field ks) body) ek ∙ ap (beside (is_field head_keys)) (sym (pairs_list-pairs_of body))))

pub artifact_made : (name : List ℕ) (version : Version) (id : List ℕ) (frozen : Bool) (files : List Entry) (body first told whole : List (List ℕ × Doc)) (keys : List (List ℕ)) → keys ≡ artifact_keys
    → first ≡ beside (is_field keys) body
    → told ≡ with_pairs (told_artifact name version id) first
    → whole ≡ with_pairs (settled_fields frozen (stored_metadata (metadata_sent (pair_at metadata_key (pairs_of body)))) files) told
    → whole ≡ artifact_whole name version id frozen files (pairs_of body)
artifact_made name version id frozen files body first told whole keys ek e0 e1 e2 =
    let settled = settled_fields frozen (stored_metadata (metadata_sent (pair_at metadata_key (pairs_of body)))) files in
    e2 ∙ ap (with_pairs settled) (e1 ∙ ap (with_pairs (told_artifact name version id)) (e0 ∙ ap (λ ks. beside (is_field ks) body) ek ∙ ap (beside (is_field artifact_keys)) (sym (pairs_list-pairs_of body))))
