-- What is stored of a manifest says what the manifest does.
use Rattle.std.proofs.Common.{◌≡◌, ℕ, false, not, ◌&&◌, List, [], ◌∷◌, ◌++◌, map, Option, None, Some, Result, Ok, Err, ok_or, codes, bytes_eq, append_assoc, append-nil, sym, ap, subst, ◌∙◌}
use Rattle.std.proofs.lemmas.List.{map-append}
use Rattle.std.specs.List.{flat_map}
use Rattle.std.specs.Option.{option_and_then}
use Rattle.doc_tree.specs.Doc.{Doc, null, boolean, whole, words, list, dict, Docs, no_docs, then_doc, docs_list, Pairs}
use Rattle.doc_tree.specs.Part.{pair_at, part_at}
use Rattle.version_rules.specs.declared.needs.Need.{Need}
use Rattle.version_rules.specs.declared.versions.Version.{Version}
use Rattle.cookbook_meta.specs.Artifacts.{artifact_from, artifact_in, identifier_key, is_identified}
use Rattle.cookbook_meta.specs.Checksums.{checksums_of}
use Rattle.cookbook_meta.specs.Entries.{entry_of, has_path, with_entry, with_entries, text_or}
use Rattle.cookbook_meta.specs.Faults.{then_do, in_field, inside}
use Rattle.cookbook_meta.specs.Fields.{are_as_asked, named_rows, stated_rows, told_by, same_version}
use Rattle.cookbook_meta.specs.Manifests.{manifest_in, manifest_from, metadata_of, of_release}
use Rattle.cookbook_meta.specs.Metadata.{metadata_from, needs_of}
use Rattle.cookbook_meta.specs.Parts.{needed, text_of, checksum_of, is_checksum, name_of, version_of, truth_of}
use Rattle.cookbook_meta.specs.Segments.{segments, with_list, with_segment, with_segments}
use Rattle.cookbook_meta.specs.Sound.{HasChecksums, IsOf}
use Rattle.cookbook_meta.specs.Stored.{metadata_key}
use Rattle.cookbook_meta.specs.declared.entries.Entry.{Entry}
use Rattle.cookbook_meta.specs.declared.fault.MetaFault.{MetaFault}
use Rattle.cookbook_meta.specs.declared.manifests.Manifest.{Manifest}
use Rattle.cookbook_meta.specs.declared.metadata.Metadata.{Metadata}
use Rattle.cookbook_meta.proofs.DoneLemmas.{ok_of, same_ok, then_done, field_done, inside_done, kept}
use Rattle.cookbook_meta.proofs.ReadBackLemmas.{steps_done, made_of}
use Rattle.cookbook_meta.proofs.SoundLemmas.{given_own, given_sums}
use Rattle.org_shelves.specs.Editions.{read_or, needs_in, docs_in, text_in, sum_in, entries_at}
use Rattle.org_shelves.specs.StoredManifests.{Says}

-- ---- needs

-- what must be there and was read, is there
pub needed_is : {F : Type 0} (found : Option Doc) (flaw : F) (d : Doc) → ok_or found flaw ≡ Ok d → found ≡ Some d
needed_is None flaw d is = cc
needed_is {F} (Some e) flaw d is = ap Some (same_ok F e d is)

needs_done : (name : Result (List ℕ) MetaFault) (version : Result Version MetaFault) (needs : Result (List Need) MetaFault) (m : Metadata)
    → then_do name (λ n. then_do version (λ v. then_do needs (λ all. Ok (record { name = n; version = v; needs = all })))) ≡ Ok m → needs ≡ Ok m.needs
needs_done (Ok n) (Ok v) (Ok all) m is = ap (λ (o : Metadata). ok_of MetaFault o.needs) (same_ok MetaFault _ m is)
needs_done (Err f) version needs m is = cc
needs_done (Ok n) (Err f) needs m is = cc
needs_done (Ok n) (Ok v) (Err f) m is = cc

metadata_needs : (d : Doc) (m : Metadata) → metadata_from d ≡ Ok m → needs_of (part_at (codes "dependencies") d) ≡ Ok m.needs
metadata_needs null m is = cc
metadata_needs (boolean b) m is = cc
metadata_needs (whole z) m is = cc
metadata_needs (words text) m is = cc
metadata_needs (list ds) m is = cc
metadata_needs (dict body) m is =
    field_done (codes "dependencies") (needs_of (pair_at (codes "dependencies") body)) m.needs
    (needs_done (in_field (codes "name") (then_do (needed (codes "name") body) name_of)) (in_field (codes "version") (then_do (needed (codes "version") body) version_of)) (in_field (codes "dependencies") (needs_of (pair_at (codes "dependencies") body))) m is)

needs_said : (name : List ℕ) (version : Version) (body : Pairs) (own : Metadata) → in_field metadata_key (then_do (needed metadata_key body) (metadata_of name version)) ≡ Ok own → needs_in (dict body) ≡ own.needs
needs_said name version body own is =
    let sent = then_done (needed metadata_key body) (metadata_of name version) own (field_done metadata_key _ own is) in
    let read = then_done (inside (metadata_from sent.0)) (of_release name version) own sent.2 in
    let test = kept (bytes_eq read.0.name name && same_version read.0.version version) read.0 _ own read.2 in
    ap (λ found. read_or [] (needs_of (option_and_then (part_at (codes "dependencies")) found))) (needed_is (pair_at metadata_key body) _ sent.0 sent.1)
    ∙ ap (read_or []) (metadata_needs sent.0 read.0 (inside_done (metadata_from sent.0) read.0 read.1))
    ∙ ap (λ (m : Metadata). m.needs) test.1

-- ---- checksums

sum_done : {F : Type 0} (segment : List ℕ) (name path checksum specificity : Result (List ℕ) F) (e : Entry)
    → then_do name (λ n. then_do path (λ p. then_do checksum (λ c. then_do specificity (λ s. Ok (record { segment = segment; name = n; path = p; checksum = c; specificity = s }))))) ≡ Ok e
    → checksum ≡ Ok e.checksum
sum_done {F} segment (Ok n) (Ok p) (Ok c) (Ok s) e is = ap (λ (o : Entry). ok_of F o.checksum) (same_ok F _ e is)
sum_done segment (Err f) path checksum specificity e is = cc
sum_done segment (Ok n) (Err f) checksum specificity e is = cc
sum_done segment (Ok n) (Ok p) (Err f) specificity e is = cc
sum_done segment (Ok n) (Ok p) (Ok c) (Err f) e is = cc

text_is : (d : Doc) (sum : List ℕ) → checksum_of d ≡ Ok sum → text_in (Some d) ≡ sum
text_is null sum is = cc
text_is (boolean b) sum is = cc
text_is (whole z) sum is = cc
text_is (words text) sum is = (kept (is_checksum text) text _ sum is).1
text_is (list ds) sum is = cc
text_is (dict ps) sum is = cc

entry_sum : (segment : List ℕ) (d : Doc) (e : Entry) → entry_of segment d ≡ Ok e → e.checksum ≡ sum_in d
entry_sum segment null e is = cc
entry_sum segment (boolean b) e is = cc
entry_sum segment (whole z) e is = cc
entry_sum segment (words text) e is = cc
entry_sum segment (list ds) e is = cc
entry_sum segment (dict body) e is =
    let done = sum_done segment (then_do (needed (codes "name") body) text_of) (then_do (needed (codes "path") body) text_of) (then_do (needed (codes "checksum") body) checksum_of)
    (text_or (codes "default") (pair_at (codes "specificity") body)) e is in
    let sent = then_done (needed (codes "checksum") body) checksum_of e.checksum done in
    sym (ap text_in (needed_is (pair_at (codes "checksum") body) _ sent.0 sent.1) ∙ text_is sent.0 e.checksum sent.2)

entries_sums : (segment : List ℕ) (ds : Docs) (before next : List Entry) → with_entries segment ds before ≡ Ok next → checksums_of next ≡ checksums_of before ++ map sum_in (docs_list ds)
entries_sums segment no_docs before next is = ap checksums_of (sym (same_ok _ before next is)) ∙ sym (append-nil (checksums_of before))
entries_sums segment (then_doc d ds) before next is =
    let here = then_done (then_do (entry_of segment d) (with_entry before)) (with_entries segment ds) next is in
    let entry = then_done (entry_of segment d) (with_entry before) here.0 here.1 in
    let put = kept (not (has_path before entry.0.path)) (before ++ entry.0 ∷ []) _ here.0 entry.2 in
    let one : checksums_of here.0 ≡ checksums_of before ++ sum_in d ∷ [] =
    ap checksums_of (sym put.1) ∙ map-append (λ (e : Entry). e.checksum) before (entry.0 ∷ []) ∙ ap (λ s. checksums_of before ++ s ∷ []) (entry_sum segment d entry.0 entry.1) in
    entries_sums segment ds here.0 next here.2
    ∙ ap (λ sums. sums ++ map sum_in (docs_list ds)) one
    ∙ append_assoc (checksums_of before) (sum_in d ∷ []) (map sum_in (docs_list ds))

list_sums : (segment : List ℕ) (d : Doc) (before next : List Entry) → with_list segment d before ≡ Ok next → checksums_of next ≡ checksums_of before ++ map sum_in (docs_in (Some d))
list_sums segment null before next is = cc
list_sums segment (boolean b) before next is = cc
list_sums segment (whole z) before next is = cc
list_sums segment (words text) before next is = cc
list_sums segment (list ds) before next is = entries_sums segment ds before next is
list_sums segment (dict ps) before next is = cc

segment_sums : (segment : List ℕ) (found : Option Doc) (before next : List Entry) → with_segment segment found before ≡ Ok next → checksums_of next ≡ checksums_of before ++ map sum_in (docs_in found)
segment_sums segment None before next is = ap checksums_of (sym (same_ok _ before next is)) ∙ sym (append-nil (checksums_of before))
segment_sums segment (Some d) before next is = list_sums segment d before next is

segments_sums : (names : List (List ℕ)) (body : Pairs) (before files : List Entry) → with_segments names body before ≡ Ok files
    → checksums_of files ≡ checksums_of before ++ map sum_in (flat_map (entries_at (dict body)) names)
segments_sums [] body before files is = ap checksums_of (sym (same_ok MetaFault before files is)) ∙ sym (append-nil (checksums_of before))
segments_sums (name ∷ names) body before files is =
    let here = then_done (in_field name (with_segment name (pair_at name body) before)) (with_segments names body) files is in
    segments_sums names body here.0 files here.2
    ∙ ap (λ sums. sums ++ map sum_in (flat_map (entries_at (dict body)) names)) (segment_sums name (pair_at name body) before here.0 (field_done name _ here.0 here.1))
    ∙ append_assoc (checksums_of before) (map sum_in (docs_in (pair_at name body))) (map sum_in (flat_map (entries_at (dict body)) names))
    ∙ ap (λ s. checksums_of before ++ s) (sym (map-append sum_in (docs_in (pair_at name body)) (flat_map (entries_at (dict body)) names)))

-- ---- all of it

-- a document says what the manifest does whose parts are read from it
parts_said : (name : List ℕ) (version : Version) (body : Pairs) (m : Manifest) → in_field metadata_key (then_do (needed metadata_key body) (metadata_of name version)) ≡ Ok m.metadata
    → in_field (codes "frozen?") (truth_of (pair_at (codes "frozen?") body)) ≡ Ok m.frozen → with_segments segments body [] ≡ Ok m.files → Says (dict body) m
parts_said name version body m metadata frozen files = record {
  needs = needs_said name version body m.metadata metadata;
  frozen = ap (read_or false) (field_done (codes "frozen?") (truth_of (pair_at (codes "frozen?") body)) m.frozen frozen);
  sums = sym (segments_sums segments body [] m.files files);
}

says_in : (name : List ℕ) (version : Version) (body : Pairs) (m : Manifest) → manifest_in name version body ≡ Ok m → Says (dict body) m
says_in name version body m is =
    let done = steps_done (are_as_asked (told_by name version) body) (in_field (codes "frozen?") (truth_of (pair_at (codes "frozen?") body)))
    (in_field metadata_key (then_do (needed metadata_key body) (metadata_of name version))) (with_segments segments body []) (made_of name version body) m is in
    subst (Says (dict body)) done.made (parts_said name version body (made_of name version body done.is_frozen done.own done.entries) done.metadata_is done.frozen_is done.files_is)

artifact_says_in : (name id : List ℕ) (body : Pairs) (m : Manifest) → artifact_in name id body ≡ Ok m → Says (dict body) m
artifact_says_in name id body m is =
    let named = then_done (are_as_asked (named_rows name) body) _ m is in
    let version = then_done (in_field (codes "version") (then_do (needed (codes "version") body) version_of)) _ m named.2 in
    let stated = then_done (are_as_asked stated_rows body) _ m version.2 in
    let frozen = then_done (in_field (codes "frozen?") (truth_of (pair_at (codes "frozen?") body))) _ m stated.2 in
    let metadata = then_done (in_field metadata_key (then_do (needed metadata_key body) (metadata_of name version.0))) _ m frozen.2 in
    let files = then_done (with_segments segments body []) _ m metadata.2 in
    let identified = then_done (in_field identifier_key (then_do (needed identifier_key body) (is_identified id))) _ m files.2 in
    subst (Says (dict body)) (same_ok MetaFault _ m identified.2) (parts_said name version.0 body _ metadata.1 frozen.1 files.1)

-- what a document gives as a manifest says what the manifest does
pub says : (name : List ℕ) (version : Version) (d : Doc) (m : Manifest) → manifest_from name version d ≡ Ok m → Says d m
says name version null m is = cc
says name version (boolean b) m is = cc
says name version (whole z) m is = cc
says name version (words text) m is = cc
says name version (list ds) m is = cc
says name version (dict body) m is = says_in name version body m is

-- and what it gives as an artifact says what the artifact does
pub artifact_says : (name id : List ℕ) (d : Doc) (m : Manifest) → artifact_from name id d ≡ Ok m → Says d m
artifact_says name id null m is = cc
artifact_says name id (boolean b) m is = cc
artifact_says name id (whole z) m is = cc
artifact_says name id (words text) m is = cc
artifact_says name id (list ds) m is = cc
artifact_says name id (dict body) m is = artifact_says_in name id body m is

-- and the manifest names its files by checksums
pub sums_known : (name : List ℕ) (version : Version) (d : Doc) (m : Manifest) → manifest_from name version d ≡ Ok m → HasChecksums m.files
sums_known name version null m is = cc
sums_known name version (boolean b) m is = cc
sums_known name version (whole z) m is = cc
sums_known name version (words text) m is = cc
sums_known name version (list ds) m is = cc
sums_known name version (dict body) m is = given_sums name version body (Ok m) is

-- and is of the name and version
pub own_known : (name : List ℕ) (version : Version) (d : Doc) (m : Manifest) → manifest_from name version d ≡ Ok m → IsOf name version m
own_known name version null m is = cc
own_known name version (boolean b) m is = cc
own_known name version (whole z) m is = cc
own_known name version (words text) m is = cc
own_known name version (list ds) m is = cc
own_known name version (dict body) m is = given_own name version body (Ok m) is
