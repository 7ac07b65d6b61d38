-- A manifest is read again from what is stored of it.
use Rattle.std.proofs.Common.{◌≡◌, ◌&&◌, ℕ, Bool, true, List, [], ◌∷◌, Some, Result, Ok, Err, ok_or, codes, bytes_eq, refl, sym, ap, subst, ◌∙◌}
use Rattle.std.specs.Cmp.{nat_eq_equiv}
use Rattle.std.specs.Cmp.Lexicographic.{nat_list_eq_equiv}
use Rattle.std.specs.List.{AllByRecursion}
use Rattle.doc_tree.proofs.Docs.{pairs_list-pairs_of}
use Rattle.doc_tree.specs.Doc.{Doc, null, boolean, whole, words, list, dict, Pairs, docs_of, pairs_of, pairs_list}
use Rattle.doc_tree.specs.Part.{pair_at}
use Rattle.doc_tree.specs.Tree.{doc_of}
use Rattle.doc_tree.specs.declared.tree.Tree.TheVariants as tree
use Rattle.version_rules.specs.Versions.{reads_version, version_text}
use Rattle.version_rules.specs.declared.fault.VersionFault.{VersionFault}
use Rattle.version_rules.specs.declared.versions.Version.{Version}
use Rattle.cookbook_meta.specs.Faults.{then_do, in_field, keep_if}
use Rattle.cookbook_meta.specs.Fields.{Row, has_form, named, released, is_as_asked, are_as_asked, told_by, release_name, same_version}
use Rattle.cookbook_meta.specs.Manifests.{manifest_in, manifest_from, metadata_of}
use Rattle.cookbook_meta.specs.Metadata.{stored_metadata}
use Rattle.cookbook_meta.specs.Outcomes.{Finds, Gives}
use Rattle.cookbook_meta.specs.Parts.{needed, truth_of, version_read}
use Rattle.cookbook_meta.specs.Segments.{segments, segment_docs, with_segments}
use Rattle.cookbook_meta.specs.Stored.{head_keys, is_field, metadata_key, metadata_sent, stored_fields, unlisted, with_pairs, whole_of}
use Rattle.cookbook_meta.specs.declared.entries.Entry.{Entry}
use Rattle.cookbook_meta.specs.declared.fault.Flaw.{Flaw}
use Rattle.cookbook_meta.specs.declared.fault.Flaw.TheVariants.{MissingField, NameDiffers}
use Rattle.cookbook_meta.specs.declared.fault.MetaFault.{MetaFault}
use Rattle.cookbook_meta.specs.declared.manifests.Manifest.{Manifest}
use Rattle.cookbook_meta.specs.declared.metadata.Metadata.{Metadata}
use Rattle.cookbook_meta.proofs.DoneLemmas.{same_ok, field_done, field_is, keeps}
use Rattle.cookbook_meta.proofs.MetadataLemmas.{metadata_again, stored_metadata-twice}
use Rattle.cookbook_meta.proofs.PutLemmas.{at_own, beside-puts, beside-twice}
use Rattle.cookbook_meta.proofs.SegmentLemmas.{read_again}

-- ---- the steps of a manifest

-- the manifest that these steps give
abbrev pub by_steps : Result (Unit {0}) MetaFault → Result Bool MetaFault → Result Metadata MetaFault → Result (List Entry) MetaFault → (Bool → Metadata → List Entry → Manifest) → Result Manifest MetaFault
by_steps told frozen metadata files make = then_do told (λ done. then_do frozen (λ f. then_do metadata (λ own. then_do files (λ entries. Ok (make f own entries)))))

-- each step was done
pub record Done (told : Result (Unit {0}) MetaFault) (frozen : Result Bool MetaFault) (metadata : Result Metadata MetaFault) (files : Result (List Entry) MetaFault) (make : Bool → Metadata → List Entry → Manifest) (m : Manifest) : Type 0 where
  pub is_frozen : Bool
  pub own : Metadata
  pub entries : List Entry
  pub frozen_is : frozen ≡ Ok is_frozen
  pub metadata_is : metadata ≡ Ok own
  pub files_is : files ≡ Ok entries
  pub made : make is_frozen own entries ≡ m

pub steps_done : (told : Result (Unit {0}) MetaFault) (frozen : Result Bool MetaFault) (metadata : Result Metadata MetaFault) (files : Result (List Entry) MetaFault) (make : Bool → Metadata → List Entry → Manifest) (m : Manifest)
    → by_steps told frozen metadata files make ≡ Ok m → Done told frozen metadata files make m
steps_done (Ok t) (Ok f) (Ok own) (Ok entries) make m is = record { is_frozen = f; own = own; entries = entries; frozen_is = refl; metadata_is = refl; files_is = refl; made = same_ok MetaFault _ m is }
steps_done (Err e) frozen metadata files make m is = cc
steps_done (Ok t) (Err e) metadata files make m is = cc
steps_done (Ok t) (Ok f) (Err e) files make m is = cc
steps_done (Ok t) (Ok f) (Ok own) (Err e) make m is = cc

-- ---- what tells which cookbook's version it is

-- at the key of each row stands what has its form
abbrev pub AllStand : List Row → Pairs → Type 0
AllStand rows body = AllByRecursion (λ (row : Row). (d : Doc) × (pair_at row.key body ≡ Some d) × (has_form row.form d ≡ Ok tt)) rows

pub rows_again : (rows : List Row) (body : Pairs) → AllStand rows body → are_as_asked rows body ≡ Ok tt
rows_again [] body all = refl
rows_again (row ∷ rows) body all =
    ap (λ found. then_do (in_field row.key (is_as_asked row found)) (λ done. are_as_asked rows body)) all.0.1
    ∙ ap (λ r. then_do (in_field row.key r) (λ done. are_as_asked rows body)) all.0.2
    ∙ rows_again rows body all.1

pub named_again : (name : List ℕ) → has_form (named name) (words name) ≡ Ok tt
named_again name = keeps (bytes_eq name name) tt NameDiffers (nat_list_eq_equiv.refl name)

same_itself : (v : Version) → same_version v v ≡ true
same_itself v = λ i. nat_eq_equiv.refl v.major i && nat_eq_equiv.refl v.minor i && nat_eq_equiv.refl v.patch i

released_again : (v : Version) → reads_version (version_text v) ≡ Ok v → has_form (released v) (words (version_text v)) ≡ Ok tt
released_again v read =
    ap (λ (r : Result Version VersionFault). then_do (version_read r) (λ sent. keep_if (same_version sent v) tt NameDiffers)) read
    ∙ keeps (same_version v v) tt NameDiffers (same_itself v)

-- ---- the whole

module _ (name : List ℕ) (version : Version) (body : Pairs) (read : reads_version (version_text version) ≡ Ok version) (frozen : Bool) (own : Metadata) (files : List Entry) where
  -- what is stored of the metadata
  abbrev settled : List (List ℕ × Doc)
  settled = stored_metadata (metadata_sent (pair_at metadata_key body))

  -- what is stored of the fields
  abbrev fields : List (List ℕ × Doc)
  fields = stored_fields name version frozen settled files

  -- the stored object
  abbrev stored : List (List ℕ × Doc)
  stored = with_pairs fields (unlisted (pairs_list body))

  -- at the key of a field stands what is stored of it
  at : (key : List ℕ) (d : Doc) → pair_at key (pairs_of fields) ≡ Some d → pair_at key (pairs_of stored) ≡ Some d
  at key d there = at_own key d fields (unlisted (pairs_list body)) refl there

  told_again : are_as_asked (told_by name version) (pairs_of stored) ≡ Ok tt
  told_again =
      rows_again (told_by name version) (pairs_of stored) (
        (words name, at (codes "cookbook_name") (words name) refl, named_again name),
        (
          (words (release_name name version), at (codes "name") (words (release_name name version)) refl, named_again (release_name name version)),
          (
            (words (version_text version), at (codes "version") (words (version_text version)) refl, released_again version read),
            (
              (words (codes "cookbook_version"), at (codes "chef_type") (words (codes "cookbook_version")) refl, refl),
              (
                (words (codes "Chef::CookbookVersion"), at (codes "json_class") (words (codes "Chef::CookbookVersion")) refl, refl),
                tt,
              ),
            ),
          ),
        ),
      )

  frozen_again : in_field (codes "frozen?") (truth_of (pair_at (codes "frozen?") (pairs_of stored))) ≡ Ok frozen
  frozen_again = ap (λ found. in_field (codes "frozen?") (truth_of found)) (at (codes "frozen?") (boolean frozen) refl)

  metadata_there : pair_at metadata_key (pairs_of stored) ≡ Some (dict (pairs_of settled))
  metadata_there = at metadata_key (dict (pairs_of settled)) refl

  own_again : in_field metadata_key (then_do (needed metadata_key body) (metadata_of name version)) ≡ Ok own → in_field metadata_key (then_do (needed metadata_key (pairs_of stored)) (metadata_of name version)) ≡ Ok own
  own_again is =
      ap (λ found. in_field metadata_key (then_do (ok_or found MissingField) (metadata_of name version))) metadata_there
      ∙ field_is metadata_key _ own (metadata_again name version (pair_at metadata_key body) own (field_done metadata_key _ own is))

  -- what is stored of a segment
  abbrev segment_doc : List ℕ → Doc
  segment_doc segment = list (docs_of (segment_docs segment files))

  files_again : with_segments segments body [] ≡ Ok files → with_segments segments (pairs_of stored) [] ≡ Ok files
  files_again is =
      read_again segments body (pairs_of stored) [] files refl (refl, (refl, (refl, (refl, (refl, (refl, (refl, (refl, (refl, tt))))))))) (
        at (codes "recipes") (segment_doc (codes "recipes")) refl,
        (
          at (codes "definitions") (segment_doc (codes "definitions")) refl,
          (
            at (codes "libraries") (segment_doc (codes "libraries")) refl,
            (
              at (codes "attributes") (segment_doc (codes "attributes")) refl,
              (
                at (codes "files") (segment_doc (codes "files")) refl,
                (
                  at (codes "templates") (segment_doc (codes "templates")) refl,
                  (
                    at (codes "resources") (segment_doc (codes "resources")) refl,
                    (
                      at (codes "providers") (segment_doc (codes "providers")) refl,
                      (
                        at (codes "root_files") (segment_doc (codes "root_files")) refl,
                        tt,
                      ),
                    ),
                  ),
                ),
              ),
            ),
          ),
        ),
      )
      is

  whole_again : whole_of name version frozen files (pairs_of stored) ≡ stored
  whole_again =
      let own_metadata : stored_metadata (metadata_sent (pair_at metadata_key (pairs_of stored))) ≡ settled =
      ap (λ found. stored_metadata (metadata_sent found)) metadata_there ∙ stored_metadata-twice (metadata_sent (pair_at metadata_key body)) in
      let beside : unlisted (pairs_list (pairs_of stored)) ≡ unlisted (pairs_list body) =
      ap unlisted (pairs_list-pairs_of stored) ∙ beside-puts (is_field head_keys) fields (unlisted (pairs_list body)) refl ∙ beside-twice (is_field head_keys) (pairs_list body) in
      λ i. with_pairs (stored_fields name version frozen (own_metadata i) files) (beside i)

-- the manifest that the steps make under a name and a version of a body
abbrev pub made_of : List ℕ → Version → Pairs → Bool → Metadata → List Entry → Manifest
made_of name version body frozen own files = record { name = name; version = version; metadata = own; frozen = frozen; files = files; whole = tree.Dict (whole_of name version frozen files body) }

-- once each step was done, what is made of their outcomes is the manifest
pub manifest_made : (name : List ℕ) (version : Version) (body : Pairs) (result : Result Manifest MetaFault) (found : Result Metadata Flaw) (told : Unit {0}) (frozen : Bool) (own : Metadata) (files : List Entry) (object : List (List ℕ × Doc))
    → are_as_asked (told_by name version) body ≡ Ok told → in_field (codes "frozen?") (truth_of (pair_at (codes "frozen?") body)) ≡ Ok frozen
    → Finds found (then_do (needed metadata_key body) (metadata_of name version)) → in_field metadata_key found ≡ Ok own → with_segments segments body [] ≡ Ok files → object ≡ whole_of name version frozen files body
    → Gives result (Ok (record { name = name; version = version; metadata = own; frozen = frozen; files = files; whole = tree.Dict object })) → Gives result (manifest_in name version body)
manifest_made name version body result found told frozen own files object is_told is_frozen finds is_own is_files is_object gives =
    let due : Result Metadata Flaw = then_do (needed metadata_key body) (metadata_of name version) in
    let own_found : due ≡ Ok own = subst (λ (r : Result Metadata Flaw). Finds r due) (field_done metadata_key found own is_own) finds in
    let steps : manifest_in name version body ≡ Ok (made_of name version body frozen own files) =
    λ i. by_steps (is_told i) (is_frozen i) (field_is metadata_key due own own_found i) (is_files i) (made_of name version body) in
    let made : Gives result (Ok (made_of name version body frozen own files)) =
    subst (λ (w : List (List ℕ × Doc)). Gives result (Ok (record { name = name; version = version; metadata = own; frozen = frozen; files = files; whole = tree.Dict w }))) is_object gives in
    subst (Gives result) (sym steps) made

manifest_in_again : (name : List ℕ) (version : Version) (body : Pairs) (m : Manifest) → reads_version (version_text version) ≡ Ok version → manifest_in name version body ≡ Ok m → manifest_from name version (doc_of m.whole) ≡ Ok m
manifest_in_again name version body m read is =
    let done = steps_done (are_as_asked (told_by name version) body) (in_field (codes "frozen?") (truth_of (pair_at (codes "frozen?") body)))
    (in_field metadata_key (then_do (needed metadata_key body) (metadata_of name version))) (with_segments segments body []) (made_of name version body) m is in
    let whole = stored name version body read done.is_frozen done.own done.entries in
    let again : manifest_in name version (pairs_of whole) ≡ Ok (made_of name version (pairs_of whole) done.is_frozen done.own done.entries) =
    λ i. by_steps (told_again name version body read done.is_frozen done.own done.entries i) (frozen_again name version body read done.is_frozen done.own done.entries i)
    (own_again name version body read done.is_frozen done.own done.entries done.metadata_is i) (files_again name version body read done.is_frozen done.own done.entries done.files_is i) (made_of name version (pairs_of whole)) in
    subst (λ (n : Manifest). manifest_from name version (doc_of n.whole) ≡ Ok n) done.made
    (again ∙ ap (λ (w : List (List ℕ × Doc)). Ok (record { name = name; version = version; metadata = done.own; frozen = done.is_frozen; files = done.entries; whole = tree.Dict w })) (whole_again name version body read done.is_frozen done.own done.entries))

pub manifests_again : (name : List ℕ) (version : Version) (body : Doc) (m : Manifest) → reads_version (version_text version) ≡ Ok version → manifest_from name version body ≡ Ok m → manifest_from name version (doc_of m.whole) ≡ Ok m
manifests_again name version null m read is = cc
manifests_again name version (boolean b) m read is = cc
manifests_again name version (whole z) m read is = cc
manifests_again name version (words text) m read is = cc
manifests_again name version (list ds) m read is = cc
manifests_again name version (dict body) m read is = manifest_in_again name version body m read is
