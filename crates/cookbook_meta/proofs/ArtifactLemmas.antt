-- An artifact that was read: what it keeps, and that it is read again from what is stored of it.
use Rattle.std.proofs.Common.{◌≡◌, ℕ, Bool, true, IfOk, List, [], Some, Result, Ok, Err, ok_or, codes, bytes_eq, refl, sym, ap, subst, ◌∙◌}
use Rattle.std.proofs.lemmas.Slice.Eq.{bytes_eq-Decides}
use Rattle.std.specs.Cmp.Lexicographic.{nat_list_eq_equiv}
use Rattle.doc_tree.proofs.Docs.{pairs_list-pairs_of}
use Rattle.doc_tree.specs.Doc.{Doc, null, boolean, whole, words, list, dict, Pairs, docs_of, pairs_of, pairs_list}
use Rattle.doc_tree.specs.Part.{pair_at}
use Rattle.doc_tree.specs.Tree.{doc_of}
use Rattle.doc_tree.specs.declared.tree.Tree.TheVariants as tree
use Rattle.version_rules.proofs.FitLemmas.{fits_read}
use Rattle.version_rules.specs.Laws.{FitsVersion}
use Rattle.version_rules.specs.Versions.{reads_version, version_text}
use Rattle.version_rules.specs.declared.fault.VersionFault.{VersionFault}
use Rattle.version_rules.specs.declared.versions.Version.{Version}
use Rattle.cookbook_meta.specs.Artifacts.{artifact_from, artifact_in, identifier_key, identifier_of, is_identified}
use Rattle.cookbook_meta.specs.Faults.{then_do, in_field, keep_if}
use Rattle.cookbook_meta.specs.Fields.{are_as_asked, named_rows, stated_rows}
use Rattle.cookbook_meta.specs.Manifests.{metadata_of}
use Rattle.cookbook_meta.specs.Metadata.{stored_metadata}
use Rattle.cookbook_meta.specs.Outcomes.{Finds, Gives}
use Rattle.cookbook_meta.specs.Parts.{needed, text_of, truth_of, version_of, version_read, is_identifier}
use Rattle.cookbook_meta.specs.Segments.{segments, segment_docs, with_segments}
use Rattle.cookbook_meta.specs.Sound.{IsOf, HasOwnPaths, HasChecksums}
use Rattle.cookbook_meta.specs.Stored.{artifact_fields, artifact_keys, artifact_whole, beside, is_field, metadata_key, metadata_sent, with_pairs}
use Rattle.cookbook_meta.specs.declared.entries.Entry.{Entry}
use Rattle.cookbook_meta.specs.declared.fault.Flaw.{Flaw}
use Rattle.cookbook_meta.specs.declared.fault.Flaw.TheVariants.{MissingField, WrongKind, NameDiffers}
use Rattle.cookbook_meta.specs.declared.fault.MetaFault.{MetaFault}
use Rattle.cookbook_meta.specs.declared.manifests.Manifest.{Manifest}
use Rattle.cookbook_meta.specs.declared.metadata.Metadata.{Metadata}
use Rattle.cookbook_meta.proofs.DoneLemmas.{same_ok, then_done, then_is, field_done, field_is, kept, keeps}
use Rattle.cookbook_meta.proofs.MetadataLemmas.{metadata_again, stored_metadata-twice}
use Rattle.cookbook_meta.proofs.PutLemmas.{at_own, beside-puts, beside-twice}
use Rattle.cookbook_meta.proofs.ReadBackLemmas.{named_again, rows_again}
use Rattle.cookbook_meta.proofs.SegmentLemmas.{read_again}
use Rattle.cookbook_meta.proofs.SoundLemmas.{metadata_own, no_entries, sound_segments}

-- ---- the steps of an artifact

abbrev by_identified : Result (Unit {0}) MetaFault → Manifest → Result Manifest MetaFault
by_identified identified m = then_do identified (λ done. Ok m)

abbrev by_files : Result (List Entry) MetaFault → Result (Unit {0}) MetaFault → (List Entry → Manifest) → Result Manifest MetaFault
by_files files identified make = then_do files (λ entries. by_identified identified (make entries))

abbrev by_metadata : Result Metadata MetaFault → Result (List Entry) MetaFault → Result (Unit {0}) MetaFault → (Metadata → List Entry → Manifest) → Result Manifest MetaFault
by_metadata metadata files identified make = then_do metadata (λ own. by_files files identified (make own))

abbrev by_frozen : Result Bool MetaFault → Result Metadata MetaFault → Result (List Entry) MetaFault → Result (Unit {0}) MetaFault → (Bool → Metadata → List Entry → Manifest) → Result Manifest MetaFault
by_frozen frozen metadata files identified make = then_do frozen (λ f. by_metadata metadata files identified (make f))

abbrev by_stated : Result (Unit {0}) MetaFault → Result Bool MetaFault → Result Metadata MetaFault → Result (List Entry) MetaFault → Result (Unit {0}) MetaFault → (Bool → Metadata → List Entry → Manifest) → Result Manifest MetaFault
by_stated stated frozen metadata files identified make = then_do stated (λ done. by_frozen frozen metadata files identified make)

abbrev by_version : Result Version MetaFault → Result (Unit {0}) MetaFault → Result Bool MetaFault → (Version → Result Metadata MetaFault) → Result (List Entry) MetaFault → Result (Unit {0}) MetaFault → (Version → Bool → Metadata → List Entry → Manifest) → Result Manifest MetaFault
by_version version stated frozen metadata files identified make = then_do version (λ v. by_stated stated frozen (metadata v) files identified (make v))

abbrev by_steps : Result (Unit {0}) MetaFault → Result Version MetaFault → Result (Unit {0}) MetaFault → Result Bool MetaFault → (Version → Result Metadata MetaFault) → Result (List Entry) MetaFault → Result (Unit {0}) MetaFault → (Version → Bool → Metadata → List Entry → Manifest)
    → Result Manifest MetaFault
by_steps named version stated frozen metadata files identified make = then_do named (λ done. by_version version stated frozen metadata files identified make)

-- each step was done
record Done (version : Result Version MetaFault) (frozen : Result Bool MetaFault) (metadata : Version → Result Metadata MetaFault) (files : Result (List Entry) MetaFault) (identified : Result (Unit {0}) MetaFault) (make : Version → Bool → Metadata → List Entry → Manifest) (m : Manifest) : Type 0 where
  release : Version
  is_frozen : Bool
  own : Metadata
  entries : List Entry
  done : Unit {0}
  version_is : version ≡ Ok release
  metadata_is : metadata release ≡ Ok own
  files_is : files ≡ Ok entries
  identified_is : identified ≡ Ok done
  made : make release is_frozen own entries ≡ m

steps_done : (named : Result (Unit {0}) MetaFault) (version : Result Version MetaFault) (stated : Result (Unit {0}) MetaFault) (frozen : Result Bool MetaFault) (metadata : Version → Result Metadata MetaFault) (files : Result (List Entry) MetaFault) (identified : Result (Unit {0}) MetaFault)
    (make : Version → Bool → Metadata → List Entry → Manifest) (m : Manifest) → by_steps named version stated frozen metadata files identified make ≡ Ok m → Done version frozen metadata files identified make m
steps_done named version stated frozen metadata files identified make m is =
    let a = then_done named (λ done. by_version version stated frozen metadata files identified make) m is in
    let b = then_done version (λ v. by_stated stated frozen (metadata v) files identified (make v)) m a.2 in
    let c = then_done stated (λ done. by_frozen frozen (metadata b.0) files identified (make b.0)) m b.2 in
    let d = then_done frozen (λ f. by_metadata (metadata b.0) files identified (make b.0 f)) m c.2 in
    let e = then_done (metadata b.0) (λ own. by_files files identified (make b.0 d.0 own)) m d.2 in
    let f = then_done files (λ entries. by_identified identified (make b.0 d.0 e.0 entries)) m e.2 in
    let g = then_done identified (λ done. Ok (make b.0 d.0 e.0 f.0)) m f.2 in
    record { release = b.0; is_frozen = d.0; own = e.0; entries = f.0; done = g.0; version_is = b.1; metadata_is = e.1; files_is = f.1; identified_is = g.1; made = same_ok MetaFault (make b.0 d.0 e.0 f.0) m g.2 }

-- the steps that an artifact is read by
abbrev named_step : List ℕ → Pairs → Result (Unit {0}) MetaFault
named_step name body = are_as_asked (named_rows name) body

abbrev version_step : Pairs → Result Version MetaFault
version_step body = in_field (codes "version") (then_do (needed (codes "version") body) version_of)

abbrev frozen_step : Pairs → Result Bool MetaFault
frozen_step body = in_field (codes "frozen?") (truth_of (pair_at (codes "frozen?") body))

abbrev metadata_step : List ℕ → Pairs → Version → Result Metadata MetaFault
metadata_step name body version = in_field metadata_key (then_do (needed metadata_key body) (metadata_of name version))

abbrev files_step : Pairs → Result (List Entry) MetaFault
files_step body = with_segments segments body []

abbrev identified_step : List ℕ → Pairs → Result (Unit {0}) MetaFault
identified_step id body = in_field identifier_key (then_do (needed identifier_key body) (is_identified id))

abbrev made_of : List ℕ → List ℕ → Pairs → Version → Bool → Metadata → List Entry → Manifest
made_of name id body version frozen own files = record { name = name; version = version; metadata = own; frozen = frozen; files = files; whole = tree.Dict (artifact_whole name version id frozen files body) }

abbrev IsRead : List ℕ → List ℕ → Pairs → Manifest → Type 0
IsRead name id body m = Done (version_step body) (frozen_step body) (metadata_step name body) (files_step body) (identified_step id body) (made_of name id body) m

read_done : (name id : List ℕ) (body : Pairs) (m : Manifest) → artifact_in name id body ≡ Ok m → IsRead name id body m
read_done name id body m is =
    steps_done (named_step name body) (version_step body) (are_as_asked stated_rows body) (frozen_step body) (metadata_step name body) (files_step body) (identified_step id body) (made_of name id body) m is

-- what is read behind metadata, by the identifier that was sent
abbrev behind_metadata : List ℕ → List ℕ → Pairs → Version → Bool → Metadata → Result Manifest MetaFault
behind_metadata name id body version frozen own = by_files (files_step body) (identified_step id body) (made_of name id body version frozen own)

-- once the steps before were done, what is read behind them is the artifact
pub artifact_behind : (name id sent : List ℕ) (body : Pairs) (result : Result Manifest MetaFault) (found : Result Metadata Flaw) (named stated : Unit {0}) (version : Version) (frozen : Bool) (own : Metadata)
    → named_step name body ≡ Ok named → version_step body ≡ Ok version → are_as_asked stated_rows body ≡ Ok stated → frozen_step body ≡ Ok frozen
    → Finds found (then_do (needed metadata_key body) (metadata_of name version)) → in_field metadata_key found ≡ Ok own → sent ≡ id
    → Gives result (behind_metadata name sent body version frozen own) → Gives result (artifact_in name id body)
artifact_behind name id sent body result found named stated version frozen own is_named is_version is_stated is_frozen finds is_own same gives =
    let due : Result Metadata Flaw = then_do (needed metadata_key body) (metadata_of name version) in
    let own_found : due ≡ Ok own = subst (λ (r : Result Metadata Flaw). Finds r due) (field_done metadata_key found own is_own) finds in
    let make = made_of name id body in
    let steps : artifact_in name id body ≡ behind_metadata name id body version frozen own =
    then_is (named_step name body) (λ done. by_version (version_step body) (are_as_asked stated_rows body) (frozen_step body) (metadata_step name body) (files_step body) (identified_step id body) make) named is_named
    ∙ then_is (version_step body) (λ v. by_stated (are_as_asked stated_rows body) (frozen_step body) (metadata_step name body v) (files_step body) (identified_step id body) (make v)) version is_version
    ∙ then_is (are_as_asked stated_rows body) (λ done. by_frozen (frozen_step body) (metadata_step name body version) (files_step body) (identified_step id body) (make version)) stated is_stated
    ∙ then_is (frozen_step body) (λ f. by_metadata (metadata_step name body version) (files_step body) (identified_step id body) (make version f)) frozen is_frozen
    ∙ then_is (metadata_step name body version) (λ m. by_files (files_step body) (identified_step id body) (make version frozen m)) own (field_is metadata_key due own own_found) in
    subst (Gives result) (sym steps) (subst (λ (i : List ℕ). Gives result (behind_metadata name i body version frozen own)) same gives)

-- ---- what an artifact keeps

record Keeps (name : List ℕ) (m : Manifest) : Type 0 where
  own : IsOf name m.version m
  paths : HasOwnPaths m.files
  sums : HasChecksums m.files

artifact_keeps : (name id : List ℕ) (body : Pairs) (m : Manifest) → artifact_in name id body ≡ Ok m → Keeps name m
artifact_keeps name id body m is =
    let done = read_done name id body m is in
    let metadata = metadata_own name done.release body done.own done.metadata_is in
    let files = sound_segments segments body [] done.entries done.files_is no_entries in
    subst (Keeps name) done.made (record {
      own = record { name_is = refl; version_is = refl; metadata_name = metadata.0; metadata_version = metadata.1 };
      paths = files.paths;
      sums = files.sums;
    })

pub artifact_own : (name id : List ℕ) (body : Pairs) (result : Result Manifest MetaFault) → Gives result (artifact_in name id body) → IfOk result (λ m. IsOf name m.version m)
artifact_own name id body (Ok m) gives = (artifact_keeps name id body m gives).own
artifact_own name id body (Err f) gives = tt

pub artifact_paths : (name id : List ℕ) (body : Pairs) (result : Result Manifest MetaFault) → Gives result (artifact_in name id body) → IfOk result (λ m. HasOwnPaths m.files)
artifact_paths name id body (Ok m) gives = (artifact_keeps name id body m gives).paths
artifact_paths name id body (Err f) gives = tt

pub artifact_sums : (name id : List ℕ) (body : Pairs) (result : Result Manifest MetaFault) → Gives result (artifact_in name id body) → IfOk result (λ m. HasChecksums m.files)
artifact_sums name id body (Ok m) gives = (artifact_keeps name id body m gives).sums
artifact_sums name id body (Err f) gives = tt

-- ---- the version

version_fits : (text : List ℕ) (read : Result Version VersionFault) (version : Version) → reads_version text ≡ read → version_read read ≡ Ok version → FitsVersion version
version_fits text (Ok other) version is gives = fits_read text version (is ∙ ap Ok (same_ok Flaw other version gives))
version_fits text (Err fault) version is gives = cc

-- the version that an artifact was read with fits 64 bits a part
artifact_in_fits : (name id : List ℕ) (body : Pairs) (m : Manifest) → artifact_in name id body ≡ Ok m → FitsVersion m.version
artifact_in_fits name id body m is =
    let done = read_done name id body m is in
    let sent = then_done (needed (codes "version") body) version_of done.release (field_done (codes "version") _ done.release done.version_is) in
    let text = then_done (text_of sent.0) (λ text. version_read (reads_version text)) done.release sent.2 in
    subst (λ (n : Manifest). FitsVersion n.version) done.made (version_fits text.0 (reads_version text.0) done.release refl text.2)

pub artifact_fits : (name id : List ℕ) (body : Doc) (m : Manifest) → artifact_from name id body ≡ Ok m → FitsVersion m.version
artifact_fits name id null m is = cc
artifact_fits name id (boolean b) m is = cc
artifact_fits name id (whole z) m is = cc
artifact_fits name id (words text) m is = cc
artifact_fits name id (list ds) m is = cc
artifact_fits name id (dict body) m is = artifact_in_fits name id body m is

-- ---- the identifier

-- what an artifact was read under has the form of an identifier
identified_form : (id : List ℕ) (body : Pairs) (t : Unit {0}) → identified_step id body ≡ Ok t → is_identifier id ≡ true
identified_form id body t is =
    let sent = then_done (needed identifier_key body) (is_identified id) t (field_done identifier_key _ t is) in
    let read = then_done (identifier_of sent.0) (λ s. keep_if (bytes_eq s id) tt NameDiffers) t sent.2 in
    let text = then_done (text_of sent.0) (λ text. keep_if (is_identifier text) text WrongKind) read.0 read.1 in
    let form = kept (is_identifier text.0) text.0 WrongKind read.0 text.2 in
    let same = kept (bytes_eq read.0 id) tt NameDiffers t read.2 in
    subst (λ s. is_identifier s ≡ true) (form.1 ∙ (bytes_eq-Decides read.0 id).0 same.0) form.0

identified_again : (id : List ℕ) → is_identifier id ≡ true → is_identified id (words id) ≡ Ok tt
identified_again id known =
    ap (λ r. then_do r (λ sent. keep_if (bytes_eq sent id) tt NameDiffers)) (keeps (is_identifier id) id WrongKind known)
    ∙ keeps (bytes_eq id id) tt NameDiffers (nat_list_eq_equiv.refl id)

-- ---- the whole

module _ (name id : List ℕ) (version : Version) (body : Pairs) (read : reads_version (version_text version) ≡ Ok version) (frozen : Bool) (own : Metadata) (files : List Entry) where
  -- what is stored of the metadata
  abbrev settled : List (List ℕ × Doc)
  settled = stored_metadata (metadata_sent (pair_at metadata_key body))

  -- what is stored of the fields
  abbrev fields : List (List ℕ × Doc)
  fields = artifact_fields name version id frozen settled files

  -- the stored object
  abbrev stored : List (List ℕ × Doc)
  stored = with_pairs fields (beside (is_field artifact_keys) (pairs_list body))

  -- at the key of a field stands what is stored of it
  at : (key : List ℕ) (d : Doc) → pair_at key (pairs_of fields) ≡ Some d → pair_at key (pairs_of stored) ≡ Some d
  at key d there = at_own key d fields (beside (is_field artifact_keys) (pairs_list body)) refl there

  name_again : named_step name (pairs_of stored) ≡ Ok tt
  name_again = rows_again (named_rows name) (pairs_of stored) ((words name, at (codes "name") (words name) refl, named_again name), tt)

  version_again : version_step (pairs_of stored) ≡ Ok version
  version_again =
      ap (λ found. in_field (codes "version") (then_do (ok_or found MissingField) version_of)) (at (codes "version") (words (version_text version)) refl)
      ∙ ap (λ (r : Result Version VersionFault). in_field (codes "version") (version_read r)) read

  stated_again : are_as_asked stated_rows (pairs_of stored) ≡ Ok tt
  stated_again =
      rows_again stated_rows (pairs_of stored) (
        (words (codes "cookbook_version"), at (codes "chef_type") (words (codes "cookbook_version")) refl, refl),
        ((words (codes "Chef::CookbookVersion"), at (codes "json_class") (words (codes "Chef::CookbookVersion")) refl, refl), tt),
      )

  frozen_again : frozen_step (pairs_of stored) ≡ Ok frozen
  frozen_again = ap (λ found. in_field (codes "frozen?") (truth_of found)) (at (codes "frozen?") (boolean frozen) refl)

  metadata_there : pair_at metadata_key (pairs_of stored) ≡ Some (dict (pairs_of settled))
  metadata_there = at metadata_key (dict (pairs_of settled)) refl

  own_again : metadata_step name body version ≡ Ok own → metadata_step name (pairs_of stored) version ≡ Ok own
  own_again is =
      ap (λ found. in_field metadata_key (then_do (ok_or found MissingField) (metadata_of name version))) metadata_there
      ∙ field_is metadata_key _ own (metadata_again name version (pair_at metadata_key body) own (field_done metadata_key _ own is))

  -- what is stored of a segment
  abbrev segment_doc : List ℕ → Doc
  segment_doc segment = list (docs_of (segment_docs segment files))

  files_again : files_step body ≡ Ok files → files_step (pairs_of stored) ≡ Ok files
  files_again is =
      read_again segments body (pairs_of stored) [] files refl (refl, (refl, (refl, (refl, (refl, (refl, (refl, (refl, (refl, tt))))))))) (
        at (codes "recipes") (segment_doc (codes "recipes")) refl,
        (
          at (codes "definitions") (segment_doc (codes "definitions")) refl,
          (
            at (codes "libraries") (segment_doc (codes "libraries")) refl,
            (
              at (codes "attributes") (segment_doc (codes "attributes")) refl,
              (
                at (codes "files") (segment_doc (codes "files")) refl,
                (
                  at (codes "templates") (segment_doc (codes "templates")) refl,
                  (
                    at (codes "resources") (segment_doc (codes "resources")) refl,
                    (
                      at (codes "providers") (segment_doc (codes "providers")) refl,
                      (
                        at (codes "root_files") (segment_doc (codes "root_files")) refl,
                        tt,
                      ),
                    ),
                  ),
                ),
              ),
            ),
          ),
        ),
      )
      is

  id_again : is_identifier id ≡ true → identified_step id (pairs_of stored) ≡ Ok tt
  id_again known =
      ap (λ found. in_field identifier_key (then_do (ok_or found MissingField) (is_identified id))) (at identifier_key (words id) refl)
      ∙ field_is identifier_key _ tt (identified_again id known)

  whole_again : artifact_whole name version id frozen files (pairs_of stored) ≡ stored
  whole_again =
      let own_metadata : stored_metadata (metadata_sent (pair_at metadata_key (pairs_of stored))) ≡ settled =
      ap (λ found. stored_metadata (metadata_sent found)) metadata_there ∙ stored_metadata-twice (metadata_sent (pair_at metadata_key body)) in
      let others : beside (is_field artifact_keys) (pairs_list (pairs_of stored)) ≡ beside (is_field artifact_keys) (pairs_list body) =
      ap (beside (is_field artifact_keys)) (pairs_list-pairs_of stored) ∙ beside-puts (is_field artifact_keys) fields (beside (is_field artifact_keys) (pairs_list body)) refl ∙ beside-twice (is_field artifact_keys) (pairs_list body) in
      λ i. with_pairs (artifact_fields name version id frozen (own_metadata i) files) (others i)

  abbrev again_made : Manifest
  again_made = made_of name id (pairs_of stored) version frozen own files

  all_again : metadata_step name body version ≡ Ok own → files_step body ≡ Ok files → is_identifier id ≡ true → artifact_in name id (pairs_of stored) ≡ Ok again_made
  all_again metadata_is files_is known =
      (λ i. by_steps (name_again i) (version_again i) (stated_again i) (frozen_again i) (metadata_step name (pairs_of stored)) (files_again files_is i) (id_again known i) (made_of name id (pairs_of stored)))
      ∙ ap (λ r. by_metadata r (Ok files) (Ok tt) (made_of name id (pairs_of stored) version frozen)) (own_again metadata_is)

artifact_in_again : (name id : List ℕ) (body : Pairs) (m : Manifest) → reads_version (version_text m.version) ≡ Ok m.version → artifact_in name id body ≡ Ok m → artifact_from name id (doc_of m.whole) ≡ Ok m
artifact_in_again name id body m read is =
    let done = read_done name id body m is in
    let release : m.version ≡ done.release = ap (λ (n : Manifest). n.version) (sym done.made) in
    let reads : reads_version (version_text done.release) ≡ Ok done.release = subst (λ v. reads_version (version_text v) ≡ Ok v) release read in
    let again = all_again name id done.release body reads done.is_frozen done.own done.entries done.metadata_is done.files_is (identified_form id body done.done done.identified_is) in
    subst (λ (n : Manifest). artifact_from name id (doc_of n.whole) ≡ Ok n) done.made
    (again ∙ ap (λ (w : List (List ℕ × Doc)). Ok (record { name = name; version = done.release; metadata = done.own; frozen = done.is_frozen; files = done.entries; whole = tree.Dict w })) (whole_again name id done.release body reads done.is_frozen done.own done.entries))

pub artifacts_again : (name id : List ℕ) (body : Doc) (m : Manifest) → reads_version (version_text m.version) ≡ Ok m.version → artifact_from name id body ≡ Ok m → artifact_from name id (doc_of m.whole) ≡ Ok m
artifacts_again name id null m read is = cc
artifacts_again name id (boolean b) m read is = cc
artifacts_again name id (whole z) m read is = cc
artifacts_again name id (words text) m read is = cc
artifacts_again name id (list ds) m read is = cc
artifacts_again name id (dict body) m read is = artifact_in_again name id body m read is
