-- What every manifest that was read keeps.
use Rattle.std.proofs.Common.{◌≡◌, ◌||◌, ◌&&◌, ◌==◌, ℕ, Bool, true, false, not, IfOk, List, [], ◌∷◌, ◌++◌, map, Option, None, Some, Result, Ok, Err, codes, bytes_eq, eqb-true, refl, ap, subst, ◌∙◌}
use Rattle.std.proofs.lemmas.Slice.Eq.{bytes_eq-Decides}
use Rattle.std.specs.Cmp.Lexicographic.{nat_list_eq_equiv}
use Rattle.std.specs.List.{AllByRecursion, IsDistinct, list_all}
use Rattle.doc_tree.specs.Doc.{Doc, null, boolean, whole, words, list, dict, Docs, no_docs, then_doc, Pairs}
use Rattle.doc_tree.specs.Part.{pair_at}
use Rattle.version_rules.specs.declared.versions.Version.{Version}
use Rattle.cookbook_meta.specs.Checksums.{checksums_of}
use Rattle.cookbook_meta.specs.Entries.{entry_of, has_path, with_entry, with_entries}
use Rattle.cookbook_meta.specs.Faults.{then_do, in_field, inside}
use Rattle.cookbook_meta.specs.Fields.{are_as_asked, told_by, same_version}
use Rattle.cookbook_meta.specs.Manifests.{manifest_in, metadata_of, of_release}
use Rattle.cookbook_meta.specs.Metadata.{metadata_from}
use Rattle.cookbook_meta.specs.Outcomes.{Gives}
use Rattle.cookbook_meta.specs.Parts.{is_checksum, needed, truth_of}
use Rattle.cookbook_meta.specs.Segments.{segments, with_list, with_segment, with_segments}
use Rattle.cookbook_meta.specs.Sound.{IsOf, HasOwnPaths, HasChecksums}
use Rattle.cookbook_meta.specs.Stored.{metadata_key}
use Rattle.cookbook_meta.specs.declared.entries.Entry.{Entry}
use Rattle.cookbook_meta.specs.declared.fault.Flaw.{Flaw}
use Rattle.cookbook_meta.specs.declared.fault.Flaw.TheVariants.{DoublePath, NameDiffers}
use Rattle.cookbook_meta.specs.declared.fault.MetaFault.{MetaFault}
use Rattle.cookbook_meta.specs.declared.manifests.Manifest.{Manifest}
use Rattle.cookbook_meta.specs.declared.metadata.Metadata.{Metadata}
use Rattle.cookbook_meta.proofs.DoneLemmas.{same_ok, then_done, field_done, kept}
use Rattle.cookbook_meta.proofs.EntryLemmas.{entry_of_again}
use Rattle.cookbook_meta.proofs.PutLemmas.{and_first, and_second, not_true}
use Rattle.cookbook_meta.proofs.ReadBackLemmas.{steps_done, made_of}

-- ---- one entry more

or_first : (a b : Bool) → (a || b) ≡ false → a ≡ false
or_first true b h = h
or_first false b h = refl

or_second : (a b : Bool) → (a || b) ≡ false → b ≡ false
or_second true b h = cc
or_second false b h = h

-- the paths of entries
abbrev paths_of : List Entry → List (List ℕ)
paths_of files = map (λ (e : Entry). e.path) files

-- the path is none of these
abbrev IsNone : List ℕ → List (List ℕ) → Type 0
IsNone path paths = AllByRecursion (λ other. bytes_eq path other ≡ false) paths

none_more : (path : List ℕ) (files : List Entry) (e : Entry) → IsNone path (paths_of files) → bytes_eq path e.path ≡ false → IsNone path (paths_of (files ++ e ∷ []))
none_more path [] e all differs = (differs, tt)
none_more path (f ∷ files) e all differs = (all.0, none_more path files e all.1 differs)

paths_more : (files : List Entry) (e : Entry) → has_path files e.path ≡ false → HasOwnPaths files → HasOwnPaths (files ++ e ∷ [])
unfolding IsDistinct
paths_more [] e new own = (tt, tt)
paths_more (f ∷ files) e new own =
    (none_more f.path files e own.0 (nat_list_eq_equiv.symm f.path e.path ∙ or_first _ _ new), paths_more files e (or_second _ _ new) own.1)

sums_more : (files : List Entry) (e : Entry) → is_checksum e.checksum ≡ true → HasChecksums files → HasChecksums (files ++ e ∷ [])
sums_more [] e known all = ap (λ (b : Bool). b && true) known
sums_more (f ∷ files) e known all =
    ap (λ (b : Bool). b && list_all is_checksum (checksums_of (files ++ e ∷ []))) (and_first _ _ all) ∙ sums_more files e known (and_second (is_checksum f.checksum) _ all)

-- ---- all entries

-- entries of which each has a path of its own and a checksum
pub record AreSound (files : List Entry) : Type 0 where
  pub paths : HasOwnPaths files
  pub sums : HasChecksums files

sound_more : (files next : List Entry) (e : Entry) → is_checksum e.checksum ≡ true → with_entry files e ≡ Ok next → AreSound files → AreSound next
sound_more files next e known put sound =
    let added = kept (not (has_path files e.path)) (files ++ e ∷ []) DoublePath next put in
    subst AreSound added.1 (record { paths = paths_more files e (not_true _ added.0) sound.paths; sums = sums_more files e known sound.sums })

sound_entries : (segment : List ℕ) (ds : Docs) (before next : List Entry) → with_entries segment ds before ≡ Ok next → AreSound before → AreSound next
sound_entries segment no_docs before next is sound = subst AreSound (same_ok Flaw before next is) sound
sound_entries segment (then_doc d ds) before next is sound =
    let here = then_done (then_do (entry_of segment d) (with_entry before)) (with_entries segment ds) next is in
    let entry = then_done (entry_of segment d) (with_entry before) here.0 here.1 in
    sound_entries segment ds here.0 next here.2 (sound_more before here.0 entry.0 (entry_of_again segment d entry.0 entry.1).2 entry.2 sound)

sound_list : (segment : List ℕ) (d : Doc) (before next : List Entry) → with_list segment d before ≡ Ok next → AreSound before → AreSound next
sound_list segment null before next is sound = cc
sound_list segment (boolean b) before next is sound = cc
sound_list segment (whole z) before next is sound = cc
sound_list segment (words text) before next is sound = cc
sound_list segment (list ds) before next is sound = sound_entries segment ds before next is sound
sound_list segment (dict ps) before next is sound = cc

sound_segment : (segment : List ℕ) (found : Option Doc) (before next : List Entry) → with_segment segment found before ≡ Ok next → AreSound before → AreSound next
sound_segment segment None before next is sound = subst AreSound (same_ok Flaw before next is) sound
sound_segment segment (Some d) before next is sound = sound_list segment d before next is sound

pub sound_segments : (names : List (List ℕ)) (body : Pairs) (before files : List Entry) → with_segments names body before ≡ Ok files → AreSound before → AreSound files
sound_segments [] body before files is sound = subst AreSound (same_ok MetaFault before files is) sound
sound_segments (name ∷ names) body before files is sound =
    let here = then_done (in_field name (with_segment name (pair_at name body) before)) (with_segments names body) files is in
    sound_segments names body here.0 files here.2 (sound_segment name (pair_at name body) before here.0 (field_done name _ here.0 here.1) sound)

pub no_entries : AreSound []
unfolding IsDistinct
no_entries = record { paths = tt; sums = refl }

-- ---- the metadata

same_parts : (v w : Version) → same_version v w ≡ true → v ≡ w
same_parts v w same =
    let major : v.major ≡ w.major = eqb-true v.major w.major (and_first _ _ (and_first _ _ same)) in
    let minor : v.minor ≡ w.minor = eqb-true v.minor w.minor (and_second (v.major == w.major) _ (and_first _ _ same)) in
    let patch : v.patch ≡ w.patch = eqb-true v.patch w.patch (and_second (v.major == w.major && v.minor == w.minor) _ same) in
    λ i. record { major = major i; minor = minor i; patch = patch i }

pub metadata_own : (name : List ℕ) (version : Version) (body : Pairs) (own : Metadata) → in_field metadata_key (then_do (needed metadata_key body) (metadata_of name version)) ≡ Ok own → (own.name ≡ name) × (own.version ≡ version)
metadata_own name version body own is =
    let sent = then_done (needed metadata_key body) (metadata_of name version) own (field_done metadata_key _ own is) in
    let read = then_done (inside (metadata_from sent.0)) (of_release name version) own sent.2 in
    let test = kept (bytes_eq read.0.name name && same_version read.0.version version) read.0 NameDiffers own read.2 in
    subst (λ (m : Metadata). (m.name ≡ name) × (m.version ≡ version)) test.1
    ((bytes_eq-Decides read.0.name name).0 (and_first _ _ test.0), same_parts read.0.version version (and_second (bytes_eq read.0.name name) _ test.0))

-- ---- the manifest

-- what a manifest keeps under a name and a version
record Keeps (name : List ℕ) (version : Version) (m : Manifest) : Type 0 where
  own : IsOf name version m
  paths : HasOwnPaths m.files
  sums : HasChecksums m.files

keeps : (name : List ℕ) (version : Version) (body : Pairs) (m : Manifest) → manifest_in name version body ≡ Ok m → Keeps name version m
keeps name version body m is =
    let done = steps_done (are_as_asked (told_by name version) body) (in_field (codes "frozen?") (truth_of (pair_at (codes "frozen?") body)))
    (in_field metadata_key (then_do (needed metadata_key body) (metadata_of name version))) (with_segments segments body []) (made_of name version body) m is in
    let metadata = metadata_own name version body done.own done.metadata_is in
    let files = sound_segments segments body [] done.entries done.files_is no_entries in
    subst (Keeps name version) done.made (record {
      own = record { name_is = refl; version_is = refl; metadata_name = metadata.0; metadata_version = metadata.1 };
      paths = files.paths;
      sums = files.sums;
    })

-- and so does a manifest that was given
pub given_own : (name : List ℕ) (version : Version) (body : Pairs) (result : Result Manifest MetaFault) → Gives result (manifest_in name version body) → IfOk result (IsOf name version)
given_own name version body (Ok m) gives = (keeps name version body m gives).own
given_own name version body (Err f) gives = tt

pub given_paths : (name : List ℕ) (version : Version) (body : Pairs) (result : Result Manifest MetaFault) → Gives result (manifest_in name version body) → IfOk result (λ m. HasOwnPaths m.files)
given_paths name version body (Ok m) gives = (keeps name version body m gives).paths
given_paths name version body (Err f) gives = tt

pub given_sums : (name : List ℕ) (version : Version) (body : Pairs) (result : Result Manifest MetaFault) → Gives result (manifest_in name version body) → IfOk result (λ m. HasChecksums m.files)
given_sums name version body (Ok m) gives = (keeps name version body m gives).sums
given_sums name version body (Err f) gives = tt
