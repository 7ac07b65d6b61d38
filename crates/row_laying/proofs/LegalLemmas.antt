-- A state that was laid is one that an organisation can have.
use Rattle.std.proofs.Common.{◌≡◌, ◌⊎◌, inl, inr, ℕ, ◌<◌, ◌^◌, Bool, true, List, Option, Some, None, option_map, option_and_then, Result, Ok, Err, refl, sym, ap, subst, ◌∙◌, arith}
use Rattle.std.proofs.lemmas.Option.{same_Some, none-some}
use Rattle.std.specs.FinMap as finite
use Rattle.std.specs.List.{list_all}
use Rattle.doc_tree.specs.Doc.{Doc}
use Rattle.doc_tree.specs.Valid.{IsDoc}
use Rattle.version_rules.proofs.FitLemmas.{fits_read}
use Rattle.version_rules.specs.Laws.{FitsVersion}
use Rattle.version_rules.specs.Versions.{reads_version, version_text}
use Rattle.version_rules.specs.declared.fault.VersionFault.{VersionFault}
use Rattle.version_rules.specs.declared.versions.Version.{Version as AVersion}
use Rattle.access_lists.specs.Forms.{IsAcl, acl_in}
use Rattle.access_lists.specs.declared.acl.Acl.{Acl}
use Rattle.object_store.specs.declared.key.Key.{Key}
use Rattle.outside_keeper.specs.Rows.{KeptRows}
use Rattle.org_core.specs.FullStates.{FullState, full_in}
use Rattle.org_core.specs.States.{Kept, Organisation, nothing, state_in}
use Rattle.org_shelves.specs.StoredManifests.{artifact_stored_from, stored_from}
use Rattle.sandboxes.specs.Checksums.{checksum_of, is_checksum}
use Rattle.sandboxes.specs.Files.{KeptByName, holding_of}
use Rattle.sandboxes.specs.Sandboxes.{AreNamed}
use Rattle.sandboxes.specs.Sandboxes as sandboxes
use Rattle.sandboxes.specs.Sums.{IsRising, Sums}
use Rattle.sandboxes.specs.declared.stored.Stored.{Stored}
use Rattle.shelves.specs.Shelves.{value_at}
use Rattle.org_rows.specs.Bodies.{acl_body, count_body, sandbox_body}
use Rattle.org_rows.specs.Legal.{AreTypedFiles, IsLegal, IsTyped}
use Rattle.org_rows.specs.Places as place
use Rattle.org_rows.specs.Places.{Place, IsPlace, split_at_slash, slashed, version_place, where_}
use Rattle.org_rows.specs.Reading.{content_at, count_in, given, object_stored, revision_stored, sums_in}
use Rattle.org_rows.specs.Things.{Content, count, document, list, sums, stored}
use Rattle.row_laying.proofs.ConditionsLemmas.{full_is, meets, meets_files}
use Rattle.row_laying.proofs.DocLemmas.{acl_is, count_fits, read_from, stored_is, sums_are}
use Rattle.row_laying.proofs.KeptLemmas.{where_is}
use Rattle.row_laying.proofs.ListedLemmas.{all_filled}
use Rattle.row_laying.proofs.MemberLemmas.{laid, held, none_acl, none_object, told_named, told_of}
use Rattle.row_laying.proofs.RowsLemmas.{StandsInNothing}
use Rattle.row_laying.proofs.ShelfLemmas.{none_artifact, none_revision, none_version}
use Rattle.row_laying.proofs.SoundLemmas.{IsToldOf, sound}
use Rattle.row_reading.specs.declared.said.Said.{Said}
use Rattle.row_reading.specs.declared.said.Said.TheVariants.{Count, Object, User, Group, Container, Version, Artifact, Revision, PolicyGroup, List as AList, Sandbox, File}
use Rattle.row_laying.specs.KeptRows.{AreKept}
use Rattle.row_laying.specs.Laying.{files_with_all, with_all}
use Rattle.row_laying.specs.SaidRows.{IsAmong}
use Rattle.row_reading.specs.Sayings.{place_said, content_said}

none_sandbox : (id : List ℕ) → StandsInNothing (place.sandbox id) → ⊥
none_sandbox id (inl at) = cc
none_sandbox id (inr at) = cc at.1

none_file : (sum : List ℕ) → StandsInNothing (place.file sum) → ⊥
none_file sum (inl at) = cc
none_file sum (inr at) = cc at.1

-- ---- versions

version_of : (name : List ℕ) (number : AVersion) (front : List ℕ) (read : AVersion) → place.version name number ≡ place.version front read → number ≡ read
version_of name number front read same = cc

version_read : (front back : List ℕ) (found : Result AVersion VersionFault) (name : List ℕ) (number : AVersion) → version_place front back found ≡ Some (place.version name number) → found ≡ Ok number
version_read front back (Ok read) name number is = ap Ok (sym (version_of name number front read (where_is _ (place.version front read) (place.version name number) is).0))
version_read front back (Err fault) name number is = absurd (none-some (place.version name number) is)

parts_fit : (parts : Option (List ℕ × List ℕ)) (name : List ℕ) (number : AVersion) → option_and_then (λ parts. version_place parts.0 parts.1 (reads_version parts.1)) parts ≡ Some (place.version name number) → FitsVersion number
parts_fit None name number is = absurd (none-some (place.version name number) is)
parts_fit (Some parts) name number is = fits_read parts.1 number (version_read parts.0 parts.1 (reads_version parts.1) name number is)

-- the number of a version that has a row fits 64 bits
version_fits : (name : List ℕ) (number : AVersion) → IsPlace (place.version name number) → FitsVersion number
version_fits name number is = parts_fit (split_at_slash (slashed name (version_text number))) name number is

-- ---- files

file-inj : (a b : List ℕ) → place.file a ≡ place.file b → a ≡ b
file-inj a b same = cc

bytes_told : (kept : Stored) (bytes : List ℕ) (committed : Bool) → stored kept ≡ stored (record { file = bytes; committed = committed }) → kept.file ≡ bytes
bytes_told kept bytes committed same = cc

-- a file is told under its own checksum
own_sum : (one : Said) (sum : List ℕ) (kept : Stored) → place.file sum ≡ place_said one → stored kept ≡ content_said one → checksum_of kept.file ≡ sum
own_sum (File bytes committed) sum kept at is = ap checksum_of (bytes_told kept bytes committed is) ∙ sym (file-inj sum (checksum_of bytes) at)
own_sum (Count n) sum kept at is = absurd (cc at)
own_sum (Object k object) sum kept at is = absurd (cc at)
own_sum (User name) sum kept at is = absurd (cc at)
own_sum (Group name group) sum kept at is = absurd (cc at)
own_sum (Container name) sum kept at is = absurd (cc at)
own_sum (Version name version manifest) sum kept at is = absurd (cc at)
own_sum (Artifact name id manifest) sum kept at is = absurd (cc at)
own_sum (Revision policy id lock) sum kept at is = absurd (cc at)
own_sum (PolicyGroup name policies) sum kept at is = absurd (cc at)
own_sum (AList k acl) sum kept at is = absurd (cc at)
own_sum (Sandbox id checksums) sum kept at is = absurd (cc at)

count-inj : (n m : ℕ) → count n ≡ count m → n ≡ m
count-inj n m same = cc

list-inj : (x y : Acl) → list x ≡ list y → x ≡ y
list-inj x y same = cc

sums-inj : (x y : Sums) → sums x ≡ sums y → x ≡ y
sums-inj x y same = cc

module _ (org : List ℕ) (rows : KeptRows) (all : List Said) (are : AreKept org rows all) where
  -- some body says what is told of a place
  says : (q : Place) (content : Content) → IsToldOf all q content → (body : List ℕ) × (content_at q body ≡ Some content)
  says q content told =
      let by = are.are_said.each told.0 told.1 in
      (by.body, (λ i. content_at (told.2 i) by.body) ∙ by.says ∙ ap Some (sym told.3))

  objects_are : (k : Key) (doc : Doc) → finite.get (laid org rows all are).objects k ≡ Some doc → IsDoc doc
  objects_are k doc is =
      let by = says (place.object k) (document doc) (told_of org rows all are (place.object k) (document doc) (none_object k) (ap (option_map document) is)) in
      stored_is (object_stored k.kind k.name) by.0 doc by.1

  lists_are : (k : Key) (acl : Acl) → finite.get (laid org rows all are).lists k ≡ Some acl → IsAcl acl
  lists_are k acl is =
      let by = says (place.acl k) (list acl) (told_of org rows all are (place.acl k) (list acl) (none_acl k) (ap (option_map list) is)) in
      let read = read_from acl_body acl_in by.0 list list-inj acl by.1 in
      acl_is read.0 acl read.2

  versions_are : (name : List ℕ) (number : AVersion) (doc : Doc) → value_at (laid org rows all are).shelved.cookbooks name number ≡ Some doc → IsDoc doc × FitsVersion number
  versions_are name number doc is =
      let told = told_of org rows all are (place.version name number) (document doc) (none_version name number) (ap (option_map document) is) in
      let by = says (place.version name number) (document doc) told in
      (stored_is (λ d. given (stored_from name number d)) by.0 doc by.1, version_fits name number (told_named org rows all are (place.version name number) (document doc) told))

  artifacts_are : (name id : List ℕ) (doc : Doc) → value_at (laid org rows all are).shelved.artifacts name id ≡ Some doc → IsDoc doc
  artifacts_are name id doc is =
      let by = says (place.artifact name id) (document doc) (told_of org rows all are (place.artifact name id) (document doc) (none_artifact name id) (ap (option_map document) is)) in
      stored_is (λ d. given (artifact_stored_from name id d)) by.0 doc by.1

  revisions_are : (policy id : List ℕ) (doc : Doc) → value_at (laid org rows all are).shelved.policies policy id ≡ Some doc → IsDoc doc
  revisions_are policy id doc is =
      let by = says (place.revision policy id) (document doc) (told_of org rows all are (place.revision policy id) (document doc) (none_revision policy id) (ap (option_map document) is)) in
      stored_is (revision_stored policy id) by.0 doc by.1

  typed : IsTyped (with_all all nothing)
  typed =
      let filled = all_filled all in
      record {
        objects = objects_are;
        lists = lists_are;
        versions = versions_are;
        artifacts = artifacts_are;
        revisions = revisions_are;
        cookbooks_filled = filled.cookbooks;
        artifacts_filled = filled.artifacts;
        policies_filled = filled.policies;
      }

  -- ---- files and sandboxes

  file_told : (sum : List ℕ) (kept : Stored) → finite.get (held org rows all are).files sum ≡ Some kept → IsToldOf all (place.file sum) (stored kept)
  file_told sum kept is = told_of org rows all are (place.file sum) (stored kept) (none_file sum) (ap (option_map stored) is)

  sandbox_told : (id : List ℕ) (found : Sums) → finite.get (held org rows all are).sandboxes id ≡ Some found → IsToldOf all (place.sandbox id) (sums found)
  sandbox_told id found is = told_of org rows all are (place.sandbox id) (sums found) (none_sandbox id) (ap (option_map sums) is)

  named_files : AreNamed (held org rows all are).files
  named_files sum kept is = let told = file_told sum kept is in own_sum told.0 sum kept told.2 told.3

  file_sums : (sum : List ℕ) (kept : Stored) → finite.get (held org rows all are).files sum ≡ Some kept → is_checksum sum ≡ true
  file_sums sum kept is = (where_is (is_checksum sum) (place.file sum) (place.file sum) (told_named org rows all are (place.file sum) (stored kept) (file_told sum kept is))).1

  sandbox_ids : (id : List ℕ) (found : Sums) → finite.get (held org rows all are).sandboxes id ≡ Some found → is_checksum id ≡ true
  sandbox_ids id found is = (where_is (is_checksum id) (place.sandbox id) (place.sandbox id) (told_named org rows all are (place.sandbox id) (sums found) (sandbox_told id found is))).1

  sandbox_sums : (id : List ℕ) (found : Sums) → finite.get (held org rows all are).sandboxes id ≡ Some found → (list_all is_checksum found ≡ true) × IsRising found
  sandbox_sums id found is =
      let by = says (place.sandbox id) (sums found) (sandbox_told id found is) in
      let read = read_from sandbox_body sums_in by.0 sums sums-inj found by.1 in
      sums_are read.0 found read.2

  count_told : (n : ℕ) → (Some (count 0) ≡ Some (count n)) ⊎ IsToldOf all place.itself (count n) → n < 2 ^ 64
  count_told n (inl none) = subst (λ k. k < 2 ^ 64) (count-inj 0 n (same_Some (count 0) (count n) none)) (omega arith)
  count_told n (inr told) =
      let by = says place.itself (count n) told in
      let read = read_from count_body count_in by.0 count count-inj n by.1 in
      count_fits read.0 n read.1 read.2

  typed_files : AreTypedFiles (files_with_all all sandboxes.nothing)
  typed_files = record {
    named = named_files;
    checksums = file_sums;
    ids = sandbox_ids;
    sums = sandbox_sums;
    count = count_told (held org rows all are).count (sound all nothing sandboxes.nothing place.itself (count (held org rows all are).count) refl);
  }

  pub legal : (one : Said) → IsAmong one all → IsLegal (record { state = Some (with_all all nothing); files = files_with_all all sandboxes.nothing })
  legal one among = record {
    conditions = meets org rows all are one among;
    file_conditions = meets_files org rows all are one among;
    typed = typed;
    typed_files = typed_files;
  }

-- a state of what was laid is one that an organisation can have
pub legal_is : (s : Kept) (files : KeptByName) (org : List ℕ) (rows : KeptRows) (all : List Said) (o : Organisation) → AreKept org rows all → (one : Said) → IsAmong one all
    → s.name ≡ org → state_in s ≡ Some o → o ≡ with_all all nothing → holding_of files org ≡ files_with_all all sandboxes.nothing → IsLegal (full_in s files)
legal_is s files org rows all o are one among name state whole held' =
    subst (λ (full : FullState). IsLegal full) (sym (full_is s files org all o name state whole held')) (legal org rows all are one among)
