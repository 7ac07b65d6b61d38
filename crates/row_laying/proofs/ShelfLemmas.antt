-- The conditions of what is on the shelves, and of the files that it names, of what the rows say and ask for.
use Rattle.std.proofs.Common.{◌≡◌, ◌⊎◌, inl, inr, ℕ, List, [], ◌∷◌, ◌++◌, map, Bool, true, false, cond, ◌&&◌, Option, Some, None, is_some, option_map, option_and_then, unwrap_or, nat_lt, nat_le, length, refl, sym, ap, subst, ◌∙◌}
use mathlib.Core.Bool.{true≢false}
use Rattle.std.proofs.lemmas.Bool.{and_parts}
use Rattle.std.proofs.lemmas.Option.{same_Some, none-some}
use Rattle.std.specs.Cmp.Lexicographic.{nat_list_cmp_total}
use Rattle.std.specs.FinMap as finite
use Rattle.std.specs.FinMap.Entries.{find}
use Rattle.std.specs.List.{list_all}
use Rattle.std.specs.Ordering.{eq_by_cmp}
use Rattle.doc_tree.specs.Doc.{Doc}
use Rattle.doc_tree.specs.Name.{is_name, is_name_byte}
use Rattle.doc_tree.specs.Text.{text_cmp}
use Rattle.dep_solver.proofs.VersionLemmas.{versions_total}
use Rattle.outside_keeper.specs.Rows.{KeptRows}
use Rattle.version_rules.specs.declared.versions.Version.{Version}
use Rattle.org_core.proofs.MembershipLemmas.{either}
use Rattle.org_shelves.proofs.NamedLemmas.{who_names}
use Rattle.org_shelves.specs.Conditions.{IsVersionOf, IsArtifactOf, IsRevisionOf, ShelfConditions}
use Rattle.org_shelves.specs.Editions.{names_sum, sums_in}
use Rattle.org_shelves.specs.Files.{AreThere, is_committed, is_committed_file}
use Rattle.org_shelves.specs.Shelved.{Assigned}
use Rattle.org_shelves.specs.ShelfMoves.{store_names}
use Rattle.sandboxes.specs.Checksums.{is_checksum}
use Rattle.sandboxes.specs.declared.stored.Stored.{Stored}
use Rattle.shelves.proofs.ShelfLaws.{tied_name}
use Rattle.shelves.specs.Shelves.{value_at}
use Rattle.org_rows.proofs.PlaceLemmas.{place_of-row_of}
use Rattle.org_rows.proofs.WordLemmas.{split-whole}
use Rattle.org_rows.specs.Places as place
use Rattle.org_rows.specs.Places.{Place, IsPlace, place_of, row_of, slashed, split_as, split_at_slash, where_}
use Rattle.org_rows.specs.Reading.{content_at, file_in}
use Rattle.org_rows.specs.References.{is_met, there, committed}
use Rattle.org_rows.specs.Things.{document, assigned, stored}
use Rattle.row_laying.proofs.KeptLemmas.{IsOwn, each_text, there_is, where_is}
use Rattle.row_laying.proofs.MemberLemmas.{laid, held, told_of, told_met, told_named, there_mapped}
use Rattle.row_laying.proofs.RowsLemmas.{StandsInNothing, document-inj, stands_said}
use Rattle.row_reading.specs.declared.said.Said.{Said}
use Rattle.row_reading.specs.declared.said.Said.TheVariants.{Count, Object, User, Group, Container, Version as AVersion, Artifact, Revision, PolicyGroup, List as AList, Sandbox, File}
use Rattle.org_rows.specs.Contents.{content_in}
use Rattle.row_laying.specs.KeptRows.{AreKept}
use Rattle.row_reading.specs.Sayings.{place_said, content_said, IsStoredSaying}

-- ---- what is told of a version, an artifact or a revision is stored so

version_name : (n m : List ℕ) (k l : Version) → place.version n k ≡ place.version m l → n ≡ m
version_name n m k l same = cc

version_key : (n m : List ℕ) (k l : Version) → place.version n k ≡ place.version m l → k ≡ l
version_key n m k l same = cc

version_told : (one : Said) (name : List ℕ) (k : Version) (doc : Doc) → place.version name k ≡ place_said one → document doc ≡ content_said one → IsStoredSaying one → IsVersionOf name k doc
version_told (AVersion name' version' manifest') name k doc at is kept =
    subst (λ n. IsVersionOf n k doc) (sym (version_name name name' k version' at)) (subst (λ q. IsVersionOf name' q doc) (sym (version_key name name' k version' at)) (subst (IsVersionOf name' version') (sym (document-inj doc manifest' is)) kept))
version_told (Count n') name k doc at is kept = absurd (cc at)
version_told (Object key' object') name k doc at is kept = absurd (cc at)
version_told (User name') name k doc at is kept = absurd (cc at)
version_told (Group name' group') name k doc at is kept = absurd (cc at)
version_told (Container name') name k doc at is kept = absurd (cc at)
version_told (Artifact name' id' manifest') name k doc at is kept = absurd (cc at)
version_told (Revision policy' id' lock') name k doc at is kept = absurd (cc at)
version_told (PolicyGroup name' policies') name k doc at is kept = absurd (cc at)
version_told (AList key' acl') name k doc at is kept = absurd (cc at)
version_told (Sandbox id' checksums') name k doc at is kept = absurd (cc at)
version_told (File bytes' committed') name k doc at is kept = absurd (cc at)

pub none_version : (name : List ℕ) (k : Version) → StandsInNothing (place.version name k) → ⊥
none_version name k (inl at) = cc
none_version name k (inr at) = cc at.1

artifact_name : (n m : List ℕ) (k l : List ℕ) → place.artifact n k ≡ place.artifact m l → n ≡ m
artifact_name n m k l same = cc

artifact_key : (n m : List ℕ) (k l : List ℕ) → place.artifact n k ≡ place.artifact m l → k ≡ l
artifact_key n m k l same = cc

artifact_told : (one : Said) (name : List ℕ) (k : List ℕ) (doc : Doc) → place.artifact name k ≡ place_said one → document doc ≡ content_said one → IsStoredSaying one → IsArtifactOf name k doc
artifact_told (Artifact name' id' manifest') name k doc at is kept =
    subst (λ n. IsArtifactOf n k doc) (sym (artifact_name name name' k id' at)) (subst (λ q. IsArtifactOf name' q doc) (sym (artifact_key name name' k id' at)) (subst (IsArtifactOf name' id') (sym (document-inj doc manifest' is)) kept))
artifact_told (Count n') name k doc at is kept = absurd (cc at)
artifact_told (Object key' object') name k doc at is kept = absurd (cc at)
artifact_told (User name') name k doc at is kept = absurd (cc at)
artifact_told (Group name' group') name k doc at is kept = absurd (cc at)
artifact_told (Container name') name k doc at is kept = absurd (cc at)
artifact_told (AVersion name' version' manifest') name k doc at is kept = absurd (cc at)
artifact_told (Revision policy' id' lock') name k doc at is kept = absurd (cc at)
artifact_told (PolicyGroup name' policies') name k doc at is kept = absurd (cc at)
artifact_told (AList key' acl') name k doc at is kept = absurd (cc at)
artifact_told (Sandbox id' checksums') name k doc at is kept = absurd (cc at)
artifact_told (File bytes' committed') name k doc at is kept = absurd (cc at)

pub none_artifact : (name : List ℕ) (k : List ℕ) → StandsInNothing (place.artifact name k) → ⊥
none_artifact name k (inl at) = cc
none_artifact name k (inr at) = cc at.1

revision_name : (n m : List ℕ) (k l : List ℕ) → place.revision n k ≡ place.revision m l → n ≡ m
revision_name n m k l same = cc

revision_key : (n m : List ℕ) (k l : List ℕ) → place.revision n k ≡ place.revision m l → k ≡ l
revision_key n m k l same = cc

revision_told : (one : Said) (name : List ℕ) (k : List ℕ) (doc : Doc) → place.revision name k ≡ place_said one → document doc ≡ content_said one → IsStoredSaying one → IsRevisionOf name k doc
revision_told (Revision policy' id' lock') name k doc at is kept =
    subst (λ n. IsRevisionOf n k doc) (sym (revision_name name policy' k id' at)) (subst (λ q. IsRevisionOf policy' q doc) (sym (revision_key name policy' k id' at)) (subst (IsRevisionOf policy' id') (sym (document-inj doc lock' is)) kept))
revision_told (Count n') name k doc at is kept = absurd (cc at)
revision_told (Object key' object') name k doc at is kept = absurd (cc at)
revision_told (User name') name k doc at is kept = absurd (cc at)
revision_told (Group name' group') name k doc at is kept = absurd (cc at)
revision_told (Container name') name k doc at is kept = absurd (cc at)
revision_told (AVersion name' version' manifest') name k doc at is kept = absurd (cc at)
revision_told (Artifact name' id' manifest') name k doc at is kept = absurd (cc at)
revision_told (PolicyGroup name' policies') name k doc at is kept = absurd (cc at)
revision_told (AList key' acl') name k doc at is kept = absurd (cc at)
revision_told (Sandbox id' checksums') name k doc at is kept = absurd (cc at)
revision_told (File bytes' committed') name k doc at is kept = absurd (cc at)

pub none_revision : (name : List ℕ) (k : List ℕ) → StandsInNothing (place.revision name k) → ⊥
none_revision name k (inl at) = cc
none_revision name k (inr at) = cc at.1

pub none_policy_group : (name : List ℕ) → StandsInNothing (place.policy_group name) → ⊥
none_policy_group name (inl at) = cc
none_policy_group name (inr at) = cc at.1

-- ---- the key of a revision's row tells it

head_of : (c d : ℕ) (xs ys : List ℕ) → c ∷ xs ≡ d ∷ ys → c ≡ d
head_of c d xs ys same = cc

tail_of : (c d : ℕ) (xs ys : List ℕ) → c ∷ xs ≡ d ∷ ys → xs ≡ ys
tail_of c d xs ys same = cc

no_slash : is_name_byte 47 ≡ false
no_slash = refl

-- a text with a slash isn't of the bytes of names
slash_inside : (front behind : List ℕ) → list_all is_name_byte (front ++ 47 ∷ behind) ≡ true → ⊥
slash_inside [] behind is = true≢false (sym (and_parts (is_name_byte 47) (list_all is_name_byte behind) is).0 ∙ no_slash)
slash_inside (c ∷ front) behind is = slash_inside front behind (and_parts (is_name_byte c) (list_all is_name_byte (front ++ 47 ∷ behind)) is).1

-- two texts of such bytes between which a slash stands are told apart
one_slash : (front id p r : List ℕ) → list_all is_name_byte front ≡ true → list_all is_name_byte id ≡ true → front ++ 47 ∷ id ≡ p ++ 47 ∷ r → (p ≡ front) × (r ≡ id)
one_slash [] id [] r named named' same = (refl, sym (tail_of 47 47 id r same))
one_slash [] id (c ∷ p) r named named' same =
    absurd (slash_inside p r (ap (list_all is_name_byte) (sym (tail_of 47 c id (p ++ 47 ∷ r) same)) ∙ named'))
one_slash (c ∷ front) id [] r named named' same =
    absurd (true≢false (sym (ap is_name_byte (sym (head_of c 47 (front ++ 47 ∷ id) r same)) ∙ (and_parts (is_name_byte c) (list_all is_name_byte front) named).0) ∙ no_slash))
one_slash (c ∷ front) id (d ∷ p) r named named' same =
    let rest = one_slash front id p r (and_parts (is_name_byte c) (list_all is_name_byte front) named).1 named' (tail_of c d (front ++ 47 ∷ id) (p ++ 47 ∷ r) same) in
    ((λ i. sym (head_of c d (front ++ 47 ∷ id) (p ++ 47 ∷ r) same) i ∷ rest.0 i), rest.1)

pub bytes_of : (name : List ℕ) → is_name name ≡ true → list_all is_name_byte name ≡ true
bytes_of name is = (and_parts (nat_lt 0 (length name) && nat_le (length name) 255) (list_all is_name_byte name) is).1

split_revision : (policy id : List ℕ) (parts : Option (List ℕ × List ℕ)) (q : Place) → split_at_slash (slashed policy id) ≡ parts
    → option_and_then (λ parts. where_ (is_name parts.0 && is_name parts.1) (place.revision parts.0 parts.1)) parts ≡ Some q → (q ≡ place.revision policy id) × (true ≡ true)
split_revision policy id None q at is = absurd (none-some q is)
split_revision policy id (Some parts) q at is =
    let here = where_is (is_name parts.0 && is_name parts.1) (place.revision parts.0 parts.1) q is in
    let named = and_parts (is_name parts.0) (is_name parts.1) here.1 in
    let same = one_slash parts.0 parts.1 policy id (bytes_of parts.0 named.0) (bytes_of parts.1 named.1) (split-whole (slashed policy id) parts.0 parts.1 at) in
    (here.0 ∙ (λ i. place.revision (sym same.0 i) (sym same.1 i)), refl)

own_revision : (org policy id : List ℕ) → IsOwn org (place.revision policy id) true
own_revision org policy id q is = split_revision policy id (split_at_slash (slashed policy id)) q refl is

-- ---- entries

entry_passes : (p : List ℕ × List ℕ → Bool) (es : List (List ℕ × List ℕ)) (key value : List ℕ) → find text_cmp key es ≡ Some value → list_all p es ≡ true → p (key, value) ≡ true
entry_passes p [] key value is pass = absurd (none-some value is)
entry_passes p (e ∷ es) key value is pass =
    let parts = and_parts (p e) (list_all p es) pass in
    elim (eq_by_cmp text_cmp key e.0) as (λ b. eq_by_cmp text_cmp key e.0 ≡ b → cond b (Some e.1) (find text_cmp key es) ≡ Some value → p (key, value) ≡ true) [
      | true ↦ λ tie here. (λ i. p (tied_name key e.0 tie i, sym (same_Some e.1 value here) i)) ∙ parts.0
      | false ↦ λ _ later. entry_passes p es key value later parts.1
    ] refl is

mapped_passes : {A X : Type 0} (p : X → Bool) (f : A → X) (xs : List A) → list_all p (map f xs) ≡ list_all (λ x. p (f x)) xs
mapped_passes p f [] = refl
mapped_passes p f (x ∷ xs) = ap (λ b. p (f x) && b) (mapped_passes p f xs)

stored-same : (x y : Stored) → stored x ≡ stored y → x ≡ y
stored-same x y same = cc

module _ (org : List ℕ) (rows : KeptRows) (all : List Said) (are : AreKept org rows all) where
  versions_there : (name : List ℕ) (version : Version) (manifest : Doc) → value_at (laid org rows all are).shelved.cookbooks name version ≡ Some manifest → IsVersionOf name version manifest
  versions_there name version manifest is =
      let told = told_of org rows all are (place.version name version) (document manifest) (none_version name version) (ap (option_map document) is) in
      version_told told.0 name version manifest told.2 told.3 (are.stored told.0 told.1)

  artifacts_there : (name id : List ℕ) (manifest : Doc) → value_at (laid org rows all are).shelved.artifacts name id ≡ Some manifest → IsArtifactOf name id manifest
  artifacts_there name id manifest is =
      let told = told_of org rows all are (place.artifact name id) (document manifest) (none_artifact name id) (ap (option_map document) is) in
      artifact_told told.0 name id manifest told.2 told.3 (are.stored told.0 told.1)

  revisions_there : (policy id : List ℕ) (lock : Doc) → value_at (laid org rows all are).shelved.policies policy id ≡ Some lock → IsRevisionOf policy id lock
  revisions_there policy id lock is =
      let told = told_of org rows all are (place.revision policy id) (document lock) (none_revision policy id) (ap (option_map document) is) in
      revision_told told.0 policy id lock told.2 told.3 (are.stored told.0 told.1)

  group_there : (group : List ℕ) (found : Option Assigned) → finite.get (laid org rows all are).shelved.groups group ≡ found → is_some found ≡ true → is_name group ≡ true
  group_there group None at is = absurd (true≢false (sym is))
  group_there group (Some policies) at is =
      (where_is (is_name group) (place.policy_group group) (place.policy_group group)
      (told_named org rows all are (place.policy_group group) (assigned policies) (told_of org rows all are (place.policy_group group) (assigned policies) (none_policy_group group) (ap (option_map assigned) at)))).1

  assigned_there : (group policy revision : List ℕ) (found : Option Assigned) → finite.get (laid org rows all are).shelved.groups group ≡ found
      → option_and_then (λ policies. finite.get policies policy) found ≡ Some revision → is_some (value_at (laid org rows all are).shelved.policies policy revision) ≡ true
  assigned_there group policy revision None at is = absurd (none-some revision is)
  assigned_there group policy revision (Some policies) at is =
      let met : list_all (is_met rows org) (map (λ entry. there (place.revision entry.0 entry.1)) (finite.entries policies)) ≡ true =
      told_met org rows all are (place.policy_group group) (assigned policies) (told_of org rows all are (place.policy_group group) (assigned policies) (none_policy_group group) (ap (option_map assigned) at)) in
      there_mapped document (value_at (laid org rows all are).shelved.policies policy revision)
      (there_is org rows all are (place.revision policy revision) true (own_revision org policy revision)
      (entry_passes (λ entry. is_met rows org (there (place.revision entry.0 entry.1))) (finite.entries policies) policy revision (sym (finite.get-entries policies policy) ∙ is)
      (sym (mapped_passes (is_met rows org) (λ (entry : List ℕ × List ℕ). there (place.revision entry.0 entry.1)) (finite.entries policies)) ∙ met)))

  pub shelf_conditions : ShelfConditions (laid org rows all are).shelved
  shelf_conditions = record {
    versions = versions_there;
    artifacts = artifacts_there;
    revisions = revisions_there;
    groups = λ group is. group_there group (finite.get (laid org rows all are).shelved.groups group) refl is;
    assigned = λ group policy revision is. assigned_there group policy revision (finite.get (laid org rows all are).shelved.groups group) refl is;
  }

  -- ---- the files that are named

  -- a file's row says what stands there
  file_row : (sum body : List ℕ) (kept : Stored) → finite.get rows (row_of org (place.file sum)) ≡ Some body → file_in body ≡ Some kept → finite.get (held org rows all are).files sum ≡ Some kept
  file_row sum body kept at is =
      let (one, among, key) = are.are_said.whole (row_of org (place.file sum)) body refl at in
      let by = are.are_said.each one among in
      let here : place_said one ≡ place.file sum = (where_is (is_checksum sum) (place.file sum) (place_said one) (ap place_of (sym key) ∙ place_of-row_of org (place_said one) by.named)).0 in
      let bodies : by.body ≡ body = same_Some by.body body (sym by.there ∙ ap (finite.get rows) key ∙ at) in
      let says : content_said one ≡ stored kept = same_Some (content_said one) (stored kept) (sym by.says ∙ (λ i. content_at (here i) (bodies i)) ∙ ap (option_map stored) is) in
      held_is (finite.get (held org rows all are).files sum) kept
      (ap (content_in (laid org rows all are) (held org rows all are)) (sym here) ∙ stands_said org rows all are.are_said one among ∙ ap Some says)
    where
      held_is : (found : Option Stored) (kept : Stored) → option_map stored found ≡ Some (stored kept) → found ≡ Some kept
      held_is None kept is = absurd (none-some (stored kept) is)
      held_is (Some x) kept is = ap Some (stored-same x kept (same_Some (stored x) (stored kept) is))

  committed_there : (sum : List ℕ) (body : Option (List ℕ)) (kept : Option Stored) → finite.get rows (row_of org (place.file sum)) ≡ body → option_and_then file_in body ≡ kept
      → unwrap_or (option_map (λ (found : Stored). found.committed) kept) false ≡ true → is_committed (held org rows all are) sum ≡ true
  committed_there sum None kept at is flagged = absurd (true≢false (sym flagged ∙ ap (λ k. unwrap_or (option_map (λ (found : Stored). found.committed) k) false) (sym is)))
  committed_there sum (Some body) None at is flagged = absurd (true≢false (sym flagged))
  committed_there sum (Some body) (Some kept) at is flagged = ap is_committed_file (file_row sum body kept at is) ∙ flagged

  needed_there : (q : Place) (doc : Doc) (sum : List ℕ) → list_all (is_met rows org) (map committed (sums_in doc)) ≡ true → names_sum doc sum ≡ true → is_committed (held org rows all are) sum ≡ true
  needed_there q doc sum met names =
      committed_there sum (finite.get rows (row_of org (place.file sum))) (option_and_then file_in (finite.get rows (row_of org (place.file sum)))) refl refl
      (each_text (is_met rows org) committed (sums_in doc) sum met names)

  version_names : (sum : List ℕ) → store_names sum (laid org rows all are).shelved.cookbooks ≡ true → is_committed (held org rows all are) sum ≡ true
  version_names sum is =
      let by = who_names versions_total (laid org rows all are).shelved.cookbooks sum is in
      let q = place.version by.name by.key in
      needed_there q by.manifest sum (told_met org rows all are q (document by.manifest) (told_of org rows all are q (document by.manifest) (none_version by.name by.key) (ap (option_map document) by.at))) by.names

  artifact_names : (sum : List ℕ) → store_names sum (laid org rows all are).shelved.artifacts ≡ true → is_committed (held org rows all are) sum ≡ true
  artifact_names sum is =
      let by = who_names nat_list_cmp_total (laid org rows all are).shelved.artifacts sum is in
      let q = place.artifact by.name by.key in
      needed_there q by.manifest sum (told_met org rows all are q (document by.manifest) (told_of org rows all are q (document by.manifest) (none_artifact by.name by.key) (ap (option_map document) by.at))) by.names

  pub files_there : AreThere (laid org rows all are).shelved (held org rows all are)
  files_there sum is = from_either (either (store_names sum (laid org rows all are).shelved.cookbooks) (store_names sum (laid org rows all are).shelved.artifacts) is)
    where
      from_either : (store_names sum (laid org rows all are).shelved.cookbooks ≡ true) ⊎ (store_names sum (laid org rows all are).shelved.artifacts ≡ true) → is_committed (held org rows all are) sum ≡ true
      from_either (inl named) = version_names sum named
      from_either (inr named) = artifact_names sum named
