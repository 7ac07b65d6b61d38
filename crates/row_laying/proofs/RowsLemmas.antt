-- The rows of what was laid are the rows that said it.
use Rattle.std.proofs.Common.{◌≡◌, ◌⊎◌, inl, inr, ℕ, List, Bool, true, false, cond, Option, Some, None, is_some, option_map, option_and_then, unwrap_or, Ordering, refl, sym, ap, subst, ◌∙◌}
use mathlib.Core.Bool.{true≢false}
use Rattle.std.proofs.lemmas.Option.{same_Some, none-some}
use Rattle.std.specs.FinMap as finite
use Rattle.std.specs.FinSet as set
use Rattle.doc_tree.specs.Doc.{Doc}
use Rattle.doc_tree.specs.Text.{text_cmp}
use Rattle.doc_tree.specs.Written.{text}
use Rattle.access_lists.specs.Starting.{container_named}
use Rattle.object_store.specs.Keys.{key_cmp}
use Rattle.outside_keeper.specs.Rows.{KeptRows}
use Rattle.outside_keeper.specs.declared.row_key.RowKey.{RowKey}
use Rattle.version_rules.specs.Order.{version_cmp}
use Rattle.org_core.specs.States.{Organisation, nothing}
use Rattle.sandboxes.specs.Sandboxes.{Holding}
use Rattle.sandboxes.specs.Sandboxes as sandboxes
use Rattle.shelves.specs.Shelves.{value_at}
use Rattle.org_rows.proofs.BackLemmas.{gives}
use Rattle.org_rows.proofs.PlaceLemmas.{place_of-row_of, row_of-place_of}
use Rattle.org_rows.specs.Bodies.{body_in, name_body, group_body, assigned_body, acl_body, sandbox_body, file_body}
use Rattle.org_rows.specs.Places as place
use Rattle.org_rows.specs.Places.{Place, IsPlace, place_of, row_of}
use Rattle.org_rows.specs.Reading.{content_at}
use Rattle.org_rows.specs.Rows.{row_in}
use Rattle.org_rows.specs.Things.{Content, document, name_alone, members, assigned, list, sums, stored}
use Rattle.row_laying.proofs.SoundLemmas.{IsToldOf, sound, complete}
use Rattle.row_reading.specs.declared.said.Said.{Said}
use Rattle.org_rows.specs.Contents.{content_in}
use Rattle.row_laying.specs.Laying.{with_all, files_with_all}
use Rattle.row_laying.specs.SaidRows.{IsAmong, AreSaid, AreRowsIn}
use Rattle.row_reading.specs.Sayings.{place_said, content_said}

-- the organisation of this name has its own row, and those of the containers
pub record HasOwnRows (org : List ℕ) (rows : KeptRows) : Type 0 where
  pub itself : is_some (finite.get rows (row_of org place.itself)) ≡ true
  pub containers : (name : List ℕ) → is_some (container_named name) ≡ true → is_some (finite.get rows (row_of org (place.container name))) ≡ true

-- ---- bodies and what they say

pub document-inj : (x y : Doc) → document x ≡ document y → x ≡ y
document-inj x y same = cc

-- where nothing stands there is no body
none_of : {X : Type 0} (to : X → Content) (write : X → List ℕ) (found : Option X) → option_map to found ≡ None → option_map write found ≡ None
none_of to write None none = refl
none_of to write (Some x) none = absurd (none-some (to x) (sym none))

some_of : {X : Type 0} (to : X → Content) (found : Option X) (content : Content) → option_map to found ≡ Some content → is_some found ≡ true
some_of to None content is = absurd (none-some content is)
some_of to (Some x) content is = refl

no_user : (b : Bool) (body : List ℕ) → cond b (Some name_alone) None ≡ None → cond b (Some body) None ≡ None
no_user true body none = absurd (none-some name_alone (sym none))
no_user false body none = refl

no_value : {K : Type 0} (R : K → K → Ordering) (name : List ℕ) (key : K) → value_at (finite.empty {X = finite.FinMap R Doc} {R = text_cmp}) name key ≡ None
no_value R name key = ap (λ (s : Option (finite.FinMap R Doc)). finite.get (unwrap_or s finite.empty) key) (finite.get-empty text_cmp name) ∙ finite.get-empty R key

unspoken : (o : Organisation) (files : Holding) (q : Place) → content_in o files q ≡ None → body_in o files q ≡ None
unspoken o files place.itself none = absurd (none-some _ (sym none))
unspoken o files (place.object k) none = none_of document text (finite.get o.objects k) none
unspoken o files (place.user name) none = no_user (set.contains o.membership.users name) (name_body name) none
unspoken o files (place.group name) none = none_of members (group_body name) (finite.get o.membership.groups name) none
unspoken o files (place.container name) none = none_of (λ _. name_alone) (λ _. name_body name) (container_named name) none
unspoken o files (place.version name number) none = none_of document text (value_at o.shelved.cookbooks name number) none
unspoken o files (place.artifact name id) none = none_of document text (value_at o.shelved.artifacts name id) none
unspoken o files (place.revision policy id) none = none_of document text (value_at o.shelved.policies policy id) none
unspoken o files (place.policy_group name) none = none_of assigned assigned_body (finite.get o.shelved.groups name) none
unspoken o files (place.acl k) none = none_of list acl_body (finite.get o.lists k) none
unspoken o files (place.sandbox id) none = none_of sums sandbox_body (finite.get files.sandboxes id) none
unspoken o files (place.file sum) none = none_of stored file_body (finite.get files.files sum) none

-- ---- the rows

-- an organisation without anything has its own row and those of the containers
abbrev pub StandsInNothing : Place → Type 0
StandsInNothing q = (q ≡ place.itself) ⊎ ((name : List ℕ) × (q ≡ place.container name) × (is_some (container_named name) ≡ true))

pub from_nothing : (q : Place) (content : Content) → content_in nothing sandboxes.nothing q ≡ Some content → StandsInNothing q
from_nothing place.itself content is = inl refl
from_nothing (place.object k) content is = absurd (none-some content (ap (option_map document) (sym (finite.get-empty key_cmp k)) ∙ is))
from_nothing (place.user name) content is = absurd (none-some content (ap (λ b. cond b (Some name_alone) None) (sym (set.contains-empty text_cmp name)) ∙ is))
from_nothing (place.group name) content is = absurd (none-some content (ap (option_map members) (sym (finite.get-empty text_cmp name)) ∙ is))
from_nothing (place.container name) content is = inr (name, refl, some_of (λ _. name_alone) (container_named name) content is)
from_nothing (place.version name number) content is = absurd (none-some content (ap (option_map document) (sym (no_value version_cmp name number)) ∙ is))
from_nothing (place.artifact name id) content is = absurd (none-some content (ap (option_map document) (sym (no_value text_cmp name id)) ∙ is))
from_nothing (place.revision policy id) content is = absurd (none-some content (ap (option_map document) (sym (no_value text_cmp policy id)) ∙ is))
from_nothing (place.policy_group name) content is = absurd (none-some content (ap (option_map assigned) (sym (finite.get-empty text_cmp name)) ∙ is))
from_nothing (place.acl k) content is = absurd (none-some content (ap (option_map list) (sym (finite.get-empty key_cmp k)) ∙ is))
from_nothing (place.sandbox id) content is = absurd (none-some content (ap (option_map sums) (sym (finite.get-empty text_cmp id)) ∙ is))
from_nothing (place.file sum) content is = absurd (none-some content (ap (option_map stored) (sym (finite.get-empty text_cmp sum)) ∙ is))

module _ (org : List ℕ) (rows : KeptRows) (all : List Said) (are : AreSaid org rows all) where
  abbrev pub o : Organisation
  o = with_all all nothing

  abbrev pub files : Holding
  files = files_with_all all sandboxes.nothing

  -- what one says of a place is what another says of it
  alike : (one other : Said) → IsAmong one all → IsAmong other all → place_said one ≡ place_said other → content_said one ≡ content_said other
  alike one other among among' at =
      let by = are.each one among in
      let by' = are.each other among' in
      let bodies : by.body ≡ by'.body = same_Some by.body by'.body (sym by.there ∙ ap (λ q. finite.get rows (row_of org q)) at ∙ by'.there) in
      same_Some (content_said one) (content_said other)
      (sym by.says ∙ (λ i. content_at (at i) (bodies i)) ∙ by'.says)

  -- what is said of a place stands there
  pub stands_said : (one : Said) → IsAmong one all → content_in o files (place_said one) ≡ Some (content_said one)
  stands_said one among =
      let found = complete all nothing sandboxes.nothing one among (are.each one among).named in
      let told = found.2 in
      found.1 ∙ ap Some (told.3 ∙ sym (alike one told.0 among told.1 told.2))

  -- so something stands there
  pub stands_there : (one : Said) → IsAmong one all → is_some (content_in o files (place_said one)) ≡ true
  stands_there one among = ap is_some (stands_said one among)

  row_there : (row : RowKey) (body : List ℕ) → row.org ≡ org → finite.get rows row ≡ Some body → row_in (record { state = Some o; files = files }) row ≡ Some body
  row_there row body of_org is =
      let (one, among, at) = are.whole row body of_org is in
      let by = are.each one among in
      let same : by.body ≡ body = same_Some by.body body (sym by.there ∙ ap (finite.get rows) at ∙ is) in
      ap (λ r. option_and_then (body_in o files) (place_of r)) (sym at)
      ∙ ap (option_and_then (body_in o files)) (place_of-row_of org (place_said one) by.named)
      ∙ gives o files (place_said one) body (content_said one) (subst (λ b. content_at (place_said one) b ≡ Some (content_said one)) same by.says) (stands_said one among)

  -- what stands at a place has a row
  pub has_row : HasOwnRows org rows → (q : Place) (content : Content) → content_in o files q ≡ Some content → is_some (finite.get rows (row_of org q)) ≡ true
  has_row own q content is = from_either q content (sound all nothing sandboxes.nothing q content is)
    where
      from_start : (q : Place) → StandsInNothing q → is_some (finite.get rows (row_of org q)) ≡ true
      from_start q (inl at) = subst (λ p. is_some (finite.get rows (row_of org p)) ≡ true) (sym at) own.itself
      from_start q (inr at) = subst (λ p. is_some (finite.get rows (row_of org p)) ≡ true) (sym at.1) (own.containers at.0 at.2)

      from_either : (q : Place) (content : Content) → (content_in nothing sandboxes.nothing q ≡ Some content) ⊎ IsToldOf all q content → is_some (finite.get rows (row_of org q)) ≡ true
      from_either q content (inl was) = from_start q (from_nothing q content was)
      from_either q content (inr told) =
          subst (λ p. is_some (finite.get rows (row_of org p)) ≡ true) (sym told.2) (ap is_some (are.each told.0 told.1).there)

  no_row : HasOwnRows org rows → (row : RowKey) (q : Place) (found : Option Content) → row.org ≡ org → finite.get rows row ≡ None → place_of row ≡ Some q → content_in o files q ≡ found → body_in o files q ≡ None
  no_row own row q None of_org none at is = unspoken o files q is
  no_row own row q (Some content) of_org none at is =
      let key : row_of org q ≡ row = ap (λ name. row_of name q) (sym of_org) ∙ row_of-place_of row q at in
      absurd (true≢false (sym (has_row own q content is) ∙ ap is_some (ap (finite.get rows) key ∙ none)))

  row_not_there : HasOwnRows org rows → (row : RowKey) (found : Option Place) → row.org ≡ org → finite.get rows row ≡ None → place_of row ≡ found → option_and_then (body_in o files) found ≡ None
  row_not_there own row None of_org none at = refl
  row_not_there own row (Some q) of_org none at = no_row own row q (content_in o files q) of_org none at refl

  by_row : HasOwnRows org rows → (row : RowKey) → row.org ≡ org → (found : Option (List ℕ)) → finite.get rows row ≡ found → found ≡ row_in (record { state = Some o; files = files }) row
  by_row own row of_org None is = sym (row_not_there own row (place_of row) of_org is refl)
  by_row own row of_org (Some body) is = sym (row_there row body of_org is)

  -- the rows of what was laid are those that said it
  pub are_rows : HasOwnRows org rows → AreRowsIn org rows (record { state = Some o; files = files })
  are_rows own row of_org = by_row own row of_org (finite.get rows row) refl
