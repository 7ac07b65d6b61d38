-- Good rows are those of the states that hold what they say.
use Rattle.std.proofs.Common.{◌≡◌, ℕ, Bool, true, false, cond, List, Option, Some, None, option_map, option_and_then, refl, sym, ap, ◌∙◌}
use Rattle.std.specs.FinMap as finite
use Rattle.std.specs.FinSet as set
use Rattle.access_lists.specs.Starting.{container_named}
use Rattle.doc_tree.specs.Name.{is_organisation_name}
use Rattle.doc_tree.specs.declared.kind.Kind.{Kind}
use Rattle.org_core.specs.States.{Organisation, State}
use Rattle.outside_keeper.specs.Rows.{KeptRows}
use Rattle.outside_keeper.specs.declared.row_key.RowKey.{RowKey}
use Rattle.sandboxes.specs.Sandboxes.{Holding}
use Rattle.shelves.specs.Shelves.{value_at}
use Rattle.org_rows.specs.Bodies.{body_in, body_of, name_body}
use Rattle.org_rows.specs.Contents.{HoldsContents, content_in}
use Rattle.org_rows.specs.Laws.{GoodRowsAreOf}
use Rattle.org_rows.specs.Places.{Place, itself, object, user, group, container, version, artifact, revision, policy_group, acl, sandbox, file, kind_named, place_in, place_of}
use Rattle.org_rows.specs.Reading.{content_at}
use Rattle.org_rows.specs.Reasons.{AreGood, reason_of, reason_of_kind, reason_of_named, reason_of_said}
use Rattle.org_rows.specs.Things.{Content, document, name_alone, members, assigned, list, sums, stored}
use Rattle.org_rows.proofs.BackLemmas.{gives}
use Rattle.org_rows.proofs.PlaceLemmas.{IsPlace-place_of, row_of-place_of}

-- ---- where nothing stands, there is no body

value_none : {X Y : Type 0} (write : X → List ℕ) (make : X → Y) (found : Option X) → option_map make found ≡ None → option_map write found ≡ None
value_none write make None is = refl
value_none write make (Some x) is = cc is

test_none : {X Y : Type 0} (test : Bool) (x : X) (y : Y) → cond test (Some y) None ≡ None → cond test (Some x) None ≡ None
test_none true x y is = cc is
test_none false x y is = refl

no_body : (o : Organisation) (files : Holding) (place : Place) → content_in o files place ≡ None → body_in o files place ≡ None
no_body o files itself is = cc is
no_body o files (object k) is = value_none _ document (finite.get o.objects k) is
no_body o files (user name) is = test_none (set.contains o.membership.users name) (name_body name) name_alone is
no_body o files (group name) is = value_none _ members (finite.get o.membership.groups name) is
no_body o files (container name) is = value_none (λ _. name_body name) (λ _. name_alone) (container_named name) is
no_body o files (version name number) is = value_none _ document (value_at o.shelved.cookbooks name number) is
no_body o files (artifact name id) is = value_none _ document (value_at o.shelved.artifacts name id) is
no_body o files (revision policy id) is = value_none _ document (value_at o.shelved.policies policy id) is
no_body o files (policy_group name) is = value_none _ assigned (finite.get o.shelved.groups name) is
no_body o files (acl k) is = value_none _ list (finite.get o.lists k) is
no_body o files (sandbox id) is = value_none _ sums (finite.get files.sandboxes id) is
no_body o files (file sum) is = value_none _ stored (finite.get files.files sum) is

-- ---- a good row is of a place, and its body says something

record Says (row : RowKey) (body : List ℕ) : Type 0 where
  place : Place
  at : place_of row ≡ Some place
  content : Content
  says : content_at place body ≡ Some content

module _ (lies_here : List ℕ → Bool) (rows : KeptRows) (row : RowKey) (body : List ℕ) where
  said_of : (place : Place) → place_of row ≡ Some place → (said : Option Content) → content_at place body ≡ said → reason_of_said lies_here rows row place said ≡ None → Says row body
  said_of place at None says is = cc is
  said_of place at (Some content) says is = record { place = place; at = at; content = content; says = says }

  named_of : (found : Option Place) → place_of row ≡ found → reason_of_named lies_here rows row body found ≡ None → Says row body
  named_of None at is = cc is
  named_of (Some place) at is = said_of place at (content_at place body) refl is

  org_of : (kind : Kind) → kind_named row.kind ≡ Some kind → (test : Bool) → reason_of_named lies_here rows row body (cond test (place_in kind row.name) None) ≡ None → Says row body
  org_of kind at false is = cc is
  org_of kind at true is = named_of (place_in kind row.name) (ap (option_and_then (λ kind. place_in kind row.name)) at) is

  kind_of : (kind : Option Kind) → kind_named row.kind ≡ kind → reason_of_kind lies_here rows row body kind ≡ None → Says row body
  kind_of None at is = cc is
  kind_of (Some kind) at is = org_of kind at (is_organisation_name row.org) is

  says_of : reason_of lies_here rows row body ≡ None → Says row body
  says_of is = kind_of (kind_named row.kind) refl is

-- ---- each row

module _ (lies_here : List ℕ → Bool) (rows : KeptRows) (good : AreGood lies_here rows) (row : RowKey) (files : Holding) where
  no_row : (o : Organisation) → HoldsContents rows row.org (Some o) files → finite.get rows row ≡ None → (found : Option Place) → place_of row ≡ found → option_and_then (body_in o files) found ≡ None
  no_row o holds none None at = refl
  no_row o holds none (Some place) at =
      no_body o files place (holds place (IsPlace-place_of row place at) ∙ ap (λ r. option_and_then (content_at place) (finite.get rows r)) (row_of-place_of row place at) ∙ ap (option_and_then (content_at place)) none)

  some_row : (o : Organisation) → HoldsContents rows row.org (Some o) files → (body : List ℕ) → finite.get rows row ≡ Some body → option_and_then (body_in o files) (place_of row) ≡ Some body
  some_row o holds body is =
      let own = says_of lies_here rows row body (good row body is) in
      ap (option_and_then (body_in o files)) own.at
      ∙ gives o files own.place body own.content own.says
      (holds own.place (IsPlace-place_of row own.place own.at) ∙ ap (λ r. option_and_then (content_at own.place) (finite.get rows r)) (row_of-place_of row own.place own.at) ∙ ap (option_and_then (content_at own.place)) is ∙ own.says)

  nothing_of : (found : Option Place) → option_and_then (body_of None files) found ≡ None
  nothing_of None = refl
  nothing_of (Some place) = refl

  row_of_state : (s : State) → HoldsContents rows row.org s files → (body : Option (List ℕ)) → finite.get rows row ≡ body → finite.get rows row ≡ option_and_then (body_of s files) (place_of row)
  row_of_state None holds body is = holds row refl ∙ sym (nothing_of (place_of row))
  row_of_state (Some o) holds None is = is ∙ sym (no_row o holds is (place_of row) refl)
  row_of_state (Some o) holds (Some body) is = is ∙ sym (some_row o holds body is)

pub are_of : GoodRowsAreOf
are_of lies_here rows good states holds row = row_of_state lies_here rows good row (states row.org).files (states row.org).state (holds row.org) (finite.get rows row) refl
