-- What the references of rows give: who asks for a row finds what it says.
use Rattle.std.proofs.Common.{◌≡◌, ℕ, List, [], ◌∷◌, ◌++◌, map, Bool, true, false, ◌||◌, Option, Some, None, is_some, bytes_eq, refl, sym, ap, subst, ◌∙◌}
use mathlib.Core.Bool.{true≢false}
use Rattle.std.proofs.lemmas.Bool.{and_parts}
use Rattle.std.proofs.lemmas.List.Folds.{list_all-append}
use Rattle.std.proofs.lemmas.Option.{same_Some, none-some}
use Rattle.std.specs.Cmp.Lexicographic.{bytes_decides}
use Rattle.std.specs.FinMap as finite
use Rattle.std.specs.List.{list_all}
use Rattle.doc_tree.specs.Name.{is_name}
use Rattle.doc_tree.specs.declared.kind.Kind.TheVariants as kinds
use Rattle.membership.specs.TextSets.{lists}
use Rattle.object_store.specs.Keys.{key}
use Rattle.outside_keeper.specs.Rows.{KeptRows}
use Rattle.org_rows.proofs.PlaceLemmas.{place_of-row_of}
use Rattle.org_rows.specs.Places as place
use Rattle.org_rows.specs.Places.{Place, IsPlace, is_actor_name, place_of, row_of, where_}
use Rattle.org_rows.specs.References.{is_met, has_row, org_needs, list_need, own_needs}
use Rattle.org_rows.specs.Things.{thing_at}
use Rattle.row_laying.proofs.RowsLemmas.{o, files, stands_there}
use Rattle.row_reading.specs.declared.said.Said.{Said}
use Rattle.org_rows.specs.Contents.{content_in}
use Rattle.row_laying.specs.KeptRows.{AreKept}
use Rattle.row_laying.specs.SaidRows.{IsAmong}
use Rattle.row_reading.specs.Sayings.{place_said, content_said}

-- ---- lists whose elements all pass

module _ {X : Type 0} (p : X → Bool) where
  pub all_front : (xs ys : List X) → list_all p (xs ++ ys) ≡ true → list_all p xs ≡ true
  all_front xs ys is = (and_parts (list_all p xs) (list_all p ys) (sym (list_all-append p xs ys) ∙ is)).0

  pub all_behind : (xs ys : List X) → list_all p (xs ++ ys) ≡ true → list_all p ys ≡ true
  all_behind xs ys is = (and_parts (list_all p xs) (list_all p ys) (sym (list_all-append p xs ys) ∙ is)).1

  -- of each text of a list
  pub each_text : (f : List ℕ → X) (texts : List (List ℕ)) (q : List ℕ) → list_all p (map f texts) ≡ true → lists texts q ≡ true → p (f q) ≡ true
  each_text f [] q is there = absurd (true≢false (sym there))
  each_text f (text ∷ rest) q is there =
      let parts = and_parts (p (f text)) (list_all p (map f rest)) is in
      elim (bytes_eq q text) as (λ b. bytes_eq q text ≡ b → (b || lists rest q) ≡ true → p (f q) ≡ true) [
        | true ↦ λ same _. ap (λ t. p (f t)) ((bytes_decides q text).0 same) ∙ parts.0
        | false ↦ λ _ later. each_text f rest q parts.1 later
      ] refl there

-- ---- places that a row's key tells

-- a place behind a test
pub where_is : (b : Bool) (q p : Place) → where_ b q ≡ Some p → (p ≡ q) × (b ≡ true)
where_is true q p is = (sym (same_Some q p is), refl)
where_is false q p is = absurd (none-some p is)

-- the row of a place is of that place alone, where the place's test holds
abbrev pub IsOwn : List ℕ → Place → Bool → Type 0
IsOwn org q test = (p : Place) → place_of (row_of org q) ≡ Some p → (p ≡ q) × (test ≡ true)

pub own_user : (org name : List ℕ) → IsOwn org (place.user name) (is_actor_name name)
own_user org name p is = where_is (is_actor_name name) (place.user name) p is

pub own_client : (org name : List ℕ) → IsOwn org (place.object (key kinds.Client name)) (is_actor_name name)
own_client org name p is = where_is (is_actor_name name) (place.object (key kinds.Client name)) p is

pub own_group : (org name : List ℕ) → IsOwn org (place.group name) (is_name name)
own_group org name p is = where_is (is_name name) (place.group name) p is

pub own_bag : (org name : List ℕ) → IsOwn org (place.object (key kinds.Bag name)) (is_name name)
own_bag org name p is = where_is (is_name name) (place.object (key kinds.Bag name)) p is

pub own_environment : (org name : List ℕ) → IsOwn org (place.object (key kinds.Environment name)) (is_name name)
own_environment org name p is = where_is (is_name name) (place.object (key kinds.Environment name)) p is

module _ (org : List ℕ) (rows : KeptRows) (all : List Said) (are : AreKept org rows all) where
  -- a row that is there says what stands at its place
  said_there : (q : Place) (test : Bool) (found : Option (List ℕ)) → IsOwn org q test → finite.get rows (row_of org q) ≡ found → is_some found ≡ true
      → (one : Said) × IsAmong one all × (place_said one ≡ q)
  said_there q test None own at there = absurd (true≢false (sym there))
  said_there q test (Some body) own at there =
      let (one, among, is) = are.are_said.whole (row_of org q) body refl at in
      let of : place_of (row_of org q) ≡ Some (place_said one) = ap place_of (sym is) ∙ place_of-row_of org (place_said one) (are.are_said.each one among).named in
      (one, among, (own (place_said one) of).0)

  -- so something stands there
  pub there_is : (q : Place) (test : Bool) → IsOwn org q test → has_row rows org q ≡ true → is_some (content_in (o org rows all are.are_said) (files org rows all are.are_said) q) ≡ true
  there_is q test own there =
      let (one, among, is) = said_there q test (finite.get rows (row_of org q)) own refl there in
      subst (λ p. is_some (content_in (o org rows all are.are_said) (files org rows all are.are_said) p) ≡ true) is
      (stands_there org rows all are.are_said one among)

  -- the needs of what is said are met
  pub own_met : (one : Said) → IsAmong one all → list_all (is_met rows org) (own_needs (place_said one) (content_said one)) ≡ true
  own_met one among =
      all_behind (is_met rows org) (org_needs rows (row_of org (place_said one)) ++ list_need rows (row_of org (place_said one)) (thing_at (place_said one)))
      (own_needs (place_said one) (content_said one)) (are.referred one among)

  front_met : (one : Said) → IsAmong one all → list_all (is_met rows org) (org_needs rows (row_of org (place_said one)) ++ list_need rows (row_of org (place_said one)) (thing_at (place_said one))) ≡ true
  front_met one among =
      all_front (is_met rows org) (org_needs rows (row_of org (place_said one)) ++ list_need rows (row_of org (place_said one)) (thing_at (place_said one)))
      (own_needs (place_said one) (content_said one)) (are.referred one among)

  pub list_met : (one : Said) → IsAmong one all → list_all (is_met rows org) (list_need rows (row_of org (place_said one)) (thing_at (place_said one))) ≡ true
  list_met one among =
      all_behind (is_met rows org) (org_needs rows (row_of org (place_said one))) (list_need rows (row_of org (place_said one)) (thing_at (place_said one))) (front_met one among)

  pub org_met : (one : Said) → IsAmong one all → list_all (is_met rows org) (org_needs rows (row_of org (place_said one))) ≡ true
  org_met one among =
      all_front (is_met rows org) (org_needs rows (row_of org (place_said one))) (list_need rows (row_of org (place_said one)) (thing_at (place_said one))) (front_met one among)
