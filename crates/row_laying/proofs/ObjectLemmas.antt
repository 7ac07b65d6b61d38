-- The conditions of objects, and what every organisation has, of what the rows say and ask for.
use Rattle.std.proofs.Common.{◌≡◌, ℕ, List, [], ◌∷◌, map, Bool, true, false, cond, Option, Some, None, is_some, option_map, unwrap_or, codes, bytes_eq, append_assoc, refl, sym, ap, subst, ◌∙◌}
use Rattle.std.proofs.lemmas.Bool.{and_parts}
use Rattle.std.proofs.lemmas.Option.{same_Some, none-some}
use Rattle.std.specs.Cmp.Lexicographic.{bytes_decides}
use Rattle.std.specs.FinMap as finite
use Rattle.std.specs.List.{find, list_all}
use Rattle.doc_tree.specs.Doc.{Doc}
use Rattle.doc_tree.specs.Name.{is_name}
use Rattle.doc_tree.specs.declared.kind.Kind.TheVariants as kinds
use Rattle.membership.specs.Actors as membership
use Rattle.membership.specs.StartingGroups.{is_starting_group, starting_groups}
use Rattle.membership.specs.declared.member_kind.MemberKind.TheVariants as member
use Rattle.access_lists.specs.declared.starting.Container.{Container as Starting}
use Rattle.access_lists.specs.Starting.{container_named, containers, name_of}
use Rattle.object_store.proofs.KeysLemmas.{same_key-self}
use Rattle.object_store.specs.Items.{item_name}
use Rattle.object_store.specs.Keys.{key}
use Rattle.object_store.specs.declared.key.Key.{Key}
use Rattle.outside_keeper.specs.Rows.{KeptRows}
use Rattle.outside_keeper.specs.declared.row_key.RowKey.{RowKey}
use Rattle.org_core.specs.ObjectConditions.{has, IsStored, ObjectConditions}
use Rattle.org_rows.proofs.WordLemmas.{split-slashed, found as found_is}
use Rattle.org_rows.specs.Places as place
use Rattle.org_rows.specs.Places.{Place, row_of, slashed, split_at_slash}
use Rattle.org_rows.specs.References.{is_met, bag_need, bag_needs, is_first, is_of_org, org_needs, starting_needs, there}
use Rattle.org_rows.specs.Things.{document}
use Rattle.row_laying.proofs.FirstLemmas.{first_row}
use Rattle.row_laying.proofs.KeptLemmas.{all_front, all_behind, each_text, own_bag, own_environment, there_is, org_met}
use Rattle.row_laying.proofs.MemberLemmas.{laid, told_of, told_met, group_row, none_object, there_mapped, mapped_there}
use Rattle.row_laying.proofs.RowsLemmas.{HasOwnRows, document-inj}
use Rattle.row_laying.proofs.ShelfLemmas.{bytes_of}
use Rattle.row_reading.specs.declared.said.Said.{Said}
use Rattle.row_reading.specs.declared.said.Said.TheVariants.{Count, Object, User, Group, Container, Version, Artifact, Revision, PolicyGroup, List as AList, Sandbox, File}
use Rattle.row_laying.specs.KeptRows.{AreKept}
use Rattle.row_laying.specs.SaidRows.{IsAmong}
use Rattle.row_reading.specs.Sayings.{place_said, content_said, IsStoredSaying}

object-inj : (a b : Key) → place.object a ≡ place.object b → a ≡ b
object-inj a b same = cc

-- what is told of an object is stored so
stored_told : (one : Said) (k : Key) (object : Doc) → place.object k ≡ place_said one → document object ≡ content_said one → IsStoredSaying one → IsStored k.kind k.name object
stored_told (Object k' object') k object at is kept =
    subst (λ (q : Key). IsStored q.kind q.name object) (sym (object-inj k k' at)) (subst (λ d. IsStored k'.kind k'.name d) (sym (document-inj object object' is)) kept)
stored_told (Count n) k object at is kept = absurd (cc at)
stored_told (User name) k object at is kept = absurd (cc at)
stored_told (Group name group) k object at is kept = absurd (cc at)
stored_told (Container name) k object at is kept = absurd (cc at)
stored_told (Version name version manifest) k object at is kept = absurd (cc at)
stored_told (Artifact name id manifest) k object at is kept = absurd (cc at)
stored_told (Revision policy id lock) k object at is kept = absurd (cc at)
stored_told (PolicyGroup name policies) k object at is kept = absurd (cc at)
stored_told (AList k' acl) k object at is kept = absurd (cc at)
stored_told (Sandbox id checksums) k object at is kept = absurd (cc at)
stored_told (File bytes committed) k object at is kept = absurd (cc at)

-- what is found among a list has what all of the list have
found_passes : {A X : Type 0} (test : A → Bool) (p : X → Bool) (f : A → X) (xs : List A) (x : A) → find test xs ≡ Some x → list_all p (map f xs) ≡ true → p (f x) ≡ true
found_passes test p f [] x is pass = absurd (none-some x is)
found_passes test p f (y ∷ ys) x is pass =
    let parts = and_parts (p (f y)) (list_all p (map f ys)) pass in
    elim (test y) as (λ b. cond b (Some y) (find test ys) ≡ Some x → p (f x) ≡ true) [
      | true ↦ λ here. ap (λ z. p (f z)) (sym (same_Some y x here)) ∙ parts.0
      | false ↦ λ later. found_passes test p f ys x later parts.1
    ] is

-- an item's name has its bag before the first slash
slashed_name : (bag id : List ℕ) → item_name bag id ≡ slashed bag id
slashed_name bag id = append_assoc bag (47 ∷ []) id

module _ (org : List ℕ) (rows : KeptRows) (all : List Said) (are : AreKept org rows all) where
  pub stored_there : (k : Key) (object : Doc) → finite.get (laid org rows all are).objects k ≡ Some object → IsStored k.kind k.name object
  stored_there k object is =
      let told = told_of org rows all are (place.object k) (document object) (none_object k) (ap (option_map document) is) in
      stored_told told.0 k object told.2 told.3 (are.stored told.0 told.1)

  -- an item asks for its bag
  bag_needs_are : (bag id : List ℕ) → is_name bag ≡ true → bag_needs (key kinds.Item (item_name bag id)) ≡ there (place.object (key kinds.Bag bag)) ∷ []
  bag_needs_are bag id named =
      ap (λ b. cond b (unwrap_or (option_map bag_need (split_at_slash (item_name bag id))) []) []) (same_key-self (key kinds.Item (item_name bag id)))
      ∙ ap (λ parts. unwrap_or (option_map bag_need parts) []) (ap split_at_slash (slashed_name bag id) ∙ split-slashed bag id (bytes_of bag named))

  pub bags_there : (bag id : List ℕ) → is_name bag ≡ true → has (laid org rows all are).objects kinds.Item (item_name bag id) ≡ true → has (laid org rows all are).objects kinds.Bag bag ≡ true
  bags_there bag id named is =
      let k = key kinds.Item (item_name bag id) in
      let found = mapped_there document (finite.get (laid org rows all are).objects k) is in
      let told = told_of org rows all are (place.object k) found.0 (none_object k) found.1 in
      let met : list_all (is_met rows org) (there (place.object (key kinds.Bag bag)) ∷ []) ≡ true =
      ap (list_all (is_met rows org)) (sym (bag_needs_are bag id named)) ∙ told_met org rows all are (place.object k) found.0 told in
      there_mapped document (finite.get (laid org rows all are).objects (key kinds.Bag bag))
      (there_is org rows all are (place.object (key kinds.Bag bag)) (is_name bag) (own_bag org bag) (and_parts (is_met rows org (there (place.object (key kinds.Bag bag)))) true met).0)

  -- ---- what every organisation has

  module _ (one : Said) (among : IsAmong one all) where
    of_org : (name other : List ℕ) → bytes_eq name other ≡ true → name ≡ other
    of_org name other is = (bytes_decides name other).0 is

    starting_met : list_all (is_met rows org) starting_needs ≡ true
    starting_met =
        let here = row_of org (place_said one) in
        let (first, is_of, there', lowest) = first_row (is_of_org org) rows here ((bytes_decides org org).1 refl) (ap is_some (are.are_said.each one among).there) in
        from_row first (finite.get rows first) refl (of_org first.org org is_of) lowest there'
      where
        needs_first : (said : Said) (row : RowKey) → row_of org (place_said said) ≡ row → IsAmong said all → list_all (is_met rows org) (org_needs rows row) ≡ true
        needs_first said row at within = subst (λ (r : RowKey). list_all (is_met rows org) (org_needs rows r) ≡ true) at (org_met org rows all are said within)

        from_row : (row : RowKey) (found : Option (List ℕ)) → finite.get rows row ≡ found → row.org ≡ org → is_first (is_of_org org) rows row ≡ true → is_some found ≡ true
            → list_all (is_met rows org) starting_needs ≡ true
        from_row row None at org_is lowest there' = absurd (cc there')
        from_row row (Some body) at org_is lowest there' =
            let (said, within, is) = are.are_said.whole row body org_is at in
            ap (λ b. list_all (is_met rows org) (cond b starting_needs [])) (sym (ap (λ name. is_first (is_of_org name) rows row) org_is ∙ lowest))
            ∙ needs_first said row is within

    pub groups_start : (name : List ℕ) → is_starting_group name ≡ true → membership.has (laid org rows all are).membership member.Group name ≡ true
    groups_start name is =
        group_row org rows all are name (each_text (is_met rows org) (λ q. there (place.group q)) starting_groups name
        (all_front (is_met rows org) (map (λ q. there (place.group q)) starting_groups) (map (λ each. there (place.container (name_of each))) containers)
        (and_parts (is_met rows org (there (place.object (key kinds.Environment (codes "_default"))))) _ (and_parts (is_met rows org (there place.itself)) _ starting_met).1).1) is)

    pub default_there : has (laid org rows all are).objects kinds.Environment (codes "_default") ≡ true
    default_there =
        there_mapped document (finite.get (laid org rows all are).objects (key kinds.Environment (codes "_default")))
        (there_is org rows all are (place.object (key kinds.Environment (codes "_default"))) (is_name (codes "_default")) (own_environment org (codes "_default"))
        (and_parts (is_met rows org (there (place.object (key kinds.Environment (codes "_default"))))) _ (and_parts (is_met rows org (there place.itself)) _ starting_met).1).0)

    pub object_conditions : ObjectConditions (laid org rows all are).objects
    object_conditions = record { stored = stored_there; bags = bags_there; default_environment = default_there }

    containers_met : list_all (is_met rows org) (map (λ each. there (place.container (name_of each))) containers) ≡ true
    containers_met =
        all_behind (is_met rows org) (map (λ q. there (place.group q)) starting_groups) (map (λ each. there (place.container (name_of each))) containers)
        (and_parts (is_met rows org (there (place.object (key kinds.Environment (codes "_default"))))) _ (and_parts (is_met rows org (there place.itself)) _ starting_met).1).1

    container_row : (name : List ℕ) (found : Option Starting) → container_named name ≡ found → is_some found ≡ true → is_some (finite.get rows (row_of org (place.container name))) ≡ true
    container_row name None at is = absurd (cc is)
    container_row name (Some one) at is =
        subst (λ q. is_some (finite.get rows (row_of org (place.container q))) ≡ true) (sym ((bytes_decides name (name_of one)).0 (found_is (λ each. bytes_eq name (name_of each)) containers one at)))
        (found_passes (λ each. bytes_eq name (name_of each)) (is_met rows org) (λ each. there (place.container (name_of each))) containers one at containers_met)

    pub own_rows : HasOwnRows org rows
    own_rows = record { itself = (and_parts (is_met rows org (there place.itself)) _ starting_met).0; containers = λ name is. container_row name (container_named name) refl is }
