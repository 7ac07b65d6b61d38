-- Things that come on shelves and go keep the conditions of an organisation's state.
use Rattle.std.proofs.Common.{◌≡◌, ◌≢◌, ℕ, List, [], ◌∷◌, Bool, true, false, cond, inl, inr, Some, None, is_some, refl, sym, ap, subst, ◌∙◌}
use Rattle.std.specs.FinMap as finite
use Rattle.std.specs.Ordering.{eq_by_cmp}
use Rattle.doc_tree.specs.Text.{text_cmp}
use Rattle.membership.specs.TextSets.{lists}
use Rattle.access_lists.specs.declared.acl.Acl.{Acl}
use Rattle.access_lists.specs.Acls.{entry_of}
use Rattle.dep_solver.proofs.VersionLemmas.{versions_total}
use Rattle.doc_tree.specs.Doc.{Doc}
use Rattle.doc_tree.specs.declared.kind.Kind.{Kind}
use Rattle.doc_tree.specs.declared.kind.Kind.TheVariants as kinds
use Rattle.object_store.specs.Objects.{key, key_cmp}
use Rattle.object_store.specs.declared.key.Key.{Key}
use Rattle.org_shelves.proofs.KeepingLemmas.{keeps}
use Rattle.org_shelves.specs.Laws.{IsSound}
use Rattle.org_shelves.specs.Conditions.{IsVersionOf}
use Rattle.org_shelves.specs.Shelved.{Shelved, with_cookbooks}
use Rattle.org_shelves.specs.ShelfMoves.{after_shelf_move}
use Rattle.org_shelves.specs.declared.shelf_moves.ShelfMove.{ShelfMove}
use Rattle.org_shelves.specs.declared.shelf_moves.ShelfMove.TheVariants.{PutVersion, TakeVersion}
use Rattle.shelves.proofs.ShelfLaws.{has_shelf-put_other, has_shelf-put_same, has_shelf-without_other, same_name, tied_name}
use Rattle.shelves.specs.Shelves.{has_shelf, put, without}
use Rattle.version_rules.specs.declared.versions.Version.{Version}
use Rattle.org_core.proofs.ListedLemmas.{NamesKnown, found_in, found_still, left-at, put-at, same_listed}
use Rattle.org_core.proofs.ObjectConditionsLemmas.{same_keys, ties_itself}
use Rattle.org_core.specs.AccessConditions.{AccessConditions, has_listed, has_shelved}
use Rattle.org_core.specs.Conditions.{MeetsConditions}
use Rattle.org_core.specs.Moves.{after_moves, with_lists, with_shelved}
use Rattle.org_core.specs.States.{Organisation}
use Rattle.org_core.specs.declared.moves.Move.TheVariants.{OnShelves, PutList, TakeList}

-- ---- what is listed

-- what is on a shelf is listed
shelved_listed : (o : Organisation) (kind : Kind) (name : List ℕ) → has_shelved o.shelved kind name ≡ true → has_listed o kind name ≡ true
shelved_listed o kinds.Org name is = cc
shelved_listed o kinds.Node name is = cc
shelved_listed o kinds.Role name is = cc
shelved_listed o kinds.Environment name is = cc
shelved_listed o kinds.Bag name is = cc
shelved_listed o kinds.Client name is = cc
shelved_listed o kinds.User name is = cc
shelved_listed o kinds.Group name is = cc
shelved_listed o kinds.Container name is = cc
shelved_listed o kinds.Item name is = cc
shelved_listed o kinds.Cookbook name is = is
shelved_listed o kinds.Artifact name is = is
shelved_listed o kinds.Policy name is = is
shelved_listed o kinds.PolicyGroup name is = is
shelved_listed o kinds.Acl name is = cc
shelved_listed o kinds.Sandbox name is = cc
shelved_listed o kinds.File name is = cc

-- what was on a shelf and isn't any more isn't listed
unshelved_listed : (o : Organisation) (was : Shelved) (kind : Kind) (name : List ℕ) → has_shelved was kind name ≡ true → has_shelved o.shelved kind name ≡ false → has_listed o kind name ≡ false
unshelved_listed o was kinds.Org name there is = cc
unshelved_listed o was kinds.Node name there is = cc
unshelved_listed o was kinds.Role name there is = cc
unshelved_listed o was kinds.Environment name there is = cc
unshelved_listed o was kinds.Bag name there is = cc
unshelved_listed o was kinds.Client name there is = cc
unshelved_listed o was kinds.User name there is = cc
unshelved_listed o was kinds.Group name there is = cc
unshelved_listed o was kinds.Container name there is = cc
unshelved_listed o was kinds.Item name there is = cc
unshelved_listed o was kinds.Cookbook name there is = is
unshelved_listed o was kinds.Artifact name there is = is
unshelved_listed o was kinds.Policy name there is = is
unshelved_listed o was kinds.PolicyGroup name there is = is
unshelved_listed o was kinds.Acl name there is = cc
unshelved_listed o was kinds.Sandbox name there is = cc
unshelved_listed o was kinds.File name there is = cc

-- ---- access lists

-- the same names are on every shelf
abbrev pub SameNames : Shelved → Shelved → Type 0
SameNames new old = (kind : Kind) (name : List ℕ) → has_shelved new kind name ≡ has_shelved old kind name

-- but for this name of this kind
abbrev pub SameOthers : Kind → List ℕ → Shelved → Shelved → Type 0
SameOthers kind name new old = (k : Kind) (n : List ℕ) → eq_by_cmp key_cmp (key k n) (key kind name) ≡ false → has_shelved new k n ≡ has_shelved old k n

-- other things under the same names
shelved_alone : (o : Organisation) (new : Shelved) → AccessConditions o → SameNames new o.shelved → AccessConditions (with_shelved new o)
shelved_alone o new meets same = record {
  listed = λ q. meets.listed q ∙ sym (same_listed o (with_shelved new o) q.kind q.name (λ own. refl) (λ group. refl) (same q.kind q.name));
  actors = meets.actors;
  groups = meets.groups;
  members = meets.members;
  starting = meets.starting;
  apart = meets.apart;
  named = meets.named;
}

come_listed : (o : Organisation) (kind : Kind) (name : List ℕ) (new : Shelved) (list : Acl) (q : Key) (b : Bool) → AccessConditions o → has_shelved new kind name ≡ true → SameOthers kind name new o.shelved
    → eq_by_cmp key_cmp q (key kind name) ≡ b → is_some (cond b (Some list) (finite.get o.lists q)) ≡ has_listed (with_lists (finite.insert o.lists (key kind name) list) (with_shelved new o)) q.kind q.name
come_listed o kind name new list q true meets here others same =
    let after : Organisation = with_lists (finite.insert o.lists (key kind name) list) (with_shelved new o) in
    subst (λ (x : Key). true ≡ has_listed after x.kind x.name) (sym (same_keys q (key kind name) same)) (sym (shelved_listed after kind name here))
come_listed o kind name new list q false meets here others other =
    let after : Organisation = with_lists (finite.insert o.lists (key kind name) list) (with_shelved new o) in
    meets.listed q ∙ sym (same_listed o after q.kind q.name (λ own. refl) (λ group. refl) (others q.kind q.name other))

-- a name comes with its list
name_comes : (o : Organisation) (kind : Kind) (name : List ℕ) (new : Shelved) (list : Acl) → AccessConditions o → has_shelved new kind name ≡ true → SameOthers kind name new o.shelved → NamesKnown o.membership list
    → AccessConditions (with_lists (finite.insert o.lists (key kind name) list) (with_shelved new o))
name_comes o kind name new list meets here others known = record {
  listed = λ q. ap is_some (put-at o.lists (key kind name) list q) ∙ come_listed o kind name new list q (eq_by_cmp key_cmp q (key kind name)) meets here others refl;
  actors = λ q found p actor is listed. elim (found_in o.lists (key kind name) list q found is) [
    | inl same ↦ known.actors p actor (subst (λ (x : Acl). lists (entry_of p x).actors actor ≡ true) (sym same) listed)
    | inr was ↦ meets.actors q found p actor was listed
  ];
  groups = λ q found p group is listed. elim (found_in o.lists (key kind name) list q found is) [
    | inl same ↦ known.groups p group (subst (λ (x : Acl). lists (entry_of p x).groups group ≡ true) (sym same) listed)
    | inr was ↦ meets.groups q found p group was listed
  ];
  members = meets.members;
  starting = meets.starting;
  apart = meets.apart;
  named = meets.named;
}

go_listed : (o : Organisation) (kind : Kind) (name : List ℕ) (new : Shelved) (q : Key) (b : Bool) → AccessConditions o → has_shelved o.shelved kind name ≡ true → has_shelved new kind name ≡ false → SameOthers kind name new o.shelved
    → eq_by_cmp key_cmp q (key kind name) ≡ b → is_some (cond b None (finite.get o.lists q)) ≡ has_listed (with_lists (finite.remove o.lists (key kind name)) (with_shelved new o)) q.kind q.name
go_listed o kind name new q true meets was gone others same =
    let after : Organisation = with_lists (finite.remove o.lists (key kind name)) (with_shelved new o) in
    subst (λ (x : Key). false ≡ has_listed after x.kind x.name) (sym (same_keys q (key kind name) same)) (sym (unshelved_listed after o.shelved kind name was gone))
go_listed o kind name new q false meets was gone others other =
    let after : Organisation = with_lists (finite.remove o.lists (key kind name)) (with_shelved new o) in
    meets.listed q ∙ sym (same_listed o after q.kind q.name (λ own. refl) (λ group. refl) (others q.kind q.name other))

-- a name goes with its list
name_goes : (o : Organisation) (kind : Kind) (name : List ℕ) (new : Shelved) → AccessConditions o → has_shelved o.shelved kind name ≡ true → has_shelved new kind name ≡ false → SameOthers kind name new o.shelved
    → AccessConditions (with_lists (finite.remove o.lists (key kind name)) (with_shelved new o))
name_goes o kind name new meets was gone others = record {
  listed = λ q. ap is_some (left-at o.lists (key kind name) q) ∙ go_listed o kind name new q (eq_by_cmp key_cmp q (key kind name)) meets was gone others refl;
  actors = λ q found p actor is listed. meets.actors q found p actor (found_still o.lists (key kind name) q found is) listed;
  groups = λ q found p group is listed. meets.groups q found p group (found_still o.lists (key kind name) q found is) listed;
  members = meets.members;
  starting = meets.starting;
  apart = meets.apart;
  named = meets.named;
}

-- ---- the whole state

-- a sound move that leaves the names as they are
pub shelve_keeps : (o : Organisation) (move : ShelfMove) → MeetsConditions (Some o) → IsSound move o.shelved → SameNames (after_shelf_move move o.shelved) o.shelved
    → MeetsConditions (after_moves (OnShelves move ∷ []) (Some o))
shelve_keeps o move (objects, (access, (clients, shelved))) sound same = (objects, (shelved_alone o (after_shelf_move move o.shelved) access same, (clients, keeps move o.shelved shelved sound)))

-- a sound move with which a name comes, and its list
pub first_shelved_keeps : (o : Organisation) (move : ShelfMove) (kind : Kind) (name : List ℕ) (list : Acl) → MeetsConditions (Some o) → IsSound move o.shelved → has_shelved (after_shelf_move move o.shelved) kind name ≡ true
    → SameOthers kind name (after_shelf_move move o.shelved) o.shelved → NamesKnown o.membership list → MeetsConditions (after_moves (OnShelves move ∷ PutList (key kind name) list ∷ []) (Some o))
first_shelved_keeps o move kind name list (objects, (access, (clients, shelved))) sound here others known =
    (objects, (name_comes o kind name (after_shelf_move move o.shelved) list access here others known, (clients, keeps move o.shelved shelved sound)))

-- a sound move with which a name goes, and its list
pub last_shelved_keeps : (o : Organisation) (move : ShelfMove) (kind : Kind) (name : List ℕ) → MeetsConditions (Some o) → IsSound move o.shelved → has_shelved o.shelved kind name ≡ true
    → has_shelved (after_shelf_move move o.shelved) kind name ≡ false → SameOthers kind name (after_shelf_move move o.shelved) o.shelved → MeetsConditions (after_moves (OnShelves move ∷ TakeList (key kind name) ∷ []) (Some o))
last_shelved_keeps o move kind name (objects, (access, (clients, shelved))) sound was gone others =
    (objects, (name_goes o kind name (after_shelf_move move o.shelved) access was gone others, (clients, keeps move o.shelved shelved sound)))

-- ---- versions of cookbooks

-- a name of a kind is another where its key is
other_of_kind : (kind : Kind) (n name : List ℕ) → eq_by_cmp key_cmp (key kind n) (key kind name) ≡ false → n ≢ name
other_of_kind kind n name apart same = cc (sym (ap (λ (x : List ℕ). eq_by_cmp key_cmp (key kind x) (key kind name)) same ∙ ties_itself (key kind name)) ∙ apart)

same_where : (b : Bool) (new old : List ℕ → Bool) (n name : List ℕ) → eq_by_cmp text_cmp n name ≡ b → new name ≡ old name → ((other : List ℕ) → other ≢ name → new other ≡ old other) → new n ≡ old n
same_where true new old n name tie here others = ap new (tied_name n name tie) ∙ here ∙ ap old (sym (tied_name n name tie))
same_where false new old n name apart here others = others n (λ same. cc (sym (ap (λ (x : List ℕ). eq_by_cmp text_cmp x name) same ∙ same_name name) ∙ apart))

-- the names are the same where those on each of the four shelves are
pub same_from : (new old : Shelved) → ((n : List ℕ) → has_shelf new.cookbooks n ≡ has_shelf old.cookbooks n) → ((n : List ℕ) → has_shelf new.artifacts n ≡ has_shelf old.artifacts n)
    → ((n : List ℕ) → has_shelf new.policies n ≡ has_shelf old.policies n) → ((n : List ℕ) → is_some (finite.get new.groups n) ≡ is_some (finite.get old.groups n)) → SameNames new old
same_from new old cookbooks artifacts policies groups kinds.Org n = refl
same_from new old cookbooks artifacts policies groups kinds.Node n = refl
same_from new old cookbooks artifacts policies groups kinds.Role n = refl
same_from new old cookbooks artifacts policies groups kinds.Environment n = refl
same_from new old cookbooks artifacts policies groups kinds.Bag n = refl
same_from new old cookbooks artifacts policies groups kinds.Client n = refl
same_from new old cookbooks artifacts policies groups kinds.User n = refl
same_from new old cookbooks artifacts policies groups kinds.Group n = refl
same_from new old cookbooks artifacts policies groups kinds.Container n = refl
same_from new old cookbooks artifacts policies groups kinds.Item n = refl
same_from new old cookbooks artifacts policies groups kinds.Cookbook n = cookbooks n
same_from new old cookbooks artifacts policies groups kinds.Artifact n = artifacts n
same_from new old cookbooks artifacts policies groups kinds.Policy n = policies n
same_from new old cookbooks artifacts policies groups kinds.PolicyGroup n = groups n
same_from new old cookbooks artifacts policies groups kinds.Acl n = refl
same_from new old cookbooks artifacts policies groups kinds.Sandbox n = refl
same_from new old cookbooks artifacts policies groups kinds.File n = refl

-- and so are those but for one
pub others_from : (kind : Kind) (name : List ℕ) (new old : Shelved) → ((n : List ℕ) → eq_by_cmp key_cmp (key kinds.Cookbook n) (key kind name) ≡ false → has_shelf new.cookbooks n ≡ has_shelf old.cookbooks n)
    → ((n : List ℕ) → eq_by_cmp key_cmp (key kinds.Artifact n) (key kind name) ≡ false → has_shelf new.artifacts n ≡ has_shelf old.artifacts n)
    → ((n : List ℕ) → eq_by_cmp key_cmp (key kinds.Policy n) (key kind name) ≡ false → has_shelf new.policies n ≡ has_shelf old.policies n)
    → ((n : List ℕ) → eq_by_cmp key_cmp (key kinds.PolicyGroup n) (key kind name) ≡ false → is_some (finite.get new.groups n) ≡ is_some (finite.get old.groups n)) → SameOthers kind name new old
others_from kind name new old cookbooks artifacts policies groups kinds.Org n apart = refl
others_from kind name new old cookbooks artifacts policies groups kinds.Node n apart = refl
others_from kind name new old cookbooks artifacts policies groups kinds.Role n apart = refl
others_from kind name new old cookbooks artifacts policies groups kinds.Environment n apart = refl
others_from kind name new old cookbooks artifacts policies groups kinds.Bag n apart = refl
others_from kind name new old cookbooks artifacts policies groups kinds.Client n apart = refl
others_from kind name new old cookbooks artifacts policies groups kinds.User n apart = refl
others_from kind name new old cookbooks artifacts policies groups kinds.Group n apart = refl
others_from kind name new old cookbooks artifacts policies groups kinds.Container n apart = refl
others_from kind name new old cookbooks artifacts policies groups kinds.Item n apart = refl
others_from kind name new old cookbooks artifacts policies groups kinds.Cookbook n apart = cookbooks n apart
others_from kind name new old cookbooks artifacts policies groups kinds.Artifact n apart = artifacts n apart
others_from kind name new old cookbooks artifacts policies groups kinds.Policy n apart = policies n apart
others_from kind name new old cookbooks artifacts policies groups kinds.PolicyGroup n apart = groups n apart
others_from kind name new old cookbooks artifacts policies groups kinds.Acl n apart = refl
others_from kind name new old cookbooks artifacts policies groups kinds.Sandbox n apart = refl
others_from kind name new old cookbooks artifacts policies groups kinds.File n apart = refl

-- a further version of a cookbook that is there
pub put_version_keeps : (o : Organisation) (name : List ℕ) (version : Version) (manifest : Doc) → MeetsConditions (Some o) → IsVersionOf name version manifest → has_shelf o.shelved.cookbooks name ≡ true
    → MeetsConditions (after_moves (OnShelves (PutVersion name version manifest) ∷ []) (Some o))
put_version_keeps o name version manifest meets this there =
    let cookbooks = o.shelved.cookbooks in
    let after = put name version manifest cookbooks in
    shelve_keeps o (PutVersion name version manifest) meets this
    (same_from (with_cookbooks after o.shelved) o.shelved
    (λ n. same_where (eq_by_cmp text_cmp n name) (has_shelf after) (has_shelf cookbooks) n name refl (has_shelf-put_same versions_total cookbooks name version manifest ∙ sym there) (has_shelf-put_other versions_total cookbooks name version manifest))
    (λ n. refl) (λ n. refl) (λ n. refl))

-- the first version of a cookbook, with its list
pub first_version_keeps : (o : Organisation) (name : List ℕ) (version : Version) (manifest : Doc) (list : Acl) → MeetsConditions (Some o) → IsVersionOf name version manifest → NamesKnown o.membership list
    → MeetsConditions (after_moves (OnShelves (PutVersion name version manifest) ∷ PutList (key kinds.Cookbook name) list ∷ []) (Some o))
first_version_keeps o name version manifest list meets this known =
    let cookbooks = o.shelved.cookbooks in
    let after = put name version manifest cookbooks in
    first_shelved_keeps o (PutVersion name version manifest) kinds.Cookbook name list meets this (has_shelf-put_same versions_total cookbooks name version manifest)
    (others_from kinds.Cookbook name (with_cookbooks after o.shelved) o.shelved (λ n apart. has_shelf-put_other versions_total cookbooks name version manifest n (other_of_kind kinds.Cookbook n name apart)) (λ n apart. refl) (λ n apart. refl)
    (λ n apart. refl)) known

-- a version goes of a cookbook that stays
pub take_version_keeps : (o : Organisation) (name : List ℕ) (version : Version) → MeetsConditions (Some o) → has_shelf o.shelved.cookbooks name ≡ true → has_shelf (without name version o.shelved.cookbooks) name ≡ true
    → MeetsConditions (after_moves (OnShelves (TakeVersion name version) ∷ []) (Some o))
take_version_keeps o name version meets there stays =
    let cookbooks = o.shelved.cookbooks in
    let after = without name version cookbooks in
    shelve_keeps o (TakeVersion name version) meets tt
    (same_from (with_cookbooks after o.shelved) o.shelved
    (λ n. same_where (eq_by_cmp text_cmp n name) (has_shelf after) (has_shelf cookbooks) n name refl (stays ∙ sym there) (has_shelf-without_other versions_total cookbooks name version))
    (λ n. refl) (λ n. refl) (λ n. refl))

-- the last version of a cookbook goes, with its list
pub last_version_keeps : (o : Organisation) (name : List ℕ) (version : Version) → MeetsConditions (Some o) → has_shelf o.shelved.cookbooks name ≡ true → has_shelf (without name version o.shelved.cookbooks) name ≡ false
    → MeetsConditions (after_moves (OnShelves (TakeVersion name version) ∷ TakeList (key kinds.Cookbook name) ∷ []) (Some o))
last_version_keeps o name version meets there gone =
    let cookbooks = o.shelved.cookbooks in
    let after = without name version cookbooks in
    last_shelved_keeps o (TakeVersion name version) kinds.Cookbook name meets tt there gone
    (others_from kinds.Cookbook name (with_cookbooks after o.shelved) o.shelved (λ n apart. has_shelf-without_other versions_total cookbooks name version n (other_of_kind kinds.Cookbook n name apart)) (λ n apart. refl) (λ n apart. refl)
    (λ n apart. refl))
