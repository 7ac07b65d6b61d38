-- What an organisation starts with meets the conditions of access lists, users, clients and groups.
use Rattle.std.proofs.Common.{◌≡◌, ℕ, List, [], ◌∷◌, ◌++◌, map, Bool, true, false, cond, ◌&&◌, ◌||◌, inl, inr, Option, Some, None, is_some, codes, bytes_eq, refl, sym, ap, subst, ◌∙◌}
use Rattle.std.proofs.lemmas.Bool.{and_parts, or_left, or_right}
use Rattle.std.proofs.lemmas.Option.{same_Some}
use Rattle.std.specs.FinMap as finite
use Rattle.std.specs.FinSet as set
use Rattle.std.specs.List.{list_any, list_all, find}
use Rattle.std.specs.Ordering.{eq_by_cmp}
use Rattle.doc_tree.specs.Text.{text_cmp as shelf_cmp, text_cmp}
use Rattle.membership.specs.declared.member_kind.MemberKind.TheVariants as member
use Rattle.membership.specs.declared.member_kind.MemberKind.{MemberKind}
use Rattle.membership.specs.Members.{Members, GroupsByName, Membership, no_members}
use Rattle.membership.specs.Actors.{operator}
use Rattle.membership.specs.StartingGroups.{starting_groups, is_starting_group}
use Rattle.membership.specs.Actors as membership
use Rattle.membership.specs.TextSets.{lists}
use Rattle.access_lists.specs.declared.acl.Acl.{Acl}
use Rattle.access_lists.specs.declared.perm.Perm.{Perm}
use Rattle.access_lists.specs.declared.perm.Perm.TheVariants as permission
use Rattle.access_lists.specs.declared.starting.Container.{Container}
use Rattle.access_lists.specs.declared.starting.Container.TheVariants as container
use Rattle.access_lists.specs.Acls.{entry_of}
use Rattle.access_lists.specs.Starting.{A, AU, AKU, granting, containers, name_of, starting_list}
use Rattle.doc_tree.specs.Doc.{Doc}
use Rattle.doc_tree.specs.Name.{is_name}
use Rattle.doc_tree.specs.declared.kind.Kind.{Kind}
use Rattle.doc_tree.specs.declared.kind.Kind.TheVariants as kinds
use Rattle.object_store.specs.Objects.{Lists, key, key_cmp}
use Rattle.object_store.specs.declared.key.Key.{Key}
use Rattle.org_core.proofs.ListedLemmas.{NamesKnown, put-at}
use Rattle.org_core.proofs.MembershipLemmas.{either, itself, same_name, get-put, nobody_in}
use Rattle.org_core.proofs.ObjectConditionsLemmas.{same_keys, ties_itself}
use Rattle.org_core.specs.AccessConditions.{has_listed, has_member, AccessConditions, HasItsClients}
use Rattle.org_core.specs.ObjectConditions.{has}
use Rattle.org_shelves.specs.Shelved.{nothing}
use Rattle.org_core.specs.States.{Organisation}

-- ---- the lists of the table name the starting groups alone

-- these groups are among them
abbrev AreStarting : List (List ℕ) → Type 0
AreStarting groups = (name : List ℕ) → lists groups name ≡ true → is_starting_group name ≡ true

first_is : (name : List ℕ) → bytes_eq name (codes "admins") ≡ true → is_starting_group name ≡ true
first_is name is = or_left (bytes_eq name (codes "admins")) _ is

third_is : (name : List ℕ) → bytes_eq name (codes "clients") ≡ true → is_starting_group name ≡ true
third_is name is = or_right (bytes_eq name (codes "admins")) _ (or_right (bytes_eq name (codes "billing-admins")) _ (or_left (bytes_eq name (codes "clients")) _ is))

fourth_is : (name : List ℕ) → bytes_eq name (codes "users") ≡ true → is_starting_group name ≡ true
fourth_is name is =
    or_right (bytes_eq name (codes "admins")) _ (or_right (bytes_eq name (codes "billing-admins")) _ (or_right (bytes_eq name (codes "clients")) _ (or_left (bytes_eq name (codes "users")) _ is)))

A_starts : AreStarting A
A_starts name is = elim (either (bytes_eq name (codes "admins")) _ is) [ inl admins ↦ first_is name admins | inr none ↦ cc none ]

AU_starts : AreStarting AU
AU_starts name is =
    elim (either (bytes_eq name (codes "admins")) _ is) [
      | inl admins ↦ first_is name admins
      | inr more ↦ elim (either (bytes_eq name (codes "users")) _ more) [ inl users ↦ fourth_is name users | inr none ↦ cc none ]
    ]

AKU_starts : AreStarting AKU
AKU_starts name is =
    elim (either (bytes_eq name (codes "admins")) _ is) [
      | inl admins ↦ first_is name admins
      | inr more ↦
          elim (either (bytes_eq name (codes "clients")) _ more) [
            | inl clients ↦ third_is name clients
            | inr more ↦ elim (either (bytes_eq name (codes "users")) _ more) [ inl users ↦ fourth_is name users | inr none ↦ cc none ]
          ]
    ]

-- the starting groups are there
abbrev HasStarting : Membership → Type 0
HasStarting m = (name : List ℕ) → is_starting_group name ≡ true → membership.has m member.Group name ≡ true

no_actor : (create read update delete grant : List (List ℕ)) (p : Perm) (name : List ℕ) → lists (entry_of p (granting create read update delete grant)).actors name ≡ false
no_actor create read update delete grant permission.Create name = refl
no_actor create read update delete grant permission.Read name = refl
no_actor create read update delete grant permission.Update name = refl
no_actor create read update delete grant permission.Delete name = refl
no_actor create read update delete grant permission.Grant name = refl

granted_starts : (create read update delete grant : List (List ℕ)) (p : Perm) → AreStarting create → AreStarting read → AreStarting update → AreStarting delete → AreStarting grant
    → AreStarting (entry_of p (granting create read update delete grant)).groups
granted_starts create read update delete grant permission.Create a b c d e = a
granted_starts create read update delete grant permission.Read a b c d e = b
granted_starts create read update delete grant permission.Update a b c d e = c
granted_starts create read update delete grant permission.Delete a b c d e = d
granted_starts create read update delete grant permission.Grant a b c d e = e

granting_known : (m : Membership) (create read update delete grant : List (List ℕ)) → HasStarting m → AreStarting create → AreStarting read → AreStarting update → AreStarting delete → AreStarting grant
    → NamesKnown m (granting create read update delete grant)
granting_known m create read update delete grant starts a b c d e = record {
  actors = λ p name listed. cc (sym (no_actor create read update delete grant p name) ∙ listed);
  groups = λ p name listed. starts name (granted_starts create read update delete grant p a b c d e name listed);
}

-- a starting list names nobody else
pub starting_known : (m : Membership) (container : Container) → HasStarting m → NamesKnown m (starting_list container)
starting_known m container.Clients starts = granting_known m A AU A AU A starts A_starts AU_starts A_starts AU_starts A_starts
starting_known m container.Containers starts = granting_known m A AU A A A starts A_starts AU_starts A_starts A_starts A_starts
starting_known m container.CookbookArtifacts starts = granting_known m AU AKU AU AU A starts AU_starts AKU_starts AU_starts AU_starts A_starts
starting_known m container.Cookbooks starts = granting_known m AU AKU AU AU A starts AU_starts AKU_starts AU_starts AU_starts A_starts
starting_known m container.Data starts = granting_known m AU AKU AU AU A starts AU_starts AKU_starts AU_starts AU_starts A_starts
starting_known m container.Environments starts = granting_known m AU AKU AU AU A starts AU_starts AKU_starts AU_starts AU_starts A_starts
starting_known m container.Groups starts = granting_known m A AU A A A starts A_starts AU_starts A_starts A_starts A_starts
starting_known m container.Nodes starts = granting_known m AKU AKU AU AU A starts AKU_starts AKU_starts AU_starts AU_starts A_starts
starting_known m container.Policies starts = granting_known m AU AKU AU AU A starts AU_starts AKU_starts AU_starts AU_starts A_starts
starting_known m container.PolicyGroups starts = granting_known m AU AKU AU AU A starts AU_starts AKU_starts AU_starts AU_starts A_starts
starting_known m container.Roles starts = granting_known m AU AKU AU AU A starts AU_starts AKU_starts AU_starts AU_starts A_starts
starting_known m container.Sandboxes starts = granting_known m AU AU AU A A starts AU_starts AU_starts AU_starts A_starts A_starts

-- ---- lists that were put in, one after another

-- lists, and these ones put in
abbrev pub put_lists : List (Key × Acl) → Lists → Lists
put_lists [] before = before
put_lists (e ∷ es) before = put_lists es (finite.insert before e.0 e.1)

or_swap : (a b c : Bool) → (a || (b || c)) ≡ ((b || a) || c)
or_swap true true c = refl
or_swap true false c = refl
or_swap false true c = refl
or_swap false false c = refl

put_or : (b : Bool) (list : Acl) (found : Option Acl) → is_some (cond b (Some list) found) ≡ (b || is_some found)
put_or true list found = refl
put_or false list found = refl

-- the keys that have a list
there_put : (es : List (Key × Acl)) (before : Lists) (q : Key) → is_some (finite.get (put_lists es before) q) ≡ (list_any (λ (e : Key × Acl). eq_by_cmp key_cmp q e.0) es || is_some (finite.get before q))
there_put [] before q = refl
there_put (e ∷ es) before q =
    there_put es (finite.insert before e.0 e.1) q
    ∙ ap (λ b. list_any (λ (e : Key × Acl). eq_by_cmp key_cmp q e.0) es || b) (ap is_some (put-at before e.0 e.1 q) ∙ put_or (eq_by_cmp key_cmp q e.0) e.1 (finite.get before q))
    ∙ or_swap (list_any (λ (e : Key × Acl). eq_by_cmp key_cmp q e.0) es) (eq_by_cmp key_cmp q e.0) (is_some (finite.get before q))

-- what holds of each list
abbrev EachList : (Acl → Type 0) → List (Key × Acl) → Type 0
EachList P [] = Unit {0}
EachList P (e ∷ es) = P e.1 × EachList P es

found_first : (P : Acl → Type 0) (b : Bool) (list found : Acl) (before : Option Acl) → P list → (before ≡ Some found → P found) → cond b (Some list) before ≡ Some found → P found
found_first P true list found before this rest is = subst P (same_Some list found is) this
found_first P false list found before this rest is = rest is

found_put : (P : Acl → Type 0) (es : List (Key × Acl)) (before : Lists) (q : Key) (found : Acl) → EachList P es → (finite.get before q ≡ Some found → P found)
    → finite.get (put_lists es before) q ≡ Some found → P found
found_put P [] before q found each rest is = rest is
found_put P (e ∷ es) before q found each rest is =
    found_put P es (finite.insert before e.0 e.1) q found each.1 (λ here. found_first P (eq_by_cmp key_cmp q e.0) e.1 found (finite.get before q) each.0 rest (sym (put-at before e.0 e.1 q) ∙ here)) is

-- ---- groups that were put in, each without members

abbrev pub put_groups : List (List ℕ) → GroupsByName → GroupsByName
put_groups [] before = before
put_groups (name ∷ names) before = put_groups names (finite.insert before name no_members)

group_or : (b : Bool) (found : Option Members) → is_some (cond b (Some no_members) found) ≡ (b || is_some found)
group_or true found = refl
group_or false found = refl

there_groups : (names : List (List ℕ)) (before : GroupsByName) (q : List ℕ) → is_some (finite.get (put_groups names before) q) ≡ (lists names q || is_some (finite.get before q))
there_groups [] before q = refl
there_groups (name ∷ names) before q =
    there_groups names (finite.insert before name no_members) q
    ∙ ap (λ b. lists names q || b) (ap is_some (get-put before name no_members q) ∙ group_or (bytes_eq q name) (finite.get before q))
    ∙ or_swap (lists names q) (bytes_eq q name) (is_some (finite.get before q))

empty_first : (b : Bool) (before : Option Members) (found : Members) → (before ≡ Some found → no_members ≡ found) → cond b (Some no_members) before ≡ Some found → no_members ≡ found
empty_first true before found rest is = same_Some no_members found is
empty_first false before found rest is = rest is

empty_groups : (names : List (List ℕ)) (before : GroupsByName) (q : List ℕ) (found : Members) → (finite.get before q ≡ Some found → no_members ≡ found)
    → finite.get (put_groups names before) q ≡ Some found → no_members ≡ found
empty_groups [] before q found rest is = rest is
empty_groups (name ∷ names) before q found rest is =
    empty_groups names (finite.insert before name no_members) q found (λ here. empty_first (bytes_eq q name) (finite.get before q) found rest (sym (get-put before name no_members q) ∙ here)) is

-- ---- the organisation as it starts

-- a container with its list
abbrev container_row : Container → Key × Acl
container_row container = (key kinds.Container (name_of container), starting_list container)

-- a starting group with its list
abbrev group_row : List ℕ → Key × Acl
group_row name = (key kinds.Group name, starting_list container.Groups)

-- the lists at the start: of the environment `_default`, of the containers, of the starting groups
abbrev rows : List (Key × Acl)
rows = (key kinds.Environment (codes "_default"), starting_list container.Environments) ∷ (map container_row containers ++ map group_row starting_groups)

-- an organisation with this environment `_default`
abbrev pub started : Doc → Organisation
started default = record {
  objects = finite.insert finite.empty (key kinds.Environment (codes "_default")) default;
  lists = put_lists rows finite.empty;
  membership = record { users = set.empty; clients = set.empty; groups = put_groups starting_groups finite.empty };
  shelved = nothing;
}

or_nothing : (b : Bool) → (b || false) ≡ b
or_nothing true = refl
or_nothing false = refl

has_starting : (default : Doc) (name : List ℕ) → membership.has (started default).membership member.Group name ≡ is_starting_group name
has_starting default name =
    there_groups starting_groups finite.empty name
    ∙ ap (λ found. lists starting_groups name || is_some found) (finite.get-empty _ name)
    ∙ or_nothing (lists starting_groups name)

rows_named : (q : Key) → is_some (finite.get (put_lists rows finite.empty) q) ≡ list_any (λ (e : Key × Acl). eq_by_cmp key_cmp q e.0) rows
rows_named q =
    there_put rows finite.empty q
    ∙ ap (λ found. list_any (λ (e : Key × Acl). eq_by_cmp key_cmp q e.0) rows || is_some found) (finite.get-empty key_cmp q)
    ∙ or_nothing (list_any (λ (e : Key × Acl). eq_by_cmp key_cmp q e.0) rows)

some_or : (b : Bool) (default : Doc) → is_some (cond b (Some default) None) ≡ b
some_or true default = refl
some_or false default = refl

has_default : (default : Doc) (kind : Kind) (name : List ℕ) → has (started default).objects kind name ≡ eq_by_cmp key_cmp (key kind name) (key kinds.Environment (codes "_default"))
has_default default kind name =
    ap is_some (put-at finite.empty (key kinds.Environment (codes "_default")) default (key kind name))
    ∙ ap (λ found. is_some (cond (eq_by_cmp key_cmp (key kind name) (key kinds.Environment (codes "_default"))) (Some default) found)) (finite.get-empty key_cmp (key kind name))
    ∙ some_or (eq_by_cmp key_cmp (key kind name) (key kinds.Environment (codes "_default"))) default

-- keys of one kind are the same where their names are
pub key_named : (kind : Kind) (one two : List ℕ) (b c : Bool) → eq_by_cmp key_cmp (key kind one) (key kind two) ≡ b → bytes_eq one two ≡ c → b ≡ c
key_named kind one two true true keys names = refl
key_named kind one two true false keys names =
    cc (sym (subst (λ (n : List ℕ). bytes_eq one n ≡ true) (ap (λ (k : Key). k.name) (same_keys (key kind one) (key kind two) keys)) (itself one)) ∙ names)
key_named kind one two false true keys names =
    cc (sym (ties_itself (key kind one)) ∙ subst (λ (n : List ℕ). eq_by_cmp key_cmp (key kind one) (key kind n) ≡ false) (sym (same_name one two names)) keys)
key_named kind one two false false keys names = refl

found_or : (b : Bool) (one : Container) (found : Option Container) → (b || is_some found) ≡ is_some (cond b (Some one) found)
found_or true one found = refl
found_or false one found = refl

containers_named : (cs : List Container) (name : List ℕ)
    → list_any (λ (c : Container). eq_by_cmp key_cmp (key kinds.Container name) (key kinds.Container (name_of c))) cs ≡ is_some (find (λ (c : Container). bytes_eq name (name_of c)) cs)
containers_named [] name = refl
containers_named (c ∷ cs) name =
    ap (λ b. b || list_any (λ (c : Container). eq_by_cmp key_cmp (key kinds.Container name) (key kinds.Container (name_of c))) cs)
    (key_named kinds.Container name (name_of c) _ _ refl refl)
    ∙ ap (λ b. bytes_eq name (name_of c) || b) (containers_named cs name)
    ∙ found_or (bytes_eq name (name_of c)) c (find (λ (c : Container). bytes_eq name (name_of c)) cs)

groups_named : (names : List (List ℕ)) (name : List ℕ) → list_any (λ (n : List ℕ). eq_by_cmp key_cmp (key kinds.Group name) (key kinds.Group n)) names ≡ lists names name
groups_named [] name = refl
groups_named (n ∷ names) name =
    ap (λ b. b || list_any (λ (n : List ℕ). eq_by_cmp key_cmp (key kinds.Group name) (key kinds.Group n)) names) (key_named kinds.Group name n _ _ refl refl)
    ∙ ap (λ b. bytes_eq name n || b) (groups_named names name)

rows_listed : (default : Doc) (kind : Kind) (name : List ℕ) → list_any (λ (e : Key × Acl). eq_by_cmp key_cmp (key kind name) e.0) rows ≡ has_listed (started default) kind name
rows_listed default kinds.Org name = refl
rows_listed default kinds.Node name = sym (has_default default kinds.Node name)
rows_listed default kinds.Role name = sym (has_default default kinds.Role name)
rows_listed default kinds.Environment name = or_nothing (eq_by_cmp key_cmp (key kinds.Environment name) (key kinds.Environment (codes "_default"))) ∙ sym (has_default default kinds.Environment name)
rows_listed default kinds.Bag name = sym (has_default default kinds.Bag name)
rows_listed default kinds.Client name = sym (has_default default kinds.Client name)
rows_listed default kinds.User name = refl
rows_listed default kinds.Group name = groups_named starting_groups name ∙ sym (has_starting default name)
rows_listed default kinds.Container name = containers_named containers name
rows_listed default kinds.Item name = refl
rows_listed default kinds.Cookbook name = ap is_some (sym (finite.get-empty shelf_cmp name))
rows_listed default kinds.Artifact name = ap is_some (sym (finite.get-empty shelf_cmp name))
rows_listed default kinds.Policy name = ap is_some (sym (finite.get-empty shelf_cmp name))
rows_listed default kinds.PolicyGroup name = ap is_some (sym (finite.get-empty shelf_cmp name))
rows_listed default kinds.Acl name = refl
rows_listed default kinds.Sandbox name = refl
rows_listed default kinds.File name = refl

-- each of the rows has a starting list
rows_known : (m : Membership) → HasStarting m → EachList (NamesKnown m) rows
rows_known m starts =
    let known : (container : Container) → NamesKnown m (starting_list container) = λ container. starting_known m container starts in (
      known container.Environments,
      (
        known container.Clients,
        (
          known container.Containers,
          (
            known container.CookbookArtifacts,
            (
              known container.Cookbooks,
              (
                known container.Data,
                (
                  known container.Environments,
                  (
                    known container.Groups,
                    (
                      known container.Nodes,
                      (
                        known container.Policies,
                        (
                          known container.PolicyGroups,
                          (
                            known container.Roles,
                            (
                              known container.Sandboxes,
                              (known container.Groups, (known container.Groups, (known container.Groups, (known container.Groups, tt)))),
                            ),
                          ),
                        ),
                      ),
                    ),
                  ),
                ),
              ),
            ),
          ),
        ),
      ),
    )

named_among : (names : List (List ℕ)) (q : List ℕ) → list_all is_name names ≡ true → lists names q ≡ true → is_name q ≡ true
named_among [] q each is = cc
named_among (name ∷ names) q each is =
    let parts = and_parts (is_name name) (list_all is_name names) each in
    elim (either (bytes_eq q name) (lists names q) is) [
      | inl first ↦ subst (λ (n : List ℕ). is_name n ≡ true) (sym (same_name q name first)) parts.0
      | inr rest ↦ named_among names q parts.1 rest
    ]

nobody : (q : List ℕ) → set.contains (set.empty {R = text_cmp}) q ≡ true → ⊥
nobody q is = cc (sym is ∙ set.contains-empty text_cmp q)

named_at_start : (default : Doc) (kind : MemberKind) (q : List ℕ) → membership.has (started default).membership kind q ≡ true → is_name q ≡ true
named_at_start default member.User q is = absurd (nobody q is)
named_at_start default member.Client q is = absurd (nobody q is)
named_at_start default member.Group q is = named_among starting_groups q refl (sym (has_starting default q) ∙ is)

nothing_found : {X : Type 0} (x : X) (P : Type 0) → None ≡ Some x → P
nothing_found x P is = cc

-- an organisation starts so
pub starts : (default : Doc) → AccessConditions (started default)
starts default =
    let m : Membership = (started default).membership in
    let there : HasStarting m = λ name is. has_starting default name ∙ is in
    record {
      listed = λ q. rows_named q ∙ rows_listed default q.kind q.name;
      actors = λ q found p name is listed.
          (found_put (NamesKnown m) rows finite.empty q found (rows_known m there) (λ none. nothing_found found (NamesKnown m found) (sym (finite.get-empty key_cmp q) ∙ none)) is).actors p name listed;
      groups = λ q found p name is listed.
          (found_put (NamesKnown m) rows finite.empty q found (rows_known m there) (λ none. nothing_found found (NamesKnown m found) (sym (finite.get-empty key_cmp q) ∙ none)) is).groups p name listed;
      members = λ group found kind name is in_it.
          let same : no_members ≡ found = empty_groups starting_groups finite.empty group found (λ none. nothing_found found (no_members ≡ found) (sym (finite.get-empty text_cmp group) ∙ none)) is in
          absurd (nobody_in kind name (subst (λ (x : Members). has_member kind name x ≡ true) (sym same) in_it));
      starting = there;
      apart = record {
        apart = λ name. ap (λ b. b && set.contains (set.empty {R = text_cmp}) name) (set.contains-empty text_cmp name);
        operator_apart = (λ i. set.contains-empty text_cmp operator i || set.contains-empty text_cmp operator i);
      };
      named = named_at_start default;
    }

-- and has no clients
pub starts_without_clients : (default : Doc) → HasItsClients (started default)
starts_without_clients default name = set.contains-empty text_cmp name ∙ sym (has_default default kinds.Client name)
