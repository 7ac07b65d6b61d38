-- What these groups do keeps the conditions of an organisation's state.
use Rattle.std.proofs.Common.{◌≡◌, ℕ, List, [], ◌∷◌, Bool, true, false, not, ◌&&◌, IsTrue, IsFalse, IfSome, Option, Some, None, is_some, option_and_then, Result, Ok, Err, bytes_eq, codes, refl, sym, ap, subst, ◌∙◌}
use Rattle.std.proofs.lemmas.Bool.{and_parts, or_parts}
use Rattle.membership.specs.Actors.{is_actor}
use Rattle.access_lists.specs.declared.starting.Container.TheVariants as container
use Rattle.std.specs.Cmp.Lexicographic.{bytes_decides}
use Rattle.std.specs.Ordering.{eq_by_cmp}
use Rattle.doc_tree.specs.Doc.{Doc}
use Rattle.doc_tree.specs.Name.{is_name}
use Rattle.doc_tree.specs.Part.{part_at}
use Rattle.doc_tree.specs.declared.kind.Kind.{Kind}
use Rattle.doc_tree.specs.declared.kind.Kind.TheVariants as kinds
use Rattle.object_forms.specs.Forms.{name_from}
use Rattle.object_forms.specs.Kinds.{is_item}
use Rattle.object_forms.specs.Objects.{key_of, name_in}
use Rattle.object_forms.proofs.ReadBackLemmas.{reads_back}
use Rattle.object_forms.proofs.StoredLemmas.{named_from, id_from}
use Rattle.object_store.specs.Items.{item_name}
use Rattle.object_store.specs.Objects.{key, key_cmp}
use Rattle.object_store.specs.declared.key.Key.{Key}
use Rattle.org_requests.specs.declared.verbs.Verb.{Verb}
use Rattle.org_requests.specs.declared.verbs.Verb.TheVariants.{Get, Post, Put, Delete, Other}
use Rattle.org_requests.specs.Collections.{kind_in}
use Rattle.org_core.specs.Contexts.{Context, in_state}
use Rattle.org_core.specs.Conditions.{MeetsConditions}
use Rattle.org_core.specs.Keeping.{Anyone, Someone, LeadsToConditions, KeepsConditions}
use Rattle.org_core.specs.Moves.{after_moves}
use Rattle.org_core.specs.Needs.{if_named}
use Rattle.org_core.specs.ObjectConditions.{has, IsNamed, IsItem, IsStored}
use Rattle.org_requests.specs.Refusals.{refuses}
use Rattle.org_core.specs.States.{State, Organisation, has_object, membership_of}
use Rattle.org_requests.specs.declared.collections.Collection.{Collection}
use Rattle.org_requests.specs.declared.collections.Collection.TheVariants.{Nodes, Roles, Environments, Clients}
use Rattle.org_core.specs.declared.moves.Move.TheVariants as move
use Rattle.org_requests.specs.declared.refusals.Refusal.{Refusal}
use Rattle.org_requests.specs.declared.refusals.Refusal.TheVariants.{NotAllowed, AlreadyExists}
use Rattle.org_requests.specs.declared.requests.Body.{Body}
use Rattle.org_requests.specs.Routes.{DataRoute}
use Rattle.org_requests.specs.declared.routes.DataRouteOf.TheVariants as data_route
use Rattle.org_requests.specs.Routes.{ObjectsRoute}
use Rattle.org_requests.specs.declared.routes.ObjectsRouteOf.TheVariants.{All, One}
use Rattle.org_core.proofs.ConditionsLemmas.{IsListedKey, created_known, create_keeps, create_client_keeps, replace_keeps, put_item_keeps, remove_keeps, remove_client_keeps, remove_item_keeps, remove_bag_keeps, start_keeps}
use Rattle.org_core.proofs.ListedLemmas.{has_own_list}
use Rattle.org_core.proofs.ReadLemmas.{IsRead, read_body, some_named, text_named}
use Rattle.org_core.proofs.ObjectConditionsLemmas.{same_keys, one_bag}
use Rattle.org_core.specs.Bodies.{object_in_body}
use Rattle.object_routes.specs.DataBags.{data_rules, data_asked, post_item, put_item, id_of, lacks_bag, lacks_item}
use Rattle.object_routes.specs.Objects.{objects_rules, objects_asked, name_of, put_one, is_fixed, is_taken, lacks_named, creation, removal}
use Rattle.object_routes.specs.Operations.{creating, replacing, creating_bag, creating_item, replacing_item}
use Rattle.object_routes.specs.Organisations.{organisation_rules, default_environment}
use Rattle.object_routes.specs.Organisations as organisations
use Rattle.object_routes.specs.declared.operations.DataOperation.{DataOperation}
use Rattle.object_routes.specs.declared.operations.DataOperation.TheVariants as bags
use Rattle.object_routes.specs.declared.operations.ObjectsOperation.{ObjectsOperation}
use Rattle.object_routes.specs.declared.operations.ObjectsOperation.TheVariants as objects
use Rattle.object_routes.specs.declared.operations.OrganisationOperation.TheVariants as organisation

-- the place of an item is that of no other kind
item_is : (kind : Kind) → kinds.Item ≡ kind → IsFalse (is_item kind) → ⊥
item_is kind same plain = cc (subst (λ (k : Kind). IsFalse (is_item k)) (sym same) plain)

not_false : (b : Bool) → not b ≡ false → b ≡ true
not_false true is = refl
not_false false is = cc

same_environment : (name : List ℕ) (b : Bool) → eq_by_cmp key_cmp (key kinds.Environment (codes "_default")) (key kinds.Environment name) ≡ b → bytes_eq name (codes "_default") ≡ false → b ≡ false
same_environment name true is free =
    let same : codes "_default" ≡ name = ap (λ (k : Key). k.name) (same_keys (key kinds.Environment (codes "_default")) (key kinds.Environment name) is) in
    let taken : bytes_eq name (codes "_default") ≡ true = (bytes_decides name (codes "_default")).1 (sym same) in
    cc (sym taken ∙ free)
same_environment name false is free = refl

-- another environment than `_default`
other_environment : (name : List ℕ) → bytes_eq name (codes "_default") ≡ false → eq_by_cmp key_cmp (key kinds.Environment (codes "_default")) (key kinds.Environment name) ≡ false
other_environment name free = same_environment name _ refl free

-- ---- organisations

-- a new organisation meets them
pub new_keeps : MeetsConditions (after_moves organisations.creation None)
new_keeps = start_keeps default_environment (refl, refl)

created : (state : State) → refuses AlreadyExists (is_some state) ≡ None → MeetsConditions (after_moves organisations.creation state)
created None new = new_keeps
created (Some there) new = cc

pub organisations_keep : KeepsConditions Anyone organisation_rules
organisations_keep context route request organisation.Create meets anyone asked lacks refused = created context.state refused
organisations_keep context route request organisation.Show meets anyone asked lacks refused = meets

-- ---- what was read of a body

-- an object of a kind without ids, as it is stored under its name
named_new : (kind : Kind) (object : Doc) → IsFalse (is_item kind) → key_of kind ≡ codes "name" → IsRead kind None object → IsNamed kind (name_of object) object
named_new kind object plain field (doc, read) =
    let found = some_named (name_in kind object) (named_from kind None doc object tt read) in
    let there : option_and_then name_from (part_at (codes "name") object) ≡ Some found.0 = ap (λ k. option_and_then name_from (part_at k object)) (sym field) ∙ found.1 in
    let text = text_named (part_at (codes "name") object) found.0 there in
    subst (λ (n : List ℕ). IsNamed kind n object) (sym text.0) (text.1, reads_back kind None doc object found.0 plain read found.1)

-- one that was read under its path's name
named_again : (kind : Kind) (name : List ℕ) (object : Doc) → IsFalse (is_item kind) → is_name name ≡ true → IsRead kind (Some name) object → IsNamed kind name object
named_again kind name object plain named (doc, read) = (named, reads_back kind (Some name) doc object name plain read (named_from kind (Some name) doc object named read))

-- ---- collections of objects

-- the operation's object was read from a body of its kind, and a replaced one under the path's name
abbrev pub WasRead : Kind → ObjectsOperation → Type 0
WasRead kind objects.List = Unit {0}
WasRead kind (objects.Create object) = IsRead kind None object
WasRead kind (objects.Show name) = Unit {0}
WasRead kind (objects.Replace name object) = (is_name name ≡ true) × IsRead kind (Some name) object
WasRead kind (objects.Remove name) = Unit {0}

creating_read : (kind : Kind) (read : Result Doc Refusal) (operation : ObjectsOperation) → ((object : Doc) → read ≡ Ok object → IsRead kind None object) → creating read ≡ Ok operation → WasRead kind operation
creating_read kind (Ok object) operation reads is = let same : objects.Create object ≡ operation = cc is in subst (WasRead kind) same (reads object refl)
creating_read kind (Err refusal) operation reads is = cc

replacing_read : (kind : Kind) (name : List ℕ) (read : Result Doc Refusal) (operation : ObjectsOperation) → is_name name ≡ true → ((object : Doc) → read ≡ Ok object → IsRead kind (Some name) object)
    → replacing name read ≡ Ok operation → WasRead kind operation
replacing_read kind name (Ok object) operation named reads is = let same : objects.Replace name object ≡ operation = cc is in subst (WasRead kind) same (named, reads object refl)
replacing_read kind name (Err refusal) operation named reads is = cc

put_read : (kind : Kind) (b : Bool) (name : List ℕ) (body : Body) (operation : ObjectsOperation) → is_name name ≡ b → put_one b kind name body ≡ Ok operation → WasRead kind operation
put_read kind true name body operation named is = replacing_read kind name (object_in_body kind (Some name) body) operation named (λ object read. read_body kind (Some name) body object read) is
put_read kind false name body operation named is = cc

asked_read : (collection : Collection) (route : ObjectsRoute) (verb : Verb) (body : Body) (operation : ObjectsOperation) → objects_asked collection route verb body ≡ Ok operation → WasRead (kind_in collection) operation
asked_read collection All Get body operation is = let same : objects.List ≡ operation = cc is in subst (WasRead (kind_in collection)) same tt
asked_read collection All Post body operation is = creating_read (kind_in collection) (object_in_body (kind_in collection) None body) operation (λ object read. read_body (kind_in collection) None body object read) is
asked_read collection All Put body operation is = cc
asked_read collection All Delete body operation is = cc
asked_read collection All Other body operation is = cc
asked_read collection (One name) Get body operation is = let same : objects.Show name ≡ operation = cc is in subst (WasRead (kind_in collection)) same tt
asked_read collection (One name) Post body operation is = cc
asked_read collection (One name) Put body operation is = put_read (kind_in collection) _ name body operation refl is
asked_read collection (One name) Delete body operation is = let same : objects.Remove name ≡ operation = cc is in subst (WasRead (kind_in collection)) same tt
asked_read collection (One name) Other body operation is = cc

-- an object of a collection that has this name
stored_in : (collection : Collection) (name : List ℕ) (object : Doc) → IsNamed (kind_in collection) name object → IsStored (kind_in collection) name object
stored_in Nodes name object this = this
stored_in Roles name object this = this
stored_in Environments name object this = this
stored_in Clients name object this = this

new_in : (collection : Collection) (object : Doc) → IsRead (kind_in collection) None object → IsNamed (kind_in collection) (name_of object) object
new_in Nodes object read = named_new kinds.Node object refl refl read
new_in Roles object read = named_new kinds.Role object refl refl read
new_in Environments object read = named_new kinds.Environment object refl refl read
new_in Clients object read = named_new kinds.Client object refl refl read

again_in : (collection : Collection) (name : List ℕ) (object : Doc) → is_name name ≡ true → IsRead (kind_in collection) (Some name) object → IsNamed (kind_in collection) name object
again_in Nodes name object named read = named_again kinds.Node name object refl named read
again_in Roles name object named read = named_again kinds.Role name object refl named read
again_in Environments name object named read = named_again kinds.Environment name object refl named read
again_in Clients name object named read = named_again kinds.Client name object refl named read

-- no collection has items
no_item_in : (collection : Collection) (name other : List ℕ) → key kinds.Item other ≡ key (kind_in collection) name → ⊥
no_item_in Nodes name other same = item_is kinds.Node (ap (λ (k : Key). k.kind) same) refl
no_item_in Roles name other same = item_is kinds.Role (ap (λ (k : Key). k.kind) same) refl
no_item_in Environments name other same = item_is kinds.Environment (ap (λ (k : Key). k.kind) same) refl
no_item_in Clients name other same = item_is kinds.Client (ap (λ (k : Key). k.kind) same) refl

-- the keys of a collection's objects, other than clients
listed_key : (kind : Kind) (name : List ℕ) → has_own_list kind ≡ true → ((client : List ℕ) → eq_by_cmp key_cmp (key kinds.Client client) (key kind name) ≡ false) → IsFalse (is_item kind) → IsListedKey (key kind name)
listed_key kind name own apart plain = record { own = own; no_client = apart; no_item = λ item same. item_is kind (ap (λ (k : Key). k.kind) same) plain }

-- an organisation that isn't there stays so
none_created : (collection : Collection) (context : Context) (name : List ℕ) (object : Doc) → MeetsConditions (after_moves (creation collection context name object) None)
none_created Nodes context name object = tt
none_created Roles context name object = tt
none_created Environments context name object = tt
none_created Clients context name object = tt

none_removed : (collection : Collection) (name : List ℕ) → MeetsConditions (after_moves (removal collection name) None)
none_removed Nodes name = tt
none_removed Roles name = tt
none_removed Environments name = tt
none_removed Clients name = tt

created_in : (collection : Collection) (context : Context) (o : Organisation) (name : List ℕ) (object : Doc) → MeetsConditions (Some o) → if_named (is_actor o.membership) context.caller ≡ true
    → IsNamed (kind_in collection) name object → is_taken collection name (Some o) ≡ false → MeetsConditions (after_moves (creation collection (in_state (Some o) context) name object) (Some o))
created_in Nodes context o name object meets known this free =
    create_keeps o (key kinds.Node name) object _ meets (listed_key kinds.Node name refl (λ client. refl) refl) this (created_known container.Nodes context o meets.1.0 known)
created_in Roles context o name object meets known this free =
    create_keeps o (key kinds.Role name) object _ meets (listed_key kinds.Role name refl (λ client. refl) refl) this (created_known container.Roles context o meets.1.0 known)
created_in Environments context o name object meets known this free =
    create_keeps o (key kinds.Environment name) object _ meets (listed_key kinds.Environment name refl (λ client. refl) refl) this (created_known container.Environments context o meets.1.0 known)
created_in Clients context o name object meets known this free =
    create_client_keeps o (codes "clients") name object _ meets this this.0 (or_parts (is_actor o.membership name) (has o.objects kinds.Client name) free).0
    (created_known container.Clients context o meets.1.0 known)

not_refused : (refusal : Refusal) (b : Bool) → refuses refusal b ≡ None → b ≡ false
not_refused refusal true is = cc
not_refused refusal false is = refl

removed_in : (collection : Collection) (o : Organisation) (name : List ℕ) → MeetsConditions (Some o) → is_fixed collection name ≡ false → MeetsConditions (after_moves (removal collection name) (Some o))
removed_in Nodes o name meets free = remove_keeps o (key kinds.Node name) meets (listed_key kinds.Node name refl (λ client. refl) refl) (λ bag. refl) refl
removed_in Roles o name meets free = remove_keeps o (key kinds.Role name) meets (listed_key kinds.Role name refl (λ client. refl) refl) (λ bag. refl) refl
removed_in Environments o name meets free =
    remove_keeps o (key kinds.Environment name) meets (listed_key kinds.Environment name refl (λ client. refl) refl) (λ bag. refl) (other_environment name free)
removed_in Clients o name meets free = remove_client_keeps o name meets

-- what isn't missing is there
named_there : (kind : Kind) (name : List ℕ) (state : State) → lacks_named kind name state ≡ false → has_object state kind name ≡ true
named_there kind name state found = (and_parts (is_name name) (has_object state kind name) (not_false _ found)).1

objects_do : (collection : Collection) (context : Context) (o : Organisation) (operation : ObjectsOperation) → MeetsConditions (Some o) → if_named (is_actor o.membership) context.caller ≡ true
    → WasRead (kind_in collection) operation → (objects_rules collection).lacks (in_state (Some o) context) operation ≡ false → (objects_rules collection).own_refusal (in_state (Some o) context) operation ≡ None
    → LeadsToConditions (Some o) ((objects_rules collection).does (in_state (Some o) context) operation)
objects_do collection context o objects.List meets known read found refused = meets
objects_do collection context o (objects.Create object) meets known read found refused =
    created_in collection context o (name_of object) object meets known (new_in collection object read) (not_refused AlreadyExists (is_taken collection (name_of object) (Some o)) refused)
objects_do collection context o (objects.Show name) meets known read found refused = meets
objects_do collection context o (objects.Replace name object) meets known read found refused =
    replace_keeps o (key (kind_in collection) name) object meets (named_there (kind_in collection) name (Some o) found)
    (stored_in collection name object (again_in collection name object read.0 read.1)) (λ bag id named same. absurd (no_item_in collection name (item_name bag id) same))
objects_do collection context o (objects.Remove name) meets known read found refused =
    removed_in collection o name meets (not_refused NotAllowed (is_fixed collection name) refused)

-- nothing is done to an organisation that isn't there
objects_undone : (collection : Collection) (context : Context) (operation : ObjectsOperation)
    → LeadsToConditions None ((objects_rules collection).does (in_state None context) operation)
objects_undone collection context objects.List = tt
objects_undone collection context (objects.Create object) = none_created collection (in_state None context) (name_of object) object
objects_undone collection context (objects.Show name) = tt
objects_undone collection context (objects.Replace name object) = tt
objects_undone collection context (objects.Remove name) = none_removed collection name

objects_in : (collection : Collection) (context : Context) (state : State) (operation : ObjectsOperation) → MeetsConditions state → if_named (is_actor (membership_of state)) context.caller ≡ true
    → WasRead (kind_in collection) operation → (objects_rules collection).lacks (in_state state context) operation ≡ false
    → (objects_rules collection).own_refusal (in_state state context) operation ≡ None
    → LeadsToConditions state ((objects_rules collection).does (in_state state context) operation)
objects_in collection context None operation meets known read found refused = objects_undone collection context operation
objects_in collection context (Some o) operation meets known read found refused = objects_do collection context o operation meets known read found refused

pub objects_keep : (collection : Collection) → KeepsConditions Someone (objects_rules collection)
objects_keep collection context route request operation meets known asked found refused =
    objects_in collection context context.state operation meets known (asked_read collection route request.verb request.body operation asked) found refused

-- ---- data bags and their items

-- the operation's object was read from a body, a bag's or an item's
abbrev pub DataWasRead : DataOperation → Type 0
DataWasRead bags.ListBags = Unit {0}
DataWasRead (bags.CreateBag object) = IsRead kinds.Bag None object
DataWasRead (bags.ListItems bag) = Unit {0}
DataWasRead (bags.CreateItem bag item) = IsRead kinds.Item None item
DataWasRead (bags.RemoveBag bag) = Unit {0}
DataWasRead (bags.ShowItem bag id) = Unit {0}
DataWasRead (bags.ReplaceItem bag id item) = (is_name id ≡ true) × IsRead kinds.Item (Some id) item
DataWasRead (bags.RemoveItem bag id) = Unit {0}

creating_bag_read : (read : Result Doc Refusal) (operation : DataOperation) → ((object : Doc) → read ≡ Ok object → IsRead kinds.Bag None object) → creating_bag read ≡ Ok operation → DataWasRead operation
creating_bag_read (Ok object) operation reads is = let same : bags.CreateBag object ≡ operation = cc is in subst DataWasRead same (reads object refl)
creating_bag_read (Err refusal) operation reads is = cc

creating_item_read : (bag : List ℕ) (read : Result Doc Refusal) (operation : DataOperation) → ((item : Doc) → read ≡ Ok item → IsRead kinds.Item None item) → creating_item bag read ≡ Ok operation → DataWasRead operation
creating_item_read bag (Ok item) operation reads is = let same : bags.CreateItem bag item ≡ operation = cc is in subst DataWasRead same (reads item refl)
creating_item_read bag (Err refusal) operation reads is = cc

replacing_item_read : (bag id : List ℕ) (read : Result Doc Refusal) (operation : DataOperation) → is_name id ≡ true → ((item : Doc) → read ≡ Ok item → IsRead kinds.Item (Some id) item)
    → replacing_item bag id read ≡ Ok operation → DataWasRead operation
replacing_item_read bag id (Ok item) operation named reads is = let same : bags.ReplaceItem bag id item ≡ operation = cc is in subst DataWasRead same (named, reads item refl)
replacing_item_read bag id (Err refusal) operation named reads is = cc

post_item_read : (b : Bool) (bag : List ℕ) (body : Body) (operation : DataOperation) → post_item b bag body ≡ Ok operation → DataWasRead operation
post_item_read true bag body operation is = creating_item_read bag (object_in_body kinds.Item None body) operation (λ item read. read_body kinds.Item None body item read) is
post_item_read false bag body operation is = cc

put_item_read : (b : Bool) (bag id : List ℕ) (body : Body) (operation : DataOperation) → (is_name bag && is_name id) ≡ b → put_item b bag id body ≡ Ok operation → DataWasRead operation
put_item_read true bag id body operation named is =
    replacing_item_read bag id (object_in_body kinds.Item (Some id) body) operation (and_parts (is_name bag) (is_name id) named).1 (λ item read. read_body kinds.Item (Some id) body item read) is
put_item_read false bag id body operation named is = cc

data_read : (route : DataRoute) (verb : Verb) (body : Body) (operation : DataOperation) → data_asked route verb body ≡ Ok operation → DataWasRead operation
data_read data_route.Bags Get body operation is = let same : bags.ListBags ≡ operation = cc is in subst DataWasRead same tt
data_read data_route.Bags Post body operation is = creating_bag_read (object_in_body kinds.Bag None body) operation (λ object read. read_body kinds.Bag None body object read) is
data_read data_route.Bags Put body operation is = cc
data_read data_route.Bags Delete body operation is = cc
data_read data_route.Bags Other body operation is = cc
data_read (data_route.Bag bag) Get body operation is = let same : bags.ListItems bag ≡ operation = cc is in subst DataWasRead same tt
data_read (data_route.Bag bag) Post body operation is = post_item_read (is_name bag) bag body operation is
data_read (data_route.Bag bag) Put body operation is = cc
data_read (data_route.Bag bag) Delete body operation is = let same : bags.RemoveBag bag ≡ operation = cc is in subst DataWasRead same tt
data_read (data_route.Bag bag) Other body operation is = cc
data_read (data_route.Item bag id) Get body operation is = let same : bags.ShowItem bag id ≡ operation = cc is in subst DataWasRead same tt
data_read (data_route.Item bag id) Post body operation is = cc
data_read (data_route.Item bag id) Put body operation is = put_item_read _ bag id body operation refl is
data_read (data_route.Item bag id) Delete body operation is = let same : bags.RemoveItem bag id ≡ operation = cc is in subst DataWasRead same tt
data_read (data_route.Item bag id) Other body operation is = cc

-- the bag that isn't missing
bag_found : (bag : List ℕ) (state : State) → lacks_bag bag state ≡ false → (is_name bag ≡ true) × (has_object state kinds.Bag bag ≡ true)
bag_found bag state found = and_parts (is_name bag) (has_object state kinds.Bag bag) (not_false _ found)

-- an item that was read is what is stored under its bag and id
item_stored : (bag id : List ℕ) (path : Option (List ℕ)) (item : Doc) → is_name bag ≡ true → IfSome path (λ n. IsTrue (is_name n)) → IsRead kinds.Item path item → name_in kinds.Item item ≡ Some id
    → IsItem (item_name bag id) item
item_stored bag id path item named known (doc, read) has = (bag, id, refl, named, id_from path doc item id known read has, has)

new_item : (bag : List ℕ) (item : Doc) → is_name bag ≡ true → IsRead kinds.Item None item → IsItem (item_name bag (id_of item)) item
new_item bag item named (doc, read) =
    let found = some_named (name_in kinds.Item item) (named_from kinds.Item None doc item tt read) in
    let text = text_named (part_at (codes "id") item) found.0 found.1 in
    subst (λ (id : List ℕ). IsItem (item_name bag id) item) (sym text.0) (item_stored bag found.0 None item named tt (doc, read) found.1)

item_again : (bag id : List ℕ) (item : Doc) → is_name bag ≡ true → is_name id ≡ true → IsRead kinds.Item (Some id) item → IsItem (item_name bag id) item
item_again bag id item named id_named (doc, read) = item_stored bag id (Some id) item named id_named (doc, read) (named_from kinds.Item (Some id) doc item id_named read)

item_put_in : (o : Organisation) (bag id : List ℕ) (item : Doc) → MeetsConditions (Some o) → is_name bag ≡ true → has o.objects kinds.Bag bag ≡ true → IsItem (item_name bag id) item
    → MeetsConditions (after_moves (move.Put (key kinds.Item (item_name bag id)) item ∷ []) (Some o))
item_put_in o bag id item meets named there this =
    put_item_keeps o (item_name bag id) item meets this
    (λ other other_id other_named same.
    let one : other ≡ bag = one_bag other other_id bag id other_named named (ap (λ (k : Key). k.name) same) in
    subst (λ (b : List ℕ). has o.objects kinds.Bag b ≡ true) (sym one) there)

-- the item that isn't missing
item_found : (bag id : List ℕ) (state : State) → lacks_item bag id state ≡ false → (is_name bag ≡ true) × (has_object state kinds.Bag bag ≡ true)
item_found bag id state found =
    let parts = and_parts (is_name bag && is_name id) (has_object state kinds.Bag bag && has_object state kinds.Item (item_name bag id)) (not_false _ found) in
    ((and_parts (is_name bag) (is_name id) parts.0).0, (and_parts (has_object state kinds.Bag bag) (has_object state kinds.Item (item_name bag id)) parts.1).0)

data_do : (context : Context) (o : Organisation) (operation : DataOperation) → MeetsConditions (Some o) → if_named (is_actor o.membership) context.caller ≡ true → DataWasRead operation
    → data_rules.lacks (in_state (Some o) context) operation ≡ false → LeadsToConditions (Some o) (data_rules.does (in_state (Some o) context) operation)
data_do context o bags.ListBags meets known read found = meets
data_do context o (bags.CreateBag object) meets known read found =
    create_keeps o (key kinds.Bag (name_of object)) object _ meets (listed_key kinds.Bag (name_of object) refl (λ client. refl) refl) (named_new kinds.Bag object refl refl read)
    (created_known container.Data context o meets.1.0 known)
data_do context o (bags.ListItems bag) meets known read found = meets
data_do context o (bags.CreateItem bag item) meets known read found =
    let there = bag_found bag (Some o) found in
    item_put_in o bag (id_of item) item meets there.0 there.1 (new_item bag item there.0 read)
data_do context o (bags.RemoveBag bag) meets known read found = remove_bag_keeps (Some o) bag meets
data_do context o (bags.ShowItem bag id) meets known read found = meets
data_do context o (bags.ReplaceItem bag id item) meets known read found =
    let there = item_found bag id (Some o) found in
    item_put_in o bag id item meets there.0 there.1 (item_again bag id item there.0 read.0 read.1)
data_do context o (bags.RemoveItem bag id) meets known read found = remove_item_keeps o (item_name bag id) meets

data_undone : (context : Context) (operation : DataOperation) → LeadsToConditions None (data_rules.does (in_state None context) operation)
data_undone context bags.ListBags = tt
data_undone context (bags.CreateBag object) = tt
data_undone context (bags.ListItems bag) = tt
data_undone context (bags.CreateItem bag item) = tt
data_undone context (bags.RemoveBag bag) = remove_bag_keeps None bag tt
data_undone context (bags.ShowItem bag id) = tt
data_undone context (bags.ReplaceItem bag id item) = tt
data_undone context (bags.RemoveItem bag id) = tt

data_in : (context : Context) (state : State) (operation : DataOperation) → MeetsConditions state → if_named (is_actor (membership_of state)) context.caller ≡ true → DataWasRead operation
    → data_rules.lacks (in_state state context) operation ≡ false → LeadsToConditions state (data_rules.does (in_state state context) operation)
data_in context None operation meets known read found = data_undone context operation
data_in context (Some o) operation meets known read found = data_do context o operation meets known read found

pub data_keep : KeepsConditions Someone data_rules
data_keep context route request operation meets known asked found refused =
    data_in context context.state operation meets known (data_read route request.verb request.body operation asked) found
