-- These groups refuse for want of a permission by their needs alone.
use Rattle.std.proofs.Common.{ℕ, List, Bool, true, false, ◌&&◌, Some, None, IfSome, is_some, Result, Ok, Err}
use Rattle.doc_tree.specs.Doc.{Doc}
use Rattle.doc_tree.specs.Name.{is_name}
use Rattle.doc_tree.specs.declared.kind.Kind.{Kind}
use Rattle.doc_tree.specs.declared.kind.Kind.TheVariants as kinds
use Rattle.object_store.specs.Items.{item_name}
use Rattle.org_requests.specs.declared.verbs.Verb.{Verb}
use Rattle.org_requests.specs.declared.verbs.Verb.TheVariants.{Get, Post, Put, Delete, Other}
use Rattle.org_core.proofs.PlainLemmas.{body_plain, absent_plain, refuses_plain}
use Rattle.org_core.specs.Bodies.{object_in_body}
use Rattle.org_requests.specs.Collections.{kind_in}
use Rattle.org_core.specs.Contexts.{Context}
use Rattle.org_core.specs.Plain.{IsPlain, RefusesPlainly, NeverForbids}
use Rattle.org_core.specs.States.{has_object}
use Rattle.org_requests.specs.declared.collections.Collection.{Collection}
use Rattle.org_requests.specs.declared.refusals.Refusal.{Refusal}
use Rattle.org_requests.specs.declared.refusals.Refusal.TheVariants.{NotAllowed, AlreadyExists}
use Rattle.org_requests.specs.declared.requests.Body.{Body}
use Rattle.org_requests.specs.Routes.{DataRoute}
use Rattle.org_requests.specs.declared.routes.DataRouteOf.TheVariants as data_route
use Rattle.org_requests.specs.Routes.{ObjectsRoute}
use Rattle.org_requests.specs.declared.routes.ObjectsRouteOf.TheVariants.{All, One}
use Rattle.org_requests.specs.declared.routes.OrganisationRoute.{OrganisationRoute}
use Rattle.org_requests.specs.declared.routes.OrganisationRoute.TheVariants.{Create, Whole}
use Rattle.object_routes.specs.DataBags.{data_rules, data_asked, data_refusal, post_item, put_item, id_of}
use Rattle.object_routes.specs.Objects.{objects_rules, objects_asked, objects_refusal, name_of, put_one, is_taken, is_fixed}
use Rattle.object_routes.specs.Operations.{creating, replacing, creating_bag, creating_item, replacing_item}
use Rattle.object_routes.specs.Organisations.{organisation_rules, organisation_asked}
use Rattle.object_routes.specs.declared.operations.DataOperation.{DataOperation}
use Rattle.object_routes.specs.declared.operations.DataOperation.TheVariants as bags
use Rattle.object_routes.specs.declared.operations.ObjectsOperation.{ObjectsOperation}
use Rattle.object_routes.specs.declared.operations.ObjectsOperation.TheVariants as objects
use Rattle.object_routes.specs.declared.operations.OrganisationOperation.{OrganisationOperation}
use Rattle.object_routes.specs.declared.operations.OrganisationOperation.TheVariants as organisation

-- ---- organisations

organisation_plain : (route : OrganisationRoute) (verb : Verb) → RefusesPlainly (organisation_asked route verb)
organisation_plain Create Get = tt
organisation_plain Create Post = tt
organisation_plain Create Put = tt
organisation_plain Create Delete = tt
organisation_plain Create Other = tt
organisation_plain Whole Get = tt
organisation_plain Whole Post = tt
organisation_plain Whole Put = tt
organisation_plain Whole Delete = tt
organisation_plain Whole Other = tt

organisation_own : (context : Context) (operation : OrganisationOperation) → IfSome (organisation_rules.own_refusal context operation) IsPlain
organisation_own context organisation.Create = refuses_plain AlreadyExists (is_some context.state) tt
organisation_own context organisation.Show = tt

organisation_does_plain : (context : Context) (operation : OrganisationOperation) → RefusesPlainly (organisation_rules.does context operation).answer
organisation_does_plain context organisation.Create = tt
organisation_does_plain context organisation.Show = tt

pub organisations_never_forbid : NeverForbids organisation_rules
organisations_never_forbid = record {
  operation = λ context route request. organisation_plain route request.verb;
  own_refusal = organisation_own;
  does = organisation_does_plain;
}

-- ---- collections of objects

creating_plain : (read : Result Doc Refusal) → RefusesPlainly read → RefusesPlainly (creating read)
creating_plain (Ok object) plain = tt
creating_plain (Err refusal) plain = plain

replacing_plain : (name : List ℕ) (read : Result Doc Refusal) → RefusesPlainly read → RefusesPlainly (replacing name read)
replacing_plain name (Ok object) plain = tt
replacing_plain name (Err refusal) plain = plain

put_plain : (b : Bool) (kind : Kind) (name : List ℕ) (body : Body) → RefusesPlainly (put_one b kind name body)
put_plain true kind name body = replacing_plain name (object_in_body kind (Some name) body) (body_plain kind (Some name) body)
put_plain false kind name body = absent_plain body

objects_plain : (collection : Collection) (route : ObjectsRoute) (verb : Verb) (body : Body) → RefusesPlainly (objects_asked collection route verb body)
objects_plain collection All Get body = tt
objects_plain collection All Post body = creating_plain (object_in_body (kind_in collection) None body) (body_plain (kind_in collection) None body)
objects_plain collection All Put body = tt
objects_plain collection All Delete body = tt
objects_plain collection All Other body = tt
objects_plain collection (One name) Get body = tt
objects_plain collection (One name) Post body = tt
objects_plain collection (One name) Put body = put_plain (is_name name) (kind_in collection) name body
objects_plain collection (One name) Delete body = tt
objects_plain collection (One name) Other body = tt

objects_own : (collection : Collection) (context : Context) (operation : ObjectsOperation) → IfSome (objects_refusal collection context operation) IsPlain
objects_own collection context objects.List = tt
objects_own collection context (objects.Create object) = refuses_plain AlreadyExists (is_taken collection (name_of object) context.state) tt
objects_own collection context (objects.Show name) = tt
objects_own collection context (objects.Replace name object) = refuses_plain NotAllowed (is_fixed collection name) tt
objects_own collection context (objects.Remove name) = refuses_plain NotAllowed (is_fixed collection name) tt

objects_does_plain : (collection : Collection) (context : Context) (operation : ObjectsOperation) → RefusesPlainly ((objects_rules collection).does context operation).answer
objects_does_plain collection context objects.List = tt
objects_does_plain collection context (objects.Create object) = tt
objects_does_plain collection context (objects.Show name) = tt
objects_does_plain collection context (objects.Replace name object) = tt
objects_does_plain collection context (objects.Remove name) = tt

pub objects_never_forbid : (collection : Collection) → NeverForbids (objects_rules collection)
objects_never_forbid collection = record {
  operation = λ context route request. objects_plain collection route request.verb request.body;
  own_refusal = objects_own collection;
  does = objects_does_plain collection;
}

-- ---- data bags and their items

creating_bag_plain : (read : Result Doc Refusal) → RefusesPlainly read → RefusesPlainly (creating_bag read)
creating_bag_plain (Ok object) plain = tt
creating_bag_plain (Err refusal) plain = plain

creating_item_plain : (bag : List ℕ) (read : Result Doc Refusal) → RefusesPlainly read → RefusesPlainly (creating_item bag read)
creating_item_plain bag (Ok item) plain = tt
creating_item_plain bag (Err refusal) plain = plain

replacing_item_plain : (bag id : List ℕ) (read : Result Doc Refusal) → RefusesPlainly read → RefusesPlainly (replacing_item bag id read)
replacing_item_plain bag id (Ok item) plain = tt
replacing_item_plain bag id (Err refusal) plain = plain

post_item_plain : (b : Bool) (bag : List ℕ) (body : Body) → RefusesPlainly (post_item b bag body)
post_item_plain true bag body = creating_item_plain bag (object_in_body kinds.Item None body) (body_plain kinds.Item None body)
post_item_plain false bag body = absent_plain body

put_item_plain : (b : Bool) (bag id : List ℕ) (body : Body) → RefusesPlainly (put_item b bag id body)
put_item_plain true bag id body = replacing_item_plain bag id (object_in_body kinds.Item (Some id) body) (body_plain kinds.Item (Some id) body)
put_item_plain false bag id body = absent_plain body

data_plain : (route : DataRoute) (verb : Verb) (body : Body) → RefusesPlainly (data_asked route verb body)
data_plain data_route.Bags Get body = tt
data_plain data_route.Bags Post body = creating_bag_plain (object_in_body kinds.Bag None body) (body_plain kinds.Bag None body)
data_plain data_route.Bags Put body = tt
data_plain data_route.Bags Delete body = tt
data_plain data_route.Bags Other body = tt
data_plain (data_route.Bag bag) Get body = tt
data_plain (data_route.Bag bag) Post body = post_item_plain (is_name bag) bag body
data_plain (data_route.Bag bag) Put body = tt
data_plain (data_route.Bag bag) Delete body = tt
data_plain (data_route.Bag bag) Other body = tt
data_plain (data_route.Item bag id) Get body = tt
data_plain (data_route.Item bag id) Post body = tt
data_plain (data_route.Item bag id) Put body = put_item_plain (is_name bag && is_name id) bag id body
data_plain (data_route.Item bag id) Delete body = tt
data_plain (data_route.Item bag id) Other body = tt

data_own : (context : Context) (operation : DataOperation) → IfSome (data_refusal context operation) IsPlain
data_own context bags.ListBags = tt
data_own context (bags.CreateBag object) = refuses_plain AlreadyExists (has_object context.state kinds.Bag (name_of object)) tt
data_own context (bags.ListItems bag) = tt
data_own context (bags.CreateItem bag item) = refuses_plain AlreadyExists (has_object context.state kinds.Item (item_name bag (id_of item))) tt
data_own context (bags.RemoveBag bag) = tt
data_own context (bags.ShowItem bag id) = tt
data_own context (bags.ReplaceItem bag id item) = tt
data_own context (bags.RemoveItem bag id) = tt

data_does_plain : (context : Context) (operation : DataOperation) → RefusesPlainly (data_rules.does context operation).answer
data_does_plain context bags.ListBags = tt
data_does_plain context (bags.CreateBag object) = tt
data_does_plain context (bags.ListItems bag) = tt
data_does_plain context (bags.CreateItem bag item) = tt
data_does_plain context (bags.RemoveBag bag) = tt
data_does_plain context (bags.ShowItem bag id) = tt
data_does_plain context (bags.ReplaceItem bag id item) = tt
data_does_plain context (bags.RemoveItem bag id) = tt

pub data_never_forbid : NeverForbids data_rules
data_never_forbid = record {
  operation = λ context route request. data_plain route request.verb request.body;
  own_refusal = data_own;
  does = data_does_plain;
}
