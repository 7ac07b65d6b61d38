-- What is stored of a body has its name, and an item has an id.
use Rattle.std.proofs.Common.{◌≡◌, ℕ, List, [], Bool, true, false, cond, ◌&&◌, IsTrue, IfSome, Option, Some, None, option_and_then, Result, Ok, Err, bytes_eq, codes, refl, sym, ap, subst, ◌∙◌}
use Rattle.std.proofs.lemmas.Option.{same_Some}
use Rattle.doc_tree.specs.Doc.{Doc, null, boolean, whole, words, list, dict, Pairs, pairs_of, pairs_list}
use Rattle.doc_tree.specs.Name.{is_name}
use Rattle.doc_tree.specs.Part.{pair_at}
use Rattle.doc_tree.specs.declared.kind.Kind.{Kind}
use Rattle.doc_tree.specs.declared.kind.Kind.TheVariants.{Org, Node, Role, Environment, Bag, Client, User, Group, Container, Item, Cookbook, Artifact, Policy, PolicyGroup, Acl, Sandbox, File}
use Rattle.object_forms.specs.Fields.{sent, taken, then_do, fields_of}
use Rattle.object_forms.specs.Forms.{is_text, is_id, name_from}
use Rattle.object_forms.specs.Objects.{key_of, name_row, is_no_id, made_of, object_of, object_from, by_table, body_of, name_in, HasName}
use Rattle.object_forms.proofs.GroupBodiesLemmas.{named_doc}
use Rattle.object_forms.proofs.NamedLemmas.{same_Ok, named_made}
use Rattle.object_forms.proofs.PairLemmas.{pair_at-own}

named_of : (kind : Kind) (path : Option (List ℕ)) (body object : Doc) → IfSome path (λ n. IsTrue (is_name n)) → object_of kind path body ≡ Ok object → HasName kind path object
named_of kind path null object known is = cc
named_of kind path (boolean b) object known is = cc
named_of kind path (whole z) object known is = cc
named_of kind path (words text) object known is = cc
named_of kind path (list ds) object known is = cc
named_of kind path (dict ps) object known is = named_made kind path ps _ object known refl is

not_refused : (refused : Bool) (field : List ℕ) (read : Result Doc (List ℕ)) (object : Doc) → cond refused (Err field) read ≡ Ok object → (refused ≡ false) × (read ≡ Ok object)
not_refused true field read object is = cc
not_refused false field read object is = (refl, is)

named_by_table : (kind : Kind) (path : Option (List ℕ)) (body object : Doc) → IfSome path (λ n. IsTrue (is_name n)) → by_table kind path body ≡ Ok object → HasName kind path object
named_by_table kind path body object known is =
    named_of kind path (body_of kind body) object known (not_refused (is_no_id kind path) (key_of kind) (object_of kind path (body_of kind body)) object is).1

-- an object that was read has its name
pub named_from : (kind : Kind) (path : Option (List ℕ)) (body object : Doc) → IfSome path (λ n. IsTrue (is_name n)) → object_from kind path body ≡ Ok object → HasName kind path object
named_from Org path body object known is = named_by_table Org path body object known is
named_from Node path body object known is = named_by_table Node path body object known is
named_from Role path body object known is = named_by_table Role path body object known is
named_from Environment path body object known is = named_by_table Environment path body object known is
named_from Bag path body object known is = named_by_table Bag path body object known is
named_from Client path body object known is = named_by_table Client path body object known is
named_from User path body object known is = named_by_table User path body object known is
named_from Group path body object known is = named_doc path body object known is
named_from Container path body object known is = named_by_table Container path body object known is
named_from Item path body object known is = named_by_table Item path body object known is
named_from Cookbook path body object known is = named_by_table Cookbook path body object known is
named_from Artifact path body object known is = named_by_table Artifact path body object known is
named_from Policy path body object known is = named_by_table Policy path body object known is
named_from PolicyGroup path body object known is = named_by_table PolicyGroup path body object known is
named_from Acl path body object known is = named_by_table Acl path body object known is
named_from Sandbox path body object known is = named_by_table Sandbox path body object known is
named_from File path body object known is = named_by_table File path body object known is

name_of_text : (d : Doc) (name : List ℕ) → name_from d ≡ Some name → d ≡ words name
name_of_text null name is = cc
name_of_text (boolean b) name is = cc
name_of_text (whole z) name is = cc
name_of_text (words text) name is =
    elim (is_name text) as (λ b. cond b (Some text) None ≡ Some name → words text ≡ words name) [
      | true ↦ λ same. ap (λ t. words t) (same_Some text name same)
      | false ↦ λ none. cc
    ] is
name_of_text (list ds) name is = cc
name_of_text (dict ps) name is = cc

-- an item that came without a path has at `id` what has the form of an id
id_stored : (found : Option Doc) (ps : Pairs) (made out : List (List ℕ × Doc)) (id : List ℕ) → taken (name_row Item None) found made ≡ Ok out
    → option_and_then name_from (pair_at (codes "id") (pairs_of out)) ≡ Some id → is_id id ≡ true
id_stored None ps made out id is named = cc
id_stored (Some d) ps made out id is named =
    elim (is_text is_id d) as (λ b. is_text is_id d ≡ b → sent (codes "id") (cond b (Some d) None) made ≡ Ok out → is_id id ≡ true) [
      | true ↦ λ form put.
          let there : pair_at (codes "id") (pairs_of out) ≡ Some d = ap (λ ps. pair_at (codes "id") (pairs_of ps)) (sym (same_Ok _ _ put)) ∙ pair_at-own (codes "id") d made in
          let text : d ≡ words id = name_of_text d id (sym (ap (option_and_then name_from) there) ∙ named) in
          subst (λ (e : Doc). is_text is_id e ≡ true) text form
      | false ↦ λ form put. cc
    ] refl is

id_made : (ps : Pairs) (step : Result (List (List ℕ × Doc)) (List ℕ)) (made : List (List ℕ × Doc)) (item : Doc) (id : List ℕ) → taken (name_row Item None) (pair_at (codes "id") ps) made ≡ step
    → made_of (then_do step (fields_of [] ps)) ≡ Ok item → name_in Item item ≡ Some id → is_id id ≡ true
id_made ps (Err field) made item id here is named = cc
id_made ps (Ok out) made item id here is named =
    id_stored (pair_at (codes "id") ps) ps made out id here (subst (λ (d : Doc). name_in Item d ≡ Some id) (sym (same_Ok _ _ is)) named)

id_of : (body item : Doc) (id : List ℕ) → object_of Item None body ≡ Ok item → name_in Item item ≡ Some id → is_id id ≡ true
id_of null item id is named = cc
id_of (boolean b) item id is named = cc
id_of (whole z) item id is named = cc
id_of (words text) item id is named = cc
id_of (list ds) item id is named = cc
id_of (dict ps) item id is named = id_made ps _ (pairs_list ps) item id refl is named

no_list : (name : List ℕ) (refused : Bool) → bytes_eq name (codes "_acl") ≡ refused → (refused && true) ≡ false → is_name name ≡ true → is_id name ≡ true
no_list name true is allowed named = cc
no_list name false is allowed named = rw (is, named) refl

-- an item that was read has an id
pub id_from : (path : Option (List ℕ)) (body item : Doc) (id : List ℕ) → IfSome path (λ n. IsTrue (is_name n)) → object_from Item path body ≡ Ok item → name_in Item item ≡ Some id → is_id id ≡ true
id_from None body item id known is named = id_of (body_of Item body) item id is named
id_from (Some name) body item id known is named =
    let same : name ≡ id = same_Some name id (sym (named_from Item (Some name) body item known is) ∙ named) in
    subst (λ (n : List ℕ). is_id n ≡ true) same (no_list name _ refl (not_refused (is_no_id Item (Some name)) (key_of Item) (object_of Item (Some name) (body_of Item body)) item is).0 known)
