-- A group is named as it should be, and what a body gave is read as itself.
use Rattle.std.proofs.Common.{◌≡◌, ℕ, List, [], Bool, true, false, cond, IsTrue, IfSome, IfOk, Option, Some, None, option_map, option_and_then, is_some, Result, Ok, Err, bytes_eq, codes, refl, sym, ap, subst, ◌∙◌}
use Rattle.std.proofs.lemmas.Option.{same_Some}
use Rattle.std.specs.Cmp.Lexicographic.{nat_list_eq_equiv}
use Rattle.std.specs.List.Sorted.{IsStrictlySortedBy}
use Rattle.doc_tree.specs.Doc.{Doc, null, boolean, whole, words, list, dict, Pairs}
use Rattle.doc_tree.specs.Name.{is_name}
use Rattle.doc_tree.specs.Part.{pair_at}
use Rattle.doc_tree.specs.Tree.{doc_of}
use Rattle.doc_tree.specs.declared.tree.Tree.{Tree}
use Rattle.doc_tree.specs.declared.kind.Kind.{Kind}
use Rattle.doc_tree.specs.declared.kind.Kind.TheVariants.{Org, Node, Role, Environment, Bag, Client, User, Group, Container, Item, Cookbook, Artifact, Policy, PolicyGroup, Acl, Sandbox, File}
use Rattle.membership.specs.TextTrees.{texts_in, texts_doc}
use Rattle.membership.specs.TextSets.{in_order}
use Rattle.membership.proofs.TextTreesLemmas.{texts_back}
use Rattle.membership.proofs.TextSetLemmas.{in_order-again, in_order-rising}
use Rattle.object_forms.specs.declared.fault.FormFault.{FormFault}
use Rattle.object_forms.specs.Forms.{is_text, name_from}
use Rattle.object_forms.specs.GroupBodies.{group_key, group_name, members_from, actors_doc, actors_from, nobody, sent_actors, group_actors, group_doc, group_with, group_named, group_from}
use Rattle.object_forms.specs.Kinds.{is_group}
use Rattle.object_forms.specs.Objects.{name_in, NamedBy, HasName}
use Rattle.object_forms.specs.Outcomes.{Gives}
use Rattle.object_forms.proofs.NamedLemmas.{same_Ok}

-- ---- the name

cond_name : (text name : List ℕ) (b : Bool) → is_name text ≡ b → cond b (Some text) None ≡ Some name → is_name name ≡ true
cond_name text name true is same = ap is_name (sym (same_Some _ _ same)) ∙ is
cond_name text name false is same = cc

-- a name that was found is one
from_is_name : (found : Option Doc) (name : List ℕ) → option_and_then name_from found ≡ Some name → is_name name ≡ true
from_is_name None name is = cc
from_is_name (Some null) name is = cc
from_is_name (Some (boolean b)) name is = cc
from_is_name (Some (whole z)) name is = cc
from_is_name (Some (words text)) name is = cond_name text name (is_name text) refl is
from_is_name (Some (list ds)) name is = cc
from_is_name (Some (dict ps)) name is = cc

cond_path : (path name : List ℕ) (b : Bool) → cond b (Some path) None ≡ Some name → path ≡ name
cond_path path name true is = same_Some _ _ is
cond_path path name false is = cc

path_is : (path : List ℕ) (found : Option Doc) (name : List ℕ) → group_name (Some path) found ≡ Some name → path ≡ name
path_is path None name is = same_Some _ _ is
path_is path (Some d) name is = cond_path path name (is_text (bytes_eq path) d) is

-- a group is named as its name is found
named_by : (path : Option (List ℕ)) (found : Option Doc) (name : List ℕ) → IfSome path (λ n. IsTrue (is_name n)) → group_name path found ≡ Some name → NamedBy path (cond (is_name name) (Some name) None)
named_by None found name known is = ap (λ b. is_some (cond b (Some name) None)) (from_is_name found name is)
named_by (Some path) found name known is =
    let same = path_is path found name is in
    ap (λ b. cond b (Some name) None) (ap is_name (sym same) ∙ known) ∙ ap Some (sym same)

with_actors : (path : Option (List ℕ)) (name : List ℕ) (actors : Option Doc) (d : Doc) → NamedBy path (cond (is_name name) (Some name) None) → group_with actors name ≡ Ok d → HasName Group path d
with_actors path name None d named is = cc
with_actors path name (Some actors) d named is = subst (HasName Group path) (same_Ok _ _ is) named

with_name : (path : Option (List ℕ)) (found : Option (List ℕ)) (key : List ℕ) (actors : Option Doc) (d : Doc) → ((name : List ℕ) → found ≡ Some name → NamedBy path (cond (is_name name) (Some name) None))
    → group_named found key actors ≡ Ok d → HasName Group path d
with_name path None key actors d named is = cc
with_name path (Some name) key actors d named is = with_actors path name actors d (named name refl) is

-- a group that was read has its name
pub named_doc : (path : Option (List ℕ)) (body d : Doc) → IfSome path (λ n. IsTrue (is_name n)) → group_from path body ≡ Ok d → HasName Group path d
named_doc path null d known is = cc
named_doc path (boolean b) d known is = cc
named_doc path (whole z) d known is = cc
named_doc path (words text) d known is = cc
named_doc path (list ds) d known is = cc
named_doc path (dict ps) d known is =
    with_name path (group_name path (pair_at (group_key ps) ps)) (group_key ps) (group_actors path ps) d (λ name. named_by path (pair_at (group_key ps) ps) name known) is

named_result : (path : Option (List ℕ)) (body : Doc) (result : Result Tree FormFault) → IfSome path (λ n. IsTrue (is_name n)) → Gives result (group_from path body) → IfOk result (λ t. HasName Group path (doc_of t))
named_result path body (Ok tree) known gives = named_doc path body (doc_of tree) known gives
named_result path body (Err cause) known gives = tt

-- a group that was read has its name
pub named_group : (kind : Kind) (path : Option (List ℕ)) (body : Doc) (result : Result Tree FormFault) → is_group kind ≡ true → IfSome path (λ n. IsTrue (is_name n)) → Gives result (group_from path body)
    → IfOk result (λ t. HasName kind path (doc_of t))
named_group Org path body result is known gives = cc
named_group Node path body result is known gives = cc
named_group Role path body result is known gives = cc
named_group Environment path body result is known gives = cc
named_group Bag path body result is known gives = cc
named_group Client path body result is known gives = cc
named_group User path body result is known gives = cc
named_group Group path body result is known gives = named_result path body result known gives
named_group Container path body result is known gives = cc
named_group Item path body result is known gives = cc
named_group Cookbook path body result is known gives = cc
named_group Artifact path body result is known gives = cc
named_group Policy path body result is known gives = cc
named_group PolicyGroup path body result is known gives = cc
named_group Acl path body result is known gives = cc
named_group Sandbox path body result is known gives = cc
named_group File path body result is known gives = cc

-- ---- what was stored is read as itself

-- members are those that some list gives
abbrev pub IsList : List (List ℕ) → Type 0
IsList members = in_order members ≡ members

none_list : IsList []
unfolding IsStrictlySortedBy
none_list = in_order-rising [] tt

members_again : (members : List (List ℕ)) → IsList members → members_from (Some (texts_doc members)) ≡ Some members
members_again members is = ap (option_map in_order) (texts_back members) ∙ ap Some is

members_are : (found : Option Doc) (members : List (List ℕ)) → members_from found ≡ Some members → IsList members
members_are None members is = subst IsList (same_Some _ _ is) none_list
members_are (Some d) members is = from (texts_in d) is
  where
    from : (texts : Option (List (List ℕ))) → option_map in_order texts ≡ Some members → IsList members
    from None is = cc
    from (Some texts) is = subst IsList (same_Some _ _ is) (in_order-again texts)

actors_again : (clients groups users : List (List ℕ)) → IsList clients → IsList groups → IsList users → actors_from (actors_doc clients groups users) ≡ Some (actors_doc clients groups users)
actors_again clients groups users c g u = rw (members_again clients c, members_again groups g, members_again users u) refl

-- the actors of a group are read as they are
abbrev pub AreActors : Doc → Type 0
AreActors actors = actors_from actors ≡ Some actors

actors_are : (clients groups users : Option (List (List ℕ))) (actors : Doc) → ((c : List (List ℕ)) → clients ≡ Some c → IsList c) → ((g : List (List ℕ)) → groups ≡ Some g → IsList g) → ((u : List (List ℕ)) → users ≡ Some u → IsList u)
    → option_and_then (λ c. option_and_then (λ g. option_map (λ u. actors_doc c g u) users) groups) clients ≡ Some actors → AreActors actors
actors_are None groups users actors c g u is = cc
actors_are (Some cs) None users actors c g u is = cc
actors_are (Some cs) (Some gs) None actors c g u is = cc
actors_are (Some cs) (Some gs) (Some us) actors c g u is = subst AreActors (same_Some _ _ is) (actors_again cs gs us (c cs refl) (g gs refl) (u us refl))

from_are : (d actors : Doc) → actors_from d ≡ Some actors → AreActors actors
from_are null actors is = cc
from_are (boolean b) actors is = cc
from_are (whole z) actors is = cc
from_are (words text) actors is = cc
from_are (list ds) actors is = cc
from_are (dict ps) actors is =
    actors_are (members_from (pair_at (codes "clients") ps)) (members_from (pair_at (codes "groups") ps)) (members_from (pair_at (codes "users") ps)) actors
    (members_are (pair_at (codes "clients") ps)) (members_are (pair_at (codes "groups") ps)) (members_are (pair_at (codes "users") ps)) is

nobody_are : AreActors nobody
nobody_are = actors_again [] [] [] none_list none_list none_list

group_actors_are : (path : Option (List ℕ)) (ps : Pairs) (actors : Doc) → group_actors path ps ≡ Some actors → AreActors actors
group_actors_are None ps actors is = subst AreActors (same_Some _ _ is) nobody_are
group_actors_are (Some path) ps actors is = sent (pair_at (codes "actors") ps) is
  where
    sent : (found : Option Doc) → sent_actors found ≡ Some actors → AreActors actors
    sent None is = subst AreActors (same_Some _ _ is) nobody_are
    sent (Some d) is = from_are d actors is

-- a stored group is read as itself under its name
doc_again : (actors : Doc) (own name : List ℕ) → AreActors actors → cond (is_name own) (Some own) None ≡ Some name → group_from (Some name) (group_doc actors own) ≡ Ok (group_doc actors own)
doc_again actors own name are named =
    let same = cond_path own name (is_name own) named in
    subst (λ n. group_from (Some n) (group_doc actors own) ≡ Ok (group_doc actors own)) same (rw (nat_list_eq_equiv.refl own, are) refl)

again_with : (name own : List ℕ) (actors : Option Doc) (d : Doc) → ((a : Doc) → actors ≡ Some a → AreActors a) → group_with actors own ≡ Ok d → name_in Group d ≡ Some name → group_from (Some name) d ≡ Ok d
again_with name own None d are is named = cc
again_with name own (Some actors) d are is named =
    subst (λ (e : Doc). name_in Group e ≡ Some name → group_from (Some name) e ≡ Ok e) (same_Ok _ _ is) (doc_again actors own name (are actors refl)) named

again_named : (name : List ℕ) (found : Option (List ℕ)) (key : List ℕ) (actors : Option Doc) (d : Doc) → ((a : Doc) → actors ≡ Some a → AreActors a) → group_named found key actors ≡ Ok d → name_in Group d ≡ Some name
    → group_from (Some name) d ≡ Ok d
again_named name None key actors d are is named = cc
again_named name (Some own) key actors d are is named = again_with name own actors d are is named

-- what a body gave is read as itself under its name
pub group_again : (path : Option (List ℕ)) (body d : Doc) (name : List ℕ) → group_from path body ≡ Ok d → name_in Group d ≡ Some name → group_from (Some name) d ≡ Ok d
group_again path null d name is named = cc
group_again path (boolean b) d name is named = cc
group_again path (whole z) d name is named = cc
group_again path (words text) d name is named = cc
group_again path (list ds) d name is named = cc
group_again path (dict ps) d name is named =
    again_named name (group_name path (pair_at (group_key ps) ps)) (group_key ps) (group_actors path ps) d (group_actors_are path ps) is named
