-- The clients are those whose objects are laid.
use Rattle.std.proofs.Common.{◌≡◌, List, [], ◌∷◌, Bool, true, false, cond, ◌&&◌, ◌||◌, Option, Some, is_some, bytes_eq, refl, sym, ap, ◌∙◌}
use Rattle.std.specs.Cmp.Lexicographic.{nat_list_cmp_total}
use Rattle.std.specs.FinMap as finite
use Rattle.std.specs.FinSet as set
use Rattle.doc_tree.specs.Doc.{Doc}
use Rattle.doc_tree.specs.Text.{text_cmp}
use Rattle.doc_tree.specs.declared.kind.Kind.TheVariants as kinds
use Rattle.membership.proofs.TextSetLemmas.{tied}
use Rattle.membership.specs.Changes.{with_client}
use Rattle.object_store.proofs.KeysLemmas.{same_key-key}
use Rattle.object_store.specs.Keys.{is_of, key, key_cmp, key_cmp_total}
use Rattle.object_store.specs.declared.key.Key.{Key}
use Rattle.org_core.specs.AccessConditions.{HasItsClients}
use Rattle.org_core.specs.States.{Organisation, nothing}
use Rattle.row_reading.specs.declared.said.Said.{Said}
use Rattle.row_reading.specs.declared.said.Said.TheVariants.{Count, Object, User, Group, Container, Version, Artifact, Revision, PolicyGroup, List as AList, Sandbox, File}
use Rattle.row_laying.specs.Laying.{with_said, with_all}

-- a client's object is put in
comes_too : (b : Bool) (object : Doc) (found : Option Doc) (contained : Bool) → contained ≡ is_some found → (b || contained) ≡ is_some (cond b (Some object) found)
comes_too true object found contained same = refl
comes_too false object found contained same = same

as_before : (object : Doc) (found : Option Doc) (contained : Bool) → contained ≡ is_some found → contained ≡ is_some (cond false (Some object) found)
as_before object found contained same = same

clients_put : (key' : Key) (object : Doc) (o : Organisation) → HasItsClients o → HasItsClients (with_said (Object key' object) o)
clients_put key' object o same name =
    elim (is_of kinds.Client key') as (λ b. is_of kinds.Client key' ≡ b
    → set.contains (cond b (with_client key'.name o.membership) o.membership).clients name ≡ is_some (finite.get (finite.insert o.objects key' object) (key kinds.Client name))) [
      | true ↦ λ is.
          set.contains-insert nat_list_cmp_total o.membership.clients key'.name name
          ∙ ap (λ b. b || set.contains o.membership.clients name) (tied name key'.name)
          ∙ comes_too (bytes_eq name key'.name) object (finite.get o.objects (key kinds.Client name)) (set.contains o.membership.clients name) (same name)
          ∙ ap (λ b. is_some (cond (b && bytes_eq name key'.name) (Some object) (finite.get o.objects (key kinds.Client name)))) (sym is)
          ∙ ap (λ b. is_some (cond b (Some object) (finite.get o.objects (key kinds.Client name)))) (sym (same_key-key kinds.Client name key'))
          ∙ ap is_some (sym (finite.get-insert key_cmp_total o.objects key' object (key kinds.Client name)))
      | false ↦ λ is.
          as_before object (finite.get o.objects (key kinds.Client name)) (set.contains o.membership.clients name) (same name)
          ∙ ap (λ b. is_some (cond (b && bytes_eq name key'.name) (Some object) (finite.get o.objects (key kinds.Client name)))) (sym is)
          ∙ ap (λ b. is_some (cond b (Some object) (finite.get o.objects (key kinds.Client name)))) (sym (same_key-key kinds.Client name key'))
          ∙ ap is_some (sym (finite.get-insert key_cmp_total o.objects key' object (key kinds.Client name)))
    ] refl

clients_step : (said : Said) (o : Organisation) → HasItsClients o → HasItsClients (with_said said o)
clients_step (Count n) o same = same
clients_step (Object key' object) o same = clients_put key' object o same
clients_step (User name) o same = same
clients_step (Group name group) o same = same
clients_step (Container name) o same = same
clients_step (Version name version manifest) o same = same
clients_step (Artifact name id manifest) o same = same
clients_step (Revision policy id lock) o same = same
clients_step (PolicyGroup name policies) o same = same
clients_step (AList key' acl) o same = same
clients_step (Sandbox id checksums) o same = same
clients_step (File bytes committed) o same = same

clients_all : (all : List Said) (o : Organisation) → HasItsClients o → HasItsClients (with_all all o)
clients_all [] o same = same
clients_all (first ∷ rest) o same = clients_all rest (with_said first o) (clients_step first o same)

pub has_its_clients : (all : List Said) → HasItsClients (with_all all nothing)
has_its_clients all = clients_all all nothing (λ name. set.contains-empty text_cmp name ∙ ap is_some (sym (finite.get-empty key_cmp (key kinds.Client name))))
