-- A source that was read is in order.
use Rattle.std.proofs.Common.{◌≡◌, ℕ, List, [], IfOk, Result, Ok, Err, codes, subst}
use Rattle.doc_tree.specs.Doc.{Doc, dict, Pairs}
use Rattle.doc_tree.specs.Part.{pair_at}
use Rattle.doc_tree.specs.Valid.{ArePairs, IsDoc}
use Rattle.run_lists.specs.Stored.{Stored}
use Rattle.version_rules.specs.declared.needs.Need.{Need}
use Rattle.cookbook_meta.specs.Faults.{then_do}
use Rattle.cookbook_meta.proofs.DoneLemmas.{same_ok, then_done}
use Rattle.policy_locks.specs.Outcomes.{Gives}
use Rattle.policy_locks.specs.Parts.{dict_of, may, must, name_of, named_run_lists, needs_of, read_or, recipes_of}
use Rattle.policy_locks.specs.Sources.{IsInOrder, source_in}
use Rattle.policy_locks.specs.declared.fault.LockFault.{LockFault}
use Rattle.run_lists.specs.declared.by_name.NamedRunList.{NamedRunList}
use Rattle.run_lists.specs.declared.reading.Allowed.TheVariants.{Recipes}
use Rattle.policy_locks.specs.declared.source.PolicySource.{PolicySource}
use Rattle.policy_locks.proofs.FieldLemmas.{must_done}
use Rattle.policy_locks.proofs.OrderLemmas.{lists_order, needs_order}
use Rattle.policy_locks.proofs.PutLemmas.{known_at}

abbrev Dict : Type 0
Dict = List (List ℕ × Doc)

abbrev by_override : Result Dict (List ℕ) → (Dict → PolicySource) → Result PolicySource (List ℕ)
by_override over make = then_do over (λ o. Ok (make o))

abbrev by_default : Result Dict (List ℕ) → Result Dict (List ℕ) → (Dict → Dict → PolicySource) → Result PolicySource (List ℕ)
by_default default over make = then_do default (λ d. by_override over (make d))

abbrev by_cookbooks : Result (List Need) (List ℕ) → Result Dict (List ℕ) → Result Dict (List ℕ) → (List Need → Dict → Dict → PolicySource) → Result PolicySource (List ℕ)
by_cookbooks cookbooks default over make = then_do cookbooks (λ c. by_default default over (make c))

abbrev by_lists : Result (List NamedRunList) (List ℕ) → Result (List Need) (List ℕ) → Result Dict (List ℕ) → Result Dict (List ℕ) → (List NamedRunList → List Need → Dict → Dict → PolicySource) → Result PolicySource (List ℕ)
by_lists lists cookbooks default over make = then_do lists (λ l. by_cookbooks cookbooks default over (make l))

abbrev by_run_list : Result (List Stored) (List ℕ) → Result (List NamedRunList) (List ℕ) → Result (List Need) (List ℕ) → Result Dict (List ℕ) → Result Dict (List ℕ) → (List Stored → List NamedRunList → List Need → Dict → Dict → PolicySource) → Result PolicySource (List ℕ)
by_run_list run_list lists cookbooks default over make = then_do run_list (λ r. by_lists lists cookbooks default over (make r))

abbrev made_of : List ℕ → List Stored → List NamedRunList → List Need → Dict → Dict → PolicySource
made_of name run_list lists cookbooks default over = record {
  name = name;
  run_list = run_list;
  named_run_lists = lists;
  cookbooks = record { rules = cookbooks };
  default_attributes = default;
  override_attributes = over;
}

source_order : (body : Pairs) (source : PolicySource) → ArePairs body → source_in body ≡ Ok source → IsInOrder source
source_order body source known is =
    let run_list = must recipes_of (codes "run_list") body in
    let lists = may [] (named_run_lists Recipes) (codes "named_run_lists") body in
    let cookbooks = may [] needs_of (codes "cookbooks") body in
    let default = may [] dict_of (codes "default_attributes") body in
    let over = may [] dict_of (codes "override_attributes") body in
    let a = then_done (must name_of (codes "name") body) (λ n. by_run_list run_list lists cookbooks default over (made_of n)) source is in
    let b = then_done run_list (λ r. by_lists lists cookbooks default over (made_of a.0 r)) source a.2 in
    let c = then_done lists (λ l. by_cookbooks cookbooks default over (made_of a.0 b.0 l)) source b.2 in
    let d = then_done cookbooks (λ k. by_default default over (made_of a.0 b.0 c.0 k)) source c.2 in
    let e = then_done default (λ x. by_override over (made_of a.0 b.0 c.0 d.0 x)) source d.2 in
    let f = then_done over (λ x. Ok (made_of a.0 b.0 c.0 d.0 e.0 x)) source e.2 in
    subst IsInOrder {x = made_of a.0 b.0 c.0 d.0 e.0 f.0} (same_ok (List ℕ) (made_of a.0 b.0 c.0 d.0 e.0 f.0) source f.2) (record {
      lists = lists_order Recipes (pair_at (codes "named_run_lists") body) c.0 (λ doc there. known_at (codes "named_run_lists") body doc known there)
          (must_done (read_or [] (named_run_lists Recipes) (pair_at (codes "named_run_lists") body)) (codes "named_run_lists") c.0 c.1);
      cookbooks = needs_order (pair_at (codes "cookbooks") body) d.0 (λ doc there. known_at (codes "cookbooks") body doc known there)
          (must_done (read_or [] needs_of (pair_at (codes "cookbooks") body)) (codes "cookbooks") d.0 d.1);
    })

-- a source that was given is in order
pub given_source : (body : Pairs) (result : Result PolicySource LockFault) → IsDoc (dict body) → Gives result (source_in body) → IfOk result IsInOrder
given_source body (Ok source) known gives = source_order body source known.0 gives
given_source body (Err fault) known gives = tt
