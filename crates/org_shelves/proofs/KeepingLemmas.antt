-- Moves that put in what is sound keep the conditions.
use Rattle.std.proofs.Common.{◌≡◌, ℕ, Bool, true, false, cond, List, Option, Some, None, is_some, option_map, option_and_then, IsTrue, refl, sym, ap, subst, ◌∙◌}
use Rattle.std.proofs.lemmas.Option.{same_Some}
use Rattle.std.specs.Cmp.Lexicographic.{nat_list_cmp_total}
use Rattle.std.specs.FinMap as finite
use Rattle.std.specs.Ordering.{eq_by_cmp}
use Rattle.doc_tree.specs.Text.{text_cmp}
use Rattle.dep_solver.proofs.VersionLemmas.{versions_total}
use Rattle.doc_tree.specs.Doc.{Doc}
use Rattle.doc_tree.specs.Name.{is_name}
use Rattle.shelves.proofs.ShelfLaws.{tied_name}
use Rattle.shelves.specs.Shelves.{value_at}
use Rattle.shelves.specs.SortedMap.{each_value}
use Rattle.version_rules.specs.Order.{version_cmp}
use Rattle.org_shelves.proofs.DroppedLemmas.{tied_version}
use Rattle.org_shelves.proofs.PlaceLemmas.{all_put, all_without, empty_at, get-each_value, shelf_gone, shelf_stays, still_some}
use Rattle.org_shelves.specs.Conditions.{IsArtifactOf, IsRevisionOf, IsVersionOf, ShelfConditions, assigned_in}
use Rattle.org_shelves.specs.Laws.{AreRevisions, IsSound}
use Rattle.org_shelves.specs.Shelved.{Assigned, Policies, PolicyGroups, Shelved, nothing}
use Rattle.org_shelves.specs.ShelfMoves.{after_shelf_move, unassigned}
use Rattle.org_shelves.specs.declared.shelf_moves.ShelfMove.{ShelfMove}
use Rattle.org_shelves.specs.declared.shelf_moves.ShelfMove.TheVariants.{PutVersion, TakeVersion, PutArtifact, TakeArtifact, PutRevision, TakePolicy, PutGroup, TakeGroup}

-- ---- groups

some_of : {X : Type 0} (f : X → X) (found : Option X) → is_some (option_map f found) ≡ is_some found
some_of f None = refl
some_of f (Some x) = refl

-- the groups that are there after a policy went are those that were
pub same_groups : (groups : PolicyGroups) (policy group : List ℕ) → is_some (finite.get (each_value (unassigned policy) groups) group) ≡ is_some (finite.get groups group)
same_groups groups policy group = ap is_some (get-each_value (unassigned policy) nat_list_cmp_total groups group) ∙ some_of (unassigned policy) (finite.get groups group)

group_was : (groups : PolicyGroups) (policy group : List ℕ) → IsTrue (is_some (finite.get (each_value (unassigned policy) groups) group)) → IsTrue (is_some (finite.get groups group))
group_was groups policy group some = sym (same_groups groups policy group) ∙ some

-- what is found among a group's assignments once a policy's is taken out
unassigned_found : (policy : List ℕ) (found : Option Assigned) (p r : List ℕ) → option_and_then (λ (assigned : Assigned). finite.get assigned p) (option_map (unassigned policy) found) ≡ Some r
    → (eq_by_cmp text_cmp p policy ≡ false) × (option_and_then (λ (assigned : Assigned). finite.get assigned p) found ≡ Some r)
unassigned_found policy None p r is = cc
unassigned_found policy (Some assigned) p r is = by_tie (eq_by_cmp text_cmp p policy) (sym (finite.get-remove nat_list_cmp_total assigned policy p) ∙ is)
  where
    by_tie : (b : Bool) → cond b None (finite.get assigned p) ≡ Some r → (b ≡ false) × (finite.get assigned p ≡ Some r)
    by_tie true is = cc
    by_tie false is = (refl, is)

-- what a group assigns after a policy went is of another policy, and was assigned
assigned_was : (groups : PolicyGroups) (policy group p r : List ℕ) → assigned_in (each_value (unassigned policy) groups) group p ≡ Some r → (eq_by_cmp text_cmp p policy ≡ false) × (assigned_in groups group p ≡ Some r)
assigned_was groups policy group p r is =
    unassigned_found policy (finite.get groups group) p r
    (ap (option_and_then (λ (assigned : Assigned). finite.get assigned p)) (sym (get-each_value (unassigned policy) nat_list_cmp_total groups group)) ∙ is)

-- what a group assigns after another was put in or taken out
put_assigned : (assigned : Assigned) (found : Option Assigned) (p r : List ℕ) (b : Bool) (policies : Policies) → AreRevisions assigned policies
    → (option_and_then (λ (a : Assigned). finite.get a p) found ≡ Some r → IsTrue (is_some (value_at policies p r)))
    → option_and_then (λ (a : Assigned). finite.get a p) (cond b (Some assigned) found) ≡ Some r → IsTrue (is_some (value_at policies p r))
put_assigned assigned found p r true policies new old is = new p r is
put_assigned assigned found p r false policies new old is = old is

left_assigned : (found : Option Assigned) (p r : List ℕ) (b : Bool) → option_and_then (λ (a : Assigned). finite.get a p) (cond b None found) ≡ Some r → option_and_then (λ (a : Assigned). finite.get a p) found ≡ Some r
left_assigned found p r true is = cc
left_assigned found p r false is = is

put_named : (name group : List ℕ) (found : Option Assigned) (assigned : Assigned) (b : Bool) → eq_by_cmp text_cmp group name ≡ b → is_name name ≡ true → (IsTrue (is_some found) → is_name group ≡ true)
    → IsTrue (is_some (cond b (Some assigned) found)) → is_name group ≡ true
put_named name group found assigned true tie named old some = ap is_name (tied_name group name tie) ∙ named
put_named name group found assigned false apart named old some = old some

left_named : (found : Option Assigned) (b : Bool) → IsTrue (is_some (cond b None found)) → IsTrue (is_some found)
left_named found true some = cc
left_named found false some = some

-- ---- all of it

pub keeps : (move : ShelfMove) (s : Shelved) → ShelfConditions s → IsSound move s → ShelfConditions (after_shelf_move move s)
keeps (PutVersion name version manifest) s meets this = record {
  versions = all_put versions_total tied_version IsVersionOf s.cookbooks name version manifest meets.versions this;
  artifacts = meets.artifacts;
  revisions = meets.revisions;
  groups = meets.groups;
  assigned = meets.assigned;
}
keeps (TakeVersion name version) s meets this = record {
  versions = all_without versions_total tied_version IsVersionOf s.cookbooks name version meets.versions;
  artifacts = meets.artifacts;
  revisions = meets.revisions;
  groups = meets.groups;
  assigned = meets.assigned;
}
keeps (PutArtifact name id manifest) s meets this = record {
  versions = meets.versions;
  artifacts = all_put nat_list_cmp_total tied_name IsArtifactOf s.artifacts name id manifest meets.artifacts this;
  revisions = meets.revisions;
  groups = meets.groups;
  assigned = meets.assigned;
}
keeps (TakeArtifact name id) s meets this = record {
  versions = meets.versions;
  artifacts = all_without nat_list_cmp_total tied_name IsArtifactOf s.artifacts name id meets.artifacts;
  revisions = meets.revisions;
  groups = meets.groups;
  assigned = meets.assigned;
}
keeps (PutRevision policy revision lock) s meets this = record {
  versions = meets.versions;
  artifacts = meets.artifacts;
  revisions = all_put nat_list_cmp_total tied_name IsRevisionOf s.policies policy revision lock meets.revisions this;
  groups = meets.groups;
  assigned = λ group p r is. still_some nat_list_cmp_total s.policies policy revision lock p r (meets.assigned group p r is);
}
keeps (TakePolicy policy) s meets this = record {
  versions = meets.versions;
  artifacts = meets.artifacts;
  revisions = λ p r lock stands. meets.revisions p r lock (shelf_gone s.policies policy p r lock stands).1;
  groups = λ group some. meets.groups group (group_was s.groups policy group some);
  assigned = λ group p r is.
      let was = assigned_was s.groups policy group p r is in
      ap is_some (shelf_stays s.policies policy p r was.0) ∙ meets.assigned group p r was.1;
}
keeps (PutGroup name assigned) s meets this = record {
  versions = meets.versions;
  artifacts = meets.artifacts;
  revisions = meets.revisions;
  groups = λ group some.
      put_named name group (finite.get s.groups group) assigned (eq_by_cmp text_cmp group name) refl this.0 (meets.groups group) (ap is_some (sym (finite.get-insert nat_list_cmp_total s.groups name assigned group)) ∙ some);
  assigned = λ group p r is.
      put_assigned assigned (finite.get s.groups group) p r (eq_by_cmp text_cmp group name) s.policies this.1 (meets.assigned group p r)
      (ap (option_and_then (λ (a : Assigned). finite.get a p)) (sym (finite.get-insert nat_list_cmp_total s.groups name assigned group)) ∙ is);
}
keeps (TakeGroup name) s meets this = record {
  versions = meets.versions;
  artifacts = meets.artifacts;
  revisions = meets.revisions;
  groups = λ group some. meets.groups group (left_named (finite.get s.groups group) (eq_by_cmp text_cmp group name) (ap is_some (sym (finite.get-remove nat_list_cmp_total s.groups name group)) ∙ some));
  assigned = λ group p r is.
      meets.assigned group p r
      (left_assigned (finite.get s.groups group) p r (eq_by_cmp text_cmp group name) (ap (option_and_then (λ (a : Assigned). finite.get a p)) (sym (finite.get-remove nat_list_cmp_total s.groups name group)) ∙ is));
}

-- nothing on any shelf meets them
pub nothing_meets : ShelfConditions nothing
nothing_meets = record {
  versions = λ name version manifest is. cc (sym (empty_at version_cmp Doc name version) ∙ is);
  artifacts = λ name id manifest is. cc (sym (empty_at text_cmp Doc name id) ∙ is);
  revisions = λ policy revision lock is. cc (sym (empty_at text_cmp Doc policy revision) ∙ is);
  groups = λ group some. cc (sym (ap is_some (finite.get-empty text_cmp group)) ∙ some);
  assigned = λ group policy revision is. cc (sym (ap (option_and_then (λ (assigned : Assigned). finite.get assigned policy)) (finite.get-empty text_cmp group)) ∙ is);
}
