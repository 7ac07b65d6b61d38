-- A lock is read again from what is stored of it.
use Rattle.std.proofs.Common.{◌≡◌, ℕ, true, List, [], map, Option, None, Some, IfOk, option_and_then, Result, Ok, Err, ok_or, codes, refl, sym, ap, subst, ◌∙◌}
use Rattle.std.specs.Map.{keys_of}
use Rattle.doc_tree.specs.Text.{text_of}
use Rattle.doc_tree.proofs.Docs.{pairs_list-pairs_of, pairs_of-pairs_list}
use Rattle.doc_tree.specs.Doc.{Doc, null, boolean, whole, words, list, dict, Pairs, pairs_of, pairs_list}
use Rattle.doc_tree.specs.Name.{is_name}
use Rattle.doc_tree.specs.Part.{pair_at}
use Rattle.doc_tree.specs.Tree.{doc_of}
use Rattle.doc_tree.specs.Valid.{ArePairs, InOrder, IsDoc}
use Rattle.doc_tree.specs.declared.tree.Tree.TheVariants as tree
use Rattle.run_lists.specs.ByName.{dict_of, kept_if, named_run_lists}
use Rattle.run_lists.specs.Laws.{NamedListsReadBack, RunListReadsBack}
use Rattle.run_lists.specs.Reading.{run_list_of}
use Rattle.run_lists.specs.Stored.{Stored}
use Rattle.run_lists.specs.Storing.{named_pair, run_list_doc}
use Rattle.run_lists.specs.declared.by_name.NamedRunList.{NamedRunList}
use Rattle.run_lists.specs.declared.reading.Allowed.TheVariants.{Items}
use Rattle.run_lists.proofs.EachLemmas.{kept_found, same_some, then_found}
use Rattle.run_lists.proofs.OrderLemmas.{keys_of-named, lists_in_order}
use Rattle.cookbook_meta.specs.Faults.{then_do}
use Rattle.cookbook_meta.specs.Stored.{beside, with_pairs}
use Rattle.cookbook_meta.proofs.DoneLemmas.{same_ok, then_done}
use Rattle.cookbook_meta.proofs.PutLemmas.{at_other, at_own, beside-puts, beside-twice}
use Rattle.policy_locks.specs.Parts.{cookbook_locks, may, must, name_of, read_or}
use Rattle.policy_locks.specs.Outcomes.{Gives}
use Rattle.policy_locks.specs.Reading.{IsInOrder, lock_from, lock_in, policy_name}
use Rattle.policy_locks.specs.declared.fault.LockFault.{LockFault}
use Rattle.policy_locks.specs.Stored.{is_settled, named_doc, settled_fields, whole_of}
use Rattle.policy_locks.specs.declared.lock.CookbookLock.{CookbookLock}
use Rattle.policy_locks.specs.declared.lock.Lock.{Lock}
use Rattle.policy_locks.proofs.FieldLemmas.{must_done}
use Rattle.policy_locks.proofs.OrderLemmas.{cookbooks_order, lists_order}
use Rattle.policy_locks.proofs.PutLemmas.{known_at, pair_at-beside, put_in_order}

-- ---- run lists

-- what stored run lists read as
abbrev pub RunListsLaw : Type 0
RunListsLaw = (d : Doc) (items : List Stored) → RunListReadsBack d items

-- what stored run lists under their names read as
abbrev pub NamedListsLaw : Type 0
NamedListsLaw = (d : Doc) (lists : List NamedRunList) → NamedListsReadBack d lists

lists_again : NamedListsLaw → (d : Doc) (lists : List NamedRunList) → IsDoc d → named_run_lists Items d ≡ Some lists → named_run_lists Items (named_doc lists) ≡ Some lists
lists_again law d lists known is =
    let order : InOrder (keys_of (map named_pair lists)) = subst InOrder (sym (keys_of-named lists)) (lists_in_order Items d lists known is) in
    ap (λ (ps : List (List ℕ × Doc)). named_run_lists Items (dict (pairs_of ps))) (put_in_order (map named_pair lists) order) ∙ law d lists is

lists_found : NamedListsLaw → (found : Option Doc) (lists : List NamedRunList) → ((d : Doc) → found ≡ Some d → IsDoc d) → read_or [] (named_run_lists Items) found ≡ Some lists → named_run_lists Items (named_doc lists) ≡ Some lists
lists_found law None lists known is = ap (λ ls. named_run_lists Items (named_doc ls)) (sym (same_some [] lists is)) ∙ is
lists_found law (Some d) lists known is = lists_again law d lists (known d refl) is

-- ---- the steps of a lock

abbrev Dict : Type 0
Dict = List (List ℕ × Doc)

abbrev by_solution : Result Dict (List ℕ) → (Dict → Lock) → Result Lock (List ℕ)
by_solution solution make = then_do solution (λ s. Ok (make s))

abbrev by_override : Result Dict (List ℕ) → Result Dict (List ℕ) → (Dict → Dict → Lock) → Result Lock (List ℕ)
by_override over solution make = then_do over (λ o. by_solution solution (make o))

abbrev by_default : Result Dict (List ℕ) → Result Dict (List ℕ) → Result Dict (List ℕ) → (Dict → Dict → Dict → Lock) → Result Lock (List ℕ)
by_default default over solution make = then_do default (λ d. by_override over solution (make d))

abbrev by_cookbooks : Result (List CookbookLock) (List ℕ) → Result Dict (List ℕ) → Result Dict (List ℕ) → Result Dict (List ℕ) → (List CookbookLock → Dict → Dict → Dict → Lock) → Result Lock (List ℕ)
by_cookbooks cookbooks default over solution make = then_do cookbooks (λ c. by_default default over solution (make c))

abbrev by_lists : Result (List NamedRunList) (List ℕ) → Result (List CookbookLock) (List ℕ) → Result Dict (List ℕ) → Result Dict (List ℕ) → Result Dict (List ℕ) → (List NamedRunList → List CookbookLock → Dict → Dict → Dict → Lock) → Result Lock (List ℕ)
by_lists lists cookbooks default over solution make = then_do lists (λ l. by_cookbooks cookbooks default over solution (make l))

abbrev by_run_list : Result (List Stored) (List ℕ) → Result (List NamedRunList) (List ℕ) → Result (List CookbookLock) (List ℕ) → Result Dict (List ℕ) → Result Dict (List ℕ) → Result Dict (List ℕ) → (List Stored → List NamedRunList → List CookbookLock → Dict → Dict → Dict → Lock) → Result Lock (List ℕ)
by_run_list run_list lists cookbooks default over solution make = then_do run_list (λ r. by_lists lists cookbooks default over solution (make r))

abbrev by_name : Result (List ℕ) (List ℕ) → Result (List Stored) (List ℕ) → Result (List NamedRunList) (List ℕ) → Result (List CookbookLock) (List ℕ) → Result Dict (List ℕ) → Result Dict (List ℕ) → Result Dict (List ℕ)
    → (List ℕ → List Stored → List NamedRunList → List CookbookLock → Dict → Dict → Dict → Lock) → Result Lock (List ℕ)
by_name name run_list lists cookbooks default over solution make = then_do name (λ n. by_run_list run_list lists cookbooks default over solution (make n))

abbrev by_steps : Result (List ℕ) (List ℕ) → Result (List ℕ) (List ℕ) → Result (List Stored) (List ℕ) → Result (List NamedRunList) (List ℕ) → Result (List CookbookLock) (List ℕ) → Result Dict (List ℕ) → Result Dict (List ℕ) → Result Dict (List ℕ)
    → (List ℕ → List ℕ → List Stored → List NamedRunList → List CookbookLock → Dict → Dict → Dict → Lock) → Result Lock (List ℕ)
by_steps revision name run_list lists cookbooks default over solution make = then_do revision (λ r. by_name name run_list lists cookbooks default over solution (make r))

-- the steps that a lock is read by
abbrev revision_step : Pairs → Result (List ℕ) (List ℕ)
revision_step body = must name_of (codes "revision_id") body

abbrev name_step : Option (List ℕ) → Pairs → Result (List ℕ) (List ℕ)
name_step policy body = must (policy_name policy) (codes "name") body

abbrev run_list_step : Pairs → Result (List Stored) (List ℕ)
run_list_step body = must run_list_of (codes "run_list") body

abbrev lists_step : Pairs → Result (List NamedRunList) (List ℕ)
lists_step body = may [] (named_run_lists Items) (codes "named_run_lists") body

abbrev cookbooks_step : Pairs → Result (List CookbookLock) (List ℕ)
cookbooks_step body = must cookbook_locks (codes "cookbook_locks") body

abbrev dict_step : List ℕ → Pairs → Result Dict (List ℕ)
dict_step key body = may [] dict_of key body

abbrev made_of : Pairs → List ℕ → List ℕ → List Stored → List NamedRunList → List CookbookLock → Dict → Dict → Dict → Lock
made_of body revision name run_list lists cookbooks default over solution = record {
  revision_id = revision;
  name = name;
  run_list = run_list;
  named_run_lists = lists;
  cookbook_locks = cookbooks;
  default_attributes = default;
  override_attributes = over;
  solution_dependencies = solution;
  whole = tree.Dict (whole_of run_list lists default over solution body);
}

-- each step was done
record IsRead (policy : Option (List ℕ)) (body : Pairs) (lock : Lock) : Type 0 where
  revision : List ℕ
  name : List ℕ
  run_list : List Stored
  lists : List NamedRunList
  cookbooks : List CookbookLock
  default : Dict
  over : Dict
  solution : Dict
  revision_is : revision_step body ≡ Ok revision
  name_is : name_step policy body ≡ Ok name
  run_list_is : run_list_step body ≡ Ok run_list
  lists_are : lists_step body ≡ Ok lists
  cookbooks_are : cookbooks_step body ≡ Ok cookbooks
  made : made_of body revision name run_list lists cookbooks default over solution ≡ lock

read_done : (policy : Option (List ℕ)) (body : Pairs) (lock : Lock) → lock_in policy body ≡ Ok lock → IsRead policy body lock
read_done policy body lock is =
    let name = name_step policy body in
    let run_list = run_list_step body in
    let lists = lists_step body in
    let cookbooks = cookbooks_step body in
    let default = dict_step (codes "default_attributes") body in
    let over = dict_step (codes "override_attributes") body in
    let solution = dict_step (codes "solution_dependencies") body in
    let make = made_of body in
    let a = then_done (revision_step body) (λ r. by_name name run_list lists cookbooks default over solution (make r)) lock is in
    let b = then_done name (λ n. by_run_list run_list lists cookbooks default over solution (make a.0 n)) lock a.2 in
    let c = then_done run_list (λ r. by_lists lists cookbooks default over solution (make a.0 b.0 r)) lock b.2 in
    let d = then_done lists (λ l. by_cookbooks cookbooks default over solution (make a.0 b.0 c.0 l)) lock c.2 in
    let e = then_done cookbooks (λ k. by_default default over solution (make a.0 b.0 c.0 d.0 k)) lock d.2 in
    let f = then_done default (λ x. by_override over solution (make a.0 b.0 c.0 d.0 e.0 x)) lock e.2 in
    let g = then_done over (λ x. by_solution solution (make a.0 b.0 c.0 d.0 e.0 f.0 x)) lock f.2 in
    let h = then_done solution (λ x. Ok (make a.0 b.0 c.0 d.0 e.0 f.0 g.0 x)) lock g.2 in
    record {
      revision = a.0;
      name = b.0;
      run_list = c.0;
      lists = d.0;
      cookbooks = e.0;
      default = f.0;
      over = g.0;
      solution = h.0;
      revision_is = a.1;
      name_is = b.1;
      run_list_is = c.1;
      lists_are = d.1;
      cookbooks_are = e.1;
      made = same_ok (List ℕ) (make a.0 b.0 c.0 d.0 e.0 f.0 g.0 h.0) lock h.2;
    }

-- ---- the order

lock_order : (policy : Option (List ℕ)) (body : Pairs) (lock : Lock) → ArePairs body → lock_in policy body ≡ Ok lock → IsInOrder lock
lock_order policy body lock known is =
    let read = read_done policy body lock is in
    let cookbooks = then_found (pair_at (codes "cookbook_locks") body) cookbook_locks read.cookbooks
    (must_done (option_and_then cookbook_locks (pair_at (codes "cookbook_locks") body)) (codes "cookbook_locks") read.cookbooks read.cookbooks_are) in
    subst IsInOrder read.made (record {
      lists = lists_order Items (pair_at (codes "named_run_lists") body) read.lists (λ d there. known_at (codes "named_run_lists") body d known there)
          (must_done (read_or [] (named_run_lists Items) (pair_at (codes "named_run_lists") body)) (codes "named_run_lists") read.lists read.lists_are);
      cookbooks = cookbooks_order cookbooks.0 read.cookbooks (known_at (codes "cookbook_locks") body cookbooks.0 known cookbooks.1) cookbooks.2;
    })

-- a lock that was given is in order
pub given_order : (policy : Option (List ℕ)) (body : Pairs) (result : Result Lock LockFault) → IsDoc (dict body) → Gives result (lock_in policy body) → IfOk result IsInOrder
given_order policy body (Ok lock) known gives = lock_order policy body lock known.0 gives
given_order policy body (Err fault) known gives = tt

-- ---- the whole

module _ (policy : Option (List ℕ)) (body : Pairs) (revision name : List ℕ) (run_list : List Stored) (lists : List NamedRunList) (cookbooks : List CookbookLock) (default over solution : Dict) where
  -- what is stored of the fields that aren't stored as they were sent
  abbrev fields : Dict
  fields = settled_fields run_list lists default over solution

  -- the stored object
  abbrev stored : Dict
  stored = with_pairs fields (beside is_settled (pairs_list body))

  -- at the key of such a field stands what is stored of it
  at : (key : List ℕ) (d : Doc) → pair_at key (pairs_of fields) ≡ Some d → pair_at key (pairs_of stored) ≡ Some d
  at key d there = at_own key d fields (beside is_settled (pairs_list body)) refl there

  revision_there : pair_at (codes "revision_id") (pairs_of stored) ≡ pair_at (codes "revision_id") body
  revision_there =
      at_other (codes "revision_id") fields (beside is_settled (pairs_list body)) refl
      ∙ pair_at-beside is_settled (codes "revision_id") (pairs_list body) refl ∙ ap (pair_at (codes "revision_id")) (pairs_of-pairs_list body)

  name_there : pair_at (codes "name") (pairs_of stored) ≡ pair_at (codes "name") body
  name_there =
      at_other (codes "name") fields (beside is_settled (pairs_list body)) refl
      ∙ pair_at-beside is_settled (codes "name") (pairs_list body) refl ∙ ap (pair_at (codes "name")) (pairs_of-pairs_list body)

  cookbooks_there : pair_at (codes "cookbook_locks") (pairs_of stored) ≡ pair_at (codes "cookbook_locks") body
  cookbooks_there =
      at_other (codes "cookbook_locks") fields (beside is_settled (pairs_list body)) refl
      ∙ pair_at-beside is_settled (codes "cookbook_locks") (pairs_list body) refl ∙ ap (pair_at (codes "cookbook_locks")) (pairs_of-pairs_list body)

  run_list_found : run_list_of (run_list_doc run_list) ≡ Some run_list → run_list_step (pairs_of stored) ≡ Ok run_list
  run_list_found again =
      ap (λ found. ok_or (option_and_then run_list_of found) (codes "run_list")) (at (codes "run_list") (run_list_doc run_list) refl)
      ∙ ap (λ found. ok_or found (codes "run_list")) again

  lists_found_again : named_run_lists Items (named_doc lists) ≡ Some lists → lists_step (pairs_of stored) ≡ Ok lists
  lists_found_again again =
      ap (λ found. ok_or (read_or [] (named_run_lists Items) found) (codes "named_run_lists")) (at (codes "named_run_lists") (named_doc lists) refl)
      ∙ ap (λ found. ok_or found (codes "named_run_lists")) again

  dict_found : (key : List ℕ) (ps : Dict) → pair_at key (pairs_of fields) ≡ Some (dict (pairs_of ps)) → dict_step key (pairs_of stored) ≡ Ok ps
  dict_found key ps there = ap (λ found. ok_or (read_or [] dict_of found) key) (at key (dict (pairs_of ps)) there) ∙ ap Ok (pairs_list-pairs_of ps)

  whole_again : whole_of run_list lists default over solution (pairs_of stored) ≡ stored
  whole_again =
      ap (with_pairs fields) (ap (beside is_settled) (pairs_list-pairs_of stored) ∙ beside-puts is_settled fields (beside is_settled (pairs_list body)) refl ∙ beside-twice is_settled (pairs_list body))

  all_again : revision_step body ≡ Ok revision → name_step policy body ≡ Ok name → cookbooks_step body ≡ Ok cookbooks → run_list_of (run_list_doc run_list) ≡ Some run_list → named_run_lists Items (named_doc lists) ≡ Some lists
      → lock_in policy (pairs_of stored) ≡ Ok (made_of (pairs_of stored) revision name run_list lists cookbooks default over solution)
  all_again revision_is name_is cookbooks_are run_list_is lists_are =
      let a : revision_step (pairs_of stored) ≡ Ok revision = ap (λ found. ok_or (option_and_then name_of found) (codes "revision_id")) revision_there ∙ revision_is in
      let b : name_step policy (pairs_of stored) ≡ Ok name = ap (λ found. ok_or (option_and_then (policy_name policy) found) (codes "name")) name_there ∙ name_is in
      let e : cookbooks_step (pairs_of stored) ≡ Ok cookbooks = ap (λ found. ok_or (option_and_then cookbook_locks found) (codes "cookbook_locks")) cookbooks_there ∙ cookbooks_are in
      let c = run_list_found run_list_is in
      let d = lists_found_again lists_are in
      let f = dict_found (codes "default_attributes") default refl in
      let g = dict_found (codes "override_attributes") over refl in
      let h = dict_found (codes "solution_dependencies") solution refl in
      λ i. by_steps (a i) (b i) (c i) (d i) (e i) (f i) (g i) (h i) (made_of (pairs_of stored))

lock_in_again : RunListsLaw → NamedListsLaw → (policy : Option (List ℕ)) (body : Pairs) (lock : Lock) → ArePairs body → lock_in policy body ≡ Ok lock → lock_from policy (doc_of lock.whole) ≡ Ok lock
lock_in_again one named policy body lock known is =
    let read = read_done policy body lock is in
    let sent = then_found (pair_at (codes "run_list") body) run_list_of read.run_list (must_done (option_and_then run_list_of (pair_at (codes "run_list") body)) (codes "run_list") read.run_list read.run_list_is) in
    let run_list = one sent.0 read.run_list sent.2 in
    let lists = lists_found named (pair_at (codes "named_run_lists") body) read.lists (λ d there. known_at (codes "named_run_lists") body d known there)
    (must_done (read_or [] (named_run_lists Items) (pair_at (codes "named_run_lists") body)) (codes "named_run_lists") read.lists read.lists_are) in
    let again = all_again policy body read.revision read.name read.run_list read.lists read.cookbooks read.default read.over read.solution read.revision_is read.name_is read.cookbooks_are run_list lists in
    let settled = whole_again policy body read.revision read.name read.run_list read.lists read.cookbooks read.default read.over read.solution in
    subst (λ (l : Lock). lock_from policy (doc_of l.whole) ≡ Ok l) read.made
    (again ∙ ap (λ (w : Dict). Ok (record {
      revision_id = read.revision;
      name = read.name;
      run_list = read.run_list;
      named_run_lists = read.lists;
      cookbook_locks = read.cookbooks;
      default_attributes = read.default;
      override_attributes = read.over;
      solution_dependencies = read.solution;
      whole = tree.Dict w;
    })) settled)

pub locks_again : RunListsLaw → NamedListsLaw → (policy : Option (List ℕ)) (body : Doc) (lock : Lock) → IsDoc body → lock_from policy body ≡ Ok lock → lock_from policy (doc_of lock.whole) ≡ Ok lock
locks_again one named policy null lock known is = cc
locks_again one named policy (boolean b) lock known is = cc
locks_again one named policy (whole z) lock known is = cc
locks_again one named policy (words text) lock known is = cc
locks_again one named policy (list ds) lock known is = cc
locks_again one named policy (dict body) lock known is = lock_in_again one named policy body lock known.0 is

-- ---- the revision

name_kept : (d : Doc) (name : List ℕ) → name_of d ≡ Some name → is_name name ≡ true
name_kept d name is =
    let text = then_found (text_of d) (kept_if is_name) name is in
    let kept = kept_found is_name text.0 name text.2 in
    subst (λ n. is_name n ≡ true) kept.1 kept.0

-- the revision of a lock that was read is a Name
named_in : (policy : Option (List ℕ)) (body : Pairs) (lock : Lock) → lock_in policy body ≡ Ok lock → is_name lock.revision_id ≡ true
named_in policy body lock is =
    let read = read_done policy body lock is in
    let sent = then_found (pair_at (codes "revision_id") body) name_of read.revision (must_done (option_and_then name_of (pair_at (codes "revision_id") body)) (codes "revision_id") read.revision read.revision_is) in
    subst (λ (l : Lock). is_name l.revision_id ≡ true) read.made (name_kept sent.0 read.revision sent.2)

pub revision_named : (policy : Option (List ℕ)) (body : Doc) (lock : Lock) → lock_from policy body ≡ Ok lock → is_name lock.revision_id ≡ true
revision_named policy null lock is = cc
revision_named policy (boolean b) lock is = cc
revision_named policy (whole z) lock is = cc
revision_named policy (words text) lock is = cc
revision_named policy (list ds) lock is = cc
revision_named policy (dict body) lock is = named_in policy body lock is
