-- The lock that a body gives, or the first field that hasn't its form.
use Rattle.std.specs.Prelude.{ℕ, Bool, true, List, [], map, Option, Some, None, option_and_then, Result, Ok, Err, codes, bytes_eq}
use Rattle.doc_tree.specs.Doc.{Doc, dict, Pairs}
use Rattle.doc_tree.specs.Valid.{InOrder}
use Rattle.doc_tree.specs.declared.tree.Tree.TheVariants as tree
use Rattle.cookbook_meta.specs.Faults.{then_do}
use Rattle.policy_locks.specs.Parts.{cookbook_locks, dict_of, kept_if, may, must, name_of, named_run_lists, run_list_of}
use Rattle.policy_locks.specs.Stored.{whole_of}
use Rattle.policy_locks.specs.declared.lock.CookbookLock.{CookbookLock}
use Rattle.policy_locks.specs.declared.lock.Lock.{Lock}
use Rattle.run_lists.specs.declared.by_name.NamedRunList.{NamedRunList}
use Rattle.run_lists.specs.declared.reading.Allowed.TheVariants.{Items}

-- the name is the policy's, where there is one
abbrev pub is_of : Option (List ℕ) → List ℕ → Bool
is_of None name = true
is_of (Some policy) name = bytes_eq name policy

-- the Name that a document is, which is the policy's where there is one
abbrev pub policy_name : Option (List ℕ) → Doc → Option (List ℕ)
policy_name policy d = option_and_then (kept_if (is_of policy)) (name_of d)

-- the lock that a Dict gives, its fields looked at in this order
abbrev pub lock_in : Option (List ℕ) → Pairs → Result Lock (List ℕ)
lock_in policy body =
    then_do (must name_of (codes "revision_id") body) (λ revision_id.
    then_do (must (policy_name policy) (codes "name") body) (λ name.
    then_do (must run_list_of (codes "run_list") body) (λ run_list.
    then_do (may [] (named_run_lists Items) (codes "named_run_lists") body) (λ lists.
    then_do (must cookbook_locks (codes "cookbook_locks") body) (λ cookbooks.
    then_do (may [] dict_of (codes "default_attributes") body) (λ default.
    then_do (may [] dict_of (codes "override_attributes") body) (λ override.
    then_do (may [] dict_of (codes "solution_dependencies") body) (λ solution.
    Ok (record {
      revision_id = revision_id;
      name = name;
      run_list = run_list;
      named_run_lists = lists;
      cookbook_locks = cookbooks;
      default_attributes = default;
      override_attributes = override;
      solution_dependencies = solution;
      whole = tree.Dict (whole_of run_list lists default override solution body);
    })))))))))

-- the lock that a document gives, where what is no Dict fails as its first field
abbrev pub lock_from : Option (List ℕ) → Doc → Result Lock (List ℕ)
lock_from policy (dict body) = lock_in policy body
lock_from policy d = Err (codes "revision_id")

-- named run lists and locked cookbooks stand in the byte order of their names, each name once
pub record IsInOrder (lock : Lock) : Type 0 where
  pub lists : InOrder (map (λ (named : NamedRunList). named.name) lock.named_run_lists)
  pub cookbooks : InOrder (map (λ (cookbook : CookbookLock). cookbook.name) lock.cookbook_locks)
