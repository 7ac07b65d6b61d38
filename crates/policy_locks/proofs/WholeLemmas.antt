-- A stored lock, put together step by step.
use Rattle.std.proofs.Common.{◌≡◌, ℕ, List, sym, ap, ◌∙◌}
use Rattle.doc_tree.proofs.Docs.{pairs_list-pairs_of}
use Rattle.doc_tree.specs.Doc.{Doc, pairs_of}
use Rattle.run_lists.specs.Stored.{Stored}
use Rattle.cookbook_meta.specs.Stored.{beside, with_pairs}
use Rattle.policy_locks.specs.Stored.{dict_fields, is_settled, run_list_fields, whole_of}
use Rattle.run_lists.specs.declared.by_name.NamedRunList.{NamedRunList}

pub whole_made : (run_list : List Stored) (lists : List NamedRunList) (default over solution body first second third : List (List ℕ × Doc))
    → first ≡ beside is_settled body → second ≡ with_pairs (run_list_fields run_list lists) first → third ≡ with_pairs (dict_fields default over solution) second
    → third ≡ whole_of run_list lists default over solution (pairs_of body)
whole_made run_list lists default over solution body first second third e1 e2 e3 =
    e3 ∙ ap (with_pairs (dict_fields default over solution)) (e2 ∙ ap (with_pairs (run_list_fields run_list lists)) (e1 ∙ ap (beside is_settled) (sym (pairs_list-pairs_of body))))
