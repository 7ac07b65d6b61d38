-- The source of a lock that a body gives, or the first field that hasn't its form.
use Rattle.std.specs.Prelude.{ℕ, List, [], map, Result, Ok, Err, codes}
use Rattle.doc_tree.specs.Doc.{Doc, dict, Pairs}
use Rattle.doc_tree.specs.Valid.{InOrder}
use Rattle.version_rules.specs.declared.needs.Need.{Need}
use Rattle.cookbook_meta.specs.Faults.{then_do}
use Rattle.policy_locks.specs.Parts.{dict_of, may, must, name_of, named_run_lists, needs_of, recipes_of}
use Rattle.run_lists.specs.declared.by_name.NamedRunList.{NamedRunList}
use Rattle.run_lists.specs.declared.reading.Allowed.TheVariants.{Recipes}
use Rattle.policy_locks.specs.declared.source.PolicySource.{PolicySource}

-- the source that a Dict gives, its fields looked at in this order
abbrev pub source_in : Pairs → Result PolicySource (List ℕ)
source_in body =
    then_do (must name_of (codes "name") body) (λ name.
    then_do (must recipes_of (codes "run_list") body) (λ run_list.
    then_do (may [] (named_run_lists Recipes) (codes "named_run_lists") body) (λ lists.
    then_do (may [] needs_of (codes "cookbooks") body) (λ cookbooks.
    then_do (may [] dict_of (codes "default_attributes") body) (λ default.
    then_do (may [] dict_of (codes "override_attributes") body) (λ override.
    Ok (record {
      name = name;
      run_list = run_list;
      named_run_lists = lists;
      cookbooks = record { rules = cookbooks };
      default_attributes = default;
      override_attributes = override;
    })))))))

-- the source that a document gives, where what is no Dict fails as its first field
abbrev pub source_from : Doc → Result PolicySource (List ℕ)
source_from (dict body) = source_in body
source_from d = Err (codes "name")

-- named run lists and the rules on cookbooks stand in the byte order of their names, each name once
pub record IsInOrder (source : PolicySource) : Type 0 where
  pub lists : InOrder (map (λ (named : NamedRunList). named.name) source.named_run_lists)
  pub cookbooks : InOrder (map (λ (need : Need). need.name) source.cookbooks.rules)
