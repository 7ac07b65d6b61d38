-- The run lists so far, and then those of the fields that are left.
use Rattle.std.proofs.Common.{◌≡◌, ◌++◌, map, drop, option_map}
use Rattle.doc_tree.specs.Tree.{pair_of}
use Rattle.run_lists.specs.ByName as spec
use Rattle.run_lists.specs.Reading.{each_of}
use Rattle.run_lists.proofs.by_name.lists_of.Given as goal

abbrev pub invariant-loop-field : goal.invariant-loop-field
invariant-loop-field l = each_of (spec.named_run_list l.allowed) l.fields ≡ option_map (λ later. l.lists ++ later) (each_of (spec.named_run_list l.allowed) (map pair_of (drop l.field-index l.field-items)))
