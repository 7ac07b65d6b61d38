use Rattle.std.proofs.Common.{◌≡◌, ◌++◌, true, drop, map}
use Rattle.std.specs.List.{list_all}
use Rattle.std.specs.Map.{keys_of}
use Rattle.doc_tree.specs.Tree.{pair_of}
use Rattle.sandboxes.specs.Checksums.{is_checksum}
use Rattle.cookbook_routes.proofs.sandbox_routes.all_checksums.Given as goal

-- the keys so far are checksums, and with those of the other fields they are all
abbrev pub invariant-loop-field : goal.invariant-loop-field
invariant-loop-field l =
    (l.sums.items ++ keys_of (map pair_of (drop l.field-index l.fields)) ≡ keys_of (map pair_of l.fields))
    × (list_all is_checksum l.sums.items ≡ true)
