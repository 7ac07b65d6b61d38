use Rattle.std.proofs.Common.{◌≡◌, ◌||◌, List, ℕ, is_some}
use Rattle.std.specs.Map.{lookup}
use Rattle.outside_core.specs.Disk.{lists}
use Rattle.outside_core.specs.Listing.{is_named}
use Rattle.outside_core.proofs.listing.names_below.Given as goal

-- the names so far, and those of the files that are left
abbrev pub invariant-loop-whole : goal.invariant-loop-whole
invariant-loop-whole l = (name : List ℕ) →
    (lists l.names.items name || is_some (lookup (is_named l.folder name) l.whole-iterator)) ≡ is_some (lookup (is_named l.folder name) l.fn.files.entries)
