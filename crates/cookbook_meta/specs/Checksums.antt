-- The checksums that a manifest names.
use Rattle.std.specs.Prelude.{◌↔◌, ℕ, List, map}
use Rattle.std.specs.List.{Contains}
use Rattle.cookbook_meta.specs.declared.entries.Entry.{Entry}

-- the checksums of these entries, one by one
abbrev pub checksums_of : List Entry → List (List ℕ)
checksums_of files = map (λ (e : Entry). e.checksum) files

-- each of the checksums and no other
abbrev pub AreChecksumsOf : List Entry → List (List ℕ) → Type 0
AreChecksumsOf files sums = (sum : List ℕ) → Contains sums sum ↔ Contains (checksums_of files) sum
