-- What a disk in memory holds.
use Rattle.std.specs.Prelude.{ℕ, List, bytes_eq}
use Rattle.std.specs.Map.{lookup}
use Rattle.outside_core.specs.Failures.{Plan}
use Rattle.outside_core.specs.Disk.{Files}

-- the files, the room for bytes that are still to be written, and which calls fail
pub record HeldFiles : Type 0 where
  pub entries : List (List ℕ × List ℕ)
  pub room : ℕ
  pub failures : Plan

-- the files by their names
abbrev pub files_in : List (List ℕ × List ℕ) → Files
files_in entries name = lookup (bytes_eq name) entries
