-- How the files below a folder are found among all.
use Rattle.std.specs.Prelude.{ℕ, Bool, not, ◌&&◌, if◌then◌else◌, List, [], ◌++◌, length, drop, bytes_eq, nat_eq, Option, Some, None}
use Rattle.std.specs.List.{starts_with}
use Rattle.outside_core.specs.Disk.{folder_front}

-- what stands behind a front, where the text begins with it
abbrev pub behind_front : List ℕ → List ℕ → Option (List ℕ)
behind_front front text = if starts_with nat_eq text front then Some (drop (length front) text) else None

-- a file of this whole name has this name below the folder
abbrev pub is_named : List ℕ → List ℕ → List ℕ → Bool
is_named folder name whole = not (bytes_eq name []) && bytes_eq (folder_front folder ++ name) whole
