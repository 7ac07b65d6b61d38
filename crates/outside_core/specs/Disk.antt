-- What calls of a disk do to the files that it holds.
use Rattle.std.specs.Prelude.{◌≡◌, ◌≢◌, ℕ, ◌≤◌, Bool, false, not, ◌&&◌, List, [], ◌++◌, codes, bytes_eq, Option, Some, None, is_some, Result, Err, ⊤}
use Rattle.std.specs.List.{list_any}
use Rattle.doc_tree.specs.Valid.{InOrder}
use Rattle.outside_core.specs.Failed.{Rose}
use Rattle.outside_core.specs.declared.disk_fault.DiskFault.{DiskFault}
use Rattle.outside_core.specs.declared.disk_fault.DiskFault.TheVariants.{Failed}

-- files by their names: the bytes of each that is there
abbrev pub Files : Type 0
Files = List ℕ → Option (List ℕ)

-- this is the file of a name, where files are told
abbrev pub IsFile : Option Files → List ℕ → Option (List ℕ) → Type 0
IsFile None name found = ⊤
IsFile (Some files) name found = found ≡ files name

-- every file but that of this name stays as it was
abbrev pub OthersStay : List ℕ → Files → Files → Type 0
OthersStay name before after = (other : List ℕ) → other ≢ name → after other ≡ before other

-- the file of this name has these bytes afterwards, and every other stays as it was
abbrev pub Replaces : List ℕ → List ℕ → Option Files → Option Files → Type 0
Replaces name bytes None new = new ≡ None
Replaces name bytes (Some before) new = (after : Files) × (new ≡ Some after) × (after name ≡ Some bytes) × OthersStay name before after

-- the file of this name has any bytes afterwards, or isn't there, and every other stays as it was
abbrev pub Spoils : List ℕ → Option Files → Option Files → Type 0
Spoils name None new = new ≡ None
Spoils name (Some before) new = (after : Files) × (new ≡ Some after) × OthersStay name before after

-- the front of the names of what is below a folder
abbrev pub folder_front : List ℕ → List ℕ
folder_front folder = folder ++ codes "/"

-- a file is below this folder, where it has this name
abbrev pub is_below : Files → List ℕ → List ℕ → Bool
is_below files folder name = not (bytes_eq name []) && is_some (files (folder_front folder ++ name))

-- the text is one of these
abbrev pub lists : List (List ℕ) → List ℕ → Bool
lists texts text = list_any (bytes_eq text) texts

-- these are the files below a folder, in the order of their bytes and each once, or none is below it, where files are told
abbrev pub IsListing : Option Files → List ℕ → Option (List (List ℕ)) → Type 0
IsListing None folder found = ⊤
IsListing (Some files) folder None = (name : List ℕ) → is_below files folder name ≡ false
IsListing (Some files) folder (Some names) = InOrder names × (names ≢ []) × ((name : List ℕ) → lists names name ≡ is_below files folder name)

-- the count of faults didn't fall, the disk failed only where it rose, and any other answer left it as it was
pub record HasDiskCause {T : Type 0} (before now : ℕ) (result : Result T DiskFault) : Type 0 where
  pub later : before ≤ now
  pub failed : result ≡ Err Failed → Rose before now
  pub unfailed : result ≢ Err Failed → now ≡ before
