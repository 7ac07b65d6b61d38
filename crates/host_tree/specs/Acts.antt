-- What a look at a host sees, when a host can be changed, and what each change makes of it.
use Rattle.std.specs.Prelude.{◌≡◌, ◌⊎◌, ℕ, Bool, true, false, not, ◌||◌, List, Option, Some, None, ⊤, bytes_eq}
use Rattle.std.specs.FinMap as finite
use Rattle.host_tree.specs.Entries.{Entries, at, IsDirectory}
use Rattle.host_tree.specs.Paths.{is_above}
use Rattle.host_tree.specs.declared.entry.Entry.{Entry}
use Rattle.host_tree.specs.declared.entry.Entry.TheVariants.{File, Directory, Link}
use Rattle.host_tree.specs.declared.seen.Seen.{Seen}
use Rattle.host_tree.specs.declared.seen.Seen.TheVariants.{Absent, FileThere, FolderThere, LinkThere}

-- ---- what is seen

-- what is seen where this stands and something is below it or not
abbrev pub sight : Bool → Option Entry → Seen
sight below None = Absent
sight below (Some (File content mode)) = FileThere content mode
sight below (Some (Directory mode)) = FolderThere mode (not below)
sight below (Some (Link to)) = LinkThere to

-- what stands where this is seen
abbrev pub entry_of : Seen → Option Entry
entry_of Absent = None
entry_of (FileThere content mode) = Some (File content mode)
entry_of (FolderThere mode empty) = Some (Directory mode)
entry_of (LinkThere to) = Some (Link to)

-- ---- when a path can be changed

-- each proper prefix of the path is a directory
abbrev pub IsReached : Entries → List ℕ → Type 0
IsReached host path = (above : List ℕ) → is_above above path ≡ true → IsDirectory (at host above)

-- a file stands there, or nothing
abbrev pub IsFileOrNone : Option Entry → Type 0
IsFileOrNone None = ⊤
IsFileOrNone (Some (File content mode)) = ⊤
IsFileOrNone (Some (Directory mode)) = ⊥
IsFileOrNone (Some (Link to)) = ⊥

-- a file stands there, or a directory
abbrev pub HasMode : Option Entry → Type 0
HasMode None = ⊥
HasMode (Some (File content mode)) = ⊤
HasMode (Some (Directory mode)) = ⊤
HasMode (Some (Link to)) = ⊥

-- a file can be written there
abbrev pub CanWrite : Entries → List ℕ → Type 0
CanWrite host path = IsReached host path × IsFileOrNone (at host path)

-- a directory or a link can be made there
abbrev pub CanMake : Entries → List ℕ → Type 0
CanMake host path = IsReached host path × (at host path ≡ None)

-- a mode can be set there
abbrev pub CanSetMode : Entries → List ℕ → Type 0
CanSetMode host path = IsReached host path × HasMode (at host path)

-- what stands there can be removed
abbrev pub CanRemove : Entries → List ℕ → Type 0
CanRemove host path = IsReached host path × ((entry : Entry) × (at host path ≡ Some entry))

-- ---- what each change makes

-- the file that is written where this stands: a file keeps its mode, and a new one has 0644
abbrev pub written : List ℕ → Option Entry → Entry
written content None = File content 420
written content (Some (File before mode)) = File content mode
written content (Some (Directory mode)) = File content 420
written content (Some (Link to)) = File content 420

-- this entry with another mode
abbrev pub moded : ℕ → Entry → Entry
moded mode (File content before) = File content mode
moded mode (Directory before) = Directory mode
moded mode (Link to) = Link to

-- this host with a file of this content at the path
abbrev pub with_file : List ℕ → List ℕ → Entries → Entries
with_file path content host = finite.insert host path (written content (at host path))

-- this host with a directory of mode 0755 at the path
abbrev pub with_directory : List ℕ → Entries → Entries
with_directory path host = finite.insert host path (Directory 493)

-- this host with a link at the path
abbrev pub with_link : List ℕ → List ℕ → Entries → Entries
with_link path to host = finite.insert host path (Link to)

-- these entries, of which that at the path, where one stands there, has this mode
abbrev pub with_mode_at : Option Entry → List ℕ → ℕ → Entries → Entries
with_mode_at None path mode host = host
with_mode_at (Some entry) path mode host = finite.insert host path (moded mode entry)

-- this host with this mode at the path
abbrev pub with_mode : List ℕ → ℕ → Entries → Entries
with_mode path mode host = with_mode_at (at host path) path mode host

-- this host without the path and all that is below it
abbrev pub without : List ℕ → Entries → Entries
without path host = finite.retain_keys host (λ other. not (bytes_eq path other || is_above path other))

-- a path has what it had, or nothing any more
abbrev pub StaysOrGoes : Option Entry → Option Entry → Type 0
StaysOrGoes before after = (after ≡ before) ⊎ (after ≡ None)

-- of a directory any part of what is below it went, and else nothing
pub record LosesPart (path : List ℕ) (host new : Entries) : Type 0 where
  pub below : (other : List ℕ) → is_above path other ≡ true → StaysOrGoes (at host other) (at new other)
  pub elsewhere : (other : List ℕ) → is_above path other ≡ false → at new other ≡ at host other
  pub directory : ((IsDirectory (at host path)) → ⊥) → new ≡ host
