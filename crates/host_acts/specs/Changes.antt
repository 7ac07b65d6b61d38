-- What the calls of one act make of a host, for the private clauses.
use Rattle.std.specs.Prelude.{◌≡◌, ◌≢◌, ◌⊎◌, ℕ, ◌<◌, Bool, true, false, List, [], length, take, slice_index, Option, Some, None, option_map, if◌then◌else◌, IsTrue, ⊤}
use Rattle.host_tree.specs.Acts.{IsReached, entry_of, moded}
use Rattle.host_tree.specs.Entries.{Entries, at, IsDirectory, IsHost}
use Rattle.host_tree.specs.Paths.{is_above, is_normal}
use Rattle.host_tree.specs.declared.entry.Entry.{Entry}
use Rattle.host_tree.specs.declared.entry.Entry.TheVariants.{File, Directory, Link}
use Rattle.host_tree.specs.declared.seen.Seen.{Seen}
use Rattle.host_acts.specs.Acts.{given, or_directory}
use Rattle.host_acts.specs.Steps.{fits_mode, fits_text}

-- each path but this one has what it had
abbrev pub KeepsOthers : List ℕ → Entries → Entries → Type 0
KeepsOthers path host new = (other : List ℕ) → other ≢ path → at new other ≡ at host other

-- this stands at the path then, and each other path has what it had
pub record Becomes (path : List ℕ) (entry : Option Entry) (host new : Entries) : Type 0 where
  pub here : at new path ≡ entry
  pub others : KeepsOthers path host new

-- this was seen at a path that is normal and reached
pub record Stands (path : List ℕ) (seen : Seen) (host : Entries) : Type 0 where
  pub whole : IsHost host
  pub normal : IsTrue (is_normal path)
  pub reached : IsReached host path
  pub here : at host path ≡ entry_of seen

-- no directory stands there
abbrev pub IsNoDirectory : Option Entry → Type 0
IsNoDirectory None = ⊤
IsNoDirectory (Some (File content mode)) = ⊤
IsNoDirectory (Some (Directory mode)) = ⊥
IsNoDirectory (Some (Link to)) = ⊤

-- neither a file nor a link stands there
abbrev pub IsDirectoryOrNone : Option Entry → Type 0
IsDirectoryOrNone None = ⊤
IsDirectoryOrNone (Some (File content mode)) = ⊥
IsDirectoryOrNone (Some (Directory mode)) = ⊤
IsDirectoryOrNone (Some (Link to)) = ⊥

-- a link stands there, or nothing
abbrev pub IsLinkOrNone : Option Entry → Type 0
IsLinkOrNone None = ⊤
IsLinkOrNone (Some (File content mode)) = ⊥
IsLinkOrNone (Some (Directory mode)) = ⊥
IsLinkOrNone (Some (Link to)) = ⊤

-- what stands there once a link is taken away
abbrev pub unlinked : Option Entry → Option Entry
unlinked None = None
unlinked (Some (File content mode)) = Some (File content mode)
unlinked (Some (Directory mode)) = Some (Directory mode)
unlinked (Some (Link to)) = None

-- a file stands there that keeps its content: none is given, or the one that it has
abbrev pub is_kept : Option (List ℕ) → Option Entry → Bool
is_kept content None = false
is_kept content (Some (File before mode)) = fits_text content before
is_kept content (Some (Directory mode)) = false
is_kept content (Some (Link to)) = false

-- the content that is given, or none
abbrev pub text_of : Option (List ℕ) → List ℕ
text_of content = given content []

-- a file with the content that is given: else it keeps its own, and a new one is empty
abbrev pub content_put : Option (List ℕ) → Option Entry → Option Entry
content_put content None = Some (File (given content []) 420)
content_put content (Some (File before mode)) = Some (File (given content before) mode)
content_put content (Some (Directory mode)) = Some (File (given content []) 420)
content_put content (Some (Link to)) = Some (File (given content []) 420)

-- the mode that is to be set: the one that is given, unless it is there
abbrev pub mode_due : Option ℕ → Option Entry → Option ℕ
mode_due mode None = mode
mode_due mode (Some (File content before)) = if fits_mode mode before then None else mode
mode_due mode (Some (Directory before)) = if fits_mode mode before then None else mode
mode_due mode (Some (Link to)) = mode

-- an entry with the mode that is due
abbrev pub with_due : Option ℕ → Entry → Entry
with_due None entry = entry
with_due (Some mode) entry = moded mode entry

-- a file with the content and mode that are given
abbrev pub file_put : Option (List ℕ) → Option ℕ → Option Entry → Option Entry
file_put content mode entry = option_map (with_due (mode_due mode entry)) (content_put content entry)

-- a directory with the mode that is given
abbrev pub directory_with : Option ℕ → Option Entry → Option Entry
directory_with mode entry = option_map (with_due (mode_due mode entry)) (or_directory entry)

-- what was seen stands at a path that is reached, but for a link, which was taken away
pub record IsUnlinked (path : List ℕ) (entry : Option Entry) (host : Entries) : Type 0 where
  pub reached : IsReached host path
  pub here : at host path ≡ unlinked entry

-- the path has what stood there with the mode that is due, and each other path has what it had
pub record SetsDue (path : List ℕ) (due : Option ℕ) (host new : Entries) : Type 0 where
  pub here : at new path ≡ option_map (with_due due) (at host path)
  pub others : KeepsOthers path host new

-- a missing proper prefix became a directory of mode 0755, or a path has what it had
abbrev pub StaysOrIsMade : (List ℕ → Type 0) → Entries → Entries → List ℕ → Type 0
StaysOrIsMade IsMade host new path = (at new path ≡ at host path) ⊎ (IsMade path × (at host path ≡ None) × (at new path ≡ Some (Directory 493)))

-- the proper prefixes that are shorter than this are directories, of which the missing ones were made, and nothing else
pub record BuiltUpTo (path : List ℕ) (end : ℕ) (host new : Entries) : Type 0 where
  pub each : (prefix : List ℕ) → is_above prefix path ≡ true → length prefix < end → IsDirectory (at new prefix)
  pub others : (other : List ℕ) → StaysOrIsMade (λ p. (is_above p path ≡ true) × (length p < end)) host new other

-- the missing proper prefix that ends here was made, where one ends here, and nothing else
pub record MakesPrefix (path : List ℕ) (end : ℕ) (host new : Entries) : Type 0 where
  pub here : slice_index path end ≡ 47 → at new (take end path) ≡ Some (Directory 493)
  pub others : (other : List ℕ) → (slice_index path end ≡ 47 → other ≢ take end path) → at new other ≡ at host other

-- some missing proper prefixes were made, and nothing else
abbrev pub BuiltPart : List ℕ → Entries → Entries → Type 0
BuiltPart path host new = (other : List ℕ) → StaysOrIsMade (λ p. is_above p path ≡ true) host new other
