-- What an act wants of a host.
use Rattle.std.specs.Prelude.{◌≡◌, ℕ, true, List, Option, Some, None, ⊤}
use Rattle.host_tree.specs.Entries.{Entries, at, IsDirectory}
use Rattle.host_tree.specs.Paths.{is_above}
use Rattle.host_tree.specs.declared.entry.Entry.{Entry}
use Rattle.host_tree.specs.declared.entry.Entry.TheVariants.{File, Directory, Link}

-- what is wanted of a path: that nothing stands there, or a file, a directory or a link. What isn't given is open
pub data Want : Type 0 where
  absent : Want
  file : (content : Option (List ℕ)) (mode : Option ℕ) → Want
  directory : (mode : Option ℕ) → Want
  link : (to : List ℕ) → Want

-- a want of a path
pub record Wanted : Type 0 where
  pub path : List ℕ
  pub want : Want

-- what is given is so; what is open may be anything
abbrev pub Fits : {X : Type 0} → Option X → X → Type 0
Fits None x = ⊤
Fits (Some given) x = x ≡ given

-- what stands at a path is what is wanted there
abbrev pub IsWanted : Want → Option Entry → Type 0
IsWanted absent None = ⊤
IsWanted absent (Some entry) = ⊥
IsWanted (file content mode) None = ⊥
IsWanted (file content mode) (Some (File before bits)) = Fits content before × Fits mode bits
IsWanted (file content mode) (Some (Directory bits)) = ⊥
IsWanted (file content mode) (Some (Link before)) = ⊥
IsWanted (directory mode) None = ⊥
IsWanted (directory mode) (Some (File before bits)) = ⊥
IsWanted (directory mode) (Some (Directory bits)) = Fits mode bits
IsWanted (directory mode) (Some (Link before)) = ⊥
IsWanted (link to) None = ⊥
IsWanted (link to) (Some (File before bits)) = ⊥
IsWanted (link to) (Some (Directory bits)) = ⊥
IsWanted (link to) (Some (Link before)) = before ≡ to

-- no link stands there
abbrev pub IsNoLink : Option Entry → Type 0
IsNoLink None = ⊤
IsNoLink (Some (File content mode)) = ⊤
IsNoLink (Some (Directory mode)) = ⊤
IsNoLink (Some (Link to)) = ⊥

-- what may stand at a proper prefix of a path where this is wanted: a directory, or for absence anything but a link
abbrev pub LetsBe : Want → Option Entry → Type 0
LetsBe absent above = IsNoLink above
LetsBe (file content mode) above = IsDirectory above
LetsBe (directory mode) above = IsDirectory above
LetsBe (link to) above = IsDirectory above

-- a host has what is wanted of a path: it stands there, and each proper prefix of the path lets it be
pub record Holds (host : Entries) (path : List ℕ) (want : Want) : Type 0 where
  pub here : IsWanted want (at host path)
  pub above : (prefix : List ℕ) → is_above prefix path ≡ true → LetsBe want (at host prefix)
