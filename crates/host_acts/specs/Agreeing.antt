-- Wants that agree, and what an act keeps.
use Rattle.std.specs.Prelude.{◌≡◌, ◌⊎◌, true, Option, Some, None, ⊤}
use Rattle.host_tree.specs.Entries.{Entries}
use Rattle.host_tree.specs.Paths.{is_above}
use Rattle.host_tree.specs.declared.entry.Entry.{Entry}
use Rattle.host_acts.specs.Acts.{Updates}
use Rattle.host_acts.specs.Tasks.{Task, wanted_by}
use Rattle.host_acts.specs.Wants.{Want, Wanted, absent, file, directory, link, Holds, IsWanted, LetsBe}

-- a host has what is wanted
abbrev pub HoldsIn : Entries → Wanted → Type 0
HoldsIn host wanted = Holds host wanted.path wanted.want

-- two wants agree: some host has both
pub record Agrees (one other : Wanted) : Type 0 where
  pub host : Entries
  pub one_holds : HoldsIn host one
  pub other_holds : HoldsIn host other

-- a directory is wanted
abbrev pub IsDirectoryWant : Want → Type 0
IsDirectoryWant absent = ⊥
IsDirectoryWant (file content mode) = ⊥
IsDirectoryWant (directory mode) = Unit {0}
IsDirectoryWant (link to) = ⊥

-- what is wanted of a path and of a proper prefix of it fit: a directory is wanted at the prefix, or both are to be absent
abbrev pub FitAbove : Want → Want → Type 0
FitAbove above below = IsDirectoryWant above ⊎ ((above ≡ absent) × (below ≡ absent))

-- two wants agree by their paths: at one path some host has both, and where one path is a proper prefix of the other, they fit
pub record AgreesByPath (one other : Wanted) : Type 0 where
  pub same : one.path ≡ other.path → Agrees one other
  pub over : is_above one.path other.path ≡ true → FitAbove one.want other.want
  pub under : is_above other.path one.path ≡ true → FitAbove other.want one.want

-- what is given twice is the same; what is open goes with anything
abbrev pub GivesAlike : {X : Type 0} → Option X → Option X → Type 0
GivesAlike None other = ⊤
GivesAlike (Some one) None = ⊤
GivesAlike (Some one) (Some other) = one ≡ other

-- what is wanted of one path twice can be had at once: both times nothing, a file with content and mode alike, a directory with modes alike, or a link to the same
abbrev pub AreAlike : Want → Want → Type 0
AreAlike absent absent = ⊤
AreAlike absent (file content mode) = ⊥
AreAlike absent (directory mode) = ⊥
AreAlike absent (link to) = ⊥
AreAlike (file content mode) absent = ⊥
AreAlike (file content mode) (file other bits) = GivesAlike content other × GivesAlike mode bits
AreAlike (file content mode) (directory bits) = ⊥
AreAlike (file content mode) (link to) = ⊥
AreAlike (directory mode) absent = ⊥
AreAlike (directory mode) (file content bits) = ⊥
AreAlike (directory mode) (directory bits) = GivesAlike mode bits
AreAlike (directory mode) (link to) = ⊥
AreAlike (link to) absent = ⊥
AreAlike (link to) (file content mode) = ⊥
AreAlike (link to) (directory mode) = ⊥
AreAlike (link to) (link other) = to ≡ other

-- two wants agree by the table, which asks for no host: at one path they are alike, and where one path is a proper prefix of the other, they fit
pub record AgreesByTable (one other : Wanted) : Type 0 where
  pub same : one.path ≡ other.path → AreAlike one.want other.want
  pub over : is_above one.path other.path ≡ true → FitAbove one.want other.want
  pub under : is_above other.path one.path ≡ true → FitAbove other.want one.want

-- wants that agree by the table agree: some host has both
abbrev pub AgreeingByTable : Type 0
AgreeingByTable = (one other : Wanted) → AgreesByTable one other → Agrees one other

-- what an act that wants the second leaves of the first
pub record Suits (kept done : Wanted) : Type 0 where
  pub same : kept.path ≡ done.path → Agrees kept done
  pub over : is_above kept.path done.path ≡ true → kept.want ≡ absent → done.want ≡ absent
  pub under : is_above done.path kept.path ≡ true → (entry : Option Entry) → IsWanted done.want entry → LetsBe kept.want entry

-- an act that updates keeps each want that suits its own
abbrev pub UpdatesKeep : Type 0
UpdatesKeep = (kept : Wanted) (task : Task) (host new : Entries) → Suits kept (wanted_by task) → HoldsIn host kept → Updates task host new → HoldsIn new kept

-- wants that agree suit each other
abbrev pub AgreeingSuit : Type 0
AgreeingSuit = (kept done : Wanted) → Agrees kept done → Suits kept done

-- so do wants that agree by their paths
abbrev pub AgreeingByPathSuit : Type 0
AgreeingByPathSuit = (kept done : Wanted) → AgreesByPath kept done → Suits kept done
