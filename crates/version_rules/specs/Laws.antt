-- What the texts of versions and of constraints read as.
use Rattle.std.specs.Prelude.{◌≡◌, ℕ, ◌^◌, ◌<◌, List, Ok}
use Rattle.version_rules.specs.declared.versions.Version.{Version}
use Rattle.version_rules.specs.Constraints.{constraint_text, reads_constraint}
use Rattle.version_rules.specs.Terms.{Terms, AreParts}
use Rattle.version_rules.specs.Versions.{reads_version, version_text}

-- each part fits 64 bits
pub record FitsVersion (v : Version) : Type 0 where
  pub major : v.major < 2 ^ 64
  pub minor : v.minor < 2 ^ 64
  pub patch : v.patch < 2 ^ 64

-- what a text spells fits 64 bits a part
abbrev pub VersionsFit : Type 0
VersionsFit = (text : List ℕ) (v : Version) → reads_version text ≡ Ok v → FitsVersion v

-- the text of a version reads as that version
abbrev pub VersionsReadBack : Type 0
VersionsReadBack = (v : Version) → FitsVersion v → reads_version (version_text v) ≡ Ok v

-- the text of a constraint reads as that constraint
abbrev pub ConstraintsReadBack : Type 0
ConstraintsReadBack = (c : Terms) → FitsVersion c.version → AreParts c.version c.parts → reads_constraint (constraint_text c) ≡ Ok c
