-- The terms of a constraint, as contracts see it.
use Rattle.std.specs.Prelude.{◌≡◌, ℕ, ◌⊎◌}
use Rattle.version_rules.specs.declared.constraints.Sign.{Sign}
use Rattle.version_rules.specs.declared.versions.Version.{Version}

-- a sign, a version, and how many parts of the version are written
pub record Terms : Type 0 where
  pub sign : Sign
  pub version : Version
  pub parts : ℕ

-- three parts are written, or two, and then the patch is 0
abbrev pub AreParts : Version → ℕ → Type 0
AreParts version parts = (parts ≡ 3) ⊎ ((parts ≡ 2) × (version.patch ≡ 0))
