-- The order of versions: by the major part, then the minor part, then the patch.
use Rattle.std.specs.Prelude.{◌≡◌, ◌<◌, ◌⊎◌}
use Rattle.std.specs.Ordering.{nat_cmp, on, then_cmp}
use Rattle.std.specs.declared.cmp.Ordering.{Ordering}
use Rattle.version_rules.specs.declared.versions.Version.{Version}

-- v is less than w in the lexicographic order of the three parts
abbrev pub IsBelow : Version → Version → Type 0
IsBelow v w = (v.major < w.major)
    ⊎ ((v.major ≡ w.major) × (v.minor < w.minor))
    ⊎ ((v.major ≡ w.major) × (v.minor ≡ w.minor) × (v.patch < w.patch))

-- v is less than w, or is w
abbrev pub IsAtMost : Version → Version → Type 0
IsAtMost v w = IsBelow v w ⊎ (v ≡ w)

-- how `cmp` answers of two versions
abbrev pub version_cmp : Version → Version → Ordering
version_cmp = then_cmp (on (λ v. v.major) nat_cmp) (then_cmp (on (λ v. v.minor) nat_cmp) (on (λ v. v.patch) nat_cmp))
