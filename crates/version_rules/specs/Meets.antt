-- Which versions meet a constraint, by inequalities between triples of whole numbers without a bound.
use Rattle.std.specs.Prelude.{◌≡◌, ℕ, ◌+◌, ◌==◌, if◌then◌else◌}
use Rattle.version_rules.specs.declared.constraints.Sign.{Sign}
use Rattle.version_rules.specs.declared.constraints.Sign.TheVariants.{Equal, Less, Greater, AtMost, AtLeast, Close}
use Rattle.version_rules.specs.declared.versions.Version.{Version}
use Rattle.version_rules.specs.Order.{IsBelow, IsAtMost}
use Rattle.version_rules.specs.Terms.{Terms}

-- where `~>` of this version ends: at the next major part if two parts are written, and else at the next minor part
abbrev pub end_of : Version → ℕ → Version
end_of w parts =
    if parts == 2 then record { major = w.major + 1; minor = 0; patch = 0 }
    else record { major = w.major; minor = w.minor + 1; patch = 0 }

-- v stands to w as the sign says
abbrev pub MeetsSign : Sign → Version → Version → ℕ → Type 0
MeetsSign Equal v w parts = v ≡ w
MeetsSign Less v w parts = IsBelow v w
MeetsSign Greater v w parts = IsBelow w v
MeetsSign AtMost v w parts = IsAtMost v w
MeetsSign AtLeast v w parts = IsAtMost w v
MeetsSign Close v w parts = IsAtMost w v × IsBelow v (end_of w parts)

-- the version meets the constraint
abbrev pub Meets : Version → Terms → Type 0
Meets v c = MeetsSign c.sign v c.version c.parts
