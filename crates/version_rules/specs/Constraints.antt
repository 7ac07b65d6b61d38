-- Constraints on versions: an operator and a version.
use Rattle.std.specs.Prelude.{ℕ, Bool, true, false, ◌&&◌, ◌||◌, ◌==◌, if◌then◌else◌, List, [], ◌∷◌, ◌++◌, length, drop, reverse, take_while, find, bytes_eq, codes, Option, Some, None, Result, Ok, Err, decimal}
use Rattle.version_rules.specs.declared.constraints.Sign.{Sign}
use Rattle.version_rules.specs.declared.constraints.Sign.TheVariants.{Equal, Less, Greater, AtMost, AtLeast, Close}
use Rattle.version_rules.specs.declared.fault.VersionFault.{VersionFault}
use Rattle.version_rules.specs.declared.fault.VersionFault.TheVariants.{NoSuchOperator, PessimisticOnePart}
use Rattle.version_rules.specs.declared.versions.Version.{Version}
use Rattle.version_rules.specs.Terms.{Terms}
use Rattle.version_rules.specs.Versions.{is_number, parts_of, reads_version, version_text}

-- a byte of an operator: one of `=`, `<`, `>`, `~` and `!`
abbrev pub is_operator_byte : ℕ → Bool
is_operator_byte b = b == 61 || b == 60 || b == 62 || b == 126 || b == 33

-- the bytes without the spaces in front of them
abbrev pub without_front_spaces : List ℕ → List ℕ
without_front_spaces [] = []
without_front_spaces (b ∷ bs) = if b == 32 then without_front_spaces bs else b ∷ bs

-- the bytes without the spaces behind them
abbrev pub without_last_spaces : List ℕ → List ℕ
without_last_spaces bs = reverse (without_front_spaces (reverse bs))

-- the bytes between the spaces at both ends
abbrev pub bare : List ℕ → List ℕ
bare bs = without_last_spaces (without_front_spaces bs)

-- the longest front of operator bytes
abbrev pub operator_of : List ℕ → List ℕ
operator_of bs = take_while is_operator_byte bs

-- what stands behind the operator and the spaces that follow it
abbrev pub behind_operator : List ℕ → List ℕ
behind_operator bs = without_front_spaces (drop (length (operator_of bs)) bs)

-- how a sign is written
abbrev pub sign_text : Sign → List ℕ
sign_text Equal = codes "="
sign_text Less = codes "<"
sign_text Greater = codes ">"
sign_text AtMost = codes "<="
sign_text AtLeast = codes ">="
sign_text Close = codes "~>"

abbrev pub signs : List Sign
signs = Equal ∷ Less ∷ Greater ∷ AtMost ∷ AtLeast ∷ Close ∷ []

-- the sign that an operator writes, where no operator at all is `=`
abbrev pub sign_of : List ℕ → Option Sign
sign_of operator = if length operator == 0 then Some Equal else find (λ sign. bytes_eq operator (sign_text sign)) signs

-- the sign is `~>`
abbrev pub is_close : Sign → Bool
is_close Equal = false
is_close Less = false
is_close Greater = false
is_close AtMost = false
is_close AtLeast = false
is_close Close = true

-- the constraint of a sign and a version with so many parts, or why there is no version
abbrev pub with_sign : Sign → ℕ → Result Version VersionFault → Result Terms VersionFault
with_sign sign parts (Ok version) = Ok (record { sign = sign; version = version; parts = parts })
with_sign sign parts (Err fault) = Err fault

-- the constraint of a sign and the text behind it, or why there is none
abbrev pub constraint_of : Option Sign → List ℕ → Result Terms VersionFault
constraint_of None behind = Err NoSuchOperator
constraint_of (Some sign) behind =
    if is_close sign && is_number behind then Err PessimisticOnePart
    else with_sign sign (length (parts_of behind)) (reads_version behind)

-- the constraint that a text spells between its outer spaces, or why it spells none
abbrev pub reads_constraint : List ℕ → Result Terms VersionFault
reads_constraint text = constraint_of (sign_of (operator_of (bare text))) (behind_operator (bare text))

-- the text of a version, with two parts or with three
abbrev pub parts_text : Version → ℕ → List ℕ
parts_text v parts = if parts == 2 then decimal v.major ++ 46 ∷ decimal v.minor else version_text v

-- the text of a constraint: its sign, a space, and its version with as many parts as were written
abbrev pub constraint_text : Terms → List ℕ
constraint_text c = sign_text c.sign ++ 32 ∷ parts_text c.version c.parts
