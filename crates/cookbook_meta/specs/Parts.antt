-- The parts of a body: a text, a Name, a version, a constraint, a truth value, a checksum.
use Rattle.std.specs.Prelude.{ℕ, Bool, false, nat_le, ◌&&◌, ◌||◌, ◌==◌, List, length, Option, Some, None, Result, Ok, Err, ok_or}
use Rattle.std.specs.Char.{is_ascii_digit}
use Rattle.std.specs.List.{list_all}
use Rattle.doc_tree.specs.Doc.{Doc, boolean, words, Pairs}
use Rattle.doc_tree.specs.Name.{is_name}
use Rattle.doc_tree.specs.Part.{pair_at}
use Rattle.version_rules.specs.Constraints.{reads_constraint}
use Rattle.version_rules.specs.Terms.{Terms}
use Rattle.version_rules.specs.Versions.{reads_version}
use Rattle.version_rules.specs.declared.fault.VersionFault.{VersionFault}
use Rattle.version_rules.specs.declared.versions.Version.{Version}
use Rattle.cookbook_meta.specs.Faults.{then_do, keep_if}
use Rattle.cookbook_meta.specs.declared.fault.Flaw.{Flaw}
use Rattle.cookbook_meta.specs.declared.fault.Flaw.TheVariants.{MissingField, WrongKind, BadVersion, BadChecksum}

-- what stands at a key that must be there
abbrev pub needed : List ℕ → Pairs → Result Doc Flaw
needed key body = ok_or (pair_at key body) MissingField

-- a text
abbrev pub text_of : Doc → Result (List ℕ) Flaw
text_of (words text) = Ok text
text_of d = Err WrongKind

-- a text as a Name
abbrev pub as_name : List ℕ → Result (List ℕ) Flaw
as_name text = keep_if (is_name text) text WrongKind

-- a text that is a Name
abbrev pub name_of : Doc → Result (List ℕ) Flaw
name_of d = then_do (text_of d) as_name

-- what was read of a text that should be a version or a constraint on versions
abbrev pub version_read : {A : Type 0} → Result A VersionFault → Result A Flaw
version_read (Ok x) = Ok x
version_read (Err f) = Err BadVersion

-- a text that is a version
abbrev pub version_of : Doc → Result Version Flaw
version_of d = then_do (text_of d) (λ text. version_read (reads_version text))

-- a text that is a constraint on versions
abbrev pub constraint_of : Doc → Result Terms Flaw
constraint_of d = then_do (text_of d) (λ text. version_read (reads_constraint text))

-- a truth value
abbrev pub truth_in : Doc → Result Bool Flaw
truth_in (boolean b) = Ok b
truth_in d = Err WrongKind

-- a truth value, or false where there is none
abbrev pub truth_of : Option Doc → Result Bool Flaw
truth_of None = Ok false
truth_of (Some d) = truth_in d

-- a decimal digit, or one of `a` to `f`
abbrev pub is_lower_hex : ℕ → Bool
is_lower_hex b = is_ascii_digit b || (nat_le 97 b && nat_le b 102)

-- 32 lower-case hexadecimal digits
abbrev pub is_checksum : List ℕ → Bool
is_checksum text = length text == 32 && list_all is_lower_hex text

-- a text that is a checksum
abbrev pub checksum_of : Doc → Result (List ℕ) Flaw
checksum_of d = then_do (text_of d) (λ text. keep_if (is_checksum text) text BadChecksum)

-- 40 lower-case hexadecimal digits
abbrev pub is_identifier : List ℕ → Bool
is_identifier text = length text == 40 && list_all is_lower_hex text
