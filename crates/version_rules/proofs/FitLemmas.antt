-- A version that was read fits 64 bits a part.
use Rattle.std.proofs.Common.{◌≡◌, ℕ, ◌^◌, ◌<◌, Bool, true, false, not, ◌||◌, List, [], ◌∷◌, Result, Ok, Err, cond, zero, suc, refl, subst, arith}
use Rattle.std.proofs.lemmas.Bool.Decides.{nat_tests}
use Rattle.std.specs.Str.Parse.{digits_value}
use Rattle.std.specs.List.{list_any}
use Rattle.version_rules.specs.Laws.{FitsVersion}
use Rattle.version_rules.specs.Versions.{is_too_large, is_version, number_at, parts_of, reads_version}
use Rattle.version_rules.specs.declared.fault.VersionFault.{VersionFault}
use Rattle.version_rules.specs.declared.fault.VersionFault.TheVariants.{NotAVersion, PartTooLarge}
use Rattle.version_rules.specs.declared.versions.Version.{Version}

neither : (a b : Bool) → (a || b) ≡ false → (a ≡ false) × (b ≡ false)
neither true b none = cc
neither false b none = (refl, none)

small : (part : List ℕ) → is_too_large part ≡ false → digits_value 10 part < 2 ^ 64
small part none = grind (arith, nat_tests)

small_at : (parts : List (List ℕ)) (k : ℕ) → list_any is_too_large parts ≡ false → number_at parts k < 2 ^ 64
small_at [] zero none = small [] refl
small_at [] (suc k) none = small [] refl
small_at (part ∷ rest) zero none = small part (neither (is_too_large part) (list_any is_too_large rest) none).0
small_at (part ∷ rest) (suc k) none = small_at rest k (neither (is_too_large part) (list_any is_too_large rest) none).1

-- what is read of three numbers that aren't too large
checked : (parts : List (List ℕ)) (version : Version) (a b : Bool) → list_any is_too_large parts ≡ b
    → cond (not a) (Err NotAVersion) (cond b (Err PartTooLarge) (Ok (record { major = number_at parts 0; minor = number_at parts 1; patch = number_at parts 2 }))) ≡ Ok version → FitsVersion version
checked parts version false b large is = cc
checked parts version true true large is = cc
checked parts version true false large is =
    subst FitsVersion (same_Ok _ version is) (record { major = small_at parts 0 large; minor = small_at parts 1 large; patch = small_at parts 2 large })
  where
    same_Ok : (v w : Version) → ◌≡◌ {A = Result Version VersionFault} (Ok v) (Ok w) → v ≡ w
    same_Ok v w same = cc same

-- a version that was read fits 64 bits a part
pub fits_read : (text : List ℕ) (version : Version) → reads_version text ≡ Ok version → FitsVersion version
fits_read text version is = checked (parts_of text) version (is_version (parts_of text)) (list_any is_too_large (parts_of text)) refl is
