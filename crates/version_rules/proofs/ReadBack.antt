-- The texts of versions and constraints read back.
use Rattle.std.proofs.Common.{◌≡◌, ℕ, ◌^◌, ◌<◌, true, false, List, [], ◌∷◌, ◌++◌, length, decimal, Ok, sym, ap, subst, ◌∙◌, refl, append_assoc, inl, inr}
use Rattle.std.specs.Str.Parse.{digits_value}
use Rattle.version_rules.specs.declared.constraints.Sign.{Sign}
use Rattle.version_rules.specs.declared.constraints.Sign.TheVariants.{Equal, Less, Greater, AtMost, AtLeast, Close}
use Rattle.version_rules.specs.declared.versions.Version.{Version}
use Rattle.version_rules.specs.Constraints.{behind_operator, constraint_of, constraint_text, operator_of, reads_constraint, sign_of, sign_text, with_sign, without_front_spaces, without_last_spaces}
use Rattle.version_rules.specs.Laws.{ConstraintsReadBack, FitsVersion, VersionsReadBack}
use Rattle.version_rules.specs.Terms.{Terms}
use Rattle.version_rules.specs.Versions.{is_number, is_too_large, parts_of, reads_version, version_of, version_text}
use Rattle.version_rules.proofs.DecimalLemmas.{is_number-decimal, is_number-dot, is_too_large-decimal, parts_of-number, parts_of-number_dot, value-decimal, without_front_spaces-number, without_last_spaces-number}

-- two decimal texts with a dot between them have those two parts
parts_of-two : (x y : ℕ) → x < 2 ^ 64 → y < 2 ^ 64 → parts_of (decimal x ++ 46 ∷ decimal y) ≡ decimal x ∷ decimal y ∷ []
parts_of-two x y fits_x fits_y =
    parts_of-number_dot (decimal x) (decimal y) (is_number-decimal x fits_x) ∙ ap (λ ps. decimal x ∷ ps) (parts_of-number (decimal y) (is_number-decimal y fits_y))

-- and three have those three
parts_of-three : (v : Version) → FitsVersion v → parts_of (version_text v) ≡ decimal v.major ∷ decimal v.minor ∷ decimal v.patch ∷ []
parts_of-three v fits =
    ap parts_of (append_assoc (decimal v.major) (46 ∷ decimal v.minor) (46 ∷ decimal v.patch))
    ∙ parts_of-number_dot (decimal v.major) (decimal v.minor ++ 46 ∷ decimal v.patch) (is_number-decimal v.major fits.major)
    ∙ ap (λ ps. decimal v.major ∷ ps) (parts_of-two v.minor v.patch fits.minor fits.patch)

-- three numbers are the version of their values
version_of-three : (x y z : List ℕ) → is_number x ≡ true → is_number y ≡ true → is_number z ≡ true
    → is_too_large x ≡ false → is_too_large y ≡ false → is_too_large z ≡ false
    → version_of (x ∷ y ∷ z ∷ []) ≡ Ok (record { major = digits_value 10 x; minor = digits_value 10 y; patch = digits_value 10 z })
version_of-three x y z a b c d e f = rw (a, b, c, d, e, f) refl

-- and of two the patch is 0
version_of-two : (x y : List ℕ) → is_number x ≡ true → is_number y ≡ true → is_too_large x ≡ false → is_too_large y ≡ false
    → version_of (x ∷ y ∷ []) ≡ Ok (record { major = digits_value 10 x; minor = digits_value 10 y; patch = 0 })
version_of-two x y a b d e = rw (a, b, d, e) refl

pub versions_read_back : VersionsReadBack
versions_read_back v fits =
    ap version_of (parts_of-three v fits)
    ∙ version_of-three (decimal v.major) (decimal v.minor) (decimal v.patch)
    (is_number-decimal v.major fits.major) (is_number-decimal v.minor fits.minor) (is_number-decimal v.patch fits.patch)
    (is_too_large-decimal v.major fits.major) (is_too_large-decimal v.minor fits.minor) (is_too_large-decimal v.patch fits.patch)
    ∙ rw (value-decimal v.major fits.major, value-decimal v.minor fits.minor, value-decimal v.patch fits.patch) refl

-- the text of two numbers reads as the version with the patch 0
reads_two : (x y : ℕ) → x < 2 ^ 64 → y < 2 ^ 64 → reads_version (decimal x ++ 46 ∷ decimal y) ≡ Ok (record { major = x; minor = y; patch = 0 })
reads_two x y fits_x fits_y =
    ap version_of (parts_of-two x y fits_x fits_y)
    ∙ version_of-two (decimal x) (decimal y) (is_number-decimal x fits_x) (is_number-decimal y fits_y) (is_too_large-decimal x fits_x) (is_too_large-decimal y fits_y)
    ∙ rw (value-decimal x fits_x, value-decimal y fits_y) refl

-- no space stands before or behind the body, and it is no number
record IsBody (body : List ℕ) : Type 0 where
  front : without_front_spaces body ≡ body
  last : (before : List ℕ) → without_last_spaces (before ++ body) ≡ before ++ body
  dotted : is_number body ≡ false

-- what begins with a number and a dot, and ends with a number, is a body
IsBody-from_ends : (body x rest front y : List ℕ) → body ≡ x ++ 46 ∷ rest → body ≡ front ++ y → is_number x ≡ true → is_number y ≡ true → IsBody body
IsBody-from_ends body x rest front y begins ends a b = record {
  front = rw begins (without_front_spaces-number x (46 ∷ rest) a);
  last = λ before. rw (ends, ← append_assoc before front y) (without_last_spaces-number (before ++ front) y b);
  dotted = rw begins (is_number-dot x rest);
}

IsBody-two : (x y : List ℕ) → is_number x ≡ true → is_number y ≡ true → IsBody (x ++ 46 ∷ y)
IsBody-two x y a b = IsBody-from_ends (x ++ 46 ∷ y) x y (x ++ 46 ∷ []) y refl (sym (append_assoc x (46 ∷ []) y)) a b

IsBody-three : (x y z : List ℕ) → is_number x ≡ true → is_number z ≡ true → IsBody (x ++ 46 ∷ y ++ 46 ∷ z)
IsBody-three x y z a c =
    IsBody-from_ends (x ++ 46 ∷ y ++ 46 ∷ z) x (y ++ 46 ∷ z) (x ++ 46 ∷ y ++ 46 ∷ []) z
    (append_assoc x (46 ∷ y) (46 ∷ z)) (sym (append_assoc (x ++ 46 ∷ y) (46 ∷ []) z)) a c

-- a sign, a space and a body read as a constraint with that sign
reads_sign : (sign : Sign) (body : List ℕ) → IsBody body
    → reads_constraint (sign_text sign ++ 32 ∷ body) ≡ with_sign sign (length (parts_of body)) (reads_version body)
reads_sign Equal body b = ap (λ bare. constraint_of (sign_of (operator_of bare)) (behind_operator bare)) (b.last (61 ∷ 32 ∷ [])) ∙ rw b.front refl
reads_sign Less body b = ap (λ bare. constraint_of (sign_of (operator_of bare)) (behind_operator bare)) (b.last (60 ∷ 32 ∷ [])) ∙ rw b.front refl
reads_sign Greater body b = ap (λ bare. constraint_of (sign_of (operator_of bare)) (behind_operator bare)) (b.last (62 ∷ 32 ∷ [])) ∙ rw b.front refl
reads_sign AtMost body b = ap (λ bare. constraint_of (sign_of (operator_of bare)) (behind_operator bare)) (b.last (60 ∷ 61 ∷ 32 ∷ [])) ∙ rw b.front refl
reads_sign AtLeast body b = ap (λ bare. constraint_of (sign_of (operator_of bare)) (behind_operator bare)) (b.last (62 ∷ 61 ∷ 32 ∷ [])) ∙ rw b.front refl
reads_sign Close body b = ap (λ bare. constraint_of (sign_of (operator_of bare)) (behind_operator bare)) (b.last (126 ∷ 62 ∷ 32 ∷ [])) ∙ rw (b.front, b.dotted) refl

-- a constraint of three parts reads back
three_back : (sign : Sign) (v : Version) → FitsVersion v
    → reads_constraint (sign_text sign ++ 32 ∷ version_text v) ≡ Ok (record { sign = sign; version = v; parts = 3 })
three_back sign v fits =
    let body = IsBody-three (decimal v.major) (decimal v.minor) (decimal v.patch) (is_number-decimal v.major fits.major) (is_number-decimal v.patch fits.patch) in
    reads_sign sign (version_text v) body
    ∙ ap (λ parts. with_sign sign (length parts) (reads_version (version_text v))) (parts_of-three v fits)
    ∙ ap (λ read. with_sign sign 3 read) (versions_read_back v fits)

-- and so does one of two
two_back : (sign : Sign) (x y : ℕ) → x < 2 ^ 64 → y < 2 ^ 64
    → reads_constraint (sign_text sign ++ 32 ∷ (decimal x ++ 46 ∷ decimal y)) ≡ Ok (record { sign = sign; version = record { major = x; minor = y; patch = 0 }; parts = 2 })
two_back sign x y fits_x fits_y =
    let body = IsBody-two (decimal x) (decimal y) (is_number-decimal x fits_x) (is_number-decimal y fits_y) in
    let text = decimal x ++ 46 ∷ decimal y in
    reads_sign sign text body
    ∙ ap (λ parts. with_sign sign (length parts) (reads_version text)) (parts_of-two x y fits_x fits_y)
    ∙ ap (λ read. with_sign sign 2 read) (reads_two x y fits_x fits_y)

pub constraints_read_back : ConstraintsReadBack
constraints_read_back c fits parts =
    let P : Terms → Type 0 = λ t. reads_constraint (constraint_text t) ≡ Ok t in
    elim parts [
      | inl three ↦
          let same : record { sign = c.sign; version = c.version; parts = 3 } ≡ c = sym (λ i. record { sign = c.sign; version = c.version; parts = three i }) in
          subst P same (three_back c.sign c.version fits)
      | inr two ↦
          let v = c.version in
          let same : record { sign = c.sign; version = record { major = v.major; minor = v.minor; patch = 0 }; parts = 2 } ≡ c =
          sym (λ i. record { sign = c.sign; version = record { major = v.major; minor = v.minor; patch = two.1 i }; parts = two.0 i })
          in
          subst P same (two_back c.sign v.major v.minor fits.major fits.minor)
    ]
