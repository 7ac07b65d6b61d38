-- Which texts have which fault.
use Rattle.std.proofs.Common.{◌≡◌, ℕ, ◌↔◌, ◌⊎◌, true, false, List, Option, Some, None, Ok, Err, IsNone, IsTrue, ap, refl, inl, inr, ◌&&◌}
use Rattle.std.specs.List.{list_any}
use Rattle.std.proofs.lemmas.Bool.{and_parts, cases_Bool, false≢true, true≢false}
use Rattle.version_rules.specs.declared.constraints.Sign.{Sign}
use Rattle.version_rules.specs.declared.constraints.Sign.TheVariants.{Equal, Less, Greater, AtMost, AtLeast, Close}
use Rattle.version_rules.specs.declared.fault.VersionFault.{VersionFault}
use Rattle.version_rules.specs.declared.fault.VersionFault.TheVariants.{NotAVersion, PartTooLarge, NoSuchOperator, PessimisticOnePart}
use Rattle.version_rules.specs.Constraints.{constraint_of, is_close, with_sign}
use Rattle.version_rules.specs.Versions.{is_number, is_too_large, is_version, parts_of, version_of}
use Rattle.version_rules.specs.declared.versions.Version.{Version}
use Rattle.std.proofs.Common.{Result, length}

-- the two faults of a version
abbrev IsVersionFault : VersionFault → Type 0
IsVersionFault fault = (fault ≡ NotAVersion) ⊎ (fault ≡ PartTooLarge)

-- no outcome, or one of those two faults
abbrev HasVersionFault : Result Version VersionFault → Type 0
HasVersionFault (Ok v) = Unit {0}
HasVersionFault (Err fault) = IsVersionFault fault

-- the parts of a version have no other fault
version_of-faults : (parts : List (List ℕ)) → HasVersionFault (version_of parts)
version_of-faults parts = elim (cases_Bool (is_version parts)) [
  | inl form ↦ elim (cases_Bool (list_any is_too_large parts)) [
    | inl large ↦ rw (form, large) (inr refl)
    | inr small ↦ rw (form, small) tt
  ]
  | inr none ↦ rw none (inl refl)
]

-- so a constraint with that sign has no other either
with_sign-other : (sign : Sign) (parts : ℕ) (r : Result Version VersionFault) → HasVersionFault r → (fault : VersionFault)
    → with_sign sign parts r ≡ Err fault → IsVersionFault fault
with_sign-other sign parts (Ok v) h fault e = cc e
with_sign-other sign parts (Err other) h fault e = let same : other ≡ fault = cc in rw (← same) h

-- where `~>` does not stand before one number, there is no other fault of a constraint with a sign
constraint_of-other : (sign : Sign) (behind : List ℕ) (fault : VersionFault) → (is_close sign && is_number behind) ≡ false
    → constraint_of (Some sign) behind ≡ Err fault → IsVersionFault fault
constraint_of-other sign behind fault other e =
    with_sign-other sign (length (parts_of behind)) (version_of (parts_of behind)) (version_of-faults (parts_of behind)) fault (rw other at e)

not_no_such : IsVersionFault NoSuchOperator → ⊥
not_no_such (inl e) = cc e
not_no_such (inr e) = cc e

not_pessimistic : IsVersionFault PessimisticOnePart → ⊥
not_pessimistic (inl e) = cc e
not_pessimistic (inr e) = cc e

close_is : (sign : Sign) → is_close sign ≡ true → sign ≡ Close
close_is Equal e = absurd (false≢true e)
close_is Less e = absurd (false≢true e)
close_is Greater e = absurd (false≢true e)
close_is AtMost e = absurd (false≢true e)
close_is AtLeast e = absurd (false≢true e)
close_is Close e = refl

-- an operator that writes no sign is the cause of `NoSuchOperator`
pub no_such_operator : (sign : Option Sign) (behind : List ℕ) → (constraint_of sign behind ≡ Err NoSuchOperator) ↔ IsNone sign
no_such_operator None behind = (λ _. refl, λ _. refl)
no_such_operator (Some sign) behind = (
  λ e. elim (cases_Bool (is_close sign && is_number behind)) [
    | inl close ↦ cc (rw close at e)
    | inr other ↦ absurd (not_no_such (constraint_of-other sign behind NoSuchOperator other e))
  ],
  λ none. absurd (true≢false none),
)

-- `~>` before one number is the cause of `PessimisticOnePart`
pub pessimistic_one_part : (sign : Option Sign) (behind : List ℕ)
    → (constraint_of sign behind ≡ Err PessimisticOnePart) ↔ ((sign ≡ Some Close) × IsTrue (is_number behind))
pessimistic_one_part None behind = (λ e. cc e, λ h. let none = h.0 in cc none)
pessimistic_one_part (Some sign) behind = (
  λ e. elim (cases_Bool (is_close sign && is_number behind)) [
    | inl close ↦
        let parts = and_parts (is_close sign) (is_number behind) close in
        (ap Some (close_is sign parts.0), parts.1)
    | inr other ↦ absurd (not_pessimistic (constraint_of-other sign behind PessimisticOnePart other e))
  ],
  λ h.
      let same : sign ≡ Close = let e = h.0 in cc e in
      rw (same, h.1) refl,
)
