-- Versions: their order, and when two are one.
use Rattle.std.proofs.Common.{◌≡◌, true, Less, Equal, Greater, Ordering, is_le, arith, ap, refl, sym, ◌∙◌, inl, inr, true≢false}
use Rattle.std.proofs.lemmas.Bool.Decides.{nat_tests}
use Rattle.std.specs.Cmp.{IsTotalOrder, nat_cmp_total, on_total, then_total}
use Rattle.version_rules.specs.declared.versions.Version.{Version}
use Rattle.version_rules.specs.Order.{IsAtMost, IsBelow, version_cmp}
use Rattle.dep_solver.specs.Chosen.{is_at_most, is_below}
use Rattle.dep_solver.specs.Universes.{same_version}

pub versions_total : IsTotalOrder version_cmp
versions_total = then_total (on_total (λ (v : Version). v.major) nat_cmp_total) (then_total (on_total (λ (v : Version). v.minor) nat_cmp_total) (on_total (λ (v : Version). v.patch) nat_cmp_total))

pub below_from_less : (v w : Version) → version_cmp v w ≡ Less → IsBelow v w
below_from_less v w e = grind (arith, nat_tests)

pub not_below_itself : (v : Version) → IsBelow v v → ⊥
not_below_itself v h = grind (arith, nat_tests)

pub below_both : (v w : Version) → IsBelow v w → IsBelow w v → ⊥
below_both v w h k = grind (arith, nat_tests)

pub same_version_itself : (v : Version) → same_version v v ≡ true
same_version_itself v = grind (arith, nat_tests)

pub version_from_same : (v w : Version) → same_version v w ≡ true → v ≡ w
version_from_same v w e = parts v w (major v w e) (minor v w e) (patch v w e)
  where
    major : (v w : Version) → same_version v w ≡ true → v.major ≡ w.major
    major v w e = grind (arith, nat_tests)

    minor : (v w : Version) → same_version v w ≡ true → v.minor ≡ w.minor
    minor v w e = grind (arith, nat_tests)

    patch : (v w : Version) → same_version v w ≡ true → v.patch ≡ w.patch
    patch v w e = grind (arith, nat_tests)

    parts : (v w : Version) → v.major ≡ w.major → v.minor ≡ w.minor → v.patch ≡ w.patch → v ≡ w
    parts v w a b c = λ i. record { major = a i; minor = b i; patch = c i }

pub version_from_equal : (v w : Version) → version_cmp v w ≡ Equal → v ≡ w
version_from_equal v w e = version_from_same v w (same v w e)
  where
    same : (v w : Version) → version_cmp v w ≡ Equal → same_version v w ≡ true
    same v w e = grind (arith, nat_tests)

-- ---- the order as a test

pub below_from_test : (v w : Version) → is_below v w ≡ true → IsBelow v w
below_from_test v w e = grind (arith, nat_tests)

pub test_from_below : (v w : Version) → IsBelow v w → is_below v w ≡ true
test_from_below v w h = grind (arith, nat_tests)

pub at_most_from_test : (v w : Version) → is_at_most v w ≡ true → IsAtMost v w
at_most_from_test v w e = by (version_cmp v w) refl e
  where
    by : (o : Ordering) → version_cmp v w ≡ o → is_le o ≡ true → IsAtMost v w
    by Less is e = inl (below_from_less v w is)
    by Equal is e = inr (version_from_equal v w is)
    by Greater is e = absurd (true≢false (sym e))

pub test_from_at_most : (v w : Version) → IsAtMost v w → is_at_most v w ≡ true
test_from_at_most v w (inl below) = grind (arith, nat_tests)
test_from_at_most v w (inr same) = ap (λ z. is_at_most v z) (sym same) ∙ itself v
  where
    itself : (v : Version) → is_at_most v v ≡ true
    itself v = grind (arith, nat_tests)
