-- The lists of starting groups are in order.
use Rattle.std.proofs.Common.{◌≡◌, refl}
use Rattle.std.specs.List.Sorted.{IsStrictlySortedBy}
use Rattle.membership.specs.TextSets.{IsRising, in_order}
use Rattle.membership.proofs.TextSetLemmas.{in_order-rising}
use Rattle.access_lists.specs.Starting as spec

rising_A : IsRising spec.A
unfolding IsStrictlySortedBy
rising_A = (tt, tt)

rising_AU : IsRising spec.AU
unfolding IsStrictlySortedBy
rising_AU = ((refl, tt), (tt, tt))

rising_AKU : IsRising spec.AKU
unfolding IsStrictlySortedBy
rising_AKU = ((refl, (refl, tt)), ((refl, tt), (tt, tt)))

pub in_order-A : in_order spec.A ≡ spec.A
in_order-A = in_order-rising spec.A rising_A

pub in_order-AU : in_order spec.AU ≡ spec.AU
in_order-AU = in_order-rising spec.AU rising_AU

pub in_order-AKU : in_order spec.AKU ≡ spec.AKU
in_order-AKU = in_order-rising spec.AKU rising_AKU

pub ruleset starting = (in_order-A, in_order-AU, in_order-AKU)
