-- Cookbooks are the same where their names and releases are.
use Rattle.std.proofs.Common.{◌≡◌, map, List}
use Rattle.std.proofs.Props.{props}
use Rattle.std.specs.List.Sorted.{IsStrictlySortedBy}
use mathlib.Core.HLevel.{Σ_prop_path}
use Rattle.version_rules.specs.Order.{version_cmp}
use Rattle.dep_solver.specs.declared.universe.Cookbook.{Cookbook}
use Rattle.dep_solver.specs.declared.universe.Release.{Release}

pub same_cookbook : (a b : Cookbook) → a.name ≡ b.name → a.releases ≡ b.releases → a ≡ b
same_cookbook a b name releases =
    let once : (rs : List Release) → IsProp (IsStrictlySortedBy version_cmp (map (λ (r : Release). r.version) rs)) = λ rs. hlevel props in
    let pairs : ◌≡◌ {A = (rs : List Release) × IsStrictlySortedBy version_cmp (map (λ (r : Release). r.version) rs)} (a.releases, a.rising) (b.releases, b.rising) = Σ_prop_path once releases in
    λ i. record { name = name i; releases = (pairs i).0; rising = (pairs i).1 }
