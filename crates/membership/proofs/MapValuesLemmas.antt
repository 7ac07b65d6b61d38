-- What a map answers whose values were changed alike.
use Rattle.std.proofs.Common.{◌≡◌, cond, List, [], ◌∷◌, map, true, false, Option, None, Some, option_map, is_some, refl, sym, ap, ◌∙◌}
use Rattle.std.specs.Cmp.{IsTotalOrder}
use Rattle.std.specs.FinMap as finite
use Rattle.std.specs.Ordering.{eq_by_cmp}
use Rattle.std.specs.declared.cmp.Ordering.{Ordering}
use Rattle.membership.specs.MapValues.{map_values}

is_some-map : {X Y : Type 0} (f : X → Y) (found : Option X) → is_some (option_map f found) ≡ is_some found
is_some-map f None = refl
is_some-map f (Some x) = refl

find-changed : {K X Y : Type 0} (R : K → K → Ordering) (change : X → Y) (q : K) (es : List (K × X)) → finite.find R q (map (λ (e : K × X). (e.0, change e.1)) es) ≡ option_map change (finite.find R q es)
find-changed R change q [] = refl
find-changed {K = K} {X = X} R change q (e ∷ es) =
    elim (eq_by_cmp R q e.0) as (λ b. cond b (Some (change e.1)) (finite.find R q (map (λ (e : K × X). (e.0, change e.1)) es)) ≡ option_map change (cond b (Some e.1) (finite.find R q es))) [
      | true ↦ refl
      | false ↦ find-changed R change q es
    ]

module _ {K X Y : Type 0} {R : K → K → Ordering} (change : X → Y) where
  -- at each key it has the value changed
  pub get-map_values : IsTotalOrder R → (m : finite.FinMap R X) (q : K) → finite.get (map_values change m) q ≡ option_map change (finite.get m q)
  get-map_values total m q =
      finite.get-from_entries total (map (λ (e : K × X). (e.0, change e.1)) (finite.entries m)) q
      ∙ find-changed R change q (finite.entries m)
      ∙ ap (option_map change) (sym (finite.get-entries m q))

  -- and it has the same keys
  pub is_some-map_values : IsTotalOrder R → (m : finite.FinMap R X) (q : K) → is_some (finite.get (map_values change m) q) ≡ is_some (finite.get m q)
  is_some-map_values total m q = ap is_some (get-map_values total m q) ∙ is_some-map change (finite.get m q)

  -- a map that answers so is that map
  pub is-map_values : IsTotalOrder R → finite.IsAntisymmetric R → (old : finite.FinMap R X) (new : finite.FinMap R Y) → ((q : K) → finite.get new q ≡ option_map change (finite.get old q)) → new ≡ map_values change old
  is-map_values total ties old new changed =
      finite.same_map total ties new (map_values change old) (λ q. changed q ∙ sym (get-map_values total old q))
