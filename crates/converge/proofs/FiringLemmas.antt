-- The own actions, one after another.
use Rattle.std.proofs.Common.{◌≡◌, ℕ, ◌+◌, ◌<◌, List, [], ◌∷◌, ◌++◌, length, map, drop, get_or, sym, ap, ◌∙◌}
use Rattle.std.proofs.lemmas.List.{append_assoc, drop_more}
use Rattle.resource_core.specs.declared.resources.Resource.{Resource}
use Rattle.resource_core.specs.declared.types.Action.{Action}
use Rattle.converge.specs.Pairs.{now_of, pair_of}
use Rattle.converge.specs.declared.firing.Fire.{Fire}

-- one action more
pub actions_more : (place : ℕ) (r : Resource) (before now whole : List Fire) (xs : List Action) (i : ℕ) (d : Action) (fire : Fire) → i < length xs → fire ≡ now_of (pair_of place r (get_or xs i d)) → now ≡ before ++ fire ∷ []
    → before ++ map now_of (map (pair_of place r) (drop i xs)) ≡ whole → now ++ map now_of (map (pair_of place r) (drop (i + 1) xs)) ≡ whole
actions_more place r before now whole xs i d fire less is pushed inv =
    ap (λ t. t ++ map now_of (map (pair_of place r) (drop (i + 1) xs))) (pushed ∙ ap (λ g. before ++ g ∷ []) is)
    ∙ append_assoc before (now_of (pair_of place r (get_or xs i d)) ∷ []) (map now_of (map (pair_of place r) (drop (i + 1) xs)))
    ∙ ap (λ ys. before ++ map now_of (map (pair_of place r) ys)) (sym (drop_more xs i d less))
    ∙ inv
