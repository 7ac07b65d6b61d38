-- How much of a walk is left: it falls with each turn.
use Rattle.std.proofs.Common.{◌≡◌, ℕ, ◌+◌, ◌<◌, ◌≤◌, Bool, true, false, cond, ◌||◌, length, List, [], ◌∷◌, ◌++◌, Option, Some, None, refl, sym, ap, subst, ◌∙◌, arith, bytes_eq, option_map}
use Rattle.std.proofs.lemmas.List.Folds.{list_any-append}
use Rattle.std.specs.List.{list_any}
use Rattle.std.specs.Map.{lookup}
use Rattle.std.specs.Cmp.Lexicographic.{bytes_decides, nat_list_eq_equiv}
use Rattle.run_lists.specs.Stored.{Stored}
use Rattle.run_lists.specs.declared.names.Named.{Named}
use Rattle.run_lists.specs.declared.names.Named.TheVariants.{Recipe, Role}
use Rattle.run_lists.specs.declared.roles.RunLists.{RunLists}
use Rattle.run_lists.specs.Roles.{list_for, run_list_in}
use Rattle.run_lists.specs.Visits.{is_among}
use Rattle.run_lists.specs.Walk.{Level, State, with_level, entered, visited, ended, turned}

-- the items that are left at these levels, and one for each level
abbrev pub at_levels : List Level → ℕ
at_levels [] = 0
at_levels (level ∷ levels) = 1 + length level.left + at_levels levels

none_some : {A : Type 0} {x : A} → None ≡ Some x → ⊥
none_some e = cc

some_same : {A : Type 0} {x y : A} → Some x ≡ Some y → x ≡ y
some_same e = cc

module _ (env : List ℕ) where
  -- the same, once a role's visit began
  abbrev pub weight : RunLists → ℕ
  weight lists = 1 + length (list_for env lists)

  -- the items of the roles that are not met, and one for each of these roles
  abbrev pub unmet : List (List ℕ) → List (List ℕ × RunLists) → ℕ
  unmet met [] = 0
  unmet met (role ∷ roles) = cond (is_among met role.0) 0 (weight role.1) + unmet met roles

  -- all that is left
  abbrev pub work : List (List ℕ × RunLists) → State → ℕ
  work roles state = at_levels state.levels + unmet state.met roles

  -- one more level
  at_levels-push : (levels : List Level) (level : Level) → at_levels (levels ++ level ∷ []) ≡ at_levels levels + (1 + length level.left)
  at_levels-push [] level = omega arith
  at_levels-push (first ∷ levels) level = let rest = at_levels-push levels level in omega (arith, rest)

  or_less : (a b : Bool) (n : ℕ) → cond (a || b) 0 n ≤ cond a 0 n
  or_less true b n = omega arith
  or_less false true n = omega arith
  or_less false false n = omega arith

  -- a role that isn't the one that is met weighs no more
  weight_less : (met : List (List ℕ)) (name : List ℕ) (role : List ℕ × RunLists) → cond (is_among (met ++ name ∷ []) role.0) 0 (weight role.1) ≤ cond (is_among met role.0) 0 (weight role.1)
  weight_less met name role =
      subst (λ b. cond b 0 (weight role.1) ≤ cond (is_among met role.0) 0 (weight role.1)) (sym (list_any-append (bytes_eq role.0) met (name ∷ []))) (or_less (is_among met role.0) (list_any (bytes_eq role.0) (name ∷ [])) (weight role.1))

  -- with one more role met no more is left
  unmet_less : (met : List (List ℕ)) (name : List ℕ) (roles : List (List ℕ × RunLists)) → unmet (met ++ name ∷ []) roles ≤ unmet met roles
  unmet_less met name [] = omega arith
  unmet_less met name (role ∷ roles) =
      let rest = unmet_less met name roles in
      let here = weight_less met name role in
      omega (arith, rest, here)

  or_true : (a b : Bool) → b ≡ true → (a || (b || false)) ≡ true
  or_true true b e = refl
  or_true false b e = ap (λ x. x || false) e

  unmet_here : (met : List (List ℕ)) (name : List ℕ) (items : List Stored) (role : List ℕ × RunLists) (roles : List (List ℕ × RunLists)) (b : Bool) → bytes_eq name role.0 ≡ b
      → is_among met name ≡ false → run_list_in (role ∷ roles) env name ≡ Some items
      → (run_list_in roles env name ≡ Some items → unmet (met ++ name ∷ []) roles + (1 + length items) ≤ unmet met roles)
      → unmet (met ++ name ∷ []) (role ∷ roles) + (1 + length items) ≤ unmet met (role ∷ roles)
  unmet_here met name items role roles true e new found later =
      let own : name ≡ role.0 = (bytes_decides name role.0).0 e in
      let list : Some (list_for env role.1) ≡ Some items = ap (λ b. option_map (list_for env) (cond b (Some role.1) (lookup (bytes_eq name) roles))) (sym e) ∙ found in
      let same : list_for env role.1 ≡ items = some_same list in
      let count : length (list_for env role.1) ≡ length items = ap length same in
      let before : cond (is_among met role.0) 0 (weight role.1) ≡ weight role.1 = ap (λ b. cond b 0 (weight role.1)) (ap (is_among met) (sym own) ∙ new) in
      let now : cond (is_among (met ++ name ∷ []) role.0) 0 (weight role.1) ≡ 0 =
      ap (λ b. cond b 0 (weight role.1)) (list_any-append (bytes_eq role.0) met (name ∷ []) ∙ or_true (is_among met role.0) (bytes_eq role.0 name) (nat_list_eq_equiv.symm role.0 name ∙ e)) in
      let rest = unmet_less met name roles in
      omega (arith, count, before, now, rest)
  unmet_here met name items role roles false e new found later =
      let list : run_list_in roles env name ≡ Some items = ap (λ b. option_map (list_for env) (cond b (Some role.1) (lookup (bytes_eq name) roles))) (sym e) ∙ found in
      let rest = later list in
      let here = weight_less met name role in
      omega (arith, rest, here)

  -- once the role that was found is met, its items are no longer among what is left
  unmet_found : (met : List (List ℕ)) (name : List ℕ) (items : List Stored) (roles : List (List ℕ × RunLists)) → is_among met name ≡ false → run_list_in roles env name ≡ Some items
      → unmet (met ++ name ∷ []) roles + (1 + length items) ≤ unmet met roles
  unmet_found met name items [] new found = absurd (none_some found)
  unmet_found met name items (role ∷ roles) new found = unmet_here met name items role roles (bytes_eq name role.0) refl new found (unmet_found met name items roles new)

  module _ (roles : List (List ℕ × RunLists)) where
    entered_work : (name : List ℕ) (found : Option (List Stored)) (state : State) → is_among state.met name ≡ false → run_list_in roles env name ≡ found
        → work roles (entered name found state) ≤ work roles state
    entered_work name None state new list = omega arith
    entered_work name (Some items) state new list =
        let levels = at_levels-push state.levels (record { role = Some name; left = items }) in
        let fewer = unmet_found state.met name items roles new list in
        omega (arith, levels, fewer)

    met_work : (name : List ℕ) (b : Bool) (state : State) → is_among state.met name ≡ b → work roles (cond b state (entered name (run_list_in roles env name) state)) ≤ work roles state
    met_work name true state e = omega arith
    met_work name false state e = entered_work name (run_list_in roles env name) state e refl

    visited_work : (item : Stored) (named : Named) (state : State) → work roles (visited roles env item named state) ≤ work roles state
    visited_work item (Recipe name version) state = omega arith
    visited_work item (Role name) state = met_work name (is_among state.met name) state refl

    ended_work : (role : Option (List ℕ)) (state : State) → work roles (ended role state) ≡ work roles state
    ended_work None state = refl
    ended_work (Some role) state = refl

    -- less is left after a turn
    pub turned_work : (role : Option (List ℕ)) (left : List Stored) (state : State) → work roles (turned roles env role left state) < work roles (with_level (record { role = role; left = left }) state)
    turned_work role [] state =
        let same = ended_work role state in
        let levels = at_levels-push state.levels (record { role = role; left = [] }) in
        omega (arith, same, levels)
    turned_work role (item ∷ left) state =
        let fewer = visited_work item item.named (with_level (record { role = role; left = left }) state) in
        let levels = at_levels-push state.levels (record { role = role; left = left }) in
        let before = at_levels-push state.levels (record { role = role; left = item ∷ left }) in
        omega (arith, fewer, levels, before)
