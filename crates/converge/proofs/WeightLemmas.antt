-- A work list grows lighter with each step.
use Rattle.std.proofs.Common.{◌≡◌, ℕ, zero, suc, ◌+◌, ◌*◌, ◌^◌, ◌<◌, ◌≤◌, ◌==◌, Bool, true, false, ◌||◌, cond, List, [], ◌∷◌, ◌++◌, length, map, get_or, refl, sym, ap, subst, ◌∙◌, arith}
use Rattle.std.specs.List.{list_any, filter}
use Rattle.std.proofs.Math.Nat.{one-le-pow, pow-le-pow_right, pow-suc, mul-le-mul_right}
use Rattle.std.proofs.lemmas.Bool.{false≢true}
use Rattle.host_acts.specs.declared.verdict.Verdict.{Verdict}
use Rattle.host_acts.specs.declared.verdict.Verdict.TheVariants.{UpToDate, Updated, Failed}
use Rattle.notify_queue.specs.declared.pair.Pair.{Pair}
use Rattle.resource_core.specs.Graph.{Falls}
use Rattle.resource_core.specs.Plans.{Planned, is_immediate, nexts, nexts_of}
use Rattle.resource_core.specs.declared.links.Notification.{Notification}
use Rattle.converge.specs.Going.{all_fired, base, left_after, weight, weights}
use Rattle.converge.specs.Pairs.{fire_of, fires_of, pair_for}
use Rattle.converge.specs.declared.firing.Fire.{Fire}
use Rattle.converge.specs.declared.firing.Fire.TheVariants.{Now, Later}

same : (n : ℕ) → (n == n) ≡ true
same n = grind arith

or_right : (a b : Bool) → b ≡ true → (a || b) ≡ true
or_right true b h = refl
or_right false b h = h

few : (fires : List (List Notification)) (k : ℕ) → length (get_or fires k []) ≤ all_fired fires
few [] k = omega arith
few (fs ∷ more) zero = omega arith
few (fs ∷ more) (suc k) = let less = few more k in omega arith

nexts_at : (fires : List (List Notification)) (k : ℕ) → get_or (nexts fires) k [] ≡ nexts_of (get_or fires k [])
nexts_at [] k = refl
nexts_at (fs ∷ more) zero = refl
nexts_at (fs ∷ more) (suc k) = nexts_at more k

module _ (plan : Planned) (falls : Falls (nexts plan.fires) plan.depths) where
  weights-append : (one other : List Fire) → weights plan (one ++ other) ≡ weights plan one + weights plan other
  weights-append [] other = sym (zero_plus (weights plan other))
    where
      zero_plus : (n : ℕ) → 0 + n ≡ n
      zero_plus n = omega arith
  weights-append (fire ∷ more) other = let e = weights-append more other in omega arith

  -- each that is fired weighs no more than this
  light : (limit : ℕ) (fs : List Fire) → ((before : List Fire) (fire : Fire) (after : List Fire) → fs ≡ before ++ fire ∷ after → weight plan fire ≤ limit) → weights plan fs ≤ length fs * limit
  light limit [] each = omega arith
  light limit (fire ∷ more) each =
      let here = each [] fire more refl in
      let rest = light limit more (λ before f after e. each (fire ∷ before) f after (ap (λ fs. fire ∷ fs) e)) in
      omega arith

  fired_at : (depth : ℕ) (fs : List Notification) → ((n : Notification) → list_any (λ next. next == n.target) (nexts_of fs) ≡ true → get_or plan.depths n.target 0 < depth)
      → weights plan (map (fire_of plan.resources) fs) ≤ length fs * base plan ^ depth
  fired_at depth [] below = omega arith
  fired_at depth (n ∷ more) below =
      let here = one (is_immediate n.timer) refl in
      let rest = fired_at depth more (λ m h. below m (later m (is_immediate n.timer) refl h)) in
      omega arith
    where
      positive : 1 ≤ base plan ^ depth
      positive = one-le-pow depth (base plan) (omega arith)

      first : (b : Bool) → is_immediate n.timer ≡ b → b ≡ true → list_any (λ next. next == n.target) (map (λ (m : Notification). m.target) (cond b (n ∷ filter (λ (m : Notification). is_immediate m.timer) more) (filter (λ (m : Notification). is_immediate m.timer) more))) ≡ true
      first true is h = ap (λ b. b || list_any (λ next. next == n.target) (nexts_of more)) (same n.target)
      first false is h = absurd (false≢true h)

      later : (m : Notification) (b : Bool) → is_immediate n.timer ≡ b → list_any (λ next. next == m.target) (nexts_of more) ≡ true → list_any (λ next. next == m.target) (nexts_of (n ∷ more)) ≡ true
      later m b is h = subst (λ (b : Bool). list_any (λ next. next == m.target) (map (λ (m : Notification). m.target) (cond b (n ∷ filter (λ (m : Notification). is_immediate m.timer) more) (filter (λ (m : Notification). is_immediate m.timer) more))) ≡ true) (sym is) (by b)
        where
          by : (b : Bool) → list_any (λ next. next == m.target) (map (λ (m : Notification). m.target) (cond b (n ∷ filter (λ (m : Notification). is_immediate m.timer) more) (filter (λ (m : Notification). is_immediate m.timer) more))) ≡ true
          by true = or_right (n.target == m.target) (list_any (λ next. next == m.target) (nexts_of more)) h
          by false = h

      one : (b : Bool) → is_immediate n.timer ≡ b → weight plan (fire_of plan.resources n) ≤ base plan ^ depth
      one true is =
          let deeper : get_or plan.depths n.target 0 < depth = below n (first (is_immediate n.timer) refl is) in
          let more : base plan ^ suc (get_or plan.depths n.target 0) ≤ base plan ^ depth = pow-le-pow_right (omega arith) (omega arith) in
          subst (λ (b : Bool). weight plan (cond b (Now (pair_for plan.resources n)) (Later (pair_for plan.resources n))) ≤ base plan ^ depth) (sym is) more
      one false is = subst (λ (b : Bool). weight plan (cond b (Now (pair_for plan.resources n)) (Later (pair_for plan.resources n))) ≤ base plan ^ depth) (sym is) positive

  -- what a pair fires weighs less than the pair
  fired_lighter : (p : Pair) → weights plan (fires_of plan p) < weight plan (Now p)
  fired_lighter p =
      let depth = get_or plan.depths p.resource 0 in
      let fs = get_or plan.fires p.resource [] in
      let all : weights plan (fires_of plan p) ≤ length fs * base plan ^ depth = fired_at depth fs (λ n h. falls p.resource n.target (ap (list_any (λ next. next == n.target)) (nexts_at plan.fires p.resource) ∙ h)) in
      let most : length fs * base plan ^ depth ≤ all_fired plan.fires * base plan ^ depth = mul-le-mul_right (base plan ^ depth) (few plan.fires p.resource) in
      let positive : 1 ≤ base plan ^ depth = one-le-pow depth (base plan) (omega arith) in
      let power : base plan ^ suc depth ≡ base plan ^ depth * base plan = pow-suc (base plan) depth in
      let parts : base plan ^ depth * base plan ≡ all_fired plan.fires * base plan ^ depth + base plan ^ depth = omega arith in
      omega arith

  now_positive : (p : Pair) → 0 < weight plan (Now p)
  now_positive p = one-le-pow (suc (get_or plan.depths p.resource 0)) (base plan) (omega arith)

  -- what is left once a pair came to a verdict is lighter than what was there
  pub left_lighter : (p : Pair) (verdict : Verdict) (todo : List Fire) → weights plan (left_after plan p verdict todo) < weight plan (Now p) + weights plan todo
  left_lighter p UpToDate todo = let h = now_positive p in omega arith
  left_lighter p Updated todo = let h = fired_lighter p in let e = weights-append (fires_of plan p) todo in omega arith
  left_lighter p (Failed cause) todo = let h = now_positive p in omega arith
