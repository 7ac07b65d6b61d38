use Rattle.std.proofs.Common.{ℕ, List, [], ◌∷◌, ◌++◌, ap, sym, ◌∙◌, arith, rules}
use Rattle.resource_core.proofs.TemplateLemmas.{key_at-shorter, keys_on, keys_end, keys_none}
use Rattle.resource_core.proofs.templates.keys_at.Goals as goal

pub returns-in-Some-behind : goal.returns-in-Some-behind
returns-in-Some-behind c fresh =
    let so_far = c.loop-key.invariant.1 fresh in
    keys_end _ c.loop-key.path c.loop-key.left.now so_far.0 c.push.new.self (c.in-Some.key.now, c.in-Some.after.now) c.in-Some-behind.rest.now so_far.1 so_far.2 (sym c.in-Some.ensures) (sym c.in-Some-behind.ensures) (c.in_ok-push.ensures.ok ∙ ap (λ (key : List ℕ). c.loop-key.path ++ key ∷ []) c.in_ok-from_str.ensures)

pub loop-key-smaller : goal.loop-key-smaller
loop-key-smaller c = let less = key_at-shorter c.loop-key.left.now (c.in-Some.key.now, c.in-Some.after.now) (sym c.in-Some.ensures) in omega arith

pub loop-key-preserved : goal.loop-key-preserved
loop-key-preserved c = (
  search rules,
  λ fresh.
      let so_far = c.loop-key.invariant.1 fresh in
      keys_on _ c.loop-key.path c.loop-key.left.now so_far.0 c.push.new.self (c.in-Some.key.now, c.in-Some.after.now) so_far.1 so_far.2 (sym c.in-Some.ensures) (sym c.in-None.ensures) (c.in_ok-push.ensures.ok ∙ ap (λ (key : List ℕ). c.loop-key.path ++ key ∷ []) c.in_ok-from_str.ensures),
)

pub returns : goal.returns
returns c fresh =
    let so_far = c.loop-key.invariant.1 fresh in
    keys_none _ c.loop-key.path c.loop-key.left.now so_far.0 so_far.2 (sym c.in_default.ensures)
