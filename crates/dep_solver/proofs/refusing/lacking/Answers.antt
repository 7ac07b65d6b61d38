use Rattle.std.proofs.Common.{◌≡◌, Vec, Global, ◌+◌, ◌<◌, ◌≤◌, ◌∙◌, length, get_or, subst, sym, true≢false, List, ap, ◌++◌, ◌∷◌, []}
use Rattle.std.proofs.lemmas.List.Filters.{dedup_is}
use Rattle.dep_solver.specs.Names.{CookbookName}
use Rattle.dep_solver.specs.Refusals.{IsLacking}
use Rattle.dep_solver.proofs.RefusalLemmas.{ListsBefore, lists_add, lists_all, lists_none, lists_skip}
use Rattle.dep_solver.proofs.refusing.lacking.Goals as goal
use Rattle.dep_solver.proofs.refusing.lacking.Goals.{else-is_lacking, then-is_lacking+in_ok-copy+in_ok-push}

pub loop-name-init : goal.loop-name-init
loop-name-init c = lists_none (IsLacking c.args.universe.now) c.args.roots.now.names c.new-names.result.items c.new-names.ensures.items

pub loop-name-preserved : goal.loop-name-preserved
loop-name-preserved c =
    let i = c.loop-name.name-index in
    let name = c.name-item.result in
    let within = subst (λ (xs : List CookbookName). i < length xs) c.as_slice-name-items.ensures c.loop-name-test.true in
    let at = subst (λ (xs : List CookbookName). name ≡ get_or xs i name) c.as_slice-name-items.ensures c.name-item.is in
    elim c.if-is_lacking.branch [
      | then-is_lacking+in_ok-copy+in_ok-push w ↦
          lists_add (IsLacking c.args.universe.now) c.args.roots.now.names i name c.loop-name.names.items c.if-is_lacking.names.items within at (c.is_lacking.ensures.0 w.if-is_lacking.true)
          (ap (λ (v : Vec CookbookName Global). v.items) w.names-is ∙ w.in_ok-push.ensures.items ∙ ap (λ (n : CookbookName). c.loop-name.names.items ++ n ∷ []) w.in_ok-copy.ensures) c.loop-name.invariant
      | else-is_lacking w ↦
          subst (λ (ns : List CookbookName). ListsBefore (IsLacking c.args.universe.now) c.args.roots.now.names (i + 1) ns) (sym (ap (λ (v : Vec CookbookName Global). v.items) w.names-is))
          (lists_skip (IsLacking c.args.universe.now) c.args.roots.now.names i name c.loop-name.names.items within at (λ h. true≢false (sym (c.is_lacking.ensures.1 h) ∙ w.if-is_lacking.false)) c.loop-name.invariant)
    ]

pub returns : goal.returns
returns c =
    lists_all (IsLacking c.args.universe.now) c.args.roots.now.names c.loop-name.name-index c.loop-name.names.items c.sort_unstable.new.self.items c.of.result
    (subst (λ (xs : List CookbookName). length xs ≤ c.loop-name.name-index) c.as_slice-name-items.ensures c.loop-name-test.false)
    c.loop-name.invariant c.sort_unstable.ensures.permutation c.sort_unstable.ensures.sorted (c.of.ensures ∙ dedup_is _ _ _ c.dedup.ensures.filtered)
