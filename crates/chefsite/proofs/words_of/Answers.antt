-- Each word is that of its argument, and the first argument is none.
use Rattle.std.proofs.Common.{◌≡◌, ◌∷◌, [], ◌++◌, List, drop, length, map, Option, Some, None, refl, sym, ap, ◌∙◌, append_assoc, arith}
use Rattle.std.specs.Prelude.{string_bytes}
use Rattle.std.specs.Vec.Iter.{into_iter_items, into_iter_steps}
use Rattle.std.specs.declared.vec.IntoIter.{IntoIter}
use Rattle.chefsite.proofs.words_of.Goals as goal

nothing_left : {X : Type 0} (xs : List X) → length xs ≡ 0 → xs ≡ []
nothing_left [] none = refl
nothing_left (x ∷ xs) none = absurd (omega arith)

-- what is left once the first is taken, if there is one
rest_of : {X Z : Type 0} (old new : IntoIter X Z) (first : Option X) → into_iter_steps old first new
    → into_iter_items new ≡ drop 1 (into_iter_items old)
rest_of old new None steps =
    nothing_left (into_iter_items new) (sym new.rest.ok.0 ∙ steps.1)
    ∙ sym (ap (drop 1) (nothing_left (into_iter_items old) (sym old.rest.ok.0 ∙ steps.0)))
rest_of old new (Some x) steps = sym (ap (drop 1) steps.0)

pub loop-argument-init : goal.loop-argument-init
loop-argument-init c =
    rw c.new-words.ensures.items
    (rw c.into_iter-argument-iterator.ensures.into_iter_gives (ap (map string_bytes) (rest_of c.args.arguments c.next-name.new.self c.next-name.result c.next-name.ensures.cases)))

pub loop-argument-preserved : goal.loop-argument-preserved
loop-argument-preserved c =
    let later = map string_bytes (into_iter_items c.next.new.self) in
    ap (λ ws. ws ++ later) c.in_ok-push.ensures.items
    ∙ append_assoc c.loop-argument.words.items (c.of.result ∷ []) later
    ∙ ap (λ w. c.loop-argument.words.items ++ (w ∷ later)) c.of.ensures
    ∙ ap (λ xs. c.loop-argument.words.items ++ map string_bytes xs) (sym c.in-Some.ensures.steps.0)
    ∙ c.loop-argument.invariant
