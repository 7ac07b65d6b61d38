-- The members come in the order of their keys, as fields must.
use Rattle.std.proofs.Common.{◌≡◌, [], ◌∷◌, ◌++◌, sym, ap, ◌∙◌, subst, append_assoc}
use Rattle.std.specs.List.Sorted.{IsStrictlySortedBy}
use Rattle.std.specs.Map.{keys_of}
use Rattle.std.specs.String.{string_cmp}
use Rattle.doc_tree.proofs.Moved.{Entry, InOrder-front, keys_of-step, pairs_in-step}
use Rattle.doc_tree.proofs.read.+moved.Goals as goal

pub fields_from-push-requires : goal.fields_from-push-requires
fields_from-push-requires t c =
    let done = c.loop-name.invariant.done in
    let e : Entry = (c.in-Some.name, c.in-Some.member) in
    let left = c.next.new.self in
    let all : c.args.members.entries ≡ done ++ e ∷ left = c.loop-name.invariant.order ∙ ap (λ es. done ++ es) c.in-Some.ensures.steps in
    let ordered = subst (λ es. IsStrictlySortedBy string_cmp (keys_of es)) all c.into_iter-name-iterator.ensures.into_iter_gives.5 in
    rw (c.loop-name.invariant.names, c.with_room.ensures) (InOrder-front done e left ordered)

pub fields_from-loop-name-preserved : goal.fields_from-loop-name-preserved
fields_from-loop-name-preserved t c =
    let done = c.loop-name.invariant.done in
    let e : Entry = (c.in-Some.name, c.in-Some.member) in
    let left = c.next.new.self in
    let all : c.args.members.entries ≡ done ++ e ∷ left = c.loop-name.invariant.order ∙ ap (λ es. done ++ es) c.in-Some.ensures.steps in
    record {
      done = done ++ e ∷ [];
      order = all ∙ sym (append_assoc done (e ∷ []) left);
      names = keys_of-step done e _ _ c.with_room.result _ c.loop-name.invariant.names c.with_room.ensures c.in_ok-push.ensures.ok;
      pairs = pairs_in-step _ _ left e _ _ c.with_room.result _ c.in-Some.ensures.steps c.in_ok-tree_from.ensures c.with_room.ensures c.in_ok-push.ensures.ok c.loop-name.invariant.pairs;
    }
