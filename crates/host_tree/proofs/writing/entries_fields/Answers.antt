-- The entries come in the order of their keys, as fields must.
use Rattle.std.proofs.Common.{◌≡◌, ℕ, List, [], ◌∷◌, ◌++◌, sym, ap, subst, ◌∙◌, append_assoc}
use Rattle.std.specs.Map.{keys_of}
use Rattle.doc_tree.specs.Valid.{InOrder}
use Rattle.host_tree.specs.declared.entry.Entry.{Entry}
use Rattle.host_tree.proofs.ImageLemmas.{rising-front, docs-more}
use Rattle.host_tree.proofs.writing.entries_fields.Goals as goal

pub push-requires : goal.push-requires
push-requires c =
    let done = c.loop-path.invariant.done in
    let e : List ℕ × Entry = (c.in-Some.path.now, c.in-Some.entry.now) in
    let all : c.args.entries.now.entries ≡ done ++ e ∷ c.next.new.self = c.loop-path.invariant.order ∙ ap (λ (es : List (List ℕ × Entry)). done ++ es) c.in-Some.ensures.steps in
    rw (c.loop-path.invariant.docs, c.in_ok-copy.ensures) (rising-front done e c.next.new.self (subst (λ (es : List (List ℕ × Entry)). InOrder (keys_of es)) all c.len.ensures.ordered))

pub loop-path-preserved : goal.loop-path-preserved
loop-path-preserved c =
    let done = c.loop-path.invariant.done in
    let e : List ℕ × Entry = (c.in-Some.path.now, c.in-Some.entry.now) in
    let all : c.args.entries.now.entries ≡ done ++ e ∷ c.next.new.self = c.loop-path.invariant.order ∙ ap (λ (es : List (List ℕ × Entry)). done ++ es) c.in-Some.ensures.steps in
    record {
      done = done ++ e ∷ [];
      order = all ∙ sym (append_assoc done (e ∷ []) c.next.new.self);
      docs = c.in_ok-push.ensures.ok ∙ rw (c.loop-path.invariant.docs, c.in_ok-copy.ensures, c.in_ok-tree.ensures) (sym (docs-more done e));
    }
