use Rattle.std.proofs.Common.{◌≡◌, ◌||◌, List, ℕ, Option, Some, None, not, is_some, bytes_eq, option_copied, ap, sym, refl, ◌∙◌}
use Rattle.std.specs.Borrow.{Bor}
use Rattle.doc_tree.specs.declared.kind.Kind.TheVariants as kind
use Rattle.doc_tree.specs.Doc.{Doc}
use Rattle.object_store.specs.Keys.{key}
use Rattle.object_store.specs.Kept.{has, settled}
use Rattle.object_store.specs.Shelving.{key_at}
use Rattle.object_store.proofs.FoundLemmas.{added-where, added-not}
use Rattle.object_store.proofs.items.add_item.Goals as goal

there : (r : Option (Bor Doc)) → is_some r ≡ is_some (option_copied r)
there None = refl
there (Some x) = refl

-- a name under which there is no item isn't added
pub returns-then-is_none : goal.returns-then-is_none
returns-then-is_none c = λ name.
    let whole = (key_at c.args.word.now c.args.id.now).name in
    let f = λ (q : List ℕ). is_some (settled c.args.shelves.now (key kind.Item q)) in
    added-not f whole name (has c.args.names.now name)
    (ap f (sym c.in_ok-name.ensures ∙ sym c.as_str.ensures.value)
    ∙ ap is_some (sym c.find_settled.ensures) ∙ sym (there c.find_settled.result)
    ∙ c.is_none.ensures ∙ ap not c.if-is_none.true)

-- and one under which there is one is
pub returns : goal.returns
returns c = λ name.
    let whole = (key_at c.args.word.now c.args.id.now).name in
    let f = λ (q : List ℕ). is_some (settled c.args.shelves.now (key kind.Item q)) in
    c.in_ok-add_name.ensures name
    ∙ ap (λ (q : List ℕ). has c.args.names.now name || bytes_eq name q) (c.as_str-2.ensures.value ∙ c.in_ok-name.ensures)
    ∙ added-where f whole name (has c.args.names.now name)
    (ap f (sym c.in_ok-name.ensures ∙ sym c.as_str.ensures.value)
    ∙ ap is_some (sym c.find_settled.ensures) ∙ sym (there c.find_settled.result)
    ∙ c.is_none.ensures ∙ ap not c.if-is_none.false)
