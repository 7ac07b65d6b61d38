use Rattle.std.proofs.Common.{List, sym, subst, ◌∙◌}
use Rattle.std.specs.declared.alloc.Global.{Global}
use Rattle.std.specs.declared.string.String.{String}
use Rattle.object_store.specs.Kept.{Shelf, object_on}
use Rattle.object_store.proofs.CopyingLemmas.{Copied, Copied-none, Copied-more, Copied-all}
use Rattle.object_store.proofs.shelves.add_shelves.Goals as goal

pub loop-word-init : goal.loop-word-init
loop-word-init c =
    let whole = c.args.shelves.now.entries in
    subst (λ left. Copied (object_on) whole c.args.made.now left) (sym c.into_iter-word-iterator.ensures.into_iter_gives.0)
    (Copied-none (object_on) whole c.args.made.now c.requires c.into_iter-word-iterator.ensures.into_iter_gives.4)

pub loop-word-preserved : goal.loop-word-preserved
loop-word-preserved c =
    let whole = c.args.shelves.now.entries in
    let word = c.in_ok-word.word in
    let fresh = c.in_ok-copy_shelf.field-0 in
    Copied-more object_on whole c.loop-word.made c.keep_shelf.new.shelves c.in-Some.word.now c.in-Some.shelf.now c.next.new.self word fresh
    (subst (λ (left : List (String Global × Shelf)). Copied object_on whole c.loop-word.made left) c.in-Some.ensures.steps c.loop-word.invariant)
    (c.in_ok-word.ensures.ok ∙ c.as_str.ensures.value)
    c.in_ok-copy_shelf.ensures
    c.in_ok-keep_shelf.ensures

pub returns : goal.returns
returns c = λ word name. Copied-all object_on c.args.shelves.now.entries c.loop-word.word-iterator c.loop-word.made c.loop-word.invariant c.in-None.ensures.steps.0 word name
