use Rattle.std.proofs.Common.{List, ℕ, Option, Some, sym, ap, subst, ◌∙◌}
use Rattle.std.specs.declared.alloc.Global.{Global}
use Rattle.std.specs.declared.string.String.{String}
use Rattle.doc_tree.specs.Doc.{Doc}
use Rattle.object_store.proofs.CopyingLemmas.{Copied, Copied-none, Copied-more, Copied-all}
use Rattle.object_store.proofs.shelves.add_copies.Goals as goal

pub loop-name-init : goal.loop-name-init
loop-name-init c =
    let whole = c.args.shelf.now.entries in
    subst (λ left. Copied (λ (object : Option Doc) (name : List ℕ). object) whole c.args.made.now left) (sym c.into_iter-name-iterator.ensures.into_iter_gives.0)
    (Copied-none (λ (object : Option Doc) (name : List ℕ). object) whole c.args.made.now c.requires c.into_iter-name-iterator.ensures.into_iter_gives.4)

pub loop-name-preserved : goal.loop-name-preserved
loop-name-preserved c =
    let whole = c.args.shelf.now.entries in
    let shown = λ (object : Option Doc) (name : List ℕ). object in
    let name = c.in_ok-from_str.field-0 in
    Copied-more shown whole c.loop-name.made c.keep.new.shelf c.in-Some.name.now c.in-Some.object.now c.next.new.self name c.in_ok-copy.field-0
    (subst (λ (left : List (String Global × Doc)). Copied shown whole c.loop-name.made left) c.in-Some.ensures.steps c.loop-name.invariant)
    (c.in_ok-from_str.ensures.ok ∙ c.as_str.ensures.value)
    (λ n. ap (λ t. Some t) c.in_ok-copy.ensures)
    c.in_ok-keep.ensures

pub returns : goal.returns
returns c = λ name. Copied-all (λ (object : Option Doc) (name : List ℕ). object) c.args.shelf.now.entries c.loop-name.name-iterator c.loop-name.made c.loop-name.invariant c.in-None.ensures.steps.0 name name
