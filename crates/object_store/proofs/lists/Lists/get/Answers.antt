use Rattle.std.proofs.Common.{◌≡◌, ◌∙◌, Some, None, option_copied, option_map, sym, ap}
use Rattle.std.specs.FinMap as finite
use Rattle.std.specs.Map.{lookup}
use Rattle.object_store.specs.Bases.{list_of}
use Rattle.object_store.specs.Keys.{same_key}
use Rattle.object_store.specs.Objects.{KeptLists}
use Rattle.object_store.proofs.ListsLemmas.{get-seen, kept-there}
use Rattle.object_store.proofs.lists.Lists.get.Goals as goal

-- the base of a share that is kept is there
pub lend-requires : goal.lend-requires
lend-requires c =
    kept-there c.self.inside.items.entries c.self.inside.bases (same_key c.args.key.now) c.in-Some.share.now c.self.invariant (sym c.get.ensures.value ∙ ap option_copied c.in-Some.is)

pub returns-in-Some : goal.returns-in-Some
returns-in-Some c =
    let is : lookup (same_key c.args.key.now) c.self.inside.items.entries ≡ Some c.in-Some.share.now = sym c.get.ensures.value ∙ ap option_copied c.in-Some.is in
    ap Some c.lend.ensures
    ∙ sym (get-seen c.self.inside.bases c.self.inside.items.entries c.args.key.now ∙ ap (option_map (list_of c.self.inside.bases)) is)
    ∙ ap (λ (kept : KeptLists). finite.get kept.lists c.args.key.now) c.self.view_is

pub returns-in-None : goal.returns-in-None
returns-in-None c =
    let is : lookup (same_key c.args.key.now) c.self.inside.items.entries ≡ None = sym c.get.ensures.value ∙ ap option_copied c.in-None.is in
    sym (get-seen c.self.inside.bases c.self.inside.items.entries c.args.key.now ∙ ap (option_map (list_of c.self.inside.bases)) is)
    ∙ ap (λ (kept : KeptLists). finite.get kept.lists c.args.key.now) c.self.view_is
