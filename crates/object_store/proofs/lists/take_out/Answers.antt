use Rattle.std.proofs.Common.{◌<◌, ◌∙◌, refl, sym, subst}
use Rattle.object_store.specs.Bases.{IsKept, uses_in}
use Rattle.object_store.specs.Keys.{same_key}
use Rattle.object_store.proofs.ListsLemmas.{Entries, used-here, kept-removed, stay-removed, seen-remove}
use Rattle.object_store.proofs.lists.take_out.Goals as goal

-- the share that is taken out uses its base
pub release-requires : goal.release-requires
release-requires c =
    subst (λ m. 0 < m) (sym (c.requires.counted c.in-Some.share.base)) (used-here c.args.items.now.entries (same_key c.args.key.now) c.in-Some.share (sym c.swap_remove.ensures.value ∙ c.in-Some.is))

pub returns-in-Some-clause-kept : goal.returns-in-Some-clause-kept
returns-in-Some-clause-kept c =
    subst (λ (entries : Entries). IsKept entries c.release.new.bases) (sym c.swap_remove.ensures.entries)
    (kept-removed c.args.items.now.entries c.args.bases.now c.release.new.bases (same_key c.args.key.now) c.in-Some.share c.requires (sym c.swap_remove.ensures.value ∙ c.in-Some.is) c.release.ensures)

pub returns-in-Some-clause-lists : goal.returns-in-Some-clause-lists
returns-in-Some-clause-lists c =
    seen-remove c.args.bases.now c.release.new.bases c.args.items.now.entries c.swap_remove.new.self.entries c.args.key.now
    (λ n used.
    stay-removed c.args.items.now.entries c.args.bases.now c.release.new.bases (same_key c.args.key.now) c.in-Some.share c.requires (sym c.swap_remove.ensures.value ∙ c.in-Some.is) c.release.ensures n
    (subst (λ (entries : Entries). 0 < uses_in n entries) c.swap_remove.ensures.entries used))
    c.swap_remove.ensures.updates.0

-- where there is none, nothing is removed
pub returns-in_default-clause-lists : goal.returns-in_default-clause-lists
returns-in_default-clause-lists c =
    seen-remove c.args.bases.now c.args.bases.now c.args.items.now.entries c.swap_remove.new.self.entries c.args.key.now (λ n used. refl) c.swap_remove.ensures.updates.0
