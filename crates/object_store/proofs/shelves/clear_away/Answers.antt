use Rattle.std.proofs.Common.{None, refl, sym}
use Rattle.std.proofs.lemmas.Map.Text.{hash_map_updates_text}
use Rattle.indexmap.specs.IndexMap.{get_by_text}
use Rattle.object_store.proofs.ShelvesLemmas.{on_shelf-kept}
use Rattle.object_store.proofs.shelves.clear_away.Goals as goal

pub returns-then-is_bare : goal.returns-then-is_bare
returns-then-is_bare c =
    let old = c.args.shelves.now in
    on_shelf-kept old c.swap_remove.new.self c.args.word.now (get_by_text old c.args.word.now) None
    (hash_map_updates_text c.args.word.now old c.swap_remove.new.self None c.swap_remove.ensures.updates)
    refl
    (λ its. sym (c.is_bare.ensures c.if-is_bare.true its))
