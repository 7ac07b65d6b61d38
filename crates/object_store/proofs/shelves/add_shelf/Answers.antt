use Rattle.std.proofs.Common.{List, ℕ, None, Some, bytes_eq, string_bytes, sym, ap, subst, ◌∙◌, arith}
use Rattle.std.specs.Map.{lookup}
use Rattle.std.proofs.lemmas.Map.Text.{hash_map_updates_text}
use Rattle.indexmap.specs.IndexMap.{get_by_text}
use Rattle.object_store.proofs.ShelvesLemmas.{Written, on_shelf-kept, nothing_there}
use Rattle.object_store.proofs.shelves.add_shelf.Goals as goal

pub returns-clause-same : goal.returns-clause-same
returns-clause-same c =
    let old = c.args.shelves.now in
    let shelf = c.in_ok-shelf.shelf in
    let written = hash_map_updates_text (string_bytes c.in_ok-word.word) old c.insert.new.self (Some shelf) c.in_ok-insert.ensures.updates in
    on_shelf-kept old c.insert.new.self c.args.word.now None (Some shelf)
    (subst (λ (word : List ℕ). Written old c.insert.new.self word (Some shelf)) c.in_ok-word.ensures.ok written)
    (nothing_there (get_by_text old c.args.word.now) c.requires)
    (λ its. ap (lookup (λ k. bytes_eq its (string_bytes k))) c.in_ok-shelf.ensures.empty)

pub returns-clause-room : goal.returns-clause-room
returns-clause-room c =
    let shelf = c.in_ok-shelf.shelf in (
      shelf,
      ap (λ (word : List ℕ). get_by_text c.insert.new.self word) (sym c.in_ok-word.ensures.ok) ∙ c.in_ok-insert.ensures.updates.1,
      omega (arith, c.in_ok-shelf.ensures.spare),
    )
