use Rattle.std.proofs.Common.{Some, string_bytes}
use Rattle.std.proofs.lemmas.Map.Text.{hash_map_updates_text}
use Rattle.object_store.proofs.shelves.keep.Goals as goal

pub returns : goal.returns
returns c = hash_map_updates_text (string_bytes c.args.name) c.args.shelf.now c.insert.new.self (Some c.args.object) c.in_ok-insert.ensures.updates
