use Rattle.std.proofs.Common.{◌&&◌, bytes_eq, sym, ap, ◌∙◌}
use Rattle.object_store.proofs.KeysLemmas.{same_key-key}
use Rattle.object_store.proofs.key.Key.is_named.Goals as goal

pub returns-then-is_of : goal.returns-then-is_of
returns-then-is_of c =
    c.eq.ensures
    ∙ ap (bytes_eq c.args.name.now) c.as_str.ensures.value
    ∙ ap (λ b. b && bytes_eq c.args.name.now c.args.self.now.name) (sym c.if-is_of.true ∙ c.is_of.ensures)
    ∙ sym (same_key-key c.args.kind c.args.name.now c.args.self.now)
