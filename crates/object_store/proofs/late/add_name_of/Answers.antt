use Rattle.std.proofs.Common.{◌||◌, bytes_eq, ap, sym, ◌∙◌}
use Rattle.object_store.specs.Kept.{has}
use Rattle.object_store.proofs.LateLemmas.{same_key-of}
use Rattle.object_store.proofs.late.add_name_of.Goals as goal

pub returns-in_ok-add_name : goal.returns-in_ok-add_name
returns-in_ok-add_name c = λ name.
    c.in_ok-add_name.ensures name
    ∙ ap (λ b. has c.args.names.now name || b) (ap (bytes_eq name) c.as_str.ensures.value ∙ same_key-of c.args.kind name c.args.its.now (sym c.is_of.ensures ∙ c.if-is_of.true))
