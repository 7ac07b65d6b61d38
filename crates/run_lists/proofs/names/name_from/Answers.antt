use Rattle.std.proofs.Common.{ap, ◌∙◌}
use Rattle.std.proofs.lemmas.Bool.{false≢true}
use Rattle.doc_tree.specs.Name.{is_name}
use Rattle.run_lists.proofs.NameLemmas.{is_name-item}
use Rattle.run_lists.proofs.names.name_from.Goals as goal

pub unreachable-requires : goal.unreachable-requires
unreachable-requires c =
    false≢true (c.in-Err.ensures.test ∙ ap is_name c.in_ok-from_str.ensures ∙ is_name-item c.args.text.now c.requires)
