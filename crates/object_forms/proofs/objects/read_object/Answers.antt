use Rattle.std.proofs.Common.{option_copied, sym, ◌∙◌}
use Rattle.doc_tree.specs.Doc.{pairs_of}
use Rattle.doc_tree.specs.Tree.{doc_of}
use Rattle.object_forms.proofs.GroupBodiesLemmas.{named_group}
use Rattle.object_forms.proofs.NamedLemmas.{named_object}
use Rattle.object_forms.proofs.objects.read_object.Goals as goal

pub returns-in-Dict-clause-named : goal.returns-in-Dict-clause-named
returns-in-Dict-clause-named c = named_object c.args.kind (option_copied c.args.name) (pairs_of c.in-Dict.body) c.object_in.result c.is_no_id-no_id.ensures.known c.object_in.ensures.object

pub returns-then-is_group-clause-named : goal.returns-then-is_group-clause-named
returns-then-is_group-clause-named c = named_group c.args.kind (option_copied c.args.name) (doc_of c.args.tree.now) c.read_group.result (sym c.is_group.ensures ∙ c.if-is_group.true) c.is_no_id-no_id.ensures.known c.read_group.ensures
