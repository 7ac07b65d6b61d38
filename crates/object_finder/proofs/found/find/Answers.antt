-- What is left of names in order is in order.
use Rattle.object_finder.specs.Found as spec
use Rattle.object_finder.proofs.ListLemmas.{filtered_order}
use Rattle.object_finder.proofs.found.find.Goals as goal

pub returns-clause-order : goal.returns-clause-order
returns-clause-order g c =
    filtered_order (spec.is_found c.args.index.now c.args.query.now c.args.objects.now.objects) c.in_ok-names.names c.keep_found.result c.keep_found.ensures.found c.in_ok-names.ensures.order
