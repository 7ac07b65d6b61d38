use Rattle.std.proofs.Common.{◌≡◌, ◌++◌, map}
use Rattle.form_urlencoded.specs.Form.{raw_pairs}
use Rattle.form_urlencoded.specs.Parse.{pairs_left}
use Rattle.http_routes.specs.Parameters.{parameter_of}
use Rattle.http_routes.proofs.parameters.parameters_from.Given as goal

abbrev pub invariant-loop-pair : goal.invariant-loop-pair
invariant-loop-pair l = l.parameters ++ map parameter_of (pairs_left l.pair-iterator) ≡ map parameter_of (raw_pairs l.query)
