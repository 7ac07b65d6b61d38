use Rattle.std.proofs.Common.{◌∙◌, ap}
use Rattle.http_routes.specs.Connections.{is_close}
use Rattle.http_routes.proofs.ConnectionLemmas.{trimmed_is}
use Rattle.http_routes.proofs.connections.is_close.Goals as goal

pub returns : goal.returns
returns c =
    c.is_option.ensures ∙ ap is_close (trimmed_is c.args.option.now c.trim_ascii.result.now c.trim_ascii.ensures.value)
