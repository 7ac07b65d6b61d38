use Rattle.std.proofs.Common.{◌∙◌, bytes_eq, rules, tests}
use Rattle.std.proofs.lemmas.Iterator.{YieldsList-from_slice}
use Rattle.std.proofs.lemmas.Iterator.Search.{find_from_yields_List}
use Rattle.access_lists.specs.Starting.{name_of}
use Rattle.access_lists.proofs.starting.named_among.Goals as goal

pub returns : goal.returns
returns c =
    c.copied.ensures
    ∙ find_from_yields_List (λ container. bytes_eq c.args.name.now (name_of container)) _ _ _ c.find.ensures.ran (YieldsList-from_slice c.args.containers.now c.iter.ensures.rest) (λ x b q k. search (rules, tests))
