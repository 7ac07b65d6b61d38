use Rattle.std.proofs.Common.{sym, ap, ◌∙◌}
use Rattle.cookbook_meta.specs.Stored.{is_among}
use Rattle.cookbook_meta.proofs.KeyLemmas.{is_among-map}
use Rattle.org_shelves.proofs.segments.is_segment.Goals as goal

pub returns : goal.returns
returns c = c.contains.ensures.value ∙ sym (is_among-map c.args.key.now c.segments.result.now) ∙ ap (is_among c.args.key.now) c.segments.ensures
