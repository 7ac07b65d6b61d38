use Rattle.std.proofs.Common.{◌∙◌}
use Rattle.org_requests.proofs.LeftOutLemmas.{none_left_out, first_left_out, third_left_out}
use Rattle.org_requests.proofs.left_out.is_left_out.Goals as goal

pub returns-in-empty : goal.returns-in-empty
returns-in-empty c = none_left_out c.args.segments.now c.in-empty.len_below

pub returns-in-len1-up : goal.returns-in-len1-up
returns-in-len1-up c =
    c.is_left_out_first.ensures
    ∙ first_left_out c.args.segments.now c.first-item.result c.in-len1-up.len_at_least c.in-len1-up.len_below c.first-item.is

pub returns-in-len3-up : goal.returns-in-len3-up
returns-in-len3-up c =
    c.is_left_out_within.ensures
    ∙ third_left_out c.args.segments.now c.first-item-2.result c.third-item.result c.in-len3-up.len_at_least c.first-item-2.is c.third-item.is
