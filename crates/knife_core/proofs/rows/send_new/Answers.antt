use Rattle.std.proofs.Common.{ℕ, List}
use Rattle.talks.proofs.TalkLemmas.{Goes-want, Halts-want}
use Rattle.knife_core.specs.Table.{prints}
use Rattle.knife_core.proofs.rows.send_new.Goals as goal

pub returns-in-Ok-clause-parts : goal.returns-in-Ok-clause-parts
returns-in-Ok-clause-parts g c = Goes-want c.args.whom.now c.args.post (λ (body : List ℕ). prints c.args.line) c.in-Ok.got _ _ c.in-Ok.ensures.wanted

pub returns-in-Err-clause-parts : goal.returns-in-Err-clause-parts
returns-in-Err-clause-parts g c = Halts-want c.args.whom.now c.args.post (λ (body : List ℕ). prints c.args.line) c.in-Err.halt _ _ c.in-Err.ensures.wanted
