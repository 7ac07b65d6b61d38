-- The three pieces stand behind what was there.
use Rattle.std.proofs.Common.{ap, ◌∙◌, ◌++◌, codes, decimal}
use Rattle.chefsite.proofs.NoteLemmas.{pushed_three}
use Rattle.chefsite.proofs.notes.push_answered.Goals as goal

pub returns-clause-items : goal.returns-clause-items
returns-clause-items c =
    pushed_three c.args.line.now.items (codes "server answered ") (decimal c.args.status) (codes " to ") _ _ _ c.push.ensures.items
    (c.push-2.ensures.items ∙ ap (λ s. c.push.new.line.items ++ s) (c.as_bytes.ensures.value ∙ c.format.ensures.text)) c.push-3.ensures.items
