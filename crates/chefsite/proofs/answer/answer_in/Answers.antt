-- Nobody is there at first.
use Rattle.shard_core.specs.Shards.{site_states}
use Rattle.chefsite.specs.declared.site.Site.{Site}
use Rattle.chefsite.proofs.EndingLemmas.{has_cause, says_end}
use Rattle.chefsite.proofs.answer.answer_in.Goals as goal

pub returns-clause-says : goal.returns-clause-says
returns-clause-says g c =
    says_end (λ (site : Site). site_states site.shards) _ c.answer_all-end.result c.new-site.result c.answer_all-end.new.answerer _ _ _ _
    c.new-site.ensures c.status_of.ensures c.answer_all-end.ensures.end

pub returns-clause-cause : goal.returns-clause-cause
returns-clause-cause g c = has_cause _ c.answer_all-end.result _ _ _ _ c.status_of.ensures c.answer_all-end.ensures.cause
