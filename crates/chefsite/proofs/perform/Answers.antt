-- Each command did what its end says.
use Rattle.std.proofs.Common.{Some, refl, ap, ◌∙◌, rules}
use Rattle.command_words.specs.Reading.{told}
use Rattle.chefsite.proofs.ContractLemmas.{answered_so, performed_answer, performed_explain, performed_demo, performed_knife}
use Rattle.chefsite.proofs.WordLemmas.{size_is_small}
use Rattle.chefsite.proofs.perform.Goals as goal

pub demo-requires : goal.demo-requires
demo-requires g c = size_is_small c.requires.0 _ (c.requires.1 ∙ ap (λ x. Some (told x)) c.in-Demo.is)

pub returns-in-Answer : goal.returns-in-Answer
returns-in-Answer g c = λ given read.
    rw c.at.ensures
    (performed_answer _ given _ _ _ _ (read ∙ ap (λ x. Some (told x)) c.in-Answer.is) refl (search rules) c.answer.ensures.says
    (answered_so _ _ _ _ c.answer.ensures.says c.answer.ensures.cause c.answer.ensures.rest c.answer.ensures.complete (search rules)))

pub returns-in-Explain : goal.returns-in-Explain
returns-in-Explain g c = λ given read.
    performed_explain _ _ given _ _ _ _ _ _ (read ∙ ap (λ x. Some (told x)) c.in-Explain.is) c.as_str.ensures.value
    c.explained.ensures.status c.explained.ensures.named (search rules)
    c.explain.ensures.says c.explain.ensures.cause (search rules) c.explain.ensures.kept

pub returns-in-Demo : goal.returns-in-Demo
returns-in-Demo g c = λ given read.
    rw c.at-in-Demo.ensures
    (performed_demo _ given _ _ _ _ _ (read ∙ ap (λ x. Some (told x)) c.in-Demo.is) refl (search rules) c.demo.ensures.says c.demo.ensures.cause (search rules) (search rules))

pub returns-in-Knife : goal.returns-in-Knife
returns-in-Knife g c = λ given read.
    performed_knife _ given _ _ _ _ _ (read ∙ ap (λ x. Some (told x)) c.in-Knife.is) c.knife.ensures (search rules)
