-- What was performed and noted is what a run promises.
use Rattle.std.proofs.Common.{sym, ap, ◌∙◌, rules}
use Rattle.std.specs.Prelude.{option_map}
use Rattle.command_words.specs.Reading.{told}
use Rattle.chefsite.proofs.ContractLemmas.{ran_idle, ran_short}
use Rattle.chefsite.proofs.once.Goals as goal

pub perform-ended-requires : goal.perform-ended-requires
perform-ended-requires g c = (c.args.words.now, sym c.in-Ok-Some.ensures ∙ ap (option_map told) c.in-Ok-Some.field-0-is)

pub returns-in-Ok-Some : goal.returns-in-Ok-Some
returns-in-Ok-Some g c =
    let read = sym c.in-Ok-Some.ensures ∙ ap (option_map told) c.in-Ok-Some.field-0-is in
    record {
      named = c.perform-ended.result.named;
      performed = c.perform-ended.ensures c.args.words.now read;
      noted = c.note.ensures.noted;
      quiet = c.note.ensures.quiet;
    }

pub returns-in-Ok-None : goal.returns-in-Ok-None
returns-in-Ok-None g c =
    ran_idle _ _ _ _ _ _ _ _ _ c.without_command.ensures.same (sym c.in-Ok-None.ensures ∙ ap (option_map told) c.in-Ok-None.field-0-is)
    (search rules) (search rules) (search rules) (search rules) c.without_command.ensures.noted

pub returns : goal.returns
returns g c =
    ran_short _ _ _ _ _ _ _ _ _ c.without_command-in-Err.ensures.same (search rules) (search rules) (search rules) (search rules) c.without_command-in-Err.ensures.noted
