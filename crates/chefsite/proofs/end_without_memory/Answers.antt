-- The line that tells of want of memory names nothing.
use Rattle.command_words.specs.Words.{command_of}
use Rattle.chefsite.specs.declared.named.Named.TheVariants.{Nothing}
use Rattle.chefsite.specs.declared.statuses.Status.TheVariants.{NoMemory}
use Rattle.chefsite.proofs.ContractLemmas.{unnamed}
use Rattle.chefsite.proofs.end_without_memory.Goals as goal

pub returns : goal.returns
returns g c = λ words. record {
  status = NoMemory;
  number = c.end_before.ensures.number;
  usage = λ usage. absurd (cc usage);
  named = Nothing;
  names = λ no_server. unnamed (command_of words);
  noted = c.end_before.ensures.noted;
}
