-- The digits that the text is made of are read to their end.
use Rattle.std.proofs.Common.{rules}
use Rattle.command_words.proofs.NumberLemmas.{number_parsed}
use Rattle.command_words.proofs.numbers.number_in.Goals as goal

pub returns-then-is_number : goal.returns-then-is_number
returns-then-is_number c = search (rules, number_parsed c.args.text.now c.parse.result c.parse.ensures.value.0)
