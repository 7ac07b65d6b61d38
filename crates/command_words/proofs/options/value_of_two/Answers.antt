-- Neither of two words that stand as they are is lone, and where one is, there is no value.
use Rattle.std.proofs.Common.{rules, sym, ◌∙◌}
use Rattle.command_words.proofs.WordLemmas.{lone_option, lone_value, two_plain}
use Rattle.command_words.proofs.options.value_of_two.Goals as goal
use Rattle.command_words.proofs.options.value_of_two.Goals.{then-is_lone-via-then-is_lone, then-is_lone-via-else-is_lone+then-is_lone-2}

pub returns-then-is_lone : goal.returns-then-is_lone
returns-then-is_lone c = elim c.then-is_lone.branch [
  | then-is_lone-via-then-is_lone w ↦ search (rules, lone_option c.args.option.now c.args.word.now c.args.value.now c.requires.name.0)
  | then-is_lone-via-else-is_lone+then-is_lone-2 w ↦ search (rules, lone_value c.args.option.now c.args.word.now c.args.value.now)
]

pub value_in-requires-clause-plain : goal.value_in-requires-clause-plain
value_in-requires-clause-plain c = two_plain c.args.word c.args.value c.requires.utf8
    (sym c.is_lone.ensures ∙ c.if-is_lone.false) (sym c.is_lone-else-is_lone.ensures ∙ c.if-is_lone-2.false)
