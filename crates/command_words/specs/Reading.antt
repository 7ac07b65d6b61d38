-- The command that words were read as.
use Rattle.command_words.specs.declared.command.Command.{Command}
use Rattle.command_words.specs.declared.command.Command.TheVariants.{Answer, Explain, Demo, Knife}
use Rattle.command_words.specs.declared.command.KnifeWords.{KnifeWords}
use Rattle.command_words.specs.Words as words

-- what `knife` is told, field by field
abbrev pub knife_told : KnifeWords → words.Knife
knife_told told = record { host = told.host; port = told.port; org = told.org; user = told.user; words = told.words.items }

-- the same command, by its file, its size and what it's told
abbrev pub told : Command → words.Command
told Answer = words.answer
told (Explain file) = words.explain file
told (Demo size) = words.demo size
told (Knife given) = words.knife (knife_told given)
