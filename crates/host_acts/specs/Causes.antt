-- The words of causes.
use Rattle.std.specs.Prelude.{ℕ, List, codes}
use Rattle.host_acts.specs.declared.cause.Cause.{Cause}
use Rattle.host_acts.specs.declared.cause.Cause.TheVariants.{ParentMissing, NotADirectory, LinkInPath, NotAFile, NotALink, NotEmpty}

-- the word by which reports tell a cause
abbrev pub word_of : Cause → List ℕ
word_of ParentMissing = codes "ParentMissing"
word_of NotADirectory = codes "NotADirectory"
word_of LinkInPath = codes "LinkInPath"
word_of NotAFile = codes "NotAFile"
word_of NotALink = codes "NotALink"
word_of NotEmpty = codes "NotEmpty"
