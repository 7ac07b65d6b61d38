-- What is noted of the status with which a run ends.
use Rattle.std.specs.Prelude.{◌≡◌, ◌≢◌, ◌⊎◌, ℕ, List, [], ◌++◌, Option, codes, decimal}
use Rattle.std.specs.Io.KnownBytes.{append_known}
use Rattle.outside_core.specs.Failed.{Rose}
use Rattle.outside_core.specs.Sink.{GainsPart}
use Rattle.peer_wire.specs.Asks.{method}
use Rattle.chefsite.specs.declared.named.Named.{Named}
use Rattle.chefsite.specs.declared.named.Named.TheVariants.{Nothing, File, Request}
use Rattle.chefsite.specs.declared.statuses.Status.{Status}
use Rattle.chefsite.specs.declared.statuses.Status.TheVariants.{Done, Usage, ReadFault, WriteFault, NoMemory, NotAMessage, BadReply, Refused, BadFile}

-- what is named, as it is noted: a file by its name, and a request by its method and target
abbrev pub name_text : Named → List ℕ
name_text Nothing = []
name_text (File name) = name
name_text (Request request) = method request.verb ++ codes " " ++ request.target

-- why a run ended so, before what is named: there is nothing to say where all was done
unfoldable pub note_text : Status → List ℕ
note_text Done = []
note_text Usage = codes "usage"
note_text ReadFault = codes "read fault"
note_text WriteFault = codes "write fault"
note_text NoMemory = codes "out of memory"
note_text (NotAMessage place) = codes "not a message at byte " ++ decimal place
note_text BadReply = codes "bad reply to "
note_text (Refused number) = codes "server answered " ++ decimal number ++ codes " to "
note_text BadFile = codes "bad file "

-- the line that is noted
abbrev pub line : Status → Named → List ℕ
line status named = (codes "chefsite: " ++ note_text status) ++ name_text named ++ codes "\n"

-- the notes gained these bytes, or a front of them where their count of faults rose
abbrev pub GainsOrRose : List ℕ → Option (List ℕ) → Option (List ℕ) → ℕ → ℕ → Type 0
GainsOrRose bytes held now before after =
    (now ≡ append_known held bytes) ⊎ (GainsPart held now bytes × Rose before after)

-- what the notes gained at a status, where this is named: `held` and `now` is what they had and have, `before` and `after` their count of faults
pub record IsNoted (status : Status) (named : Named) (held now : Option (List ℕ)) (before after : ℕ) : Type 0 where
  pub nothing : status ≡ Done → now ≡ held
  pub one_line : status ≢ Done → GainsOrRose (line status named) held now before after
