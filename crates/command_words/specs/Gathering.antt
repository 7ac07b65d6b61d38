-- What is gathered from the words behind `knife`.
use Rattle.std.specs.Prelude.{List, ℕ, Option, Some, None, option_map}
use Rattle.std.specs.Borrow.{Bor}
use Rattle.command_words.specs.declared.given.Given.{Given}
use Rattle.command_words.specs.declared.given.Part.{Part}
use Rattle.command_words.specs.declared.given.Part.TheVariants as part
use Rattle.command_words.specs.declared.servers.Place.{Place}
use Rattle.command_words.specs.Words as words
use Rattle.command_words.specs.Words.{given_by, given_in, and_more}

-- the same part
abbrev pub part_told : Part → words.Part
part_told (part.Server url) = words.server_value url
part_told (part.Org name) = words.org_value name
part_told (part.User name) = words.user_value name
part_told (part.Word word) = words.said word

-- the same place
abbrev pub place_told : Place → words.Place
place_told place = record { host = place.host; port = place.port }

-- what is given so far
abbrev pub given_told : Given → words.Given
given_told given = record { servers = given.servers.items; orgs = given.orgs.items; users = given.users.items; words = given.words.items }

-- what a part gives with the words that are left behind it
abbrev pub begun_with : Option (Part × Bor (List (List ℕ))) → Option words.Given
begun_with None = None
begun_with (Some found) = option_map (and_more (given_by (part_told found.0))) (given_in found.1.now)

-- what is given so far, with what the words that are left give
abbrev pub with_left : words.Given → List (List ℕ) → Option words.Given
with_left given words = option_map (and_more given) (given_in words)
