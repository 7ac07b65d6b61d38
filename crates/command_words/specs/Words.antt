-- The words that the program takes.
use Rattle.std.specs.Prelude.{ℕ, nat_eq, nat_le, Bool, false, not, ◌&&◌, ◌-◌, ◌++◌, ◌==◌, cond, List, [], ◌∷◌, length, take, drop, Option, Some, None, option_map, option_and_then, unwrap_or, codes, bytes_eq}
use Rattle.std.specs.Option.{option_or}
use Rattle.std.specs.Result.{result_ok}
use Rattle.std.specs.List.{starts_with, ends_with, list_all}
use Rattle.std.specs.Char.{is_ascii_digit}
use Rattle.std.specs.Path.{rsplit_once}
use Rattle.std.specs.Str.Parse.{digits_value}
use Rattle.url.specs.Host.{parse_special_host, host_text}
use Rattle.url.specs.Ascii.{colon}

-- what `knife` is told: the host and the port of a server, an organisation there, the user who asks, and the words of an errand
pub record Knife : Type 0 where
  pub host : List ℕ
  pub port : ℕ
  pub org : List ℕ
  pub user : List ℕ
  pub words : List (List ℕ)

-- a command
pub data Command : Type 0 where
  answer : Command
  explain : (file : List ℕ) → Command
  demo : (size : ℕ) → Command
  knife : (told : Knife) → Command

-- what stands behind a front, where the text begins with it
abbrev pub behind_front : List ℕ → List ℕ → Option (List ℕ)
behind_front front text = cond (starts_with nat_eq text front) (Some (drop (length front) text)) None

-- the value in a word `OPTION=V`
abbrev pub joined_value : List ℕ → List ℕ → Option (List ℕ)
joined_value option word = option_and_then (behind_front (codes "=")) (behind_front option word)

-- a word that no option takes as its value: it begins with `-`
abbrev pub is_dashed : List ℕ → Bool
is_dashed word = starts_with nat_eq word (codes "-")

-- the value in two words `OPTION V`, where V doesn't begin with `-`
abbrev pub next_value : List ℕ → List ℕ → List ℕ → Option (List ℕ)
next_value option word value = cond (bytes_eq word option && not (is_dashed value)) (Some value) None

-- the value of an option in the words that follow a command which takes this option alone, and wants it
abbrev pub only_value : List ℕ → List (List ℕ) → Option (List ℕ)
only_value option [] = None
only_value option (word ∷ []) = joined_value option word
only_value option (word ∷ value ∷ []) = next_value option word value
only_value option (word ∷ value ∷ more ∷ words) = None

-- a number as it is written: a decimal digit alone, or 2 to 10 of them of which the first isn't `0`
abbrev pub is_number : List ℕ → Bool
is_number [] = false
is_number (digit ∷ []) = is_ascii_digit digit
is_number (first ∷ second ∷ digits) =
    not (first == 48) && (nat_le (length digits) 8 && list_all is_ascii_digit (first ∷ second ∷ digits))

-- the number that a text writes
abbrev pub number_in : List ℕ → Option ℕ
number_in text = cond (is_number text) (Some (digits_value 10 text)) None

-- a size: 1 to 200
abbrev pub is_size : ℕ → Bool
is_size number = nat_le 1 number && nat_le number 200

-- the size that a text writes
abbrev pub size_in : List ℕ → Option ℕ
size_in text = option_and_then (λ number. cond (is_size number) (Some number) None) (number_in text)

-- a port: 1 to 65535
abbrev pub is_port : ℕ → Bool
is_port number = nat_le 1 number && nat_le number 65535

-- the port that a text writes
abbrev pub port_in : List ℕ → Option ℕ
port_in text = option_and_then (λ number. cond (is_port number) (Some number) None) (number_in text)

-- where a server is
pub record Place : Type 0 where
  pub host : List ℕ
  pub port : ℕ

-- the host that a text is in a URL, by the URL Standard, section 3.5: a domain, an IPv4 address, or an IPv6 address between
-- brackets; told as a URL writes it, so that a domain is in lower case and in ASCII
abbrev pub host_in : List ℕ → Option (List ℕ)
host_in text = option_map host_text (result_ok (parse_special_host text))

-- the text before the last `:` with the port behind it, where that is a port
abbrev pub with_port : List ℕ → Option (List ℕ × ℕ)
with_port text = option_and_then (λ parts. option_map (λ port. (parts.0, port)) (port_in parts.1)) (rsplit_once colon text)

-- HOST and PORT in `HOST:PORT`, and in HOST alone, whose port is 80
abbrev pub host_and_port : List ℕ → List ℕ × ℕ
host_and_port text = unwrap_or (with_port text) (text, 80)

-- the place that a HOST and a PORT are, where the HOST is a host
abbrev pub place_at : List ℕ × ℕ → Option Place
place_at parts = option_map (λ host. record { host = host; port = parts.1 }) (host_in parts.0)

-- a text without the one `/` at its end, if it has one
abbrev pub without_slash : List ℕ → List ℕ
without_slash text = cond (ends_with nat_eq text (codes "/")) (take (length text - 1) text) text

-- the place in a URL `http://HOST` or `http://HOST:PORT`, with nothing behind it or one `/`
abbrev pub place_in : List ℕ → Option Place
place_in text = option_and_then (λ rest. place_at (host_and_port (without_slash rest))) (behind_front (codes "http://") text)

-- what the words behind `knife` give: the values of each of its options, and its WORDs, each in their order
pub record Given : Type 0 where
  pub servers : List (List ℕ)
  pub orgs : List (List ℕ)
  pub users : List (List ℕ)
  pub words : List (List ℕ)

-- an option of `knife` with its value, or a WORD
pub data Part : Type 0 where
  server_value : (url : List ℕ) → Part
  org_value : (name : List ℕ) → Part
  user_value : (name : List ℕ) → Part
  said : (word : List ℕ) → Part

-- WORDs, and no option
abbrev pub words_alone : List (List ℕ) → Given
words_alone words = record { servers = []; orgs = []; users = []; words = words }

-- what a part gives
abbrev pub given_by : Part → Given
given_by (server_value url) = record { servers = url ∷ []; orgs = []; users = []; words = [] }
given_by (org_value name) = record { servers = []; orgs = name ∷ []; users = []; words = [] }
given_by (user_value name) = record { servers = []; orgs = []; users = name ∷ []; words = [] }
given_by (said word) = words_alone (word ∷ [])

-- what is given first, and then more
abbrev pub and_more : Given → Given → Given
and_more first more = record {
  servers = first.servers ++ more.servers;
  orgs = first.orgs ++ more.orgs;
  users = first.users ++ more.users;
  words = first.words ++ more.words;
}

-- the option of `knife` that has a value, with that value
abbrev pub option_by : (List ℕ → Option (List ℕ)) → Option Part
option_by value =
    option_or (option_map server_value (value (codes "--server")))
    (option_or (option_map org_value (value (codes "--org"))) (option_map user_value (value (codes "--user"))))

-- the option in a word `OPTION=V`
abbrev pub joined_option : List ℕ → Option Part
joined_option word = option_by (λ option. joined_value option word)

-- the option in two words `OPTION V`
abbrev pub next_option : List ℕ → List ℕ → Option Part
next_option word value = option_by (λ option. next_value option word value)

-- the part that a word is alone: a WORD, or where it begins with `-`, an option `OPTION=V`
abbrev pub part_in : List ℕ → Option Part
part_in word = cond (is_dashed word) (joined_option word) (Some (said word))

-- a part with more behind it, or where there is no such part, what else is given
abbrev pub begun_by : Option Part → Option Given → Option Given → Option Given
begun_by None more other = other
begun_by (Some part) more other = option_map (and_more (given_by part)) more

-- what words give, read from the left. Options stand before, between and behind the WORDs, in any order, as parsers of command
-- lines have it: only `--` ends them, and all words behind it are WORDs. So a WORD that begins with `-` stands behind `--`
abbrev pub given_in : List (List ℕ) → Option Given
given_in [] = Some (words_alone [])
given_in (word ∷ []) = cond (bytes_eq word (codes "--")) (Some (words_alone [])) (begun_by (part_in word) (given_in []) None)
given_in (word ∷ value ∷ words) =
    cond (bytes_eq word (codes "--")) (Some (words_alone (value ∷ words)))
    (begun_by (part_in word) (given_in (value ∷ words)) (begun_by (next_option word value) (given_in words) None))

-- the one value of an option that is given once
abbrev pub only : List (List ℕ) → Option (List ℕ)
only [] = None
only (value ∷ []) = Some value
only (value ∷ second ∷ values) = None

-- the organisation and the user, where each is given once
abbrev pub named : Given → Option (List ℕ × List ℕ)
named given = option_and_then (λ organisation. option_map (λ caller. (organisation, caller)) (only given.users)) (only given.orgs)

-- what `knife` is told of a server at a place: its other options are given once each, and there is a WORD
abbrev pub told_at : Place → Given → Option Knife
told_at place given = cond (length given.words == 0) None (option_map (λ names. record {
  host = place.host;
  port = place.port;
  org = names.0;
  user = names.1;
  words = given.words;
}) (named given))

-- what `knife` is told, where also the server is given once, by a URL
abbrev pub told_by : Given → Option Knife
told_by given = option_and_then (λ place. told_at place given) (option_and_then place_in (only given.servers))

-- `answer` takes no further word
abbrev pub answer_with : List (List ℕ) → Option Command
answer_with [] = Some answer
answer_with (word ∷ words) = None

-- `explain` takes `--sources FILE`, where FILE is any text
abbrev pub explain_with : List (List ℕ) → Option Command
explain_with words = option_map explain (only_value (codes "--sources") words)

-- `demo` takes `--size N`, where N is a size
abbrev pub demo_with : List (List ℕ) → Option Command
demo_with words = option_map demo (option_and_then size_in (only_value (codes "--size") words))

-- `knife` takes `--server URL`, `--org O` and `--user U`, where O and U are any text, and WORDs
abbrev pub knife_with : List (List ℕ) → Option Command
knife_with words = option_map knife (option_and_then told_by (given_in words))

-- the command that a word names, with the words that follow it
abbrev pub command_with : List ℕ → List (List ℕ) → Option Command
command_with word words =
    cond (bytes_eq word (codes "answer")) (answer_with words)
    (cond (bytes_eq word (codes "explain")) (explain_with words)
    (cond (bytes_eq word (codes "demo")) (demo_with words)
    (cond (bytes_eq word (codes "knife")) (knife_with words) None)))

-- the command that the words are: `answer`, `explain --sources FILE`, `demo --size N` or `knife` with its options and WORDs
abbrev pub command_of : List (List ℕ) → Option Command
command_of [] = None
command_of (word ∷ words) = command_with word words
