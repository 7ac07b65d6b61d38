-- A request as bytes: a head and then a body of the length that the head says (RFC 9112, sections 2.1 and 6).
use Rattle.std.specs.Prelude.{◌≡◌, ◌≢◌, ℕ, ◌-◌, ◌≤◌, List, [], ◌++◌, length, map, Some}
use Rattle.httparse.specs.Grammar.{RequestHead, IsRequestHead, print_request}
use Rattle.httparse.specs.Spans.{name_and_value}
use Rattle.http_wire.specs.Fields.{body_length}

-- a message: its head, and the bytes of its body
pub record Message : Type 0 where
  pub head : RequestHead
  pub body : List ℕ

-- the bytes of a message
abbrev pub print_message : Message → List ℕ
print_message m = print_request m.head ++ m.body

-- the head's headers, each with its name and its value
abbrev pub headers_of : RequestHead → List (List ℕ × List ℕ)
headers_of head = map name_and_value head.fields

-- the head is one of the grammar and within the limits, and the body is as long as it says
pub record IsMessage (m : Message) : Type 0 where
  pub head : IsRequestHead m.head
  pub size : length (print_request m.head) ≤ 16384
  pub fields : length m.head.fields ≤ 64
  pub body : body_length (headers_of m.head) ≡ Some (length m.body)

-- the bytes are the message m, which has at most this many bytes, and then rest
pub record Begins (limit : ℕ) (bytes : List ℕ) (m : Message) (rest : List ℕ) : Type 0 where
  pub message : IsMessage m
  pub ends : length (print_message m) ≤ limit
  pub whole : bytes ≡ print_message m ++ rest

-- the bytes begin with no message of at most this many bytes
abbrev pub BeginsNone : ℕ → List ℕ → Type 0
BeginsNone limit bytes = (m : Message) (rest : List ℕ) → ¬ (Begins limit bytes m rest)

-- the place in a stream after which no message ends: 2^40
abbrev pub last_place : ℕ
last_place = 1099511627776

-- bytes are left at this place of a stream, and they begin with no message that ends in time
abbrev pub NoneBegins : ℕ → List ℕ → Type 0
NoneBegins place bytes = (bytes ≢ []) × BeginsNone (last_place - place) bytes
