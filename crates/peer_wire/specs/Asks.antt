-- The bytes of a request that a client writes (RFC 9112, section 3).
use Rattle.std.specs.Prelude.{ℕ, List, ◌++◌, length, codes, decimal}
use Rattle.peer_wire.specs.declared.asks.Verb.{Verb}
use Rattle.peer_wire.specs.declared.asks.Verb.TheVariants.{Get, Post, Put, Delete}
use Rattle.peer_wire.specs.declared.asks.Ask.{Ask}
use Rattle.peer_wire.specs.declared.asks.Whom.{Whom}

-- the method as it is written
abbrev pub method : Verb → List ℕ
method Get = codes "GET"
method Post = codes "POST"
method Put = codes "PUT"
method Delete = codes "DELETE"

-- the request line, and where the server is
unfoldable pub start_text : Whom → Ask → List ℕ
start_text whom ask =
    method ask.verb ++ codes " " ++ ask.target
    ++ codes " HTTP/1.1\r\nHost: " ++ whom.host ++ codes ":" ++ decimal whom.port

-- the other headers, of a body of this size, and the empty line
unfoldable pub fields_text : Whom → ℕ → List ℕ
fields_text whom size =
    codes "\r\nX-Ops-UserId: " ++ whom.caller
    ++ codes "\r\nX-Ops-Server-API-Version: 1\r\nContent-Length: " ++ decimal size ++ codes "\r\n\r\n"

-- the request line, the headers, and the empty line
abbrev pub head_text : Whom → Ask → List ℕ
head_text whom ask = start_text whom ask ++ fields_text whom (length ask.body)

-- the whole text
abbrev pub ask_text : Whom → Ask → List ℕ
ask_text whom ask = head_text whom ask ++ ask.body
