-- The request that a message spells.
use Rattle.std.specs.Prelude.{ℕ, List, codes}
use Rattle.httparse.specs.Grammar.{RequestHead}
use Rattle.org_requests.specs.declared.requests.Request.{Request}
use Rattle.http_routes.specs.Requests.{request_from}
use Rattle.http_wire.specs.Fields.{values_named}
use Rattle.http_wire.specs.Message.{Message, headers_of}

-- the values of the header that names the caller
abbrev pub callers_in : RequestHead → List (List ℕ)
callers_in head = values_named (codes "x-ops-userid") (headers_of head)

-- the values of the header that names the version of the API
abbrev pub versions_in : RequestHead → List (List ℕ)
versions_in head = values_named (codes "x-ops-server-api-version") (headers_of head)

-- the values of the headers that say what becomes of the connection
abbrev pub connections_in : RequestHead → List (List ℕ)
connections_in head = values_named (codes "connection") (headers_of head)

-- the request that a message spells: by its method, its target, the values of these headers and its body
abbrev pub request_of : Message → Request
request_of m =
    request_from m.head.method m.head.target (callers_in m.head) (versions_in m.head) (connections_in m.head) m.body
