-- The bytes of a reply (RFC 9112, sections 4 and 6; RFC 9110, section 15).
use Rattle.std.specs.Prelude.{ℕ, Bool, List, [], ◌++◌, length, if◌then◌else◌, ◌==◌, codes, decimal}
use Rattle.org_requests.specs.declared.replies.Reply.{Reply}

-- the reason phrase of a status; it is empty where there is none here
unfoldable pub phrase : ℕ → List ℕ
phrase status =
    if status == 200 then codes "OK"
    else if status == 201 then codes "Created"
    else if status == 400 then codes "Bad Request"
    else if status == 401 then codes "Unauthorized"
    else if status == 403 then codes "Forbidden"
    else if status == 404 then codes "Not Found"
    else if status == 405 then codes "Method Not Allowed"
    else if status == 406 then codes "Not Acceptable"
    else if status == 409 then codes "Conflict"
    else if status == 412 then codes "Precondition Failed"
    else if status == 413 then codes "Payload Too Large"
    else if status == 500 then codes "Internal Server Error"
    else if status == 501 then codes "Not Implemented"
    else if status == 503 then codes "Service Unavailable"
    else []

-- what the body is: a file's bytes, or a JSON text
unfoldable pub content_type : Bool → List ℕ
content_type octets = if octets then codes "application/octet-stream" else codes "application/json"

-- the status line and the headers of a reply with a body of this size, and the empty line
unfoldable pub head_text : ℕ → Bool → ℕ → List ℕ
head_text status octets size =
    codes "HTTP/1.1 " ++ decimal status ++ codes " " ++ phrase status
    ++ codes "\r\nContent-Type: " ++ content_type octets
    ++ codes "\r\nContent-Length: " ++ decimal size ++ codes "\r\n\r\n"

-- the whole text of a reply
abbrev pub reply_text : Reply → List ℕ
reply_text reply = head_text reply.status reply.octets (length reply.body) ++ reply.body
