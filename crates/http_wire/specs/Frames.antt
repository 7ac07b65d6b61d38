-- How a message whose head was read is framed.
use Rattle.std.specs.Prelude.{◌≡◌, ℕ, ◌+◌, ◌≤◌, List, length, if◌then◌else◌, nat_le, Option, Some, None, option_and_then}
use Rattle.httparse.specs.Grammar.{RequestHead, print_request}
use Rattle.http_wire.specs.Fields.{body_length}
use Rattle.http_wire.specs.Message.{headers_of, last_place}

-- the size of the body behind a head of this length, where the message ends in time
abbrev pub framed_size : ℕ → ℕ → List (List ℕ × List ℕ) → Option ℕ
framed_size place len headers =
    option_and_then (λ size. if nat_le (place + len + size) last_place then Some size else None) (body_length headers)

-- the head is within the limits, says this size, and the message at this place ends in time
pub record IsFramed (place : ℕ) (head : RequestHead) (size : ℕ) : Type 0 where
  pub small : length (print_request head) ≤ 16384
  pub fields : length head.fields ≤ 64
  pub body : body_length (headers_of head) ≡ Some size
  pub ends : place + length (print_request head) + size ≤ last_place
