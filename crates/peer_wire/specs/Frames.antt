-- How a reply whose head was read is framed.
use Rattle.std.specs.Prelude.{◌≡◌, ℕ, ◌≤◌, List, length, Some}
use Rattle.httparse.specs.Grammar.{ResponseHead, ReadsResponse, print_response, status_code}
use Rattle.peer_wire.specs.Fields.{body_length, is_octets}
use Rattle.peer_wire.specs.Answer.{headers_of}
use Rattle.peer_wire.specs.declared.heads.Frame.{Frame}

-- what is held begins with the head h, which is within the limits, and the frame is what it says
pub record IsFrame (held : List ℕ) (frame : Frame) (h : ResponseHead) (tail : List ℕ) : Type 0 where
  pub reads : ReadsResponse held h tail
  pub len : frame.len ≡ length (print_response h)
  pub status : frame.status ≡ status_code h
  pub octets : frame.octets ≡ is_octets (headers_of h)
  pub body : body_length (headers_of h) ≡ Some frame.size
  pub small : length (print_response h) ≤ 16384
  pub fields : length h.fields ≤ 64
  pub within : frame.len ≤ length held
