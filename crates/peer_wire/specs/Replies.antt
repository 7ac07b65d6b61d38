-- The reply that was read.
use Rattle.std.specs.Prelude.{◌≡◌}
use Rattle.org_requests.specs.declared.replies.Reply.{Reply}
use Rattle.peer_wire.specs.Answer.{Answer, IsAnswer, headers_of, status_of}
use Rattle.peer_wire.specs.Fields.{is_octets}

-- a reply is read as its status, whether its body is raw bytes, and its body
pub record IsReadAs (r : Reply) (a : Answer) : Type 0 where
  pub is : IsAnswer a
  pub status : r.status ≡ status_of a
  pub octets : r.octets ≡ is_octets (headers_of a.head)
  pub body : r.body ≡ a.body
