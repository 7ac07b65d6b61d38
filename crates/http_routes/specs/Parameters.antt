-- The parameters of a request target's query (RFC 3986, section 3.4), form-decoded (URL Standard,
-- section 5.1).
use Rattle.std.specs.Prelude.{◌==◌, ◌+◌, ℕ, List, drop, map}
use Rattle.std.specs.List.{position_or_len}
use Rattle.std.specs.Str.Lossy.{utf8_lossy}
use Rattle.form_urlencoded.specs.Form.{raw_pairs, decode}
use Rattle.org_requests.specs.declared.requests.Parameter.{Parameter}

-- the query: the target behind the question mark
abbrev pub query_in : List ℕ → List ℕ
query_in target = drop (position_or_len (λ b. b == 63) target + 1) target

-- the parameter that a pair spells; what isn't UTF-8 has the replacement character in its place
abbrev pub parameter_of : List ℕ × List ℕ → Parameter
parameter_of pair = record { name = utf8_lossy (decode pair.0); value = utf8_lossy (decode pair.1) }

-- the parameters of a target, in order
abbrev pub parameters_in : List ℕ → List Parameter
parameters_in target = map parameter_of (raw_pairs (query_in target))
