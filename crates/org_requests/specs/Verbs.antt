-- The methods that routes have (RFC 9110, section 9).
use Rattle.std.specs.Prelude.{Bool, true, false}
use Rattle.org_requests.specs.declared.verbs.Verb.{Verb}
use Rattle.org_requests.specs.declared.verbs.Verb.TheVariants.{Get, Post, Put, Delete, Other}

-- the method is GET
abbrev pub is_get : Verb → Bool
is_get Get = true
is_get Post = false
is_get Put = false
is_get Delete = false
is_get Other = false

-- the method is POST
abbrev pub is_post : Verb → Bool
is_post Get = false
is_post Post = true
is_post Put = false
is_post Delete = false
is_post Other = false
