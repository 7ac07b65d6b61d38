-- The methods that routes have (RFC 9110, section 9.1): a method is case-sensitive.
use Rattle.std.specs.Prelude.{ℕ, List, codes, bytes_eq, if◌then◌else◌}
use Rattle.org_requests.specs.declared.verbs.Verb.{Verb}
use Rattle.org_requests.specs.declared.verbs.Verb.TheVariants.{Get, Post, Put, Delete, Other}

-- the verb that a method stands for
abbrev pub verb_named : List ℕ → Verb
verb_named method =
    if bytes_eq method (codes "GET") then Get else
    (if bytes_eq method (codes "POST") then Post else
    (if bytes_eq method (codes "PUT") then Put else
    (if bytes_eq method (codes "DELETE") then Delete else Other)))
