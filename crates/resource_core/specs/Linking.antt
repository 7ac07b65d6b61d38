-- The links of the code, for the private clauses.
use Rattle.std.specs.Prelude.{List, ◌++◌, ◌∷◌, [], slice_index_or, slice_set}
use Rattle.resource_core.specs.Links as spec
use Rattle.resource_core.specs.declared.links.Heard.{Heard}
use Rattle.resource_core.specs.declared.links.Notification.{Notification}
use Rattle.resource_core.specs.declared.linking.Links.{Links}

-- links, by their lists
abbrev pub links_by : Links → spec.Links
links_by links = record { own = links.own.items; all_heard = links.heard.items }

-- one more that is heard of the resource at a place
abbrev pub with_fire : Heard → List (List Notification) → List (List Notification)
with_fire heard fires = slice_set fires heard.by (slice_index_or fires heard.by [] ++ heard.fire ∷ [])
