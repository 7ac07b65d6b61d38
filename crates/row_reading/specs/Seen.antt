-- The places and contents of the code, as the definitions speak of them.
use Rattle.org_rows.specs.Places as spec
use Rattle.row_reading.specs.declared.place.Place.{Place}
use Rattle.row_reading.specs.declared.place.Place.TheVariants.{Itself, Object, User, Group, Container, Version, Artifact, Revision, PolicyGroup, Acl, Sandbox, File}

-- what a row is of
abbrev pub place_seen : Place → spec.Place
place_seen Itself = spec.itself
place_seen (Object k) = spec.object k
place_seen (User name) = spec.user name
place_seen (Group name) = spec.group name
place_seen (Container name) = spec.container name
place_seen (Version name number) = spec.version name number
place_seen (Artifact name id) = spec.artifact name id
place_seen (Revision policy id) = spec.revision policy id
place_seen (PolicyGroup name) = spec.policy_group name
place_seen (Acl k) = spec.acl k
place_seen (Sandbox id) = spec.sandbox id
place_seen (File sum) = spec.file sum
