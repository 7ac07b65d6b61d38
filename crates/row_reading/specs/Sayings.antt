-- What is said, and of what.
use Rattle.sandboxes.specs.Checksums.{checksum_of}
use Rattle.org_core.specs.ObjectConditions.{IsStored}
use Rattle.org_shelves.specs.Conditions.{IsVersionOf, IsArtifactOf, IsRevisionOf}
use Rattle.org_rows.specs.Places as place
use Rattle.org_rows.specs.Places.{Place}
use Rattle.org_rows.specs.Things.{Content, count, document, name_alone, members, assigned, list, sums, stored}
use Rattle.row_reading.specs.declared.said.Said.{Said}
use Rattle.row_reading.specs.declared.said.Said.TheVariants.{Count, Object, User, Group, Container, Version, Artifact, Revision, PolicyGroup, List as AList, Sandbox, File}

-- what it is said of
abbrev pub place_said : Said → Place
place_said (Count n) = place.itself
place_said (Object key object) = place.object key
place_said (User name) = place.user name
place_said (Group name group) = place.group name
place_said (Container name) = place.container name
place_said (Version name version manifest) = place.version name version
place_said (Artifact name id manifest) = place.artifact name id
place_said (Revision policy id lock) = place.revision policy id
place_said (PolicyGroup name policies) = place.policy_group name
place_said (AList key acl) = place.acl key
place_said (Sandbox id checksums) = place.sandbox id
place_said (File bytes committed) = place.file (checksum_of bytes)

-- what is said of it
abbrev pub content_said : Said → Content
content_said (Count n) = count n
content_said (Object key object) = document object
content_said (User name) = name_alone
content_said (Group name group) = members group.members
content_said (Container name) = name_alone
content_said (Version name version manifest) = document manifest
content_said (Artifact name id manifest) = document manifest
content_said (Revision policy id lock) = document lock
content_said (PolicyGroup name policies) = assigned policies
content_said (AList key acl) = list acl
content_said (Sandbox id checksums) = sums checksums
content_said (File bytes committed) = stored (record { file = bytes; committed = committed })

-- what is said of an object, a version, an artifact or a revision is what is stored of its kind
abbrev pub IsStoredSaying : Said → Type 0
IsStoredSaying (Count n) = Unit {0}
IsStoredSaying (Object key object) = IsStored key.kind key.name object
IsStoredSaying (User name) = Unit {0}
IsStoredSaying (Group name group) = Unit {0}
IsStoredSaying (Container name) = Unit {0}
IsStoredSaying (Version name version manifest) = IsVersionOf name version manifest
IsStoredSaying (Artifact name id manifest) = IsArtifactOf name id manifest
IsStoredSaying (Revision policy id lock) = IsRevisionOf policy id lock
IsStoredSaying (PolicyGroup name policies) = Unit {0}
IsStoredSaying (AList key acl) = Unit {0}
IsStoredSaying (Sandbox id checksums) = Unit {0}
IsStoredSaying (File bytes committed) = Unit {0}
