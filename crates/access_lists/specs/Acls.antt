-- Access lists: for each permission the actors and the groups that have it.
use Rattle.std.specs.Prelude.{ℕ, List, [], ◌∷◌, ◌++◌, Option, Some, None, codes}
use Rattle.membership.specs.TextSets.{in_order, without}
use Rattle.access_lists.specs.declared.acl.Acl.{Acl}
use Rattle.access_lists.specs.declared.acl.Entry.{Entry}
use Rattle.access_lists.specs.declared.perm.Perm.{Perm}
use Rattle.access_lists.specs.declared.perm.Perm.TheVariants.{Create, Read, Update, Delete, Grant}

-- the word of a permission
abbrev pub word_of : Perm → List ℕ
word_of Create = codes "create"
word_of Read = codes "read"
word_of Update = codes "update"
word_of Delete = codes "delete"
word_of Grant = codes "grant"

-- the entry of a permission
abbrev pub entry_of : Perm → Acl → Entry
entry_of Create acl = acl.create
entry_of Read acl = acl.read
entry_of Update acl = acl.update
entry_of Delete acl = acl.delete
entry_of Grant acl = acl.grant

-- the access list in which each entry is changed alike
abbrev pub each_entry : (Entry → Entry) → Acl → Acl
each_entry change acl = record {
  create = change acl.create;
  read = change acl.read;
  update = change acl.update;
  delete = change acl.delete;
  grant = change acl.grant;
}

-- the entry with one more actor
abbrev pub with_actor : List ℕ → Entry → Entry
with_actor name entry = record { actors = in_order (entry.actors ++ name ∷ []); groups = entry.groups }

-- the entry without this actor
abbrev pub without_actor : List ℕ → Entry → Entry
without_actor name entry = record { actors = without name entry.actors; groups = entry.groups }

-- the entry without this group
abbrev pub without_group : List ℕ → Entry → Entry
without_group name entry = record { actors = entry.actors; groups = without name entry.groups }

-- a list with who creates as an actor of all five permissions
abbrev pub with_creator : Option (List ℕ) → Acl → Acl
with_creator None acl = acl
with_creator (Some creator) acl = each_entry (with_actor creator) acl
