-- Bodies that are the compact texts of documents, for the private clauses of reading.
use Rattle.std.specs.Prelude.{◌≡◌, ℕ, List}
use Rattle.compact_json.specs.Compact.{IsCompact, spelled}
use Rattle.doc_tree.specs.Doc.{Doc}
use Rattle.membership.specs.Lists.{members_of}
use Rattle.membership.specs.Members.{Members}
use Rattle.row_reading.specs.declared.group.MemberLists.{MemberLists}

-- the body is the compact text of this document
abbrev pub IsTextOf : Doc → List ℕ → Type 0
IsTextOf doc body = IsCompact body × (spelled body ≡ doc)

-- the members that the lists name
abbrev pub members_listed : MemberLists → Members
members_listed lists = members_of lists.users lists.clients lists.groups
