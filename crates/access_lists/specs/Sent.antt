-- Entries as they were sent, whose lists are still those of a document.
use Rattle.doc_tree.specs.Doc.{docs_of}
use Rattle.membership.specs.TextTrees.{texts_among}
use Rattle.access_lists.specs.declared.acl.Acl.{Acl}
use Rattle.access_lists.specs.declared.acl.Entry.{Entry}
use Rattle.access_lists.specs.declared.reading.SentEntry.{SentEntry}
use Rattle.access_lists.specs.declared.reading.SentAcl.{SentAcl}
use Rattle.access_lists.specs.Forms.{entry_with}

-- the entry that was sent
abbrev pub entry_sent : SentEntry → Entry
entry_sent sent = entry_with (texts_among (docs_of sent.actors.now)) (texts_among (docs_of sent.groups.now))

-- the access list that was sent
abbrev pub acl_sent : SentAcl → Acl
acl_sent sent = record {
  create = entry_sent sent.create;
  read = entry_sent sent.read;
  update = entry_sent sent.update;
  delete = entry_sent sent.delete;
  grant = entry_sent sent.grant;
}
