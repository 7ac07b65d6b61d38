-- The documents of access lists, read back.
use Rattle.std.proofs.Common.{◌≡◌, Some, option_map, option_and_then, ap, ◌∙◌}
use Rattle.membership.specs.TextTrees.{texts_in, texts_doc}
use Rattle.membership.proofs.TextSetLemmas.{in_order-rising}
use Rattle.membership.proofs.TextTreesLemmas.{texts_back}
use Rattle.access_lists.specs.declared.acl.Acl.{Acl}
use Rattle.access_lists.specs.declared.acl.Entry.{Entry}
use Rattle.access_lists.specs.Forms.{entry_with, entry_in, acl_in, entry_doc, acl_doc, IsEntry, IsAcl}

-- an entry comes back from its document
pub entry_back : (entry : Entry) → IsEntry entry → entry_in (entry_doc entry) ≡ Some entry
entry_back entry is =
    ap (λ found. option_and_then (λ actors. option_map (λ groups. entry_with actors groups) (texts_in (texts_doc entry.groups))) found) (texts_back entry.actors)
    ∙ ap (option_map (λ groups. entry_with entry.actors groups)) (texts_back entry.groups)
    ∙ (λ i. Some (record { actors = in_order-rising entry.actors is.0 i; groups = in_order-rising entry.groups is.1 i }))

-- an access list comes back from its document
pub acl_back : (acl : Acl) → IsAcl acl → acl_in (acl_doc acl) ≡ Some acl
acl_back acl is =
    let create = entry_back acl.create is.0 in
    let read = entry_back acl.read is.1 in
    let update = entry_back acl.update is.2 in
    let delete = entry_back acl.delete is.3 in
    let grant = entry_back acl.grant is.4 in
    ap (option_and_then (λ create. option_and_then (λ read. option_and_then (λ update. option_and_then (λ delete. option_map (λ grant.
    let made : Acl = record { create = create; read = read; update = update; delete = delete; grant = grant } in made)
    (entry_in (entry_doc acl.grant))) (entry_in (entry_doc acl.delete))) (entry_in (entry_doc acl.update))) (entry_in (entry_doc acl.read)))) create
    ∙ ap (option_and_then (λ read. option_and_then (λ update. option_and_then (λ delete. option_map (λ grant.
    let made : Acl = record { create = acl.create; read = read; update = update; delete = delete; grant = grant } in made)
    (entry_in (entry_doc acl.grant))) (entry_in (entry_doc acl.delete))) (entry_in (entry_doc acl.update)))) read
    ∙ ap (option_and_then (λ update. option_and_then (λ delete. option_map (λ grant.
    let made : Acl = record { create = acl.create; read = acl.read; update = update; delete = delete; grant = grant } in made)
    (entry_in (entry_doc acl.grant))) (entry_in (entry_doc acl.delete)))) update
    ∙ ap (option_and_then (λ delete. option_map (λ grant.
    let made : Acl = record { create = acl.create; read = acl.read; update = acl.update; delete = delete; grant = grant } in made)
    (entry_in (entry_doc acl.grant)))) delete
    ∙ ap (option_map (λ grant. let made : Acl = record { create = acl.create; read = acl.read; update = acl.update; delete = acl.delete; grant = grant } in made)) grant
