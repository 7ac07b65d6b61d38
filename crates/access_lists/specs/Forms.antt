-- The documents of access lists: `{"PERM":{"actors":[..],"groups":[..]}}` for one permission, and
-- `{"create":{"actors":[..],"groups":[..]},"delete":..,"grant":..,"read":..,"update":..}` for a whole list.
use Rattle.std.specs.Prelude.{◌==◌, ℕ, List, [], ◌∷◌, length, codes, Option, Some, None, option_and_then, option_map, if◌then◌else◌}
use Rattle.doc_tree.specs.Doc.{Doc, null, boolean, whole, words, list, dict, Pairs, pairs_of, pairs_list}
use Rattle.doc_tree.specs.Part.{pair_at}
use Rattle.membership.specs.TextSets.{in_order, IsRising}
use Rattle.membership.specs.TextTrees.{texts_in, texts_doc}
use Rattle.access_lists.specs.declared.acl.Acl.{Acl}
use Rattle.access_lists.specs.declared.acl.Entry.{Entry}
use Rattle.access_lists.specs.declared.perm.Perm.{Perm}
use Rattle.access_lists.specs.declared.perm.Perm.TheVariants.{Create, Read, Update, Delete, Grant}
use Rattle.access_lists.specs.Acls.{word_of}

-- the fields of a dict that has just so many
abbrev pub fields_of : ℕ → Doc → Option Pairs
fields_of count null = None
fields_of count (boolean b) = None
fields_of count (whole z) = None
fields_of count (words s) = None
fields_of count (list ds) = None
fields_of count (dict ps) = if length (pairs_list ps) == count then Some ps else None

-- the texts of the list at a key
abbrev pub texts_at : List ℕ → Pairs → Option (List (List ℕ))
texts_at key ps = option_and_then texts_in (pair_at key ps)

-- the entry of these actors and groups
abbrev pub entry_with : List (List ℕ) → List (List ℕ) → Entry
entry_with actors groups = record { actors = in_order actors; groups = in_order groups }

-- the entry of two lists, `actors` and `groups`
abbrev pub entry_of_lists : Pairs → Option Entry
entry_of_lists ps =
    option_and_then (λ actors. option_map (λ groups. entry_with actors groups) (texts_at (codes "groups") ps)) (texts_at (codes "actors") ps)

-- the entry that a document is: both lists are there, and nothing else
abbrev pub entry_in : Doc → Option Entry
entry_in doc = option_and_then entry_of_lists (fields_of 2 doc)

-- the entry that stands at a permission's word
abbrev pub entry_at : Perm → Pairs → Option Entry
entry_at perm ps = option_and_then entry_in (pair_at (word_of perm) ps)

-- the entry that a body gives for a permission: it stands at its word, and nothing else is there
abbrev pub entry_for : Perm → Doc → Option Entry
entry_for perm doc = option_and_then (entry_at perm) (fields_of 1 doc)

-- the access list of five entries, each at its word
abbrev pub acl_of_entries : Pairs → Option Acl
acl_of_entries ps =
    option_and_then (λ create. option_and_then (λ read. option_and_then (λ update. option_and_then (λ delete. option_map (λ grant.
    record { create = create; read = read; update = update; delete = delete; grant = grant })
    (entry_at Grant ps)) (entry_at Delete ps)) (entry_at Update ps)) (entry_at Read ps)) (entry_at Create ps)

-- the access list that a document is: its five entries are there, and nothing else
abbrev pub acl_in : Doc → Option Acl
acl_in doc = option_and_then acl_of_entries (fields_of 5 doc)

-- the document of an entry
abbrev pub entry_doc : Entry → Doc
entry_doc entry = dict (pairs_of ((codes "actors", texts_doc entry.actors) ∷ (codes "groups", texts_doc entry.groups) ∷ []))

-- the document of an access list
abbrev pub acl_doc : Acl → Doc
acl_doc acl =
    dict (pairs_of ((codes "create", entry_doc acl.create) ∷ (codes "delete", entry_doc acl.delete) ∷ (codes "grant", entry_doc acl.grant) ∷ (codes "read", entry_doc acl.read) ∷ (codes "update", entry_doc acl.update) ∷ []))

-- both lists of an entry rise, as those of every entry do
abbrev pub IsEntry : Entry → Type 0
IsEntry entry = IsRising entry.actors × IsRising entry.groups

-- each entry of an access list is one
abbrev pub IsAcl : Acl → Type 0
IsAcl acl = IsEntry acl.create × IsEntry acl.read × IsEntry acl.update × IsEntry acl.delete × IsEntry acl.grant
