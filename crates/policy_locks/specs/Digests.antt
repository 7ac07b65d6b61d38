-- The revision of a lock: a digest of its lines.
use Rattle.std.specs.Prelude.{ℕ, List, [], ◌∷◌, ◌++◌, map, codes}
use Rattle.std.specs.List.{flat_map}
use Rattle.hex.specs.Hex.{encode_lower}
use Rattle.sha2.specs.Sha256.{sha256}
use Rattle.doc_tree.specs.Doc.{Doc, dict, pairs_of}
use Rattle.doc_tree.specs.Written.{text}
use Rattle.run_lists.specs.Stored.{Stored}
use Rattle.cookbook_meta.specs.Identifiers.{text_of_lines}
use Rattle.policy_locks.specs.declared.lock.CookbookLock.{CookbookLock}
use Rattle.policy_locks.specs.declared.lock.Lock.{Lock}
use Rattle.run_lists.specs.declared.by_name.NamedRunList.{NamedRunList}

-- the line of an item
abbrev pub item_line : Stored → List ℕ
item_line item = codes "run-list-item:" ++ item.text

-- the lines of a run list, one an item
abbrev pub item_lines : List Stored → List (List ℕ)
item_lines items = map item_line items

-- the lines of a run list under its name
abbrev pub named_lines : NamedRunList → List (List ℕ)
named_lines named = (codes "named-run-list:" ++ named.name) ∷ item_lines named.run_list

-- the line of a locked cookbook: its name and its identifier
abbrev pub cookbook_line : CookbookLock → List ℕ
cookbook_line lock = codes "cookbook:" ++ lock.name ++ codes ";id:" ++ lock.identifier

-- the compact text of a Dict
abbrev pub dict_text : List (List ℕ × Doc) → List ℕ
dict_text pairs = text (dict (pairs_of pairs))

-- the lines of a policy's name, run lists, locked cookbooks and attributes
abbrev pub lines_by : List ℕ → List Stored → List NamedRunList → List CookbookLock → List (List ℕ × Doc) → List (List ℕ × Doc) → List (List ℕ)
lines_by name run_list lists cookbooks default override =
    (codes "name:" ++ name) ∷ []
    ++ item_lines run_list
    ++ flat_map named_lines lists
    ++ map cookbook_line cookbooks
    ++ (codes "default_attributes:" ++ dict_text default) ∷ (codes "override_attributes:" ++ dict_text override) ∷ []

-- the SHA-256 of lines, each ended by a line feed, in lower-case hexadecimal digits
abbrev pub digest_text : List (List ℕ) → List ℕ
digest_text lines = encode_lower (sha256 (text_of_lines lines))

-- the lines of a lock
abbrev pub lines_of : Lock → List (List ℕ)
lines_of lock = lines_by lock.name lock.run_list lock.named_run_lists lock.cookbook_locks lock.default_attributes lock.override_attributes

-- the revision of a lock
abbrev pub revision_of : Lock → List ℕ
revision_of lock = digest_text (lines_of lock)
