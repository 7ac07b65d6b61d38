-- The documents of entries, and of a whole host: its image.
use Rattle.std.specs.Prelude.{ℕ, Bool, true, false, ◌&&◌, ◌||◌, ◌==◌, List, [], ◌∷◌, map, Option, Some, None, is_some, option_map, bytes_eq, codes, Result, Ok, Err, if◌then◌else◌}
use Rattle.std.specs.FinMap as finite
use Rattle.std.specs.List.{list_any}
use Rattle.std.specs.Option.{option_or}
use Rattle.doc_tree.specs.Text.{text_of}
use Rattle.doc_tree.specs.Doc.{Doc, null, boolean, whole, words, list, dict, Pairs, no_pairs, then_pair, pairs_of, pairs_list}
use Rattle.host_tree.specs.Entries.{Entries, at}
use Rattle.host_tree.specs.Modes.{mode_in, mode_text}
use Rattle.host_tree.specs.Paths.{is_normal}
use Rattle.host_tree.specs.declared.entry.Entry.{Entry}
use Rattle.host_tree.specs.declared.entry.Entry.TheVariants.{File, Directory, Link}

-- ---- the document of an entry

abbrev pub entry_doc : Entry → Doc
entry_doc (File content mode) = dict (then_pair (codes "content") (words content) (then_pair (codes "mode") (words (mode_text mode)) (then_pair (codes "type") (words (codes "file")) no_pairs)))
entry_doc (Directory mode) = dict (then_pair (codes "mode") (words (mode_text mode)) (then_pair (codes "type") (words (codes "directory")) no_pairs))
entry_doc (Link to) = dict (then_pair (codes "to") (words to) (then_pair (codes "type") (words (codes "link")) no_pairs))

abbrev pub doc_pair : List ℕ × Entry → List ℕ × Doc
doc_pair p = (p.0, entry_doc p.1)

-- the image of a host: its paths in the order of their bytes, each with its entry's document
abbrev pub image_of : Entries → Doc
image_of host = dict (pairs_of (map doc_pair (finite.entries host)))

-- ---- the entry of a document

-- the mode whose four octal digits a document is
abbrev pub mode_of : Doc → Option ℕ
mode_of null = None
mode_of (boolean b) = None
mode_of (whole z) = None
mode_of (words text) = mode_in text
mode_of (list ds) = None
mode_of (dict ps) = None

-- the document is this text
abbrev pub is_word : List ℕ → Doc → Bool
is_word word null = false
is_word word (boolean b) = false
is_word word (whole z) = false
is_word word (words text) = bytes_eq text word
is_word word (list ds) = false
is_word word (dict ps) = false

-- the pair says that the entry is of this type
abbrev pub is_type : List ℕ → List ℕ → Doc → Bool
is_type word k d = bytes_eq k (codes "type") && is_word word d

abbrev pub file_of : Option (List ℕ) → Option ℕ → Option Entry
file_of None mode = None
file_of (Some content) None = None
file_of (Some content) (Some mode) = Some (File content mode)

-- the file that three pairs spell: `content`, `mode` and `type`
abbrev pub file_in : List ℕ → Doc → List ℕ → Doc → List ℕ → Doc → Option Entry
file_in k1 d1 k2 d2 k3 d3 =
    if bytes_eq k1 (codes "content") && (bytes_eq k2 (codes "mode") && is_type (codes "file") k3 d3) then file_of (text_of d1) (mode_of d2) else None

-- the directory that two pairs spell: `mode` and `type`
abbrev pub directory_in : List ℕ → Doc → List ℕ → Doc → Option Entry
directory_in k1 d1 k2 d2 = if bytes_eq k1 (codes "mode") && is_type (codes "directory") k2 d2 then option_map Directory (mode_of d1) else None

-- the link that two pairs spell: `to` and `type`
abbrev pub link_in : List ℕ → Doc → List ℕ → Doc → Option Entry
link_in k1 d1 k2 d2 = if bytes_eq k1 (codes "to") && is_type (codes "link") k2 d2 then option_map Link (text_of d1) else None

-- the entry that the pairs of a dict spell: these keys and no others
abbrev pub pairs_entry : Pairs → Option Entry
pairs_entry no_pairs = None
pairs_entry (then_pair k1 d1 no_pairs) = None
pairs_entry (then_pair k1 d1 (then_pair k2 d2 no_pairs)) = option_or (directory_in k1 d1 k2 d2) (link_in k1 d1 k2 d2)
pairs_entry (then_pair k1 d1 (then_pair k2 d2 (then_pair k3 d3 no_pairs))) = file_in k1 d1 k2 d2 k3 d3
pairs_entry (then_pair k1 d1 (then_pair k2 d2 (then_pair k3 d3 (then_pair k4 d4 more)))) = None

abbrev pub entry_in : Doc → Option Entry
entry_in null = None
entry_in (boolean b) = None
entry_in (whole z) = None
entry_in (words text) = None
entry_in (list ds) = None
entry_in (dict ps) = pairs_entry ps

-- ---- the host of an image

abbrev pub is_slash : ℕ → Bool
is_slash b = b == 47

-- what stands before the last slash of a path
abbrev pub parent_of : List ℕ → List ℕ
parent_of [] = []
parent_of (b ∷ behind) = if list_any is_slash behind then b ∷ parent_of behind else []

-- a directory stands there
abbrev pub is_directory : Option Entry → Bool
is_directory None = false
is_directory (Some (File content mode)) = false
is_directory (Some (Directory mode)) = true
is_directory (Some (Link to)) = false

-- the path's parent is the root, or a directory of the host
abbrev pub has_parent : Entries → List ℕ → Bool
has_parent host path = bytes_eq (parent_of path) [] || is_directory (at host (parent_of path))

abbrev pub kept_entry : List ℕ → Option Entry → List (List ℕ × Entry) → List (List ℕ × Entry)
kept_entry path None rest = rest
kept_entry path (Some entry) rest = (path, entry) ∷ rest

-- the entries among the pairs of an image
abbrev pub entries_in : List (List ℕ × Doc) → List (List ℕ × Entry)
entries_in [] = []
entries_in (p ∷ ps) = kept_entry p.0 (entry_in p.1) (entries_in ps)

-- the host that these entries are
abbrev pub host_of : List (List ℕ × Doc) → Entries
host_of ps = finite.from_entries (entries_in ps)

-- the entry that a pair of an image spells, or none where it hasn't its form: its path is normal, its parent is the root or a directory of the host, and its document is that of an entry
abbrev pub form_in : Entries → List ℕ × Doc → Option Entry
form_in host p = if is_normal p.0 && has_parent host p.0 then entry_in p.1 else None

-- the path of the first of these pairs that hasn't its form
abbrev pub first_bad : Entries → List (List ℕ × Doc) → Option (List ℕ)
first_bad host [] = None
first_bad host (p ∷ ps) = if is_some (form_in host p) then first_bad host ps else Some p.0

abbrev pub host_or : Entries → Option (List ℕ) → Result Entries (List ℕ)
host_or host None = Ok host
host_or host (Some path) = Err path

-- the host that the pairs of an image spell, or the path of the first that hasn't its form
abbrev pub pairs_host : List (List ℕ × Doc) → Result Entries (List ℕ)
pairs_host ps = host_or (host_of ps) (first_bad (host_of ps) ps)

-- the host that an image spells, or the path of its first bad entry, which is empty where it is no dict
abbrev pub host_in : Doc → Result Entries (List ℕ)
host_in null = Err []
host_in (boolean b) = Err []
host_in (whole z) = Err []
host_in (words text) = Err []
host_in (list ds) = Err []
host_in (dict ps) = pairs_host (pairs_list ps)
