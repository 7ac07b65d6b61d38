-- The parts of a lock's body: names, run lists, locked cookbooks and Dicts.
use Rattle.std.specs.Prelude.{ℕ, List, Option, Some, None, option_map, option_and_then, Result, Ok, Err, ok_or, codes}
use Rattle.doc_tree.specs.Text.{text_of}
use Rattle.doc_tree.specs.Doc.{Doc, words, Pairs, pairs_of}
use Rattle.doc_tree.specs.Name.{is_name}
use Rattle.doc_tree.specs.Part.{pair_at}
use Rattle.version_rules.specs.Constraints.{reads_constraint}
use Rattle.version_rules.specs.Terms.{Terms}
use Rattle.version_rules.specs.Versions.{reads_version}
use Rattle.version_rules.specs.declared.needs.Need.{Need}
use Rattle.version_rules.specs.declared.versions.Version.{Version}
pub use Rattle.run_lists.specs.ByName.{dict_of, kept_if, named_run_lists}
pub use Rattle.run_lists.specs.Reading.{each_of, items_read, recipes_of, run_list_of}
use Rattle.cookbook_meta.specs.Parts.{is_identifier}
use Rattle.policy_locks.specs.declared.lock.CookbookLock.{CookbookLock}

-- what was read, if no fault was found
abbrev pub read_ok : {A F : Type 0} → Result A F → Option A
read_ok (Ok x) = Some x
read_ok (Err fault) = None

-- the Name that a document is
abbrev pub name_of : Doc → Option (List ℕ)
name_of d = option_and_then (kept_if is_name) (text_of d)

-- the version that a document is
abbrev pub version_of : Doc → Option Version
version_of d = option_and_then (λ text. read_ok (reads_version text)) (text_of d)

-- the identifier of an artifact that a document is
abbrev pub identifier_of : Doc → Option (List ℕ)
identifier_of d = option_and_then (kept_if is_identifier) (text_of d)

-- the constraint on versions that a document is
abbrev pub constraint_of : Doc → Option Terms
constraint_of d = option_and_then (λ text. read_ok (reads_constraint text)) (text_of d)

-- the version and the identifier at which a Dict locks the cookbook of a name
abbrev pub locked_at : List ℕ → Pairs → Option CookbookLock
locked_at name ps =
    option_and_then (λ version. option_map (λ identifier. record { name = name; version = version; identifier = identifier })
    (option_and_then identifier_of (pair_at (codes "identifier") ps)))
    (option_and_then version_of (pair_at (codes "version") ps))

-- a locked cookbook: its Name, and a Dict of its version and identifier, and more
abbrev pub cookbook_lock : List ℕ × Doc → Option CookbookLock
cookbook_lock pair =
    option_and_then (λ name. option_and_then (λ ps. locked_at name (pairs_of ps)) (dict_of pair.1)) (kept_if is_name pair.0)

-- the locked cookbooks that a document is
abbrev pub cookbook_locks : Doc → Option (List CookbookLock)
cookbook_locks d = option_and_then (each_of cookbook_lock) (dict_of d)

-- a cookbook's Name, and a constraint on its version
abbrev pub need_of : List ℕ × Doc → Option Need
need_of pair = option_and_then (λ name. option_map (λ constraint. record { name = name; constraint = constraint }) (constraint_of pair.1)) (kept_if is_name pair.0)

-- the constraints by cookbooks that a document is
abbrev pub needs_of : Doc → Option (List Need)
needs_of d = option_and_then (each_of need_of) (dict_of d)

-- what is read of a field that must be there, or the field's name where it hasn't its form
abbrev pub must : {A : Type 0} → (Doc → Option A) → List ℕ → Pairs → Result A (List ℕ)
must read key body = ok_or (option_and_then read (pair_at key body)) key

-- what is read of a field, and the default where the field isn't there
abbrev pub read_or : {A : Type 0} → A → (Doc → Option A) → Option Doc → Option A
read_or default read None = Some default
read_or default read (Some d) = read d

-- what is read of a field that may be missing, or the field's name where it hasn't its form
abbrev pub may : {A : Type 0} → A → (Doc → Option A) → List ℕ → Pairs → Result A (List ℕ)
may default read key body = ok_or (read_or default read (pair_at key body)) key
