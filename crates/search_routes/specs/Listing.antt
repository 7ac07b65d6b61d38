-- The listing of the indexes.
use Rattle.std.specs.Prelude.{ℕ, List, ◌++◌, codes}
use Rattle.membership.specs.TextSets.{in_order}
use Rattle.doc_tree.specs.declared.kind.Kind.TheVariants as kinds
use Rattle.object_finder.specs.Indexes.{kinds_words}
use Rattle.object_store.specs.Objects.{Objects, names_in}
use Rattle.org_core.specs.Contexts.{Context}
use Rattle.org_core.specs.Outcomes.{Decided, shows, tells}
use Rattle.org_requests.specs.Replies.{org_uri, paths_behind}
use Rattle.org_core.specs.States.{objects_of}

-- the words of all indexes, in the order of their bytes and each once: the names of the data bags, and those four
abbrev pub index_words : Objects → List (List ℕ)
index_words objects = in_order (names_in kinds.Bag objects ++ kinds_words)

-- the front of the paths of indexes
abbrev pub indexes_front : List ℕ → List ℕ
indexes_front org = org_uri org ++ codes "/search/"

-- the indexes are listed: 200 with the path of each
abbrev pub indexes_listed : Context → Decided
indexes_listed context = tells (shows (paths_behind (indexes_front context.org) (index_words (objects_of context.state))))
