-- The routes of containers.
use Rattle.std.specs.Prelude.{ℕ, Bool, List, [], ◌∷◌, ◌++◌, map, is_none, codes}
use Rattle.access_lists.specs.Starting.{containers, container_named, name_of}
use Rattle.doc_tree.specs.Doc.{Doc, words, dict, pairs_of}
use Rattle.org_core.specs.Contexts.{Context}
use Rattle.org_core.specs.Outcomes.{Decided, shows, tells}
use Rattle.org_requests.specs.Replies.{org_uri, paths_behind}

-- the front of the paths of containers
abbrev pub containers_front : List ℕ → List ℕ
containers_front org = org_uri org ++ codes "/containers/"

-- there is no container of this name: each organisation has the same twelve
abbrev pub lacks_container : List ℕ → Bool
lacks_container name = is_none (container_named name)

-- the reply that shows a container
abbrev pub container_doc : List ℕ → Doc
container_doc name = dict (pairs_of ((codes "containername", words name) ∷ (codes "containerpath", words name) ∷ []))

-- each container's name with its path
abbrev pub containers_listed : Context → Decided
containers_listed context = tells (shows (paths_behind (containers_front context.org) (map name_of containers)))
