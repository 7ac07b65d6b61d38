-- A lock as it is stored.
use Rattle.std.specs.Prelude.{ℕ, Bool, List, [], ◌∷◌, ◌++◌, map, codes}
use Rattle.doc_tree.specs.Doc.{Doc, dict, Pairs, pairs_of, pairs_list}
use Rattle.run_lists.specs.Stored.{Stored}
use Rattle.run_lists.specs.Storing.{named_pair, run_list_doc}
use Rattle.cookbook_meta.specs.Stored.{beside, is_among, with_pairs}
use Rattle.run_lists.specs.declared.by_name.NamedRunList.{NamedRunList}

-- run lists under their names, as they are stored
abbrev pub named_doc : List NamedRunList → Doc
named_doc lists = dict (pairs_of (with_pairs (map named_pair lists) []))

-- the keys of the fields that aren't stored as they were sent: run lists, and what has a default
abbrev pub settled_keys : List (List ℕ)
settled_keys =
    codes "run_list"
    ∷ codes "named_run_lists"
    ∷ codes "default_attributes"
    ∷ codes "override_attributes"
    ∷ codes "solution_dependencies"
    ∷ []

-- run lists, as they are stored
abbrev pub run_list_fields : List Stored → List NamedRunList → List (List ℕ × Doc)
run_list_fields run_list lists =
    (codes "run_list", run_list_doc run_list)
    ∷ (codes "named_run_lists", named_doc lists)
    ∷ []

-- attributes and what a solution depends on, as they are stored
abbrev pub dict_fields : List (List ℕ × Doc) → List (List ℕ × Doc) → List (List ℕ × Doc) → List (List ℕ × Doc)
dict_fields default over solution =
    (codes "default_attributes", dict (pairs_of default))
    ∷ (codes "override_attributes", dict (pairs_of over))
    ∷ (codes "solution_dependencies", dict (pairs_of solution))
    ∷ []

-- those fields, as they are stored
abbrev pub settled_fields : List Stored → List NamedRunList → List (List ℕ × Doc) → List (List ℕ × Doc) → List (List ℕ × Doc) → List (List ℕ × Doc)
settled_fields run_list lists default over solution = run_list_fields run_list lists ++ dict_fields default over solution

-- the key is that of a field that isn't stored as it was sent
abbrev pub is_settled : List ℕ → Bool
is_settled key = is_among key settled_keys

-- the stored object of a lock: those fields, put among all else that was sent
abbrev pub whole_of : List Stored → List NamedRunList → List (List ℕ × Doc) → List (List ℕ × Doc) → List (List ℕ × Doc) → Pairs → List (List ℕ × Doc)
whole_of run_list lists default over solution body = with_pairs (settled_fields run_list lists default over solution) (beside is_settled (pairs_list body))
