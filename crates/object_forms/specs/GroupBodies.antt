-- The bodies of groups: the name that a body gives, and the members that the body of a PUT gives.
use Rattle.std.specs.Prelude.{ℕ, cond, List, [], ◌∷◌, Option, Some, None, option_map, option_and_then, is_some, Result, Ok, Err, bytes_eq, codes}
use Rattle.doc_tree.specs.Doc.{Doc, null, boolean, whole, words, list, dict, Pairs, pairs_of}
use Rattle.doc_tree.specs.Part.{pair_at}
use Rattle.membership.specs.TextTrees.{texts_in, texts_doc}
use Rattle.membership.specs.TextSets.{in_order}
use Rattle.object_forms.specs.Forms.{is_text, name_from}

-- the key by which a body names a group: `groupname`, or else `name`
abbrev pub group_key : Pairs → List ℕ
group_key body = cond (is_some (pair_at (codes "groupname") body)) (codes "groupname") (cond (is_some (pair_at (codes "name") body)) (codes "name") (codes "groupname"))

-- the name of a group: the path's, given or not, and without one the Name that is given
abbrev pub group_name : Option (List ℕ) → Option Doc → Option (List ℕ)
group_name None found = option_and_then name_from found
group_name (Some path) None = Some path
group_name (Some path) (Some d) = cond (is_text (bytes_eq path) d) (Some path) None

-- members of one kind: a list of texts, in order and each once, and nobody where no list is given
abbrev pub members_from : Option Doc → Option (List (List ℕ))
members_from None = Some []
members_from (Some d) = option_map in_order (texts_in d)

-- members as they are stored
abbrev pub actors_doc : List (List ℕ) → List (List ℕ) → List (List ℕ) → Doc
actors_doc clients groups users = dict (pairs_of ((codes "clients", texts_doc clients) ∷ (codes "groups", texts_doc groups) ∷ (codes "users", texts_doc users) ∷ []))

-- the members that a Dict gives, if each of its lists is one
abbrev pub actors_of : Pairs → Option Doc
actors_of ps =
    option_and_then (λ clients. option_and_then (λ groups. option_map (λ users. actors_doc clients groups users)
    (members_from (pair_at (codes "users") ps))) (members_from (pair_at (codes "groups") ps))) (members_from (pair_at (codes "clients") ps))

-- the members that a document gives: only a Dict has any
abbrev pub actors_from : Doc → Option Doc
actors_from null = None
actors_from (boolean b) = None
actors_from (whole z) = None
actors_from (words text) = None
actors_from (list ds) = None
actors_from (dict ps) = actors_of ps

-- nobody
abbrev pub nobody : Doc
nobody = actors_doc [] [] []

-- the members that are given, and nobody where none are
abbrev pub sent_actors : Option Doc → Option Doc
sent_actors None = Some nobody
sent_actors (Some d) = actors_from d

-- the members of a group: a new one has none, whatever is given
abbrev pub group_actors : Option (List ℕ) → Pairs → Option Doc
group_actors None body = Some nobody
group_actors (Some path) body = sent_actors (pair_at (codes "actors") body)

-- a group as it is stored
abbrev pub group_doc : Doc → List ℕ → Doc
group_doc actors name = dict (pairs_of ((codes "actors", actors) ∷ (codes "groupname", words name) ∷ []))

-- the group of these members, if there are such
abbrev pub group_with : Option Doc → List ℕ → Result Doc (List ℕ)
group_with None name = Err (codes "actors")
group_with (Some actors) name = Ok (group_doc actors name)

-- the group of this name, if there is one
abbrev pub group_named : Option (List ℕ) → List ℕ → Option Doc → Result Doc (List ℕ)
group_named None key actors = Err key
group_named (Some name) key actors = group_with actors name

-- the group that a Dict gives
abbrev pub group_in : Option (List ℕ) → Pairs → Result Doc (List ℕ)
group_in path body = group_named (group_name path (pair_at (group_key body) body)) (group_key body) (group_actors path body)

-- the group that a document gives under the path's name, if there is one, or the first field that hasn't its form
abbrev pub group_from : Option (List ℕ) → Doc → Result Doc (List ℕ)
group_from path null = Err (codes "groupname")
group_from path (boolean b) = Err (codes "groupname")
group_from path (whole z) = Err (codes "groupname")
group_from path (words text) = Err (codes "groupname")
group_from path (list ds) = Err (codes "groupname")
group_from path (dict body) = group_in path body
