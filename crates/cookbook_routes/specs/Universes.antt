-- The route of the universe: what each version needs, for those who choose versions themselves.
use Rattle.std.specs.Prelude.{ℕ, ◌+◌, List, [], ◌∷◌, map, codes}
use Rattle.std.specs.FinMap as finite
use Rattle.org_shelves.specs.Editions.{dependencies_in}
use Rattle.cookbook_meta.specs.Stored.{with_pairs}
use Rattle.doc_tree.specs.Doc.{Doc, words, dict, pairs_of}
use Rattle.version_rules.specs.Order.{version_cmp}
use Rattle.version_rules.specs.Versions.{version_text}
use Rattle.version_rules.specs.declared.versions.Version.{Version}
use Rattle.org_core.specs.Contexts.{Context}
use Rattle.org_core.specs.Outcomes.{Decided, shows, does_by}
use Rattle.org_requests.specs.Replies.{org_uri}
use Rattle.org_shelves.specs.Shelved.{Cookbooks}
use Rattle.org_core.specs.States.{cookbooks_of}

-- a version in the universe: what it needs, as it is stored, and where it is had
abbrev pub release_doc : List ℕ → Doc → Doc
release_doc org manifest =
    dict (pairs_of (
    (codes "dependencies", dependencies_in manifest)
    ∷ (codes "location_path", words (org_uri org))
    ∷ (codes "location_type", words (codes "chef_server"))
    ∷ []))

-- with its number as the key
abbrev pub release_pair : List ℕ → Version × Doc → List ℕ × Doc
release_pair org entry = (version_text entry.0, release_doc org entry.1)

-- the versions of a cookbook, by their numbers in byte order
abbrev pub releases_doc : List ℕ → finite.FinMap version_cmp Doc → Doc
releases_doc org shelf = dict (pairs_of (with_pairs (map (release_pair org) (finite.entries shelf)) []))

-- with the cookbook's name as the key
abbrev pub cookbook_pair : List ℕ → List ℕ × finite.FinMap version_cmp Doc → List ℕ × Doc
cookbook_pair org shelf = (shelf.0, releases_doc org shelf.1)

-- all cookbooks, by their names
abbrev pub universe_doc : List ℕ → Cookbooks → Doc
universe_doc org cookbooks = dict (pairs_of (with_pairs (map (cookbook_pair org) (finite.entries cookbooks)) []))

-- how many versions these cookbooks have
abbrev pub count_versions : List (List ℕ × finite.FinMap version_cmp Doc) → ℕ
count_versions [] = 0
count_versions (shelf ∷ shelves) = finite.len shelf.1 + count_versions shelves

-- the universe is shown: 200 with all versions, each of which was looked at
abbrev pub universe_shown : Context → Decided
universe_shown context =
    does_by (shows (universe_doc context.org (cookbooks_of context.state))) [] (count_versions (finite.entries (cookbooks_of context.state)))
