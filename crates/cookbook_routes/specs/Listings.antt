-- The listings of cookbooks and their versions.
use Rattle.std.specs.Prelude.{ℕ, List, [], ◌∷◌, ◌++◌, map, take, reverse, bytes_eq, codes, if◌then◌else◌, Option, Some, None, option_map, Result}
use Rattle.std.specs.FinMap as finite
use Rattle.doc_tree.specs.Doc.{Doc, words, list, dict, docs_of, pairs_of}
use Rattle.shelves.specs.Shelves.{shelf_of}
use Rattle.version_rules.specs.Order.{version_cmp}
use Rattle.version_rules.specs.Versions.{version_text}
use Rattle.version_rules.specs.declared.versions.Version.{Version}
use Rattle.org_core.specs.Outcomes.{Decided, shows, tells}
use Rattle.org_requests.specs.Parameters.{asked_for, largest, number_in, or_bad_parameter}
use Rattle.org_requests.specs.Replies.{one_key, org_uri}
use Rattle.org_shelves.specs.Shelved.{Cookbooks}
use Rattle.org_core.specs.States.{cookbooks_of}
use Rattle.org_core.specs.Contexts.{Context}
use Rattle.org_requests.specs.declared.refusals.Refusal.{Refusal}
use Rattle.org_requests.specs.declared.requests.Parameter.{Parameter}
use Rattle.cookbook_routes.specs.declared.operations.Count.{Count}
use Rattle.cookbook_routes.specs.declared.operations.Count.TheVariants.{All, Most}

-- how many versions of each cookbook are shown, by a value: all of them, or a number of the newest
abbrev pub count_in : List ℕ → Option Count
count_in text = if bytes_eq text (codes "all") then Some All else option_map Most (number_in text)

-- by the parameter `num_versions`, where there is one, and else the newest
abbrev pub count_given : Option (List ℕ) → Option Count
count_given None = Some (Most 1)
count_given (Some text) = count_in text

-- the count that was read, or the bad parameter
abbrev pub count_or_bad : Option Count → Result Count Refusal
count_or_bad count = or_bad_parameter (codes "num_versions") count

-- the count that the parameters ask for
abbrev pub count_asked : List Parameter → Result Count Refusal
count_asked parameters = count_or_bad (count_given (asked_for (codes "num_versions") parameters))

-- how many that is at most: a list has at most the largest number of elements
abbrev pub number_of : Count → ℕ
number_of All = largest
number_of (Most count) = count

-- so many of these, of which the greatest is last, greatest first
abbrev pub newest : Count → List Version → List Version
newest count versions = take (number_of count) (reverse versions)

-- the path of a cookbook
abbrev pub cookbook_path : List ℕ → List ℕ → List ℕ
cookbook_path org name = (org_uri org ++ codes "/cookbooks/") ++ name

-- the path of a version of a cookbook
abbrev pub version_path : List ℕ → List ℕ → Version → List ℕ
version_path org name version = cookbook_path org name ++ (codes "/" ++ version_text version)

-- a version in a listing: its path and its number
abbrev pub version_doc : List ℕ → List ℕ → Version → Doc
version_doc org name version = dict (pairs_of ((codes "url", words (version_path org name version)) ∷ (codes "version", words (version_text version)) ∷ []))

-- the newest of these versions in a listing
abbrev pub newest_doc : List ℕ → Count → List ℕ → List Version → Doc
newest_doc org count name versions = list (docs_of (map (version_doc org name) (newest count versions)))

-- a cookbook in a listing: its path, and its versions, greatest first
abbrev pub cookbook_doc : List ℕ → Count → List ℕ → finite.FinMap version_cmp Doc → Doc
cookbook_doc org count name shelf =
    dict (pairs_of (
    (codes "url", words (cookbook_path org name))
    ∷ (codes "versions", newest_doc org count name (finite.keys shelf))
    ∷ []))

-- each cookbook by its name
abbrev pub listing_doc : List ℕ → Count → Cookbooks → Doc
listing_doc org count cookbooks = dict (pairs_of (map (λ shelf. (shelf.0, cookbook_doc org count shelf.0 shelf.1)) (finite.entries cookbooks)))

-- the cookbooks are listed: 200 with so many versions of each
abbrev pub cookbooks_listed : Context → Count → Decided
cookbooks_listed context count = tells (shows (listing_doc context.org count (cookbooks_of context.state)))

-- a cookbook with all its versions, of which one that isn't there has none
abbrev pub whole_cookbook : Context → List ℕ → Doc
whole_cookbook context name = cookbook_doc context.org All name (shelf_of (cookbooks_of context.state) name)

-- one cookbook is listed: 200 with all its versions
abbrev pub cookbook_listed : Context → List ℕ → Decided
cookbook_listed context name = tells (shows (one_key name (whole_cookbook context name)))
