-- The routes of users.
use Rattle.std.specs.Prelude.{ℕ, Bool, not, ◌&&◌, List, [], ◌∷◌, ◌++◌, map, Option, Some, None, option_and_then, codes, Result, Ok, Err}
use Rattle.membership.specs.declared.member_kind.MemberKind.TheVariants as member
use Rattle.membership.specs.MemberNames.{names_in}
use Rattle.membership.specs.Actors as membership
use Rattle.doc_tree.specs.Doc.{Doc, words, list, docs_of}
use Rattle.doc_tree.specs.Name.{is_name}
use Rattle.doc_tree.specs.Part.{part_at}
use Rattle.object_forms.specs.Forms.{name_from}
use Rattle.org_core.specs.Contexts.{Context}
use Rattle.org_core.specs.Creating.{created_by}
use Rattle.org_core.specs.Outcomes.{Decided, shows, does_by, tells}
use Rattle.org_requests.specs.Replies.{org_uri, one_key}
use Rattle.org_core.specs.States.{State, membership_of}
use Rattle.org_core.specs.declared.moves.Move.TheVariants as move
use Rattle.org_requests.specs.declared.refusals.Refusal.{Refusal}
use Rattle.org_requests.specs.declared.refusals.Refusal.TheVariants.{BadField}

-- the front of the paths of users
abbrev pub users_front : List ℕ → List ℕ
users_front org = org_uri org ++ codes "/users/"

-- the name that was found, or the bad field
abbrev pub or_bad_username : Option (List ℕ) → Result (List ℕ) Refusal
or_bad_username None = Err (BadField (codes "username"))
or_bad_username (Some name) = Ok name

-- the Name at the key `username`
abbrev pub username_at : Doc → Option (List ℕ)
username_at doc = option_and_then name_from (part_at (codes "username") doc)

-- the name of the user that a document gives
abbrev pub username_in : Result Doc Refusal → Result (List ℕ) Refusal
username_in (Ok doc) = or_bad_username (username_at doc)
username_in (Err refusal) = Err refusal

-- the organisation has no user of this name, which may have no name's form
abbrev pub lacks_user : List ℕ → State → Bool
lacks_user name state = not (is_name name && membership.has (membership_of state) member.User name)

-- the reply that shows a user
abbrev pub user_doc : List ℕ → Doc
user_doc name = one_key (codes "username") (words name)

-- a user among all
abbrev pub listed_doc : List ℕ → Doc
listed_doc name = one_key (codes "user") (user_doc name)

-- users, in this order
abbrev pub users_doc : List (List ℕ) → Doc
users_doc names = list (docs_of (map listed_doc names))

-- each user, in the order of their names
abbrev pub users_listed : Context → Decided
users_listed context = tells (shows (users_doc (names_in member.User (membership_of context.state))))

-- a user comes and joins the group `users`: 201 with the path
abbrev pub user_created : Context → List ℕ → Decided
user_created context name = created_by (users_front context.org ++ name) (move.AddUser (record { name = name; group = codes "users" }) ∷ [])

-- a user goes, out of every group and every list: 200 with the user
abbrev pub user_removed : List ℕ → Decided
user_removed name = does_by (shows (user_doc name)) (move.RemoveUser name ∷ []) 0
