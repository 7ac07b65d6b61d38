-- A row's kind and name say what it is of, and the other way round.
use Rattle.std.proofs.Common.{◌≡◌, ℕ, List, [], Bool, true, false, ◌&&◌, bytes_eq, Option, Some, None, option_and_then, Result, Ok, Err, refl, sym, ap, subst, ◌∙◌}
use Rattle.std.specs.Cmp.Lexicographic.{bytes_decides}
use Rattle.doc_tree.specs.Kind.{word_of}
use Rattle.doc_tree.specs.Name.{is_name}
use Rattle.doc_tree.specs.declared.kind.Kind.{Kind}
use Rattle.doc_tree.specs.declared.kind.Kind.TheVariants as kinds
use Rattle.cookbook_meta.specs.Parts.{is_identifier}
use Rattle.object_store.specs.Keys.{key}
use Rattle.outside_keeper.specs.declared.row_key.RowKey.{RowKey}
use Rattle.version_rules.specs.Versions.{reads_version, version_text}
use Rattle.version_rules.specs.declared.fault.VersionFault.{VersionFault}
use Rattle.version_rules.specs.declared.versions.Version.{Version}
use Rattle.org_rows.specs.Places.{Place, itself, version, artifact, revision, acl, kind_at, name_at, row_of, kind_named, slashed, split_as, split_at_slash, where_, item_place, version_place, acl_place, place_in, place_of, IsPlace}
use Rattle.org_rows.specs.Laws.{RowsNamePlaces, KindsHaveWords}
use Rattle.org_rows.proofs.WordLemmas.{kind_named-word, some_same, split-whole, word-kind_named}

-- the columns of a place are the row's
abbrev IsOf : Kind → List ℕ → Place → Type 0
IsOf kind name place = (kind_at place ≡ kind) × (name_at place ≡ name)

of_where : (kind : Kind) (name : List ℕ) (test : Bool) (place met : Place) → (test ≡ true → IsOf kind name place) → where_ test place ≡ Some met → IsOf kind name met
of_where kind name true place met of is = subst (IsOf kind name) (some_same place met is) (of refl)
of_where kind name false place met of is = cc is

and_second : (a b : Bool) → (a && b) ≡ true → b ≡ true
and_second true b is = is
and_second false b is = cc is

-- where the parts before and behind the first slash give a place, the whole name does
module _ (kind : Kind) (make : List ℕ → List ℕ → Option Place) (name : List ℕ) (met : Place) (each : (front back : List ℕ) → make front back ≡ Some met → IsOf kind (slashed front back) met) where
  of_parts : (split : Option (List ℕ × List ℕ)) → split_at_slash name ≡ split → option_and_then (λ parts. make parts.0 parts.1) split ≡ Some met → IsOf kind name met
  of_parts None at is = cc is
  of_parts (Some parts) at is = subst (λ n. IsOf kind n met) (split-whole name parts.0 parts.1 at) (each parts.0 parts.1 is)

  of_split : split_as make name ≡ Some met → IsOf kind name met
  of_split is = of_parts (split_at_slash name) refl is

of_version : (front back : List ℕ) (read : Result Version VersionFault) (met : Place) → version_place front back read ≡ Some met → IsOf kinds.Cookbook (slashed front back) met
of_version front back (Ok read) met is =
    of_where kinds.Cookbook (slashed front back) (is_name front && bytes_eq (version_text read) back) (version front read) met
    (λ holds. (refl, ap (slashed front) ((bytes_decides (version_text read) back).0 (and_second (is_name front) (bytes_eq (version_text read) back) holds)))) is
of_version front back (Err fault) met is = cc is

of_acl : (word back : List ℕ) (kind : Option Kind) → kind_named word ≡ kind → (met : Place) → acl_place back kind ≡ Some met → IsOf kinds.Acl (slashed word back) met
of_acl word back None at met is = cc is
of_acl word back (Some kind) at met is =
    of_where kinds.Acl (slashed word back) (is_name back) (acl (key kind back)) met (λ _. (refl, ap (λ w. slashed w back) (word-kind_named word kind at))) is

of_kind : (kind : Kind) (name : List ℕ) (found : Place) → place_in kind name ≡ Some found → IsOf kind name found
of_kind kinds.Org name found is = of_where kinds.Org name (bytes_eq name []) itself found (λ same. (refl, sym ((bytes_decides name []).0 same))) is
of_kind kinds.Node name found is = of_where _ name _ _ found (λ _. (refl, refl)) is
of_kind kinds.Role name found is = of_where _ name _ _ found (λ _. (refl, refl)) is
of_kind kinds.Environment name found is = of_where _ name _ _ found (λ _. (refl, refl)) is
of_kind kinds.Bag name found is = of_where _ name _ _ found (λ _. (refl, refl)) is
of_kind kinds.Client name found is = of_where _ name _ _ found (λ _. (refl, refl)) is
of_kind kinds.User name found is = of_where _ name _ _ found (λ _. (refl, refl)) is
of_kind kinds.Group name found is = of_where _ name _ _ found (λ _. (refl, refl)) is
of_kind kinds.Container name found is = of_where _ name _ _ found (λ _. (refl, refl)) is
of_kind kinds.Item name found is = of_split kinds.Item item_place name found (λ front back at. of_where _ (slashed front back) _ _ found (λ _. (refl, refl)) at) is
of_kind kinds.Cookbook name found is = of_split kinds.Cookbook (λ front back. version_place front back (reads_version back)) name found (λ front back at. of_version front back (reads_version back) found at) is
of_kind kinds.Artifact name found is =
    of_split kinds.Artifact (λ front id. where_ (is_name front && is_identifier id) (artifact front id)) name found (λ front back at. of_where _ (slashed front back) _ _ found (λ _. (refl, refl)) at) is
of_kind kinds.Policy name found is =
    of_split kinds.Policy (λ front id. where_ (is_name front && is_name id) (revision front id)) name found (λ front back at. of_where _ (slashed front back) _ _ found (λ _. (refl, refl)) at) is
of_kind kinds.PolicyGroup name found is = of_where _ name _ _ found (λ _. (refl, refl)) is
of_kind kinds.Acl name found is = of_split kinds.Acl (λ word back. acl_place back (kind_named word)) name found (λ front back at. of_acl front back (kind_named front) refl found at) is
of_kind kinds.Sandbox name found is = of_where _ name _ _ found (λ _. (refl, refl)) is
of_kind kinds.File name found is = of_where _ name _ _ found (λ _. (refl, refl)) is

-- ---- rows and places

pub place_of-row_of : (org : List ℕ) (place : Place) → IsPlace place → place_of (row_of org place) ≡ Some place
place_of-row_of org place is = ap (option_and_then (λ kind. place_in kind (name_at place))) (kind_named-word (kind_at place)) ∙ is

named_of : (row : RowKey) (kind : Option Kind) → kind_named row.kind ≡ kind → (place : Place) → option_and_then (λ kind. place_in kind row.name) kind ≡ Some place → row_of row.org place ≡ row
named_of row None none place is = cc is
named_of row (Some kind) named place is =
    let of = of_kind kind row.name place is in
    let words = ap word_of of.0 ∙ word-kind_named row.kind kind named in
    λ i. record { org = row.org; kind = words i; name = of.1 i }

-- what a row is of has the row's kind and name
pub row_of-place_of : (row : RowKey) (place : Place) → place_of row ≡ Some place → row_of row.org place ≡ row
row_of-place_of row place is = named_of row (kind_named row.kind) refl place is

is_place_of : (row : RowKey) (kind : Option Kind) (place : Place) → option_and_then (λ kind. place_in kind row.name) kind ≡ Some place → IsPlace place
is_place_of row None place is = cc is
is_place_of row (Some kind) place is =
    let of = of_kind kind row.name place is in
    ap (λ k. place_in k (name_at place)) of.0 ∙ ap (place_in kind) of.1 ∙ is

-- and its own row is of it
pub IsPlace-place_of : (row : RowKey) (place : Place) → place_of row ≡ Some place → IsPlace place
IsPlace-place_of row place is = is_place_of row (kind_named row.kind) place is

pub rows_name : RowsNamePlaces
rows_name = record { named = place_of-row_of; names = row_of-place_of; are_places = IsPlace-place_of }

pub kinds_have : KindsHaveWords
kinds_have = record { named = kind_named-word; words = word-kind_named }
