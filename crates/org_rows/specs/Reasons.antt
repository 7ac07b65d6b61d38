-- Which rows are bad, and why.
use Rattle.std.specs.Prelude.{◌≡◌, ℕ, List, Bool, true, not, cond, bytes_eq, Option, Some, None, option_map, option_and_then, is_some}
use Rattle.std.specs.FinMap as finite
use Rattle.std.specs.List.{find}
use Rattle.doc_tree.specs.Name.{is_organisation_name}
use Rattle.doc_tree.specs.declared.kind.Kind.{Kind}
use Rattle.outside_keeper.specs.Rows.{KeptRows}
use Rattle.outside_keeper.specs.declared.row_key.RowKey.{RowKey}
use Rattle.sandboxes.specs.Checksums.{checksum_of}
use Rattle.org_rows.specs.Places.{Place, file, kind_named, place_in}
use Rattle.org_rows.specs.Reading.{content_at}
use Rattle.org_rows.specs.References.{has_references}
use Rattle.org_rows.specs.Things.{Content, stored}
use Rattle.org_rows.specs.declared.reason.Reason.{Reason}
use Rattle.org_rows.specs.declared.reason.Reason.TheVariants as reason

-- what is of this kind and name, in an organisation of this name
abbrev pub named_place : List ℕ → Kind → List ℕ → Option Place
named_place org kind name = cond (is_organisation_name org) (place_in kind name) None

-- the file that the body holds has the checksum that is its row's name
abbrev pub has_digest : Place → Content → Bool
has_digest (file sum) (stored found) = bytes_eq (checksum_of found.file) sum
has_digest place content = true

module _ (lies_here : List ℕ → Bool) (rows : KeptRows) (row : RowKey) where
  -- of a row whose kind, name and body are good: it lies in another shard, what it asks for is missing, or its digest differs
  abbrev pub reason_of_content : Place → Content → Option Reason
  reason_of_content place content =
      cond (not (lies_here row.org)) (Some reason.Shard)
      (cond (not (has_references rows row place content)) (Some reason.Reference)
      (cond (not (has_digest place content)) (Some reason.Digest) None))

  -- of a row with a good kind and name, where this is what its body says
  abbrev pub reason_of_said : Place → Option Content → Option Reason
  reason_of_said place None = Some reason.Body
  reason_of_said place (Some content) = reason_of_content place content

  -- of a row with a good kind, where this is what its name says
  abbrev pub reason_of_named : List ℕ → Option Place → Option Reason
  reason_of_named body None = Some reason.Name
  reason_of_named body (Some place) = reason_of_said place (content_at place body)

  -- of a row whose word says this kind
  abbrev pub reason_of_kind : List ℕ → Option Kind → Option Reason
  reason_of_kind body None = Some reason.Kind
  reason_of_kind body (Some kind) = reason_of_named body (named_place row.org kind row.name)

  -- why a row with this body is bad among the rows of a shard that has these organisations: the first reason that holds
  -- of kind, name, body, shard, reference and digest
  abbrev pub reason_of : List ℕ → Option Reason
  reason_of body = reason_of_kind body (kind_named row.kind)

-- a row that is bad, with its reason
abbrev pub bad : (List ℕ → Bool) → KeptRows → RowKey × List ℕ → Option (RowKey × Reason)
bad lies_here rows entry = option_map (λ why. (entry.0, why)) (reason_of lies_here rows entry.0 entry.1)

-- the first of these rows that is bad
abbrev pub first_bad_among : (List ℕ → Bool) → KeptRows → List (RowKey × List ℕ) → Option (RowKey × Reason)
first_bad_among lies_here rows entries = option_and_then (bad lies_here rows) (find (λ entry. is_some (bad lies_here rows entry)) entries)

-- the first bad row, in key order
abbrev pub first_bad : (List ℕ → Bool) → KeptRows → Option (RowKey × Reason)
first_bad lies_here rows = first_bad_among lies_here rows (finite.entries rows)

-- no row is bad
abbrev pub AreGood : (List ℕ → Bool) → KeptRows → Type 0
AreGood lies_here rows = (row : RowKey) (body : List ℕ) → finite.get rows row ≡ Some body → reason_of lies_here rows row body ≡ None
