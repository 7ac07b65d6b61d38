-- What one organisation holds: its files, its sandboxes that are not yet committed, and how many it has made.
use Rattle.std.specs.Prelude.{◌≡◌, ℕ, ◌+◌, ◌^◌, ◌==◌, ◌||◌, Bool, false, not, List, [], ◌∷◌, ◌++◌, map, bytes_eq, Option, Some, None, is_some, option_map, unwrap_or, Result, Ok, Err, if◌then◌else◌, decimal, refl}
use Rattle.std.specs.Coded.{Coded, code_by, coded×, coded_ℕ, coded_list, coded_bool}
use Rattle.std.specs.FinMap as finite
use Rattle.std.specs.List.{list_any, filter}
use Rattle.std.specs.Option.{ForSome}
use Rattle.doc_tree.specs.Text.{text_cmp}
use Rattle.sandboxes.specs.declared.fault.SandFault.{SandFault}
use Rattle.sandboxes.specs.declared.fault.SandFault.TheVariants.{NoSandbox, DigestDiffers, CountAtEnd}
use Rattle.sandboxes.specs.declared.stored.Stored.{Stored}
use Rattle.sandboxes.specs.Checksums.{checksum_of}
use Rattle.sandboxes.specs.Sums.{Sums, lists}

-- files by their checksums
abbrev pub Stock : Type 0
Stock = finite.FinMap text_cmp Stored

-- the checksums that sandboxes list, by the ids of the sandboxes
abbrev pub Sandboxes : Type 0
Sandboxes = finite.FinMap text_cmp Sums

-- what an organisation holds
pub record Holding : Type 0 where
  pub files : Stock
  pub sandboxes : Sandboxes
  pub count : ℕ

-- an organisation that has nothing, and has made no sandbox
abbrev pub nothing : Holding
nothing = record { files = finite.empty; sandboxes = finite.empty; count = 0 }

-- the count is the largest that 64 bits hold
abbrev pub is_at_end : Holding → Bool
is_at_end holding = holding.count + 1 == 2 ^ 64

-- the id of the next sandbox: the MD5 of the organisation's name, a line feed and the count after it rose, in decimal
abbrev pub next_id : List ℕ → Holding → List ℕ
next_id org holding = checksum_of (org ++ 10 ∷ decimal (holding.count + 1))

-- the id of a sandbox that is begun, or the end of the count
abbrev pub id_or_end : List ℕ → Holding → Result (List ℕ) SandFault
id_or_end org holding = if is_at_end holding then Err CountAtEnd else Ok (next_id org holding)

-- with the next sandbox, in place of one that has its id
abbrev pub with_sandbox : List ℕ → Sums → Holding → Holding
with_sandbox org sums holding =
    record { files = holding.files; sandboxes = finite.insert holding.sandboxes (next_id org holding) sums; count = holding.count + 1 }

-- what an organisation of this name holds once a sandbox was begun
abbrev pub begun : List ℕ → Sums → Holding → Holding
begun org sums holding = if is_at_end holding then holding else with_sandbox org sums holding

-- a sandbox lists this checksum
abbrev pub awaits : Holding → List ℕ → Bool
awaits holding sum = list_any (λ sums. lists sums sum) (finite.values holding.sandboxes)

-- a file of this checksum is there
abbrev pub has_file : Holding → List ℕ → Bool
has_file holding sum = finite.contains_key holding.files sum

-- why a file isn't taken: no sandbox lists the checksum that was asked for, or it is another than the file's
abbrev pub upload_fault : List ℕ → List ℕ → Holding → Option SandFault
upload_fault asked file holding =
    if not (awaits holding asked) then Some NoSandbox
    else if bytes_eq (checksum_of file) asked then None
    else Some (DigestDiffers asked (checksum_of file))

-- with a file that is not committed, unless one of its checksum is there
abbrev pub with_file : List ℕ → List ℕ → Holding → Holding
with_file sum file holding =
    if has_file holding sum then holding
    else record { files = finite.insert holding.files sum (record { file = file; committed = false }); sandboxes = holding.sandboxes; count = holding.count }

-- what an organisation holds once a file was sent to it
abbrev pub uploaded : List ℕ → List ℕ → Holding → Holding
uploaded asked file holding = if is_some (upload_fault asked file holding) then holding else with_file asked file holding

-- those checksums of which no file is there
abbrev pub missing : Holding → Sums → Sums
missing holding sums = filter (λ sum. not (has_file holding sum)) sums

-- what is missing from the sandbox of this id, where there is one
abbrev pub missing_from : Holding → List ℕ → Option Sums
missing_from holding id = option_map (missing holding) (finite.get holding.sandboxes id)

-- the checksums of the sandbox of this id
abbrev pub sums_of : Holding → List ℕ → Sums
sums_of holding id = unwrap_or (finite.get holding.sandboxes id) []

-- a file is committed if it was, or if it is one of these
abbrev pub marked : Sums → List ℕ × Stored → List ℕ × Stored
marked sums entry = (entry.0, record { file = entry.1.file; committed = entry.1.committed || lists sums entry.0 })

-- the files, of which these are committed
abbrev pub with_committed : Sums → Stock → Stock
with_committed sums files = finite.from_entries (map (marked sums) (finite.entries files))

-- what an organisation holds once the sandbox of this id was committed
abbrev pub committed : List ℕ → Holding → Holding
committed id holding =
    record { files = with_committed (sums_of holding id) holding.files; sandboxes = finite.remove holding.sandboxes id; count = holding.count }

-- the files without these
abbrev pub without : Sums → Stock → Stock
without sums files = finite.retain_keys files (λ sum. not (lists sums sum))

-- what an organisation holds once these files were released
abbrev pub released : Sums → Holding → Holding
released sums holding =
    record { files = without sums holding.files; sandboxes = holding.sandboxes; count = holding.count }

-- with a file, committed or not, in place of one of its checksum
abbrev pub laid_file : List ℕ → Bool → Holding → Holding
laid_file file is_committed holding =
    record { files = finite.insert holding.files (checksum_of file) (record { file = file; committed = is_committed }); sandboxes = holding.sandboxes; count = holding.count }

-- with a sandbox of this id that lists these checksums, in place of one of this id
abbrev pub laid_sandbox : List ℕ → Sums → Holding → Holding
laid_sandbox id sums holding =
    record { files = holding.files; sandboxes = finite.insert holding.sandboxes id sums; count = holding.count }

-- with this count in place of its own
abbrev pub laid_count : ℕ → Holding → Holding
laid_count count holding = record { files = holding.files; sandboxes = holding.sandboxes; count = count }

-- each file is kept under its own checksum
abbrev pub AreNamed : Stock → Type 0
AreNamed files = (sum : List ℕ) → ForSome (finite.get files sum) (λ stored. checksum_of stored.file ≡ sum)

-- how the logic stores a file that is kept
abbrev pub stored_code : Coded Stored
stored_code = code_by (List ℕ × Bool) (coded× (coded_list coded_ℕ) coded_bool) (λ s. (s.file, s.committed)) (λ p. record { file = p.0; committed = p.1 }) (λ _. refl)

-- how the logic stores what an organisation holds
abbrev pub holding_code : Coded Holding
holding_code =
    code_by (Stock × (Sandboxes × ℕ)) (coded× (finite.code (coded_list coded_ℕ) stored_code) (coded× (finite.code (coded_list coded_ℕ) (coded_list (coded_list coded_ℕ))) coded_ℕ)) (λ h. (h.files, (h.sandboxes, h.count))) (λ p. record { files = p.0; sandboxes = p.1.0; count = p.1.1 }) (λ _. refl)
