-- What reading an image answers.
use Rattle.std.specs.Prelude.{◌≡◌, List, ℕ, ⊤, Result, Ok, Err}
use Rattle.host_tree.specs.Entries.{Entries}
use Rattle.host_tree.specs.declared.image_fault.ImageFault.{ImageFault}
use Rattle.host_tree.specs.declared.image_fault.ImageFault.TheVariants.{BadImage, NoMemory}

-- the answer is the host that there is, or the first bad path; want of memory says nothing
abbrev pub Reads : Result Entries ImageFault → Result Entries (List ℕ) → Type 0
Reads (Ok host) due = due ≡ Ok host
Reads (Err (BadImage path)) due = due ≡ Err path
Reads (Err NoMemory) due = ⊤
