-- An entry that was read is read again from what is stored of it.
use Rattle.std.proofs.Common.{◌≡◌, ℕ, true, List, Result, Ok, Err, codes, refl, subst}
use Rattle.doc_tree.specs.Doc.{Doc, null, boolean, whole, words, list, dict, Pairs}
use Rattle.doc_tree.specs.Part.{pair_at}
use Rattle.cookbook_meta.specs.Entries.{entry_in, entry_of, entry_doc, text_or}
use Rattle.cookbook_meta.specs.Faults.{then_do}
use Rattle.cookbook_meta.specs.Parts.{needed, text_of, checksum_of, is_checksum}
use Rattle.cookbook_meta.specs.declared.entries.Entry.{Entry}
use Rattle.cookbook_meta.specs.declared.fault.Flaw.{Flaw}
use Rattle.cookbook_meta.specs.declared.fault.Flaw.TheVariants.{BadChecksum}
use Rattle.cookbook_meta.proofs.DoneLemmas.{same_ok, then_done, kept}

-- the entry has this segment, is read again and names a file by a checksum
abbrev pub ReadsAgain : List ℕ → Entry → Type 0
ReadsAgain segment e = (e.segment ≡ segment) × (entry_of segment (entry_doc e) ≡ Ok e) × (is_checksum e.checksum ≡ true)

entry_again : (segment name path checksum specificity : List ℕ) → is_checksum checksum ≡ true
    → ReadsAgain segment (record { segment = segment; name = name; path = path; checksum = checksum; specificity = specificity })
entry_again segment name path checksum specificity known = (refl, rw known refl, known)

-- what was read as a checksum is one
checksum_known : (d : Doc) (sum : List ℕ) → checksum_of d ≡ Ok sum → is_checksum sum ≡ true
checksum_known d sum is =
    let text = then_done (text_of d) _ sum is in
    let test = kept (is_checksum text.0) text.0 BadChecksum sum text.2 in
    subst (λ (s : List ℕ). is_checksum s ≡ true) test.1 test.0

entry_done : (segment : List ℕ) (name path checksum specificity : Result (List ℕ) Flaw) (e : Entry)
    → then_do name (λ n. then_do path (λ p. then_do checksum (λ c. then_do specificity (λ s. Ok (record { segment = segment; name = n; path = p; checksum = c; specificity = s }))))) ≡ Ok e
    → ((sum : List ℕ) → checksum ≡ Ok sum → is_checksum sum ≡ true) → ReadsAgain segment e
entry_done segment (Ok n) (Ok p) (Ok c) (Ok s) e is known = subst (ReadsAgain segment) (same_ok Flaw _ e is) (entry_again segment n p c s (known c refl))
entry_done segment (Err f) path checksum specificity e is known = cc
entry_done segment (Ok n) (Err f) checksum specificity e is known = cc
entry_done segment (Ok n) (Ok p) (Err f) specificity e is known = cc
entry_done segment (Ok n) (Ok p) (Ok c) (Err f) e is known = cc

sent_checksum : (body : Pairs) (sum : List ℕ) → then_do (needed (codes "checksum") body) checksum_of ≡ Ok sum → is_checksum sum ≡ true
sent_checksum body sum is =
    let sent = then_done (needed (codes "checksum") body) checksum_of sum is in
    checksum_known sent.0 sum sent.2

entry_in_again : (segment : List ℕ) (body : Pairs) (e : Entry) → entry_in segment body ≡ Ok e → ReadsAgain segment e
entry_in_again segment body e is =
    entry_done segment (then_do (needed (codes "name") body) text_of) (then_do (needed (codes "path") body) text_of) (then_do (needed (codes "checksum") body) checksum_of)
    (text_or (codes "default") (pair_at (codes "specificity") body)) e is (sent_checksum body)

pub entry_of_again : (segment : List ℕ) (d : Doc) (e : Entry) → entry_of segment d ≡ Ok e → ReadsAgain segment e
entry_of_again segment null e is = cc
entry_of_again segment (boolean b) e is = cc
entry_of_again segment (whole z) e is = cc
entry_of_again segment (words text) e is = cc
entry_of_again segment (list ds) e is = cc
entry_of_again segment (dict body) e is = entry_in_again segment body e is
