-- Names and checksums are UTF-8, and documents of such texts are documents.
use Rattle.std.proofs.Common.{◌≡◌, ℕ, ◌<◌, Bool, true, false, ◌&&◌, ◌||◌, List, [], ◌∷◌, map, length, IsUtf8, IsAscii, bytes_eq, nat_lt, nat_le, refl, sym, arith, ◌∙◌}
use Rattle.std.specs.List.{list_all}
use Rattle.std.specs.FinSet as set
use Rattle.std.proofs.lemmas.Bool.{and_parts}
use Rattle.std.proofs.lemmas.Str.{IsUtf8-from_ascii}
use Rattle.std.proofs.lemmas.Str.Ascii.{IsAscii-nil, IsAscii-cons}
use Rattle.std.specs.Cmp.Lexicographic.{bytes_decides}
use Rattle.doc_tree.specs.Doc.{words, docs_of}
use Rattle.doc_tree.specs.Name.{is_name, is_name_byte}
use Rattle.doc_tree.specs.Valid.{AreDocs}
use Rattle.membership.proofs.TextSetLemmas.{any-tied, lists-in_order}
use Rattle.membership.specs.MemberNames.{listed_names}
use Rattle.membership.specs.TextSets.{Names, lists}
use Rattle.sandboxes.proofs.ChecksumLemmas.{IsAscii-checksum}
use Rattle.sandboxes.specs.Checksums.{is_checksum}

byte_small : (c : ℕ) → is_name_byte c ≡ true → c < 128
byte_small c h = grind (arith)

IsAscii-bytes : (text : List ℕ) → list_all is_name_byte text ≡ true → IsAscii text
IsAscii-bytes [] h = IsAscii-nil
IsAscii-bytes (c ∷ text) h =
    let parts = and_parts (is_name_byte c) (list_all is_name_byte text) h in
    IsAscii-cons c text (byte_small c parts.0) (IsAscii-bytes text parts.1)

pub name_bytes : (name : List ℕ) → is_name name ≡ true → list_all is_name_byte name ≡ true
name_bytes name is = (and_parts (nat_lt 0 (length name) && nat_le (length name) 255) (list_all is_name_byte name) is).1

-- a Name is UTF-8
pub IsUtf8-name : (name : List ℕ) → is_name name ≡ true → IsUtf8 name
IsUtf8-name name is = IsUtf8-from_ascii name (IsAscii-bytes name (name_bytes name is))

-- and so is a checksum
pub IsUtf8-checksum : (sum : List ℕ) → is_checksum sum ≡ true → IsUtf8 sum
IsUtf8-checksum sum is = IsUtf8-from_ascii sum (IsAscii-checksum sum is)

-- each of these texts is UTF-8
abbrev pub AreTexts : List (List ℕ) → Type 0
AreTexts [] = Unit {0}
AreTexts (text ∷ rest) = IsUtf8 text × AreTexts rest

or_right : (a b : Bool) → b ≡ true → (a || b) ≡ true
or_right true b is = refl
or_right false b is = is

or_left : (a b : Bool) → a ≡ true → (a || b) ≡ true
or_left true b is = refl
or_left false b is = cc is

-- texts of which each that is listed is UTF-8
pub texts_are : (texts : List (List ℕ)) → ((text : List ℕ) → lists texts text ≡ true → IsUtf8 text) → AreTexts texts
texts_are [] each = tt
texts_are (text ∷ rest) each = (
  each text (or_left (bytes_eq text text) (lists rest text) ((bytes_decides text text).1 refl)),
  texts_are rest (λ other listed. each other (or_right (bytes_eq other text) (lists rest other) listed)),
)

-- and of a set
pub items_are : (names : Names) → ((text : List ℕ) → set.contains names text ≡ true → IsUtf8 text) → AreTexts (listed_names names)
items_are names each =
    texts_are (listed_names names) (λ text listed. each text (set.contains-items names text ∙ any-tied text (set.items names) ∙ sym (lists-in_order (set.items names) text) ∙ listed))

pub checksums_are : (sums : List (List ℕ)) → list_all is_checksum sums ≡ true → AreTexts sums
checksums_are [] all = tt
checksums_are (sum ∷ rest) all =
    let parts = and_parts (is_checksum sum) (list_all is_checksum rest) all in
    (IsUtf8-checksum sum parts.0, checksums_are rest parts.1)

-- the list of such texts is a document
pub IsDoc-texts : (texts : List (List ℕ)) → AreTexts texts → AreDocs (docs_of (map words texts))
IsDoc-texts [] are = tt
IsDoc-texts (text ∷ rest) are = (are.0, IsDoc-texts rest are.1)
