-- What documents spell entries, and that the document of what one spells is that one.
use Rattle.std.proofs.Common.{◌≡◌, ℕ, ◌+◌, ◌-◌, ◌*◌, ◌/◌, ◌%◌, ◌<◌, ◌≤◌, Bool, true, false, cond, ◌&&◌, List, [], ◌∷◌, length, map, Option, Some, None, bytes_eq, codes, nat_le, option_map, refl, sym, ap, ◌∙◌, arith}
use Rattle.std.proofs.lemmas.Bool.{and_parts, leb-true}
use Rattle.std.proofs.lemmas.Option.{same_Some}
use Rattle.std.specs.Cmp.Lexicographic.{bytes_decides}
use Rattle.std.specs.Option.{option_or}
use Rattle.doc_tree.specs.Text.{text_of}
use Rattle.doc_tree.specs.Doc.{Doc, null, boolean, whole, words, list, dict, Pairs, no_pairs, then_pair, pairs_of}
use Rattle.doc_tree.specs.Tree.{pair_of}
use Rattle.doc_tree.specs.declared.tree.Field.{Field}
use Rattle.host_tree.specs.Documents.{entry_doc, entry_in, pairs_entry, file_in, file_of, directory_in, link_in, mode_of, is_word, is_type}
use Rattle.host_tree.specs.Modes.{is_octal, mode_in, mode_text}
use Rattle.host_tree.specs.declared.entry.Entry.{Entry}
use Rattle.host_tree.specs.declared.entry.Entry.TheVariants.{File, Directory, Link}

-- ---- how many pairs

pub few-none : (fs : List Field) → length fs < 2 → None ≡ pairs_entry (pairs_of (map pair_of fs))
few-none [] few = refl
few-none (a ∷ []) few = refl
few-none (a ∷ b ∷ fs) few = absurd (omega (arith, few))

pub many-none : (fs : List Field) → 4 ≤ length fs → None ≡ pairs_entry (pairs_of (map pair_of fs))
many-none [] many = absurd (omega (arith, many))
many-none (a ∷ []) many = absurd (omega (arith, many))
many-none (a ∷ b ∷ []) many = absurd (omega (arith, many))
many-none (a ∷ b ∷ c ∷ []) many = absurd (omega (arith, many))
many-none (a ∷ b ∷ c ∷ d ∷ fs) many = refl

-- ---- four octal digits and their mode

digits_value : (a b c d : ℕ) → a < 8 → b < 8 → c < 8 → d < 8
    → ((512 * a + 64 * b + 8 * c + d) / 512 % 8 ≡ a) × ((512 * a + 64 * b + 8 * c + d) / 64 % 8 ≡ b) × ((512 * a + 64 * b + 8 * c + d) / 8 % 8 ≡ c) × ((512 * a + 64 * b + 8 * c + d) % 8 ≡ d)
digits_value a b c d la lb lc ld = (omega (arith, la, lb, lc, ld), omega (arith, la, lb, lc, ld), omega (arith, la, lb, lc, ld), omega (arith, la, lb, lc, ld))

octal_value : (a : ℕ) → is_octal a ≡ true → (a - 48 < 8) × (48 + (a - 48) ≡ a)
octal_value a is =
    let parts = and_parts (nat_le 48 a) (nat_le a 55) is in
    let low = leb-true 48 a parts.0 in
    let high = leb-true a 55 parts.1 in
    (omega (arith, low, high), omega (arith, low))

some_cond : {X : Type 0} (b : Bool) (x y : X) → cond b (Some x) None ≡ Some y → (b ≡ true) × (x ≡ y)
some_cond true x y is = (refl, same_Some x y is)
some_cond false x y is = cc

-- the text of the mode that a text spells is that text
mode_text-in : (text : List ℕ) (mode : ℕ) → mode_in text ≡ Some mode → mode_text mode ≡ text
mode_text-in [] mode is = cc
mode_text-in (a ∷ []) mode is = cc
mode_text-in (a ∷ b ∷ []) mode is = cc
mode_text-in (a ∷ b ∷ c ∷ []) mode is = cc
mode_text-in (a ∷ b ∷ c ∷ d ∷ []) mode is =
    let found = some_cond (is_octal a && (is_octal b && (is_octal c && is_octal d))) (512 * (a - 48) + 64 * (b - 48) + 8 * (c - 48) + (d - 48)) mode is in
    let one = and_parts (is_octal a) (is_octal b && (is_octal c && is_octal d)) found.0 in
    let two = and_parts (is_octal b) (is_octal c && is_octal d) one.1 in
    let three = and_parts (is_octal c) (is_octal d) two.1 in
    let va = octal_value a one.0 in
    let vb = octal_value b two.0 in
    let vc = octal_value c three.0 in
    let vd = octal_value d three.1 in
    let value = digits_value (a - 48) (b - 48) (c - 48) (d - 48) va.0 vb.0 vc.0 vd.0 in
    let ea : 48 + mode / 512 % 8 ≡ a = ap (λ (n : ℕ). 48 + n / 512 % 8) (sym found.1) ∙ ap (λ (n : ℕ). 48 + n) value.0 ∙ va.1 in
    let eb : 48 + mode / 64 % 8 ≡ b = ap (λ (n : ℕ). 48 + n / 64 % 8) (sym found.1) ∙ ap (λ (n : ℕ). 48 + n) value.1 ∙ vb.1 in
    let ec : 48 + mode / 8 % 8 ≡ c = ap (λ (n : ℕ). 48 + n / 8 % 8) (sym found.1) ∙ ap (λ (n : ℕ). 48 + n) value.2 ∙ vc.1 in
    let ed : 48 + mode % 8 ≡ d = ap (λ (n : ℕ). 48 + n % 8) (sym found.1) ∙ ap (λ (n : ℕ). 48 + n) value.3 ∙ vd.1 in
    cc
mode_text-in (a ∷ b ∷ c ∷ d ∷ e ∷ more) mode is = cc

-- ---- the document of an entry that was spelt

word_back : (word : List ℕ) (d : Doc) → is_word word d ≡ true → d ≡ words word
word_back word null is = cc
word_back word (boolean b) is = cc
word_back word (whole z) is = cc
word_back word (words text) is = ap words ((bytes_decides text word).0 is)
word_back word (list ds) is = cc
word_back word (dict ps) is = cc

words_back : (d : Doc) (text : List ℕ) → text_of d ≡ Some text → d ≡ words text
words_back null text is = cc
words_back (boolean b) text is = cc
words_back (whole z) text is = cc
words_back (words other) text is = ap words (same_Some other text is)
words_back (list ds) text is = cc
words_back (dict ps) text is = cc

mode_back : (d : Doc) (mode : ℕ) → mode_of d ≡ Some mode → d ≡ words (mode_text mode)
mode_back null mode is = cc
mode_back (boolean b) mode is = cc
mode_back (whole z) mode is = cc
mode_back (words text) mode is = ap words (sym (mode_text-in text mode is))
mode_back (list ds) mode is = cc
mode_back (dict ps) mode is = cc

type_back : (word k : List ℕ) (d : Doc) → is_type word k d ≡ true → (k ≡ codes "type") × (d ≡ words word)
type_back word k d is = let parts = and_parts (bytes_eq k (codes "type")) (is_word word d) is in ((bytes_decides k (codes "type")).0 parts.0, word_back word d parts.1)

file_found : (content : Option (List ℕ)) (mode : Option ℕ) (d1 d2 : Doc) (e : Entry) → text_of d1 ≡ content → mode_of d2 ≡ mode → file_of content mode ≡ Some e
    → entry_doc e ≡ dict (then_pair (codes "content") d1 (then_pair (codes "mode") d2 (then_pair (codes "type") (words (codes "file")) no_pairs)))
file_found None mode d1 d2 e one two is = cc
file_found (Some content) None d1 d2 e one two is = cc
file_found (Some content) (Some mode) d1 d2 e one two is =
    let same : File content mode ≡ e = same_Some (File content mode) e is in
    ap entry_doc (sym same)
    ∙ ap (λ (d : Doc). dict (then_pair (codes "content") d (then_pair (codes "mode") (words (mode_text mode)) (then_pair (codes "type") (words (codes "file")) no_pairs)))) (sym (words_back d1 content one))
    ∙ ap (λ (d : Doc). dict (then_pair (codes "content") d1 (then_pair (codes "mode") d (then_pair (codes "type") (words (codes "file")) no_pairs)))) (sym (mode_back d2 mode two))

none_cond : {X : Type 0} (b : Bool) (found : Option X) (y : X) → cond b found None ≡ Some y → (b ≡ true) × (found ≡ Some y)
none_cond true found y is = (refl, is)
none_cond false found y is = cc

file_back : (k1 : List ℕ) (d1 : Doc) (k2 : List ℕ) (d2 : Doc) (k3 : List ℕ) (d3 : Doc) (e : Entry) → file_in k1 d1 k2 d2 k3 d3 ≡ Some e
    → entry_doc e ≡ dict (then_pair k1 d1 (then_pair k2 d2 (then_pair k3 d3 no_pairs)))
file_back k1 d1 k2 d2 k3 d3 e is =
    let found = none_cond (bytes_eq k1 (codes "content") && (bytes_eq k2 (codes "mode") && is_type (codes "file") k3 d3)) (file_of (text_of d1) (mode_of d2)) e is in
    let one = and_parts (bytes_eq k1 (codes "content")) (bytes_eq k2 (codes "mode") && is_type (codes "file") k3 d3) found.0 in
    let two = and_parts (bytes_eq k2 (codes "mode")) (is_type (codes "file") k3 d3) one.1 in
    let three = type_back (codes "file") k3 d3 two.1 in
    let first = (bytes_decides k1 (codes "content")).0 one.0 in
    let second = (bytes_decides k2 (codes "mode")).0 two.0 in
    file_found (text_of d1) (mode_of d2) d1 d2 e refl refl found.1
    ∙ ap (λ (k : List ℕ). dict (then_pair k d1 (then_pair (codes "mode") d2 (then_pair (codes "type") (words (codes "file")) no_pairs)))) (sym first)
    ∙ ap (λ (k : List ℕ). dict (then_pair k1 d1 (then_pair k d2 (then_pair (codes "type") (words (codes "file")) no_pairs)))) (sym second)
    ∙ ap (λ (k : List ℕ). dict (then_pair k1 d1 (then_pair k2 d2 (then_pair k (words (codes "file")) no_pairs)))) (sym three.0)
    ∙ ap (λ (d : Doc). dict (then_pair k1 d1 (then_pair k2 d2 (then_pair k3 d no_pairs)))) (sym three.1)

some_map : {X Y : Type 0} (f : X → Y) (found : Option X) (y : Y) → option_map f found ≡ Some y → (x : X) × (found ≡ Some x) × (f x ≡ y)
some_map f None y is = cc
some_map f (Some x) y is = (x, refl, same_Some (f x) y is)

two_back : (word key k1 : List ℕ) (d1 : Doc) (k2 : List ℕ) (d2 : Doc) (d : Doc) → bytes_eq k1 key ≡ true → is_type word k2 d2 ≡ true → d1 ≡ d
    → dict (then_pair key d (then_pair (codes "type") (words word) no_pairs)) ≡ dict (then_pair k1 d1 (then_pair k2 d2 no_pairs))
two_back word key k1 d1 k2 d2 d one two is =
    let three = type_back word k2 d2 two in
    ap (λ (e : Doc). dict (then_pair key e (then_pair (codes "type") (words word) no_pairs))) (sym is)
    ∙ ap (λ (k : List ℕ). dict (then_pair k d1 (then_pair (codes "type") (words word) no_pairs))) (sym ((bytes_decides k1 key).0 one))
    ∙ ap (λ (k : List ℕ). dict (then_pair k1 d1 (then_pair k (words word) no_pairs))) (sym three.0)
    ∙ ap (λ (e : Doc). dict (then_pair k1 d1 (then_pair k2 e no_pairs))) (sym three.1)

directory_back : (k1 : List ℕ) (d1 : Doc) (k2 : List ℕ) (d2 : Doc) (e : Entry) → directory_in k1 d1 k2 d2 ≡ Some e → entry_doc e ≡ dict (then_pair k1 d1 (then_pair k2 d2 no_pairs))
directory_back k1 d1 k2 d2 e is =
    let found = none_cond (bytes_eq k1 (codes "mode") && is_type (codes "directory") k2 d2) (option_map Directory (mode_of d1)) e is in
    let parts = and_parts (bytes_eq k1 (codes "mode")) (is_type (codes "directory") k2 d2) found.0 in
    let mode = some_map Directory (mode_of d1) e found.1 in
    ap entry_doc (sym mode.2) ∙ two_back (codes "directory") (codes "mode") k1 d1 k2 d2 (words (mode_text mode.0)) parts.0 parts.1 (mode_back d1 mode.0 mode.1)

link_back : (k1 : List ℕ) (d1 : Doc) (k2 : List ℕ) (d2 : Doc) (e : Entry) → link_in k1 d1 k2 d2 ≡ Some e → entry_doc e ≡ dict (then_pair k1 d1 (then_pair k2 d2 no_pairs))
link_back k1 d1 k2 d2 e is =
    let found = none_cond (bytes_eq k1 (codes "to") && is_type (codes "link") k2 d2) (option_map Link (text_of d1)) e is in
    let parts = and_parts (bytes_eq k1 (codes "to")) (is_type (codes "link") k2 d2) found.0 in
    let to = some_map Link (text_of d1) e found.1 in
    ap entry_doc (sym to.2) ∙ two_back (codes "link") (codes "to") k1 d1 k2 d2 (words to.0) parts.0 parts.1 (words_back d1 to.0 to.1)

either_back : (one other : Option Entry) (e : Entry) (d : Doc) → (one ≡ Some e → entry_doc e ≡ d) → (other ≡ Some e → entry_doc e ≡ d) → option_or one other ≡ Some e → entry_doc e ≡ d
either_back None other e d first second is = second is
either_back (Some x) other e d first second is = first is

pairs_back : (ps : Pairs) (e : Entry) → pairs_entry ps ≡ Some e → entry_doc e ≡ dict ps
pairs_back no_pairs e is = cc
pairs_back (then_pair k1 d1 no_pairs) e is = cc
pairs_back (then_pair k1 d1 (then_pair k2 d2 no_pairs)) e is =
    either_back (directory_in k1 d1 k2 d2) (link_in k1 d1 k2 d2) e (dict (then_pair k1 d1 (then_pair k2 d2 no_pairs))) (directory_back k1 d1 k2 d2 e) (link_back k1 d1 k2 d2 e) is
pairs_back (then_pair k1 d1 (then_pair k2 d2 (then_pair k3 d3 no_pairs))) e is = file_back k1 d1 k2 d2 k3 d3 e is
pairs_back (then_pair k1 d1 (then_pair k2 d2 (then_pair k3 d3 (then_pair k4 d4 more)))) e is = cc

-- the document of the entry that a document spells is that document
pub entry_doc-in : (d : Doc) (e : Entry) → entry_in d ≡ Some e → entry_doc e ≡ d
entry_doc-in null e is = cc
entry_doc-in (boolean b) e is = cc
entry_doc-in (whole z) e is = cc
entry_doc-in (words text) e is = cc
entry_doc-in (list ds) e is = cc
entry_doc-in (dict ps) e is = pairs_back ps e is
