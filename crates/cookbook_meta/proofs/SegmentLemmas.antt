-- The entries of segments are read again from what is stored of them.
use Rattle.std.proofs.Common.{◌≡◌, ℕ, Bool, true, false, cond, not, ◌&&◌, IsTrue, List, [], ◌∷◌, ◌++◌, map, Option, Some, None, Ok, bytes_eq, append_assoc, refl, sym, ap, ◌∙◌}
use Rattle.std.specs.Cmp.Lexicographic.{nat_list_eq_equiv}
use Rattle.std.specs.List.{AllByRecursion, filter, list_all}
use Rattle.doc_tree.specs.Doc.{Doc, null, boolean, whole, words, list, dict, Docs, no_docs, then_doc, Pairs, docs_of}
use Rattle.doc_tree.specs.Part.{pair_at}
use Rattle.cookbook_meta.specs.Entries.{entry_of, entry_doc, has_path, with_entry, with_entries}
use Rattle.cookbook_meta.specs.Faults.{then_do, in_field}
use Rattle.cookbook_meta.specs.Segments.{is_in, segment_docs, with_list, with_segment, with_segments}
use Rattle.cookbook_meta.specs.declared.entries.Entry.{Entry}
use Rattle.cookbook_meta.specs.declared.fault.Flaw.{Flaw}
use Rattle.cookbook_meta.specs.declared.fault.Flaw.TheVariants.{DoublePath}
use Rattle.cookbook_meta.specs.declared.fault.MetaFault.{MetaFault}
use Rattle.cookbook_meta.proofs.DoneLemmas.{same_ok, then_done, then_is, field_done, field_is, kept}
use Rattle.cookbook_meta.proofs.PutLemmas.{and_first, and_second, not_true}
use Rattle.cookbook_meta.proofs.EntryLemmas.{ReadsAgain, entry_of_again}

-- what a segment added to the entries before it
pub record Adds (segment : List ℕ) (before next : List Entry) : Type 0 where
  pub added : List Entry
  pub behind : next ≡ before ++ added
  pub all_in : AllByRecursion (λ (e : Entry). e.segment ≡ segment) added
  pub again : with_entries segment (docs_of (map entry_doc added)) before ≡ Ok next

append_nil : (xs : List Entry) → xs ≡ xs ++ []
append_nil [] = refl
append_nil (x ∷ xs) = ap (λ rest. x ∷ rest) (append_nil xs)

adds_none : (segment : List ℕ) (before next : List Entry) → before ≡ next → Adds segment before next
adds_none segment before next same = record { added = []; behind = sym same ∙ append_nil before; all_in = tt; again = ap Ok same }

adds_one : (segment : List ℕ) (before mid next : List Entry) (e : Entry) → ReadsAgain segment e → with_entry before e ≡ Ok mid → mid ≡ before ++ e ∷ [] → Adds segment mid next → Adds segment before next
adds_one segment before mid next e entry put same later = record {
  added = e ∷ later.added;
  behind = later.behind ∙ ap (λ es. es ++ later.added) same ∙ append_assoc before (e ∷ []) later.added;
  all_in = (entry.0, later.all_in);
  again =
      ap (λ r. then_do (then_do r (with_entry before)) (with_entries segment (docs_of (map entry_doc later.added)))) entry.1
      ∙ ap (λ r. then_do r (with_entries segment (docs_of (map entry_doc later.added)))) put
      ∙ later.again;
}

adds_entries : (segment : List ℕ) (ds : Docs) (before next : List Entry) → with_entries segment ds before ≡ Ok next → Adds segment before next
adds_entries segment no_docs before next is = adds_none segment before next (same_ok Flaw before next is)
adds_entries segment (then_doc d ds) before next is =
    let here = then_done (then_do (entry_of segment d) (with_entry before)) (with_entries segment ds) next is in
    let entry = then_done (entry_of segment d) (with_entry before) here.0 here.1 in
    let put = kept (not (has_path before entry.0.path)) (before ++ entry.0 ∷ []) DoublePath here.0 entry.2 in
    adds_one segment before here.0 next entry.0 (entry_of_again segment d entry.0 entry.1) entry.2 (sym put.1) (adds_entries segment ds here.0 next here.2)

adds_list : (segment : List ℕ) (d : Doc) (before next : List Entry) → with_list segment d before ≡ Ok next → Adds segment before next
adds_list segment null before next is = cc
adds_list segment (boolean b) before next is = cc
adds_list segment (whole z) before next is = cc
adds_list segment (words text) before next is = cc
adds_list segment (list ds) before next is = adds_entries segment ds before next is
adds_list segment (dict ps) before next is = cc

adds_segment : (segment : List ℕ) (found : Option Doc) (before next : List Entry) → with_segment segment found before ≡ Ok next → Adds segment before next
adds_segment segment None before next is = adds_none segment before next (same_ok Flaw before next is)
adds_segment segment (Some d) before next is = adds_list segment d before next is

-- ---- the entries of one segment among all

filter-append : (test : Entry → Bool) (xs ys : List Entry) → filter test (xs ++ ys) ≡ filter test xs ++ filter test ys
filter-append test [] ys = refl
filter-append test (x ∷ xs) ys =
    elim (test x) as (λ b. cond b (x ∷ filter test (xs ++ ys)) (filter test (xs ++ ys)) ≡ cond b (x ∷ filter test xs) (filter test xs) ++ filter test ys) [
      | true ↦ ap (λ es. x ∷ es) (filter-append test xs ys)
      | false ↦ filter-append test xs ys
    ]

-- where each entry is one of this segment, none is one of another
none_other : (segment other : List ℕ) (es : List Entry) → bytes_eq other segment ≡ false → AllByRecursion (λ (e : Entry). e.segment ≡ segment) es → filter (is_in other) es ≡ []
none_other segment other [] differs all = refl
none_other segment other (e ∷ es) differs all =
    ap (λ b. cond b (e ∷ filter (is_in other) es) (filter (is_in other) es)) (ap (bytes_eq other) all.0 ∙ differs) ∙ none_other segment other es differs all.1

-- and each is one of this segment
all_own : (segment : List ℕ) (es : List Entry) → AllByRecursion (λ (e : Entry). e.segment ≡ segment) es → filter (is_in segment) es ≡ es
all_own segment [] all = refl
all_own segment (e ∷ es) all =
    ap (λ b. cond b (e ∷ filter (is_in segment) es) (filter (is_in segment) es)) (ap (bytes_eq segment) all.0 ∙ nat_list_eq_equiv.refl segment) ∙ ap (λ rest. e ∷ rest) (all_own segment es all.1)

-- the name is none of these
abbrev none_is : List ℕ → List (List ℕ) → Bool
none_is name names = list_all (λ other. not (bytes_eq other name)) names

-- no name comes twice
abbrev pub names_apart : List (List ℕ) → Bool
names_apart [] = true
names_apart (name ∷ names) = none_is name names && names_apart names

-- no entry is one of these segments
abbrev pub IsFreeOf : List (List ℕ) → List Entry → Type 0
IsFreeOf names files = AllByRecursion (λ name. filter (is_in name) files ≡ []) names

none_added : (segment other : List ℕ) (before next : List Entry) (adds : Adds segment before next) → bytes_eq other segment ≡ false → filter (is_in other) next ≡ filter (is_in other) before
none_added segment other before next adds differs =
    ap (filter (is_in other)) adds.behind ∙ filter-append (is_in other) before adds.added
    ∙ ap (λ es. filter (is_in other) before ++ es) (none_other segment other adds.added differs adds.all_in)
    ∙ sym (append_nil (filter (is_in other) before))

still_free : (segment : List ℕ) (names : List (List ℕ)) (before next : List Entry) → Adds segment before next → IsTrue (none_is segment names) → IsFreeOf names before → IsFreeOf names next
still_free segment [] before next adds none free = tt
still_free segment (name ∷ names) before next adds none free =
    (none_added segment name before next adds (not_true _ (and_first _ _ none)) ∙ free.0, still_free segment names before next adds (and_second _ _ none) free.1)

-- later segments leave the entries of one
later_same : (segment : List ℕ) (names : List (List ℕ)) (body : Pairs) (next files : List Entry) → IsTrue (none_is segment names) → with_segments names body next ≡ Ok files → filter (is_in segment) files ≡ filter (is_in segment) next
later_same segment [] body next files none is = ap (filter (is_in segment)) (sym (same_ok MetaFault next files is))
later_same segment (name ∷ names) body next files none is =
    let here = then_done (in_field name (with_segment name (pair_at name body) next)) (with_segments names body) files is in
    let adds = adds_segment name (pair_at name body) next here.0 (field_done name _ here.0 here.1) in
    later_same segment names body here.0 files (and_second _ _ none) here.2
    ∙ none_added name segment next here.0 adds (nat_list_eq_equiv.symm segment name ∙ not_true _ (and_first _ _ none))

-- the entries are read again from a body that has at each segment what is stored of it
pub read_again : (names : List (List ℕ)) (body stored : Pairs) (before files : List Entry) → IsTrue (names_apart names) → IsFreeOf names before
    → AllByRecursion (λ name. pair_at name stored ≡ Some (list (docs_of (segment_docs name files)))) names → with_segments names body before ≡ Ok files → with_segments names stored before ≡ Ok files
read_again [] body stored before files distinct free there is = is
read_again (name ∷ names) body stored before files distinct free there is =
    let none = and_first (none_is name names) (names_apart names) distinct in
    let here = then_done (in_field name (with_segment name (pair_at name body) before)) (with_segments names body) files is in
    let adds = adds_segment name (pair_at name body) before here.0 (field_done name _ here.0 here.1) in
    let own : filter (is_in name) files ≡ adds.added =
    later_same name names body here.0 files none here.2 ∙ ap (filter (is_in name)) adds.behind ∙ filter-append (is_in name) before adds.added
    ∙ ap (λ es. es ++ filter (is_in name) adds.added) free.0 ∙ all_own name adds.added adds.all_in in
    let again : with_segment name (pair_at name stored) before ≡ Ok here.0 =
    ap (λ found. with_segment name found before) there.0 ∙ ap (λ es. with_entries name (docs_of (map entry_doc es)) before) own ∙ adds.again in
    then_is (in_field name (with_segment name (pair_at name stored) before)) (with_segments names stored) here.0 (field_is name _ here.0 again)
    ∙ read_again names body stored here.0 files (and_second _ _ distinct) (still_free name names before here.0 adds none free.1) there.1 here.2
