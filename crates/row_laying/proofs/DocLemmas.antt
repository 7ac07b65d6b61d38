-- What the bodies of rows say is what the types of what is kept say.
use Rattle.std.proofs.Common.{◌≡◌, ℕ, ◌<◌, ◌^◌, pos, negsuc, ℤ, Bool, true, false, cond, ◌&&◌, ◌||◌, List, [], ◌∷◌, codes, bytes_eq, Option, Some, None, option_map, option_and_then, T, refl, sym, ap, subst, ◌∙◌, arith}
use mathlib.Core.Bool.{true≢false}
use Rattle.std.proofs.lemmas.Bool.{and_parts}
use Rattle.std.proofs.lemmas.Int.{ints}
use Rattle.std.proofs.lemmas.Option.{same_Some, none-some}
use Rattle.std.proofs.lemmas.Str.{IsUtf8-from_is_utf8}
use Rattle.std.specs.Cmp.Lexicographic.{bytes_decides}
use Rattle.std.specs.FinMap.Entries.{is_sorted}
use Rattle.std.specs.List.{list_all}
use Rattle.std.specs.Str.{is_utf8}
use Rattle.compact_json.specs.Compact.{spelled}
use Rattle.doc_tree.specs.Doc.{Doc, null, boolean, whole, words, list, dict, Docs, no_docs, then_doc, Pairs, no_pairs, then_pair, pairs_list}
use Rattle.doc_tree.specs.Number.{IsWhole}
use Rattle.doc_tree.specs.Part.{part_at, pair_at}
use Rattle.doc_tree.specs.Text.{text_cmp}
use Rattle.doc_tree.specs.Valid.{IsDoc, AreDocs, ArePairs}
use Rattle.doc_tree.specs.Written.{text}
use Rattle.membership.proofs.TextSetLemmas.{lists-in_order}
use Rattle.membership.specs.TextSets.{IsRising, as_keys, in_order, lists}
use Rattle.access_lists.specs.Acls.{word_of}
use Rattle.access_lists.specs.Forms.{IsAcl, IsEntry, acl_in, acl_of_entries, entry_at, entry_in, entry_of_lists, entry_with, fields_of, texts_at}
use Rattle.access_lists.specs.declared.acl.Acl.{Acl}
use Rattle.access_lists.specs.declared.acl.Entry.{Entry}
use Rattle.access_lists.specs.declared.perm.Perm.TheVariants.{Create, Read, Update, Delete, Grant}
use Rattle.org_shelves.specs.Rising.{keys_rise, sorted_rise}
use Rattle.sandboxes.specs.Checksums.{is_checksum}
use Rattle.sandboxes.specs.Sums.{Sums}
use Rattle.org_rows.specs.Reading.{are_docs, are_pairs, checksums_among, count_in, document_in, if_stored, is_compact, is_doc, is_whole, number_in, said, stored_in, sums_in, written_as}
use Rattle.org_rows.specs.Reading as reading
use Rattle.org_rows.specs.Things.{Content, document}
use Rattle.row_laying.proofs.RowsLemmas.{document-inj}

-- ---- documents

whole_is : (z : ℤ) → is_whole z ≡ true → IsWhole z
whole_is (pos n) is = grind (arith, ints, is)
whole_is (negsuc n) is = grind (arith, ints, is)

mutual
  doc_is : (d : Doc) → is_doc d ≡ true → IsDoc d
  doc_is null is = tt
  doc_is (boolean b) is = tt
  doc_is (whole z) is = whole_is z is
  doc_is (words s) is = IsUtf8-from_is_utf8 s is
  doc_is (list ds) is = docs_are ds is
  doc_is (dict ps) is =
      let parts = and_parts (are_pairs ps) (is_sorted text_cmp (pairs_list ps)) is in
      (pairs_are ps parts.0, sorted_rise text_cmp (pairs_list ps) (subst T (sym parts.1) tt))

  docs_are : (ds : Docs) → are_docs ds ≡ true → AreDocs ds
  docs_are no_docs are = tt
  docs_are (then_doc d ds) are = let parts = and_parts (is_doc d) (are_docs ds) are in (doc_is d parts.0, docs_are ds parts.1)

  pairs_are : (ps : Pairs) → are_pairs ps ≡ true → ArePairs ps
  pairs_are no_pairs are = tt
  pairs_are (then_pair k d ps) are =
      let parts = and_parts (is_utf8 k) (is_doc d && are_pairs ps) are in
      let rest = and_parts (is_doc d) (are_pairs ps) parts.1 in
      (IsUtf8-from_is_utf8 k parts.0, doc_is d rest.0, pairs_are ps rest.1)

-- the document that a body is the text of is one that a tree can be
document_is : (body : List ℕ) (doc : Doc) → document_in body ≡ Some doc → IsDoc doc
document_is body doc is =
    elim (is_compact body) as (λ b. is_compact body ≡ b → cond b (Some (spelled body)) None ≡ Some doc → IsDoc doc) [
      | true ↦ λ compact some. subst IsDoc (same_Some (spelled body) doc some) (doc_is (spelled body) (and_parts (is_doc (spelled body)) (bytes_eq (text (spelled body)) body) compact).0)
      | false ↦ λ _ none. absurd (none-some doc none)
    ] refl is

own_is : {X : Type 0} (found : Option X) (own doc : Doc) → option_map (λ _. own) found ≡ Some doc → own ≡ doc
own_is None own doc is = absurd (none-some doc is)
own_is (Some x) own doc is = same_Some own doc is

stored_from : (keep : Doc → Option Doc) (body : List ℕ) (doc : Doc) (found : Option Doc) → document_in body ≡ found → option_and_then (λ own. if_stored body own (keep own)) found ≡ Some doc → IsDoc doc
stored_from keep body doc None at is = absurd (none-some doc is)
stored_from keep body doc (Some own) at is = subst IsDoc (own_is (written_as text body (keep own)) own doc is) (document_is body own at)

stored_as : (keep : Doc → Option Doc) (body : List ℕ) (doc : Doc) (found : Option Doc) → stored_in keep body ≡ found → option_map document found ≡ Some (document doc) → IsDoc doc
stored_as keep body doc None at is = absurd (none-some (document doc) is)
stored_as keep body doc (Some own) at is = subst IsDoc (document-inj own doc (same_Some (document own) (document doc) is)) (stored_from keep body own (document_in body) refl at)

-- so is one that is said to be what is stored of itself
pub stored_is : (keep : Doc → Option Doc) (body : List ℕ) (doc : Doc) → option_map document (stored_in keep body) ≡ Some (document doc) → IsDoc doc
stored_is keep body doc is = stored_as keep body doc (stored_in keep body) refl is

-- ---- what is read of a body's document

module _ {X : Type 0} (write : X → List ℕ) (read : Doc → Option X) (body : List ℕ) where
  written_from : (found : Option X) (x : X) → written_as write body found ≡ Some x → found ≡ Some x
  written_from None x is = absurd (none-some x is)
  written_from (Some y) x is =
      elim (bytes_eq (write y) body) as (λ b. cond b (Some y) None ≡ Some x → Some y ≡ Some x) [
        | true ↦ λ some. some
        | false ↦ λ none. absurd (none-some x none)
      ] is

  said_from : (found : Option Doc) (x : X) → document_in body ≡ found → option_and_then (λ doc. written_as write body (read doc)) found ≡ Some x → (doc : Doc) × IsDoc doc × (read doc ≡ Some x)
  said_from None x at is = absurd (none-some x is)
  said_from (Some doc) x at is = (doc, document_is body doc at, written_from (read doc) x is)

  made_from : (make : X → Content) (inj : (x y : X) → make x ≡ make y → x ≡ y) (found : Option X) (x : X) → said write read body ≡ found → option_map make found ≡ Some (make x)
      → (doc : Doc) × IsDoc doc × (read doc ≡ Some x)
  made_from make inj None x at is = absurd (none-some (make x) is)
  made_from make inj (Some y) x at is = said_from (document_in body) x refl (at ∙ ap Some (inj y x (same_Some (make y) (make x) is)))

  -- what is said is read of a document
  pub read_from : (make : X → Content) (inj : (x y : X) → make x ≡ make y → x ≡ y) (x : X) → option_map make (said write read body) ≡ Some (make x) → (doc : Doc) × IsDoc doc × (read doc ≡ Some x)
  read_from make inj x is = made_from make inj (said write read body) x refl is

-- ---- the count

-- what was found is one that a tree can be
abbrev IsDocIn : Option Doc → Type 0
IsDocIn None = Unit {0}
IsDocIn (Some doc) = IsDoc doc

pair_is : (key : List ℕ) (ps : Pairs) → ArePairs ps → IsDocIn (pair_at key ps)
pair_is key no_pairs all = tt
pair_is key (then_pair k d ps) all = elim (bytes_eq k key) as (λ b. IsDocIn (cond b (Some d) (pair_at key ps))) [ true ↦ all.1 | false ↦ pair_is key ps all.2 ]

part_is : (key : List ℕ) (doc : Doc) → IsDoc doc → IsDocIn (part_at key doc)
part_is key null is = tt
part_is key (boolean b) is = tt
part_is key (whole z) is = tt
part_is key (words s) is = tt
part_is key (list ds) is = tt
part_is key (dict ps) is = pair_is key ps is.0

number_fits : (found : Option Doc) (n : ℕ) → IsDocIn found → option_and_then number_in found ≡ Some n → n < 2 ^ 64
number_fits None n is given = absurd (none-some n given)
number_fits (Some null) n is given = absurd (none-some n given)
number_fits (Some (boolean b)) n is given = absurd (none-some n given)
number_fits (Some (whole (pos m))) n is given = subst (λ k. k < 2 ^ 64) (same_Some m n given) (grind (arith, ints, is.1))
number_fits (Some (whole (negsuc m))) n is given = absurd (none-some n given)
number_fits (Some (words s)) n is given = absurd (none-some n given)
number_fits (Some (list ds)) n is given = absurd (none-some n given)
number_fits (Some (dict ps)) n is given = absurd (none-some n given)

-- a count that is read fits 64 bits
pub count_fits : (doc : Doc) (n : ℕ) → IsDoc doc → count_in doc ≡ Some n → n < 2 ^ 64
count_fits doc n is given = number_fits (part_at (codes "sandboxes") doc) n (part_is (codes "sandboxes") doc is) given

-- ---- access lists

rises : (texts : List (List ℕ)) → IsRising (in_order texts)
rises texts = keys_rise text_cmp (as_keys texts)

entry_made : (actors groups : Option (List (List ℕ))) (entry : Entry) → option_and_then (λ actors. option_map (λ groups. entry_with actors groups) groups) actors ≡ Some entry → IsEntry entry
entry_made None groups entry is = absurd (none-some entry is)
entry_made (Some actors) None entry is = absurd (none-some entry is)
entry_made (Some actors) (Some groups) entry is = subst IsEntry (same_Some (entry_with actors groups) entry is) (rises actors, rises groups)

entry_fields : (found : Option Pairs) (entry : Entry) → option_and_then entry_of_lists found ≡ Some entry → IsEntry entry
entry_fields None entry is = absurd (none-some entry is)
entry_fields (Some ps) entry is = entry_made (texts_at (codes "actors") ps) (texts_at (codes "groups") ps) entry is

entry_found : (found : Option Doc) (entry : Entry) → option_and_then entry_in found ≡ Some entry → IsEntry entry
entry_found None entry is = absurd (none-some entry is)
entry_found (Some doc) entry is = entry_fields (fields_of 2 doc) entry is

-- an entry that is found rises
abbrev AreRising : Option Entry → Type 0
AreRising found = (entry : Entry) → found ≡ Some entry → IsEntry entry

acl_made : (create read update delete grant : Option Entry) (acl : Acl) → AreRising create → AreRising read → AreRising update → AreRising delete → AreRising grant
    → option_and_then (λ create. option_and_then (λ read. option_and_then (λ update. option_and_then (λ delete. option_map (λ grant.
    let made : Acl = record { create = create; read = read; update = update; delete = delete; grant = grant } in made) grant) delete) update) read) create ≡ Some acl → IsAcl acl
acl_made (Some create) (Some read) (Some update) (Some delete) (Some grant) acl c r u d g is =
    let made : Acl = record { create = create; read = read; update = update; delete = delete; grant = grant } in
    subst IsAcl (same_Some made acl is) (c create refl, r read refl, u update refl, d delete refl, g grant refl)
acl_made (Some create) (Some read) (Some update) (Some delete) None acl c r u d g is = absurd (none-some acl is)
acl_made (Some create) (Some read) (Some update) None grant acl c r u d g is = absurd (none-some acl is)
acl_made (Some create) (Some read) None delete grant acl c r u d g is = absurd (none-some acl is)
acl_made (Some create) None update delete grant acl c r u d g is = absurd (none-some acl is)
acl_made None read update delete grant acl c r u d g is = absurd (none-some acl is)

acl_fields : (found : Option Pairs) (acl : Acl) → option_and_then acl_of_entries found ≡ Some acl → IsAcl acl
acl_fields None acl is = absurd (none-some acl is)
acl_fields (Some ps) acl is =
    acl_made (entry_at Create ps) (entry_at Read ps) (entry_at Update ps) (entry_at Delete ps) (entry_at Grant ps) acl
    (λ entry at. entry_found (pair_at (word_of Create) ps) entry at) (λ entry at. entry_found (pair_at (word_of Read) ps) entry at) (λ entry at. entry_found (pair_at (word_of Update) ps) entry at)
    (λ entry at. entry_found (pair_at (word_of Delete) ps) entry at) (λ entry at. entry_found (pair_at (word_of Grant) ps) entry at) is

-- the entries of an access list that is read rise
pub acl_is : (doc : Doc) (acl : Acl) → acl_in doc ≡ Some acl → IsAcl acl
acl_is doc acl is = acl_fields (fields_of 5 doc) acl is

-- ---- the checksums of a sandbox

passes_each : (p : List ℕ → Bool) (texts : List (List ℕ)) (q : List ℕ) → list_all p texts ≡ true → lists texts q ≡ true → p q ≡ true
passes_each p [] q all listed = absurd (true≢false (sym listed))
passes_each p (first ∷ rest) q all listed =
    let parts = and_parts (p first) (list_all p rest) all in
    elim (bytes_eq q first) as (λ b. bytes_eq q first ≡ b → (b || lists rest q) ≡ true → p q ≡ true) [
      | true ↦ λ same _. ap p ((bytes_decides q first).0 same) ∙ parts.0
      | false ↦ λ _ later. passes_each p rest q parts.1 later
    ] refl listed

each_passes : (p : List ℕ → Bool) (texts : List (List ℕ)) → ((q : List ℕ) → lists texts q ≡ true → p q ≡ true) → list_all p texts ≡ true
each_passes p [] each = refl
each_passes p (first ∷ rest) each =
    (λ i. each first (ap (λ b. b || lists rest first) ((bytes_decides first first).1 refl)) i && list_all p rest)
    ∙ each_passes p rest (λ q listed. each q (or_behind (bytes_eq q first) (lists rest q) listed))
  where
    or_behind : (a b : Bool) → b ≡ true → (a || b) ≡ true
    or_behind true b is = refl
    or_behind false b is = is

-- checksums in order, where each is one
abbrev AreSums : Sums → Type 0
AreSums sums = (list_all is_checksum sums ≡ true) × IsRising sums

sums_among : (texts : List (List ℕ)) (sums : Sums) → checksums_among texts ≡ Some sums → AreSums sums
sums_among texts sums is =
    elim (list_all is_checksum texts) as (λ b. list_all is_checksum texts ≡ b → cond b (Some (in_order texts)) None ≡ Some sums → AreSums sums) [
      | true ↦ λ all some.
          subst AreSums (same_Some (in_order texts) sums some)
          (each_passes is_checksum (in_order texts) (λ q listed. passes_each is_checksum texts q all (sym (lists-in_order texts q) ∙ listed)), rises texts)
      | false ↦ λ _ none. absurd (none-some sums none)
    ] refl is

sums_found : (found : Option (List (List ℕ))) (sums : Sums) → option_and_then checksums_among found ≡ Some sums → AreSums sums
sums_found None sums is = absurd (none-some sums is)
sums_found (Some texts) sums is = sums_among texts sums is

-- the checksums of a sandbox that is read are such
pub sums_are : (doc : Doc) (sums : Sums) → sums_in doc ≡ Some sums → (list_all is_checksum sums ≡ true) × IsRising sums
sums_are doc sums is = sums_found (reading.texts_at (codes "checksums") doc) sums is
