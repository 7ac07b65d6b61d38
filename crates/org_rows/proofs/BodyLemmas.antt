-- The documents of bodies, and what they say back.
use Rattle.std.proofs.Common.{◌≡◌, ℕ, pos, ◌<◌, ◌^◌, Bool, true, false, cond, List, [], ◌∷◌, map, codes, IsUtf8, Option, Some, None, option_map, option_and_then, refl, sym, ap, subst, ◌∙◌, arith}
use Rattle.std.specs.Cmp.Lexicographic.{nat_list_cmp_total}
use Rattle.std.specs.FinMap as finite
use Rattle.std.specs.FinSet as set
use Rattle.std.proofs.lemmas.Int.{ints}
use Rattle.std.specs.List.{list_all}
use Rattle.std.specs.Map.{keys_of}
use Rattle.doc_tree.proofs.Docs.{pairs_list-pairs_of}
use Rattle.doc_tree.proofs.RoundTrip.{text-inj}
use Rattle.doc_tree.specs.Doc.{Doc, whole, words, dict, pairs_of}
use Rattle.doc_tree.specs.Text.{text_cmp}
use Rattle.doc_tree.specs.Valid.{IsDoc, ArePairs, InOrder}
use Rattle.doc_tree.specs.Written.{text}
use Rattle.membership.proofs.TextSetLemmas.{any-tied, in_order-rising, lists-in_order}
use Rattle.membership.proofs.TextTreesLemmas.{texts_back}
use Rattle.membership.specs.Lists.{members_of}
use Rattle.membership.specs.MemberNames.{listed_names}
use Rattle.membership.specs.Members.{Members}
use Rattle.membership.specs.TextSets.{Names, in_order}
use Rattle.membership.specs.TextTrees.{texts_doc, texts_in}
use Rattle.access_lists.proofs.FormsLemmas.{acl_back}
use Rattle.access_lists.specs.Forms.{IsAcl, acl_doc, acl_in, entry_doc}
use Rattle.access_lists.specs.declared.acl.Acl.{Acl}
use Rattle.access_lists.specs.declared.acl.Entry.{Entry}
use Rattle.object_forms.specs.GroupBodies.{actors_doc, group_doc}
use Rattle.org_shelves.specs.Rising.{keys_rise, sorted_rise}
use Rattle.org_shelves.specs.Shelved.{Assigned}
use Rattle.sandboxes.specs.Checksums.{is_checksum}
use Rattle.sandboxes.specs.Sums.{IsRising, Sums}
use Rattle.sandboxes.specs.declared.stored.Stored.{Stored}
use Rattle.shelves.proofs.ShelfLaws.{text_same}
use Rattle.org_rows.specs.Bodies.{one_key, assigned_pair, file_body}
use Rattle.org_rows.specs.Reading.{assigned_in, count_in, members_in, sums_in, checksums_among, texts_by_key}
use Rattle.org_rows.proofs.TextLemmas.{AreTexts, IsDoc-texts, IsUtf8-name, checksums_are}
use Rattle.org_rows.proofs.WordLemmas.{some_same}

-- ---- what is written is told by its text

module _ {X : Type 0} (write : X → Doc) (read : Doc → Option X) (IsGood : X → Type 0) (is_doc : (x : X) → IsGood x → IsDoc (write x)) (back : (x : X) → IsGood x → read (write x) ≡ Some x) where
  pub same_by_reading : (x y : X) → IsGood x → IsGood y → text (write x) ≡ text (write y) → x ≡ y
  same_by_reading x y good other same =
      some_same x y (sym (back x good) ∙ ap read (text-inj (write x) (write y) (is_doc x good) (is_doc y other) same) ∙ back y other)

-- ---- a dict of one key

IsDoc-one : (key : List ℕ) (doc : Doc) → IsUtf8 key → IsDoc doc → IsDoc (one_key key doc)
IsDoc-one key doc utf8 is = ((utf8, is, tt), sorted_rise text_cmp ((key, doc) ∷ []) tt)

-- ---- the count of sandboxes

abbrev pub count_doc : ℕ → Doc
count_doc n = one_key (codes "sandboxes") (whole (pos n))

abbrev pub Fits : ℕ → Type 0
Fits n = n < 2 ^ 64

pub IsDoc-count : (n : ℕ) → Fits n → IsDoc (count_doc n)
IsDoc-count n fits = IsDoc-one (codes "sandboxes") (whole (pos n)) (IsUtf8-name (codes "sandboxes") refl) (omega (arith, ints), omega (arith, ints, fits))

pub count_back : (n : ℕ) → Fits n → count_in (count_doc n) ≡ Some n
count_back n fits = refl

-- ---- a group

from_listed : (names : Names) → set.from_list (listed_names names) ≡ names
from_listed names =
    set.same_set nat_list_cmp_total text_same _ _ (λ q.
    set.contains-from_list nat_list_cmp_total (listed_names names) q
    ∙ any-tied q (listed_names names)
    ∙ lists-in_order (set.items names) q
    ∙ sym (any-tied q (set.items names))
    ∙ sym (set.contains-items names q))

abbrev pub AreMemberTexts : Members → Type 0
AreMemberTexts m = AreTexts (listed_names m.users) × (AreTexts (listed_names m.clients) × AreTexts (listed_names m.groups))

module _ (name : List ℕ) (utf8 : IsUtf8 name) where
  abbrev pub members_doc : Members → Doc
  members_doc m = group_doc (actors_doc (listed_names m.clients) (listed_names m.groups) (listed_names m.users)) name

  IsDoc-actors : (m : Members) → AreMemberTexts m → IsDoc (actors_doc (listed_names m.clients) (listed_names m.groups) (listed_names m.users))
  IsDoc-actors m are = (
    (
      IsUtf8-name (codes "clients") refl,
      IsDoc-texts (listed_names m.clients) are.1.0,
      (
        IsUtf8-name (codes "groups") refl,
        IsDoc-texts (listed_names m.groups) are.1.1,
        (IsUtf8-name (codes "users") refl, IsDoc-texts (listed_names m.users) are.0, tt),
      ),
    ),
    sorted_rise text_cmp ((codes "clients", texts_doc (listed_names m.clients)) ∷ (codes "groups", texts_doc (listed_names m.groups)) ∷ (codes "users", texts_doc (listed_names m.users)) ∷ []) tt,
  )

  pub IsDoc-members : (m : Members) → AreMemberTexts m → IsDoc (members_doc m)
  IsDoc-members m are = (
    (IsUtf8-name (codes "actors") refl, IsDoc-actors m are, (IsUtf8-name (codes "groupname") refl, utf8, tt)),
    sorted_rise text_cmp ((codes "actors", actors_doc (listed_names m.clients) (listed_names m.groups) (listed_names m.users)) ∷ (codes "groupname", words name) ∷ []) tt,
  )

  pub members_back : (m : Members) → AreMemberTexts m → members_in (members_doc m) ≡ Some m
  members_back m are =
      ap (option_and_then (λ clients. option_and_then (λ groups. option_map (λ users. members_of users clients groups) (texts_in (texts_doc (listed_names m.users)))) (texts_in (texts_doc (listed_names m.groups))))) (texts_back (listed_names m.clients))
      ∙ ap (option_and_then (λ groups. option_map (λ users. members_of users (listed_names m.clients) groups) (texts_in (texts_doc (listed_names m.users))))) (texts_back (listed_names m.groups))
      ∙ ap (option_map (λ users. members_of users (listed_names m.clients) (listed_names m.groups))) (texts_back (listed_names m.users))
      ∙ (λ i. Some (record { users = from_listed m.users i; clients = from_listed m.clients i; groups = from_listed m.groups i }))

-- ---- an access list

abbrev pub AreEntryTexts : Entry → Type 0
AreEntryTexts e = AreTexts e.actors × AreTexts e.groups

abbrev pub AreAclTexts : Acl → Type 0
AreAclTexts a = AreEntryTexts a.create × (AreEntryTexts a.read × (AreEntryTexts a.update × (AreEntryTexts a.delete × AreEntryTexts a.grant)))

abbrev pub IsGoodAcl : Acl → Type 0
IsGoodAcl a = IsAcl a × AreAclTexts a

IsDoc-entry : (e : Entry) → AreEntryTexts e → IsDoc (entry_doc e)
IsDoc-entry e are = (
  (IsUtf8-name (codes "actors") refl, IsDoc-texts e.actors are.0, (IsUtf8-name (codes "groups") refl, IsDoc-texts e.groups are.1, tt)),
  sorted_rise text_cmp ((codes "actors", texts_doc e.actors) ∷ (codes "groups", texts_doc e.groups) ∷ []) tt,
)

pub IsDoc-acl : (a : Acl) → IsGoodAcl a → IsDoc (acl_doc a)
IsDoc-acl a good =
    let are = good.1 in (
      (
        IsUtf8-name (codes "create") refl,
        IsDoc-entry a.create are.0,
        (
          IsUtf8-name (codes "delete") refl,
          IsDoc-entry a.delete are.1.1.1.0,
          (
            IsUtf8-name (codes "grant") refl,
            IsDoc-entry a.grant are.1.1.1.1,
            (
              IsUtf8-name (codes "read") refl,
              IsDoc-entry a.read are.1.0,
              (IsUtf8-name (codes "update") refl, IsDoc-entry a.update are.1.1.0, tt),
            ),
          ),
        ),
      ),
      sorted_rise text_cmp ((codes "create", entry_doc a.create) ∷ (codes "delete", entry_doc a.delete) ∷ (codes "grant", entry_doc a.grant) ∷ (codes "read", entry_doc a.read) ∷ (codes "update", entry_doc a.update) ∷ []) tt,
    )

pub acl_reads : (a : Acl) → IsGoodAcl a → acl_in (acl_doc a) ≡ Some a
acl_reads a good = acl_back a good.0

-- ---- a sandbox

abbrev pub sums_doc : Sums → Doc
sums_doc sums = one_key (codes "checksums") (texts_doc sums)

abbrev pub AreGoodSums : Sums → Type 0
AreGoodSums sums = (list_all is_checksum sums ≡ true) × IsRising sums

pub IsDoc-sums : (sums : Sums) → AreGoodSums sums → IsDoc (sums_doc sums)
IsDoc-sums sums good = IsDoc-one (codes "checksums") (texts_doc sums) (IsUtf8-name (codes "checksums") refl) (IsDoc-texts sums (checksums_are sums good.0))

pub sums_back : (sums : Sums) → AreGoodSums sums → sums_in (sums_doc sums) ≡ Some sums
sums_back sums good =
    ap (option_and_then checksums_among) (texts_back sums)
    ∙ ap (λ all. cond all (Some (in_order sums)) None) good.0
    ∙ ap Some (in_order-rising sums good.1)

-- ---- what a policy group assigns

abbrev pub AreEntryNames : List (List ℕ × List ℕ) → Type 0
AreEntryNames [] = Unit {0}
AreEntryNames (e ∷ es) = (IsUtf8 e.0 × IsUtf8 e.1) × AreEntryNames es

abbrev pub AreAssignedTexts : Assigned → Type 0
AreAssignedTexts assigned = AreEntryNames (finite.entries assigned)

abbrev pub assigned_doc : Assigned → Doc
assigned_doc assigned = one_key (codes "policies") (dict (pairs_of (map assigned_pair (finite.entries assigned))))

pairs_are : (es : List (List ℕ × List ℕ)) → AreEntryNames es → ArePairs (pairs_of (map assigned_pair es))
pairs_are [] are = tt
pairs_are (e ∷ es) are = (are.0.0, are.0.1, pairs_are es are.1)

same_keys : (es : List (List ℕ × List ℕ)) → keys_of (map assigned_pair es) ≡ keys_of es
same_keys [] = refl
same_keys (e ∷ es) = ap (λ ks. e.0 ∷ ks) (same_keys es)

IsDoc-policies : (assigned : Assigned) → AreAssignedTexts assigned → IsDoc (dict (pairs_of (map assigned_pair (finite.entries assigned))))
IsDoc-policies assigned are = (
  pairs_are (finite.entries assigned) are,
  subst InOrder (sym (ap keys_of (pairs_list-pairs_of (map assigned_pair (finite.entries assigned))) ∙ same_keys (finite.entries assigned))) (keys_rise text_cmp assigned),
)

pub IsDoc-assigned : (assigned : Assigned) → AreAssignedTexts assigned → IsDoc (assigned_doc assigned)
IsDoc-assigned assigned are =
    IsDoc-one (codes "policies") (dict (pairs_of (map assigned_pair (finite.entries assigned)))) (IsUtf8-name (codes "policies") refl) (IsDoc-policies assigned are)

texts_again : (es : List (List ℕ × List ℕ)) → texts_by_key (pairs_of (map assigned_pair es)) ≡ Some es
texts_again [] = refl
texts_again (e ∷ es) = ap (option_map (λ texts. e ∷ texts)) (texts_again es)

from_own : (assigned : Assigned) → finite.from_entries {R = text_cmp} (finite.entries assigned) ≡ assigned
from_own assigned = finite.same_map nat_list_cmp_total text_same _ _ (λ q. finite.get-from_entries nat_list_cmp_total (finite.entries assigned) q ∙ sym (finite.get-entries assigned q))

pub assigned_back : (assigned : Assigned) → AreAssignedTexts assigned → assigned_in (assigned_doc assigned) ≡ Some assigned
assigned_back assigned are = ap (option_map (λ texts. finite.from_entries {R = text_cmp} texts)) (texts_again (finite.entries assigned)) ∙ ap Some (from_own assigned)

-- ---- a file

committed_same : (a b : Bool) → ◌≡◌ {A = ℕ} (cond a 49 48) (cond b 49 48) → a ≡ b
committed_same true true is = refl
committed_same true false is = absurd (omega (arith, is))
committed_same false true is = absurd (omega (arith, is))
committed_same false false is = refl

-- a file's body says the file and whether it is committed
pub file_body-inj : (x y : Stored) → file_body x ≡ file_body y → x ≡ y
file_body-inj x y is =
    let files : x.file ≡ y.file = cc is in
    let marks = committed_same x.committed y.committed (cc is) in
    λ i. record { file = files i; committed = marks i }
