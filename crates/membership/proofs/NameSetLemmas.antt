-- The set that is seen, against the names that are kept.
use Rattle.std.proofs.Common.{◌≡◌, ◌||◌, ◌&&◌, ◌<◌, ◌+◌, Bool, true, false, cond, not, ℕ, List, length, take, get_or, bytes_eq, refl, sym, ap, ◌∙◌, Result, Ok, Err, IsOk, OnOk}
use Rattle.std.proofs.lemmas.List.{take_more}
use Rattle.std.specs.Cmp.Lexicographic.{nat_list_cmp_total, nat_list_eq_equiv}
use Rattle.std.specs.FinSet as set
use Rattle.doc_tree.specs.Text.{text_cmp}
use Rattle.membership.specs.TextSets.{lists, Names}
use Rattle.membership.specs.NameSets.{seen}
use Rattle.membership.proofs.SearchLemmas.{text_cmp_ties}
use Rattle.membership.proofs.TextSetLemmas.{tied, any-tied}

-- what holds after a success, where the call succeeds
pub of_ok : {T E P : Type 0} (r : Result T E) → IsOk r → OnOk r P → P
of_ok (Ok x) is p = p
of_ok (Err e) is p = absurd (cc)

-- a name is seen where it is kept
pub contains-seen : (ks : List (List ℕ)) (q : List ℕ) → set.contains (seen ks) q ≡ lists ks q
contains-seen ks q = set.contains-from_list nat_list_cmp_total ks q ∙ any-tied q ks

-- sets with the same names are the same
pub same_names : (s t : Names) → ((q : List ℕ) → set.contains s q ≡ set.contains t q) → s ≡ t
same_names s t same = set.same_set nat_list_cmp_total text_cmp_ties s t same

kept_or : (b c : Bool) → cond b true c ≡ (b || c)
kept_or true c = refl
kept_or false c = refl

gone_or : (b c : Bool) → cond b false c ≡ (not b && c)
gone_or true c = refl
gone_or false c = refl

-- a name that is kept from now on is inserted
pub seen-insert : (old new : List (List ℕ)) (name : List ℕ) → ((q : List ℕ) → lists new q ≡ cond (bytes_eq name q) true (lists old q)) → seen new ≡ set.insert (seen old) name
seen-insert old new name puts =
    same_names (seen new) (set.insert (seen old) name) (λ q.
    contains-seen new q
    ∙ puts q
    ∙ kept_or (bytes_eq name q) (lists old q)
    ∙ (λ i. (nat_list_eq_equiv.symm name q ∙ sym (tied q name)) i || sym (contains-seen old q) i)
    ∙ sym (set.contains-insert nat_list_cmp_total (seen old) name q))

-- a name that is kept no more is removed
pub seen-remove : (old new : List (List ℕ)) (name : List ℕ) → ((q : List ℕ) → lists new q ≡ cond (bytes_eq name q) false (lists old q)) → seen new ≡ set.remove (seen old) name
seen-remove old new name takes =
    same_names (seen new) (set.remove (seen old) name) (λ q.
    contains-seen new q
    ∙ takes q
    ∙ gone_or (bytes_eq name q) (lists old q)
    ∙ (λ i. not ((nat_list_eq_equiv.symm name q ∙ sym (tied q name)) i) && sym (contains-seen old q) i)
    ∙ sym (set.contains-remove nat_list_cmp_total (seen old) name q))

-- one more name of a list
pub seen-more : (names : List (List ℕ)) (i : ℕ) (name copied : List ℕ) (before after : Names) → i < length names → name ≡ get_or names i name → copied ≡ name
    → before ≡ set.from_list (take i names) → after ≡ set.insert before copied → after ≡ set.from_list (take (i + 1) names)
seen-more names i name copied before after within is copy so_far inserted =
    inserted
    ∙ (λ j. set.insert (so_far j) ((copy ∙ is) j))
    ∙ sym (set.from_list_push nat_list_cmp_total text_cmp_ties (take i names) (get_or names i name))
    ∙ ap (λ (ks : List (List ℕ)). set.from_list {R = text_cmp} ks) (sym (take_more names i name within))
