-- An image is read pair by pair, in the order of its paths.
use Rattle.std.proofs.Common.{◌≡◌, ◌⊎◌, inl, inr, ℕ, zero, suc, ◌+◌, ◌<◌, Bool, true, false, cond, ◌&&◌, ◌||◌, ◌==◌, IsTrue, List, [], ◌∷◌, ◌++◌, length, map, take, drop, slice_get, get_or, IfOk, Option, Some, None, is_some, Result, Ok, Err, Less, nat_cmp, bytes_eq, refl, sym, ap, subst, ◌∙◌, arith}
use Rattle.std.proofs.lemmas.Bool.{and_parts, and_from, cases_Bool, or_cases, or_left, or_right, eqb-true, eq-eqb, true≢false}
use Rattle.std.proofs.lemmas.Cmp.{nat_list_cmp_total}
use Rattle.std.proofs.lemmas.List.{take-append-drop}
use Rattle.std.proofs.lemmas.List.Folds.{list_any-append}
use Rattle.std.proofs.lemmas.Option.{same_Some}
use Rattle.std.specs.Cmp.Lexicographic.{slice_cmp, bytes_decides}
use Rattle.std.specs.FinMap as finite
use Rattle.std.specs.FinMap.{get-from_entries, from_entries_push, find, slice_cmp-IsAntisymmetric, nat_cmp-IsAntisymmetric}
use Rattle.std.specs.List.{AllByRecursion, list_any}
use Rattle.std.specs.List.Sorted.{IsStrictlySortedBy}
use Rattle.std.specs.Map.{keys_of}
use Rattle.std.specs.Ordering.{is_eq, eq_by_cmp, ordering_reverse}
use Rattle.doc_tree.specs.Doc.{Doc, dict, pairs_of}
use Rattle.doc_tree.specs.Tree.{pair_of}
use Rattle.doc_tree.specs.Valid.{InOrder}
use Rattle.doc_tree.specs.declared.tree.Field.{Field}
use Rattle.host_tree.specs.Acts.{IsReached}
use Rattle.host_tree.specs.Documents.{doc_pair, image_of, entry_in, is_slash, parent_of, is_directory, has_parent, kept_entry, entries_in, host_of, form_in, first_bad, host_or, pairs_host}
use Rattle.host_tree.specs.Entries.{Entries, at, IsDirectory, IsHost}
use Rattle.host_tree.specs.Image.{CanPut}
use Rattle.host_tree.specs.Outcomes.{Reads}
use Rattle.host_tree.specs.Paths.{is_normal, is_rooted, EndsPrefix, goes_on, is_above}
use Rattle.host_tree.specs.declared.entry.Entry.{Entry}
use Rattle.host_tree.specs.declared.image_fault.ImageFault.{ImageFault}
use Rattle.host_tree.specs.declared.entry.Entry.TheVariants.{File, Directory, Link}
use Rattle.host_tree.proofs.BelowLemmas.{goes_on-less}
use Rattle.host_tree.proofs.KeptLemmas.{entries-sorted}
use Rattle.host_tree.proofs.PathLemmas.{above-goes_on, above-some}
use Rattle.host_tree.proofs.SpellingLemmas.{entry_doc-in}

-- ---- the parent of a path

one_byte : (s : Bool) → ◌≡◌ {A = List ℕ} [] (cond s [] [])
one_byte true = refl
one_byte false = refl

one_more : (any s : Bool) (y : ℕ) (xs before whole : List ℕ) → whole ≡ cond s xs before → cond (any || (s || false)) (y ∷ whole) [] ≡ cond s (y ∷ xs) (cond any (y ∷ before) [])
one_more true true y xs before whole is = ap (λ (rest : List ℕ). y ∷ rest) is
one_more true false y xs before whole is = ap (λ (rest : List ℕ). y ∷ rest) is
one_more false true y xs before whole is = ap (λ (rest : List ℕ). y ∷ rest) is
one_more false false y xs before whole is = refl

-- one more byte behind a path
pub parent_of-more : (xs : List ℕ) (x : ℕ) → parent_of (xs ++ x ∷ []) ≡ cond (is_slash x) xs (parent_of xs)
parent_of-more [] x = one_byte (is_slash x)
parent_of-more (y ∷ xs) x =
    ap (λ (any : Bool). cond any (y ∷ parent_of (xs ++ x ∷ [])) []) (list_any-append is_slash xs (x ∷ []))
    ∙ one_more (list_any is_slash xs) (is_slash x) y xs (parent_of xs) (parent_of (xs ++ x ∷ [])) (parent_of-more xs x)

slash_there : (end : ℕ) (path : List ℕ) → slice_get path end ≡ Some 47 → (end ≡ 0) ⊎ EndsPrefix path end
slash_there zero path is = inl refl
slash_there (suc end) path is = inr (omega arith, is)

later-at : (s : Bool) (path : List ℕ) (end last x result : ℕ) → is_slash x ≡ s → slice_get path end ≡ Some x → result ≡ cond s end last → take last path ≡ parent_of (take end path) → (last ≡ 0) ⊎ EndsPrefix path last
    → (take result path ≡ cond s (take end path) (parent_of (take end path))) × ((result ≡ 0) ⊎ EndsPrefix path result)
later-at true path end last x result slash is now parent ends =
    (ap (λ (n : ℕ). take n path) now, subst (λ (n : ℕ). (n ≡ 0) ⊎ EndsPrefix path n) (sym now) (slash_there end path (is ∙ ap Some (eqb-true x 47 slash))))
later-at false path end last x result slash is now parent ends = (ap (λ (n : ℕ). take n path) now ∙ parent, subst (λ (n : ℕ). (n ≡ 0) ⊎ EndsPrefix path n) (sym now) ends)

byte_more : (xs : List ℕ) (i x : ℕ) → slice_get xs i ≡ Some x → take (suc i) xs ≡ take i xs ++ x ∷ []
byte_more [] i x is = cc
byte_more (y ∷ xs) zero x is = ap (λ (z : ℕ). z ∷ []) (same_Some y x is)
byte_more (y ∷ xs) (suc i) x is = ap (λ (rest : List ℕ). y ∷ rest) (byte_more xs i x is)

-- one byte more
pub last-more : (path : List ℕ) (end last x result : ℕ) → slice_get path end ≡ Some x → result ≡ cond (is_slash x) end last → take last path ≡ parent_of (take end path) → (last ≡ 0) ⊎ EndsPrefix path last
    → (take result path ≡ parent_of (take (end + 1) path)) × ((result ≡ 0) ⊎ EndsPrefix path result)
last-more path end last x result is now parent ends =
    let step = later-at (is_slash x) path end last x result refl is now parent ends in
    let next : end + 1 ≡ suc end = omega arith in
    (step.0 ∙ sym (ap (λ (n : ℕ). parent_of (take n path)) next ∙ ap parent_of (byte_more path end x is) ∙ parent_of-more (take end path) x), step.1)

-- a path goes on from its parent
parent_at : (any : Bool) (b : ℕ) (behind : List ℕ) → list_any is_slash behind ≡ any → (b == 47 || any) ≡ true → (any ≡ true → goes_on (parent_of behind) behind ≡ true) → goes_on (cond any (b ∷ parent_of behind) []) (b ∷ behind) ≡ true
parent_at true b behind any slash rest = and_from (b == b) (goes_on (parent_of behind) behind) (eq-eqb b b refl) (rest refl)
parent_at false b behind any slash rest = first (or_cases (b == 47) false slash)
  where
    first : (b == 47 ≡ true) ⊎ (false ≡ true) → (b == 47) ≡ true
    first (inl is) = is
    first (inr never) = absurd (true≢false (sym never))

parent-goes_on : (path : List ℕ) → list_any is_slash path ≡ true → goes_on (parent_of path) path ≡ true
parent-goes_on [] slash = absurd (true≢false (sym slash))
parent-goes_on (b ∷ behind) slash = parent_at (list_any is_slash behind) b behind refl slash (parent-goes_on behind)

-- from what a path goes on its parent goes on too, or it is the parent
goes_on-slash : (path other : List ℕ) → goes_on path other ≡ true → list_any is_slash other ≡ true
goes_on-slash [] [] is = absurd (true≢false (sym is))
goes_on-slash [] (c ∷ cs) is = or_left (c == 47) (list_any is_slash cs) is
goes_on-slash (b ∷ bs) [] is = absurd (true≢false (sym is))
goes_on-slash (b ∷ bs) (c ∷ cs) is = or_right (c == 47) (list_any is_slash cs) (goes_on-slash bs cs (and_parts (b == c) (goes_on bs cs) is).1)

root_or : (any : Bool) (c : ℕ) (rest : List ℕ) → (c == 47) ≡ true → ([] ≡ cond any (c ∷ rest) []) ⊎ (goes_on [] (cond any (c ∷ rest) []) ≡ true)
root_or true c rest is = inr is
root_or false c rest is = inl refl

further : (any : Bool) (b c : ℕ) (bs rest : List ℕ) → any ≡ true → (b == c) ≡ true → (bs ≡ rest) ⊎ (goes_on bs rest ≡ true) → (b ∷ bs ≡ cond any (c ∷ rest) []) ⊎ (goes_on (b ∷ bs) (cond any (c ∷ rest) []) ≡ true)
further false b c bs rest any same is = absurd (true≢false (sym any))
further true b c bs rest any same (inl is) = inl (ap (λ (x : ℕ). x ∷ bs) (eqb-true b c same) ∙ ap (λ (xs : List ℕ). c ∷ xs) is)
further true b c bs rest any same (inr is) = inr (and_from (b == c) (goes_on bs rest) same is)

pub goes_on-parent : (above path : List ℕ) → goes_on above path ≡ true → (above ≡ parent_of path) ⊎ (goes_on above (parent_of path) ≡ true)
goes_on-parent [] [] is = absurd (true≢false (sym is))
goes_on-parent [] (c ∷ cs) is = root_or (list_any is_slash cs) c (parent_of cs) is
goes_on-parent (b ∷ bs) [] is = absurd (true≢false (sym is))
goes_on-parent (b ∷ bs) (c ∷ cs) is =
    let parts = and_parts (b == c) (goes_on bs cs) is in
    further (list_any is_slash cs) b c bs (parent_of cs) (goes_on-slash bs cs parts.1) parts.0 (goes_on-parent bs cs parts.1)

-- a normal path begins with a slash
normal-slash : (path : List ℕ) → IsTrue (is_normal path) → list_any is_slash path ≡ true
normal-slash [] normal = absurd (true≢false (sym normal))
normal-slash (b ∷ behind) normal =
    let rooted = (and_parts _ (is_rooted (b ∷ behind)) normal).1 in
    or_left (b == 47) (list_any is_slash behind) (and_parts (b == 47) _ rooted).0

parent-less : (path : List ℕ) → IsTrue (is_normal path) → slice_cmp nat_cmp (parent_of path) path ≡ Less
parent-less path normal = goes_on-less (parent_of path) path (parent-goes_on path (normal-slash path normal))

-- ---- what stands before a pair

all_above : (q k : List ℕ) (ks : List (List ℕ)) → slice_cmp nat_cmp q k ≡ Less → AllByRecursion (λ y. slice_cmp nat_cmp k y ≡ Less) ks → AllByRecursion (λ y. slice_cmp nat_cmp q y ≡ Less) ks
all_above q k [] less all = tt
all_above q k (y ∷ ks) less all = (nat_list_cmp_total.trans q k y less all.0, all_above q k ks less all.1)

-- of what comes from a pair on each key is above what that pair's key is above
from_pair : (q : List ℕ) (all : List (List ℕ × Doc)) (i : ℕ) (p : List ℕ × Doc) → InOrder (keys_of all) → slice_get all i ≡ Some p → slice_cmp nat_cmp q p.0 ≡ Less
    → AllByRecursion (λ y. slice_cmp nat_cmp q y ≡ Less) (keys_of (drop i all))
unfolding IsStrictlySortedBy
from_pair q [] i p sorted is less = cc
from_pair q (x ∷ all) zero p sorted is less =
    let first : slice_cmp nat_cmp q x.0 ≡ Less = subst (λ (y : List ℕ × Doc). slice_cmp nat_cmp q y.0 ≡ Less) (sym (same_Some x p is)) less in
    (first, all_above q x.0 (keys_of all) first sorted.0)
from_pair q (x ∷ all) (suc i) p sorted is less = from_pair q all i p sorted.1 is less

not_tied : (q k : List ℕ) → slice_cmp nat_cmp q k ≡ Less → eq_by_cmp (slice_cmp nat_cmp) q k ≡ false
not_tied q k less = ap is_eq less

find-kept : (q k : List ℕ) (found : Option Entry) (rest : List (List ℕ × Entry)) → eq_by_cmp (slice_cmp nat_cmp) q k ≡ false → find (slice_cmp nat_cmp) q (kept_entry k found rest) ≡ find (slice_cmp nat_cmp) q rest
find-kept q k None rest apart = refl
find-kept q k (Some e) rest apart = ap (λ (b : Bool). cond b (Some e) (find (slice_cmp nat_cmp) q rest)) apart

find-above : (q : List ℕ) (ps : List (List ℕ × Doc)) → AllByRecursion (λ y. slice_cmp nat_cmp q y ≡ Less) (keys_of ps) → find (slice_cmp nat_cmp) q (entries_in ps) ≡ None
find-above q [] all = refl
find-above q (p ∷ ps) all = find-kept q p.0 (entry_in p.1) (entries_in ps) (not_tied q p.0 all.0) ∙ find-above q ps all.1

kept-append : (k : List ℕ) (found : Option Entry) (xs ys whole : List (List ℕ × Entry)) → whole ≡ xs ++ ys → kept_entry k found whole ≡ kept_entry k found xs ++ ys
kept-append k None xs ys whole is = is
kept-append k (Some e) xs ys whole is = ap (λ (rest : List (List ℕ × Entry)). (k, e) ∷ rest) is

entries_in-append : (xs ys : List (List ℕ × Doc)) → entries_in (xs ++ ys) ≡ entries_in xs ++ entries_in ys
entries_in-append [] ys = refl
entries_in-append (x ∷ xs) ys = kept-append x.0 (entry_in x.1) (entries_in xs) (entries_in ys) (entries_in (xs ++ ys)) (entries_in-append xs ys)

find-front : (q : List ℕ) (xs ys : List (List ℕ × Entry)) → find (slice_cmp nat_cmp) q ys ≡ None → find (slice_cmp nat_cmp) q (xs ++ ys) ≡ find (slice_cmp nat_cmp) q xs
find-front q [] ys none = none
find-front q (x ∷ xs) ys none = ap (cond (eq_by_cmp (slice_cmp nat_cmp) q x.0) (Some x.1)) (find-front q xs ys none)

-- a path that stands before a pair's has in the host of the whole image what it has in that of the pairs before
at-before : (q : List ℕ) (all : List (List ℕ × Doc)) (i : ℕ) (p : List ℕ × Doc) → InOrder (keys_of all) → slice_get all i ≡ Some p → slice_cmp nat_cmp q p.0 ≡ Less → at (host_of all) q ≡ at (host_of (take i all)) q
at-before q all i p sorted is less =
    let parts : entries_in all ≡ entries_in (take i all) ++ entries_in (drop i all) = ap entries_in (sym (take-append-drop i all)) ∙ entries_in-append (take i all) (drop i all) in
    get-from_entries nat_list_cmp_total (entries_in all) q
    ∙ ap (find (slice_cmp nat_cmp) q) parts
    ∙ find-front q (entries_in (take i all)) (entries_in (drop i all)) (find-above q (drop i all) (from_pair q all i p sorted is less))
    ∙ sym (get-from_entries nat_list_cmp_total (entries_in (take i all)) q)

all-at : (P : List ℕ → Type 0) (ps : List (List ℕ × Doc)) (i : ℕ) (p : List ℕ × Doc) → AllByRecursion P (keys_of ps) → slice_get ps i ≡ Some p → P p.0
all-at P [] i p all is = cc
all-at P (x ∷ ps) zero p all is = subst (λ (y : List ℕ × Doc). P y.0) (same_Some x p is) all.0
all-at P (x ∷ ps) (suc i) p all is = all-at P ps i p all.1 is

-- before a pair its path doesn't stand
find-fresh : (all : List (List ℕ × Doc)) (i : ℕ) (p : List ℕ × Doc) → InOrder (keys_of all) → slice_get all i ≡ Some p → find (slice_cmp nat_cmp) p.0 (entries_in (take i all)) ≡ None
unfolding IsStrictlySortedBy
find-fresh [] i p sorted is = cc
find-fresh (x ∷ all) zero p sorted is = refl
find-fresh (x ∷ all) (suc i) p sorted is =
    let less : slice_cmp nat_cmp x.0 p.0 ≡ Less = all-at (λ (y : List ℕ). slice_cmp nat_cmp x.0 y ≡ Less) all i p sorted.0 is in
    find-kept p.0 x.0 (entry_in x.1) (entries_in (take i all)) (ap is_eq (nat_list_cmp_total.antisymm p.0 x.0 ∙ ap ordering_reverse less)) ∙ find-fresh all i p sorted.1 is

at-fresh : (all : List (List ℕ × Doc)) (i : ℕ) (p : List ℕ × Doc) → InOrder (keys_of all) → slice_get all i ≡ Some p → at (host_of (take i all)) p.0 ≡ None
at-fresh all i p sorted is = get-from_entries nat_list_cmp_total (entries_in (take i all)) p.0 ∙ find-fresh all i p sorted is

-- ---- one step

form-same_at : (normal : Bool) (p : List ℕ × Doc) (one other : Entries) → is_normal p.0 ≡ normal → (IsTrue (is_normal p.0) → at one (parent_of p.0) ≡ at other (parent_of p.0))
    → cond (normal && has_parent one p.0) (entry_in p.1) None ≡ cond (normal && has_parent other p.0) (entry_in p.1) None
form-same_at true p one other is same = ap (λ (found : Option Entry). cond (bytes_eq (parent_of p.0) [] || is_directory found) (entry_in p.1) None) (same is)
form-same_at false p one other is same = refl

-- a pair has its form among all pairs where it has it among those before it
pub form-before : (all : List (List ℕ × Doc)) (i : ℕ) (p : List ℕ × Doc) → InOrder (keys_of all) → slice_get all i ≡ Some p → form_in (host_of all) p ≡ form_in (host_of (take i all)) p
form-before all i p sorted is = form-same_at (is_normal p.0) p (host_of all) (host_of (take i all)) refl (λ normal. at-before (parent_of p.0) all i p sorted is (parent-less p.0 normal))

drop_at : (all : List (List ℕ × Doc)) (i : ℕ) (p : List ℕ × Doc) → slice_get all i ≡ Some p → drop i all ≡ p ∷ drop (suc i) all
drop_at [] i p is = cc
drop_at (x ∷ all) zero p is = ap (λ (y : List ℕ × Doc). y ∷ all) (same_Some x p is)
drop_at (x ∷ all) (suc i) p is = drop_at all i p is

take_at : (all : List (List ℕ × Doc)) (i : ℕ) (p : List ℕ × Doc) → slice_get all i ≡ Some p → take (suc i) all ≡ take i all ++ p ∷ []
take_at [] i p is = cc
take_at (x ∷ all) zero p is = ap (λ (y : List ℕ × Doc). y ∷ []) (same_Some x p is)
take_at (x ∷ all) (suc i) p is = ap (λ (rest : List (List ℕ × Doc)). x ∷ rest) (take_at all i p is)

form_entry_at : (b : Bool) (found : Option Entry) (e : Entry) → cond b found None ≡ Some e → (b ≡ true) × (found ≡ Some e)
form_entry_at true found e is = (refl, is)
form_entry_at false found e is = cc

one_on : (i : ℕ) → suc i ≡ i + 1
one_on i = omega arith

-- what the form of a pair has
record Form (host : Entries) (p : List ℕ × Doc) (e : Entry) : Type 0 where
  normal : IsTrue (is_normal p.0)
  parent : has_parent host p.0 ≡ true
  spelt : entry_in p.1 ≡ Some e

formed : (host : Entries) (p : List ℕ × Doc) (e : Entry) → form_in host p ≡ Some e → Form host p e
formed host p e is =
    let parts = form_entry_at (is_normal p.0 && has_parent host p.0) (entry_in p.1) e is in
    let both = and_parts (is_normal p.0) (has_parent host p.0) parts.0 in
    record { normal = both.0; parent = both.1; spelt = parts.1 }

pub form-normal : (host : Entries) (p : List ℕ × Doc) (e : Entry) → form_in host p ≡ Some e → IsTrue (is_normal p.0)
form-normal host p e is = (formed host p e is).normal

directory_there : (found : Option Entry) → is_directory found ≡ true → IsDirectory found
directory_there None is = absurd (true≢false (sym is))
directory_there (Some (File content mode)) is = absurd (true≢false (sym is))
directory_there (Some (Directory mode)) is = tt
directory_there (Some (Link to)) is = absurd (true≢false (sym is))

some_there : (found : Option Entry) → IsDirectory found → (e : Entry) × (found ≡ Some e)
some_there None is = absurd is
some_there (Some e) is = (e, refl)

none_goes_on : (above : List ℕ) → goes_on above [] ≡ true → ⊥
none_goes_on [] is = true≢false (sym is)
none_goes_on (b ∷ bs) is = true≢false (sym is)

reached_from : (above path : List ℕ) (host : Entries) → IsHost host → is_above above path ≡ true
    → (above ≡ parent_of path) ⊎ (goes_on above (parent_of path) ≡ true) → (bytes_eq (parent_of path) [] ≡ true) ⊎ (is_directory (at host (parent_of path)) ≡ true) → IsDirectory (at host above)
reached_from above path host whole over (inl same) (inl root) =
    absurd (true≢false (sym over ∙ ap (λ (p : List ℕ). is_above p path) (same ∙ (bytes_decides (parent_of path) []).0 root)))
reached_from above path host whole over (inr on) (inl root) = absurd (none_goes_on above (subst (λ (p : List ℕ). goes_on above p ≡ true) ((bytes_decides (parent_of path) []).0 root) on))
reached_from above path host whole over (inl same) (inr there) = subst (λ (p : List ℕ). IsDirectory (at host p)) (sym same) (directory_there (at host (parent_of path)) there)
reached_from above path host whole over (inr on) (inr there) =
    let found = some_there (at host (parent_of path)) (directory_there (at host (parent_of path)) there) in
    (whole (parent_of path) found.0 found.1).1 above (above-goes_on above (parent_of path) (above-some above path over) ∙ on)

-- a normal path is reached exactly where its parent is the root or a directory
there_directory : (found : Option Entry) → IsDirectory found → is_directory found ≡ true
there_directory None is = absurd is
there_directory (Some (File content mode)) is = absurd is
there_directory (Some (Directory mode)) is = refl
there_directory (Some (Link to)) is = absurd is

some_parent : (parent path : List ℕ) → bytes_eq parent [] ≡ false → goes_on parent path ≡ true → is_above parent path ≡ true
some_parent [] path apart on = absurd (true≢false (sym ((bytes_decides [] []).1 refl) ∙ apart))
some_parent (b ∷ bs) path apart on = on

pub parent-reached : (path : List ℕ) (host : Entries) → IsHost host → IsTrue (is_normal path) → (has_parent host path ≡ true → IsReached host path) × (IsReached host path → has_parent host path ≡ true)
parent-reached path host whole normal = (
  (λ there above over.
      reached_from above path host whole over (goes_on-parent above path (sym (above-goes_on above path (above-some above path over)) ∙ over))
      (or_cases (bytes_eq (parent_of path) []) (is_directory (at host (parent_of path))) there)),
  (λ reached. parent (cases_Bool (bytes_eq (parent_of path) [])) reached),
)
  where
    parent : (bytes_eq (parent_of path) [] ≡ true) ⊎ (bytes_eq (parent_of path) [] ≡ false) → IsReached host path → has_parent host path ≡ true
    parent (inl root) reached = or_left (bytes_eq (parent_of path) []) (is_directory (at host (parent_of path))) root
    parent (inr apart) reached =
        or_right (bytes_eq (parent_of path) []) (is_directory (at host (parent_of path)))
        (there_directory (at host (parent_of path)) (reached (parent_of path) (some_parent (parent_of path) path apart (parent-goes_on path (normal-slash path normal)))))

-- a pair that has its form can be put
pub form-fits : (all : List (List ℕ × Doc)) (i : ℕ) (p : List ℕ × Doc) (e : Entry) → InOrder (keys_of all) → slice_get all i ≡ Some p → IsHost (host_of (take i all)) → form_in (host_of (take i all)) p ≡ Some e
    → CanPut (host_of (take i all)) p.0 e
form-fits all i p e sorted is whole form =
    let has = formed (host_of (take i all)) p e form in (
      λ above over.
          reached_from above p.0 (host_of (take i all)) whole over (goes_on-parent above p.0 (sym (above-goes_on above p.0 (above-some above p.0 over)) ∙ over))
          (or_cases (bytes_eq (parent_of p.0) []) (is_directory (at (host_of (take i all)) (parent_of p.0))) has.parent),
      λ was. absurd (subst IsDirectory (at-fresh all i p sorted is) was),
    )

-- the host of one pair more
pub host_of-more : (all : List (List ℕ × Doc)) (i : ℕ) (p : List ℕ × Doc) (e : Entry) → InOrder (keys_of all) → slice_get all i ≡ Some p → form_in (host_of (take i all)) p ≡ Some e
    → finite.insert (host_of (take i all)) p.0 e ≡ host_of (take (i + 1) all)
host_of-more all i p e sorted is form =
    let has = formed (host_of (take i all)) p e form in
    sym (from_entries_push nat_list_cmp_total (slice_cmp-IsAntisymmetric nat_cmp-IsAntisymmetric) (entries_in (take i all)) p.0 e (find-fresh all i p sorted is))
    ∙ ap (λ (found : Option Entry). finite.from_entries (entries_in (take i all) ++ kept_entry p.0 found [])) (sym has.spelt)
    ∙ ap finite.from_entries (sym (entries_in-append (take i all) (p ∷ [])))
    ∙ ap host_of (sym (take_at all i p is)) ∙ ap (λ (n : ℕ). host_of (take n all)) (one_on i)

-- whether the first bad pair is this one or a later one
pub bad-here : (all : List (List ℕ × Doc)) (i : ℕ) (p : List ℕ × Doc) → InOrder (keys_of all) → slice_get all i ≡ Some p → form_in (host_of (take i all)) p ≡ None
    → first_bad (host_of all) (drop i all) ≡ Some p.0
bad-here all i p sorted is none =
    ap (first_bad (host_of all)) (drop_at all i p is)
    ∙ ap (λ (found : Option Entry). cond (is_some found) (first_bad (host_of all) (drop (suc i) all)) (Some p.0)) (form-before all i p sorted is ∙ none)

pub bad-later : (all : List (List ℕ × Doc)) (i : ℕ) (p : List ℕ × Doc) (e : Entry) → InOrder (keys_of all) → slice_get all i ≡ Some p → form_in (host_of (take i all)) p ≡ Some e
    → first_bad (host_of all) (drop i all) ≡ first_bad (host_of all) (drop (i + 1) all)
bad-later all i p e sorted is form =
    ap (first_bad (host_of all)) (drop_at all i p is)
    ∙ ap (λ (found : Option Entry). cond (is_some found) (first_bad (host_of all) (drop (suc i) all)) (Some p.0)) (form-before all i p sorted is ∙ form)
    ∙ ap (λ (n : ℕ). first_bad (host_of all) (drop n all)) (one_on i)

-- ---- the image of a host that was read

good_at : (found : Option Entry) (p : List ℕ × Doc) (host : Entries) (rest : Option (List ℕ)) → form_in host p ≡ found → cond (is_some found) rest (Some p.0) ≡ None → ((e : Entry) × (form_in host p ≡ Some e)) × (rest ≡ None)
good_at None p host rest is good = cc
good_at (Some e) p host rest is good = ((e, is), good)

pub docs-back : (host : Entries) (ps : List (List ℕ × Doc)) → first_bad host ps ≡ None → map doc_pair (entries_in ps) ≡ ps
docs-back host [] good = refl
docs-back host (p ∷ ps) good =
    let here = good_at (form_in host p) p host (first_bad host ps) refl good in
    let has = formed host p here.0.0 here.0.1 in
    ap (λ (found : Option Entry). map doc_pair (kept_entry p.0 found (entries_in ps))) has.spelt
    ∙ ap (λ (d : Doc). (p.0, d) ∷ map doc_pair (entries_in ps)) (entry_doc-in p.1 here.0.0 has.spelt)
    ∙ ap (λ (rest : List (List ℕ × Doc)). p ∷ rest) (docs-back host ps here.1)

keys_of-docs : (es : List (List ℕ × Entry)) → keys_of (map doc_pair es) ≡ keys_of es
keys_of-docs [] = refl
keys_of-docs (e ∷ es) = ap (λ (ks : List (List ℕ)). e.0 ∷ ks) (keys_of-docs es)

pub image-back : (ps : List (List ℕ × Doc)) → InOrder (keys_of ps) → first_bad (host_of ps) ps ≡ None → image_of (host_of ps) ≡ dict (pairs_of ps)
image-back ps sorted good =
    let docs = docs-back (host_of ps) ps good in
    let rising : InOrder (keys_of (entries_in ps)) = subst InOrder (ap keys_of (sym docs) ∙ keys_of-docs (entries_in ps)) sorted in
    ap (λ (es : List (List ℕ × Entry)). dict (pairs_of (map doc_pair es))) (entries-sorted (entries_in ps) rising)
    ∙ ap (λ (all : List (List ℕ × Doc)). dict (pairs_of all)) docs

ok_only : (host due : Entries) (bad : Option (List ℕ)) → ◌≡◌ {A = Result Entries (List ℕ)} (host_or due bad) (Ok host) → (bad ≡ None) × (due ≡ host)
ok_only host due None is = (refl, cc)
ok_only host due (Some path) is = cc

pub reads-image : (result : Result Entries ImageFault) (ps : List (List ℕ × Doc)) → InOrder (keys_of ps) → Reads result (pairs_host ps) → IfOk result (λ host. image_of host ≡ dict (pairs_of ps))
reads-image (Ok host) ps sorted reads =
    let parts = ok_only host (host_of ps) (first_bad (host_of ps) ps) reads in
    ap image_of (sym parts.1) ∙ image-back ps sorted parts.0
reads-image (Err fault) ps sorted reads = tt

-- ---- reading

field_at : (fs : List Field) (i : ℕ) (f : Field) → i < length fs → f ≡ get_or fs i f → slice_get (map pair_of fs) i ≡ Some (pair_of f)
field_at [] i f within is = absurd (omega (arith, within))
field_at (g ∷ fs) zero f within is = ap (λ (h : Field). Some (pair_of h)) (sym is)
field_at (g ∷ fs) (suc i) f within is = field_at fs i f (omega (arith, within)) is

-- the pair of a field
pub pair-at : (fs : List Field) (all : List (List ℕ × Doc)) (i : ℕ) (f : Field) → map pair_of fs ≡ all → i < length fs → f ≡ get_or fs i f → slice_get all i ≡ Some (pair_of f)
pair-at fs all i f items within is = ap (λ (ps : List (List ℕ × Doc)). slice_get ps i) (sym items) ∙ field_at fs i f within is

-- ---- writing

all-front : (P : List ℕ → Type 0) (xs : List (List ℕ × Entry)) (e : List ℕ × Entry) (rest : List (List ℕ × Entry)) → AllByRecursion P (keys_of (xs ++ e ∷ rest))
    → AllByRecursion P (keys_of (map doc_pair xs) ++ e.0 ∷ [])
all-front P [] e rest all = (all.0, tt)
all-front P (x ∷ xs) e rest all = (all.0, all-front P xs e rest all.1)

pub rising-front : (xs : List (List ℕ × Entry)) (e : List ℕ × Entry) (rest : List (List ℕ × Entry)) → InOrder (keys_of (xs ++ e ∷ rest)) → InOrder (keys_of (map doc_pair xs) ++ e.0 ∷ [])
unfolding IsStrictlySortedBy
rising-front [] e rest sorted = (tt, tt)
rising-front (x ∷ xs) e rest sorted = (all-front (λ (y : List ℕ). slice_cmp nat_cmp x.0 y ≡ Less) xs e rest sorted.0, rising-front xs e rest sorted.1)

pub docs-more : (xs : List (List ℕ × Entry)) (e : List ℕ × Entry) → map doc_pair (xs ++ e ∷ []) ≡ map doc_pair xs ++ doc_pair e ∷ []
docs-more [] e = refl
docs-more (x ∷ xs) e = ap (λ (rest : List (List ℕ × Doc)). doc_pair x ∷ rest) (docs-more xs e)
