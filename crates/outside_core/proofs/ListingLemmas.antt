-- The files below a folder: each by its name from there, in order and once.
use Rattle.std.proofs.Common.{◌≡◌, ◌≢◌, ◌&&◌, ◌||◌, ℕ, Bool, true, false, cond, not, List, [], ◌∷◌, ◌++◌, Option, Some, None, is_some, IfSome, IfNone, bytes_eq, refl, sym, ap, ◌∙◌}
use Rattle.std.specs.Borrow.{Bor}
use Rattle.std.specs.Cmp.Lexicographic.{nat_list_cmp_total, texts_ties, bytes_decides, slice_cmp}
use Rattle.std.specs.Ordering.{nat_cmp}
use Rattle.std.specs.List.{dedup, dedup_from}
use Rattle.std.specs.List.Sorted.{IsSorted, IsPermutation}
use Rattle.std.specs.Map.{lookup}
use Rattle.std.proofs.lemmas.List.Folds.{list_any-append}
use Rattle.std.proofs.lemmas.List.Kept.{IsStrictlySortedBy-dedup}
use Rattle.std.proofs.lemmas.List.Sorted.{list_any-IsPermutation}
use Rattle.doc_tree.specs.Valid.{InOrder}
use Rattle.outside_core.specs.Disk.{folder_front, is_below, lists, IsListing}
use Rattle.outside_core.specs.Listing.{behind_front, is_named}
use Rattle.outside_core.specs.MemoryDisk.{files_in}
use Rattle.outside_core.proofs.FrontLemmas.{behind_front-whole, behind_front-of, behind-same}

same_bools : (a b : Bool) → (a ≡ true → b ≡ true) → (b ≡ true → a ≡ true) → a ≡ b
same_bools true b f g = sym (f refl)
same_bools false true f g = g refl
same_bools false false f g = refl

-- a name is a file's where it is what stands behind the folder
same_name : (folder name whole rest : List ℕ) → behind_front (folder_front folder) whole ≡ Some rest → bytes_eq (folder_front folder ++ name) whole ≡ bytes_eq name rest
same_name folder name whole rest is =
    let parts = behind_front-whole (folder_front folder) whole rest is in
    same_bools (bytes_eq (folder_front folder ++ name) whole) (bytes_eq name rest)
    (λ same. (bytes_decides name rest).1 (behind-same (folder_front folder) name rest ((bytes_decides (folder_front folder ++ name) whole).0 same ∙ parts)))
    (λ same. (bytes_decides (folder_front folder ++ name) whole).1 (ap (λ t. folder_front folder ++ t) ((bytes_decides name rest).0 same) ∙ sym parts))

and_false : (b : Bool) → (b && false) ≡ false
and_false true = refl
and_false false = refl

-- of texts that are equal both are empty or none
filled : (name rest : List ℕ) → rest ≢ [] → bytes_eq name rest ≡ (not (bytes_eq name []) && bytes_eq name rest)
filled [] [] some = absurd (some refl)
filled [] (x ∷ rest) some = refl
filled (y ∷ name) rest some = refl

unfilled : (name rest : List ℕ) → rest ≡ [] → (not (bytes_eq name []) && bytes_eq name rest) ≡ false
unfilled [] rest none = refl
unfilled (y ∷ name) rest none = ap (bytes_eq (y ∷ name)) none

-- the one name of a file below a folder
named : (folder whole rest : List ℕ) → behind_front (folder_front folder) whole ≡ Some rest → rest ≢ [] → (name : List ℕ) → bytes_eq name rest ≡ is_named folder name whole
named folder whole rest is some = λ name. filled name rest some ∙ ap (λ b. not (bytes_eq name []) && b) (sym (same_name folder name whole rest is))

-- a file that is not below it has none
named-empty : (folder whole rest : List ℕ) → behind_front (folder_front folder) whole ≡ Some rest → rest ≡ [] → (name : List ℕ) → is_named folder name whole ≡ false
named-empty folder whole rest is none = λ name. ap (λ b. not (bytes_eq name []) && b) (same_name folder name whole rest is) ∙ unfilled name rest none

pub named-none : (folder whole : List ℕ) → behind_front (folder_front folder) whole ≡ None → (name : List ℕ) → is_named folder name whole ≡ false
named-none folder whole none = λ name.
    let differs : bytes_eq (folder_front folder ++ name) whole ≡ false =
    same_bools (bytes_eq (folder_front folder ++ name) whole) false
    (λ same. cc (sym none ∙ behind_front-of (folder_front folder) whole name (sym ((bytes_decides (folder_front folder ++ name) whole).0 same))))
    (λ absurdly. cc absurdly) in
    ap (λ b. not (bytes_eq name []) && b) differs ∙ and_false (not (bytes_eq name []))

-- what stands behind the folder is the one name of a file below it, if it is not empty
pub below-some : (folder whole rest : List ℕ) (r : Option (Bor (List ℕ))) → behind_front (folder_front folder) whole ≡ Some rest
    → IfSome r (λ found. (found.now ≡ rest) × (rest ≢ [])) → IfSome r (λ found. (name : List ℕ) → bytes_eq name found.now ≡ is_named folder name whole)
below-some folder whole rest None is filled = tt
below-some folder whole rest (Some found) is filled = λ name. ap (bytes_eq name) filled.0 ∙ named folder whole rest is filled.1 name

pub below-none : (folder whole rest : List ℕ) (r : Option (Bor (List ℕ))) → behind_front (folder_front folder) whole ≡ Some rest
    → IfNone r (rest ≡ []) → IfNone r ((name : List ℕ) → is_named folder name whole ≡ false)
below-none folder whole rest None is empty = named-empty folder whole rest is empty
below-none folder whole rest (Some found) is empty = tt

or_false : (b : Bool) → (b || false) ≡ b
or_false true = refl
or_false false = refl

-- a name more, and none more
pub lists-more : (names : List (List ℕ)) (found name : List ℕ) (is : Bool) → bytes_eq name found ≡ is → lists (names ++ found ∷ []) name ≡ (lists names name || is)
lists-more names found name is same =
    list_any-append (bytes_eq name) names (found ∷ []) ∙ ap (λ b. lists names name || b) (or_false (bytes_eq name found) ∙ same)

pub lists-same : (names : List (List ℕ)) (name : List ℕ) (is : Bool) → is ≡ false → lists names name ≡ (lists names name || is)
lists-same names name is none = sym (ap (λ b. lists names name || b) none ∙ or_false (lists names name))

-- a test that holds or not whatever the key
lookup-and : {X : Type 0} (b : Bool) (test : List ℕ → Bool) (es : List (List ℕ × X)) → is_some (lookup (λ k. b && test k) es) ≡ (b && is_some (lookup test es))
lookup-and true test es = refl
lookup-and false test [] = refl
lookup-and false test (e ∷ es) = lookup-and false test es

-- a file is below a folder where one has that name
below-named : (entries : List (List ℕ × List ℕ)) (folder name : List ℕ) → is_some (lookup (is_named folder name) entries) ≡ is_below (files_in entries) folder name
below-named entries folder name = lookup-and (not (bytes_eq name [])) (bytes_eq (folder_front folder ++ name)) entries

-- a test that is repeated
or_again : (a b : Bool) → (a || b) ≡ (a || (a || b))
or_again true b = refl
or_again false b = refl

-- repeats don't count
lists-dedup_from : (q k : List ℕ) (ks : List (List ℕ)) → lists (dedup_from bytes_eq k ks) q ≡ (bytes_eq q k || lists ks q)
lists-dedup_from q k [] = refl
lists-dedup_from q k (x ∷ ks) =
    elim (bytes_eq x k) as (λ b. bytes_eq x k ≡ b → lists (cond b (dedup_from bytes_eq k ks) (k ∷ dedup_from bytes_eq x ks)) q ≡ (bytes_eq q k || (bytes_eq q x || lists ks q))) [
      | true ↦ λ is.
          lists-dedup_from q k ks
          ∙ or_again (bytes_eq q k) (lists ks q)
          ∙ ap (λ y. bytes_eq q k || (bytes_eq q y || lists ks q)) (sym ((bytes_decides x k).0 is))
      | false ↦ λ is. ap (λ b. bytes_eq q k || b) (lists-dedup_from q x ks)
    ] refl

lists-dedup : (q : List ℕ) (ks : List (List ℕ)) → lists (dedup bytes_eq ks) q ≡ lists ks q
lists-dedup q [] = refl
lists-dedup q (k ∷ ks) = lists-dedup_from q k ks

-- names that are sorted and then rid of repeats are the same names
pub lists-sorted : (given sorted : List (List ℕ)) → IsPermutation given sorted → (q : List ℕ) → lists (dedup bytes_eq sorted) q ≡ lists given q
lists-sorted given sorted moved q = lists-dedup q sorted ∙ sym (list_any-IsPermutation (bytes_eq q) given sorted moved)

-- and are in order
pub InOrder-sorted : (sorted : List (List ℕ)) → IsSorted (slice_cmp nat_cmp) sorted → InOrder (dedup bytes_eq sorted)
InOrder-sorted sorted is = IsStrictlySortedBy-dedup nat_list_cmp_total texts_ties sorted is

-- the names that were found, in order, are a listing
pub listed : (entries : List (List ℕ × List ℕ)) (folder : List ℕ) (found names : List (List ℕ)) → InOrder names → ((name : List ℕ) → lists names name ≡ lists found name)
    → ((name : List ℕ) → lists found name ≡ is_some (lookup (is_named folder name) entries)) → names ≢ [] → IsListing (Some (files_in entries)) folder (Some names)
listed entries folder found names order same all some = (order, some, λ name. same name ∙ all name ∙ below-named entries folder name)

pub unlisted : (entries : List (List ℕ × List ℕ)) (folder : List ℕ) (found names : List (List ℕ)) → ((name : List ℕ) → lists names name ≡ lists found name)
    → ((name : List ℕ) → lists found name ≡ is_some (lookup (is_named folder name) entries)) → names ≡ [] → IsListing (Some (files_in entries)) folder None
unlisted entries folder found names same all none = λ name. sym (below-named entries folder name) ∙ sym (all name) ∙ sym (same name) ∙ ap (λ names. lists names name) none
