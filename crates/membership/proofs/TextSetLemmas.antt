-- Lists of texts that are put in order.
use Rattle.std.proofs.Common.{◌≡◌, ◌||◌, Bool, true, false, cond, ℕ, List, [], ◌∷◌, map, length, bytes_eq, Option, None, Some, is_some, refl, sym, ap, ◌∙◌, arith}
use Rattle.std.specs.Cmp.Lexicographic.{nat_list_cmp_total, texts_ties, bytes_decides}
use Rattle.std.specs.declared.cmp.Ordering.TheVariants.{Less}
use Rattle.std.specs.Ordering.{eq_by_cmp}
use Rattle.std.specs.FinMap as finite
use Rattle.std.specs.FinMap.Entries.{put, by_order}
use Rattle.std.specs.List.{dedup, dedup_from, list_any, AllByRecursion}
use Rattle.std.specs.List.Sorted.{IsSorted, IsPermutation, IsStrictlySortedBy}
use Rattle.std.proofs.lemmas.List.Kept.{IsStrictlySortedBy-dedup}
use Rattle.std.proofs.lemmas.List.Sorted.{list_any-IsPermutation}
use Rattle.doc_tree.specs.Text.{text_cmp}
use Rattle.membership.specs.TextSets.{lists, IsRising, as_keys, in_order}
use Rattle.membership.proofs.SearchLemmas.{text_cmp_ties}

-- texts tie where they are equal
pub tied : (x y : List ℕ) → eq_by_cmp text_cmp x y ≡ bytes_eq x y
tied x y = sym (texts_ties x y)

-- one of these is tied where it is equal
pub any-tied : (q : List ℕ) (ks : List (List ℕ)) → list_any (eq_by_cmp text_cmp q) ks ≡ lists ks q
any-tied q [] = refl
any-tied q (k ∷ ks) = λ i. tied q k i || any-tied q ks i

-- a test that is repeated
or_again : (a b : Bool) → (a || b) ≡ (a || (a || b))
or_again true b = refl
or_again false b = refl

-- repeats don't count
lists-dedup_from : (q k : List ℕ) (ks : List (List ℕ)) → lists (dedup_from bytes_eq k ks) q ≡ (bytes_eq q k || lists ks q)
lists-dedup_from q k [] = refl
lists-dedup_from q k (x ∷ ks) =
    elim (bytes_eq x k) as (λ b. bytes_eq x k ≡ b → lists (cond b (dedup_from bytes_eq k ks) (k ∷ dedup_from bytes_eq x ks)) q ≡ (bytes_eq q k || (bytes_eq q x || lists ks q))) [
      | true ↦ λ is.
          lists-dedup_from q k ks
          ∙ or_again (bytes_eq q k) (lists ks q)
          ∙ ap (λ y. bytes_eq q k || (bytes_eq q y || lists ks q)) (sym ((bytes_decides x k).0 is))
      | false ↦ λ is. ap (λ b. bytes_eq q k || b) (lists-dedup_from q x ks)
    ] refl

lists-dedup : (q : List ℕ) (ks : List (List ℕ)) → lists (dedup bytes_eq ks) q ≡ lists ks q
lists-dedup q [] = refl
lists-dedup q (k ∷ ks) = lists-dedup_from q k ks

-- a list that is sorted and then rid of repeats lists what it did
lists-sorted : (given sorted : List (List ℕ)) → IsPermutation given sorted → (q : List ℕ) → lists (dedup bytes_eq sorted) q ≡ lists given q
lists-sorted given sorted moved q = lists-dedup q sorted ∙ sym (list_any-IsPermutation (bytes_eq q) given sorted moved)

-- and is in order
pub IsRising-sorted : (sorted : List (List ℕ)) → IsSorted text_cmp sorted → IsRising (dedup bytes_eq sorted)
IsRising-sorted sorted is = IsStrictlySortedBy-dedup nat_list_cmp_total texts_ties sorted is

-- a text as a key
abbrev marked : List ℕ → List ℕ × Unit {0}
marked text = (text, tt)

-- a list of no length
no_entries : (es : List (List ℕ × Unit {0})) → length es ≡ 0 → es ≡ []
no_entries [] none = refl
no_entries (e ∷ es) none = absurd (omega (arith, none))

-- a text below the others goes first
put-first : (x : List ℕ) (xs : List (List ℕ)) → AllByRecursion (λ y. text_cmp x y ≡ Less) xs → put text_cmp x tt (map marked xs) ≡ marked x ∷ map marked xs
put-first x [] below = refl
put-first x (y ∷ ys) below =
    ap (λ r. by_order r (marked x ∷ marked y ∷ map marked ys) ((y, tt) ∷ map marked ys) (marked y ∷ put text_cmp x tt (map marked ys))) below.0

-- the entries of texts that rise are these texts
entries-rising : (xs : List (List ℕ)) → IsRising xs → finite.entries (as_keys xs) ≡ map marked xs
unfolding IsStrictlySortedBy
entries-rising [] rising =
    no_entries (finite.entries (as_keys [])) (sym (finite.len-entries (as_keys [])) ∙ finite.len-empty text_cmp (Unit {0}))
entries-rising (x ∷ xs) rising =
    finite.entries-insert nat_list_cmp_total (as_keys xs) x tt
    ∙ ap (put text_cmp x tt) (entries-rising xs rising.1)
    ∙ put-first x xs rising.0

keys-marked : (xs : List (List ℕ)) → map (λ (e : List ℕ × Unit {0}). e.0) (map marked xs) ≡ xs
keys-marked [] = refl
keys-marked (x ∷ xs) = ap (λ rest. x ∷ rest) (keys-marked xs)

-- texts that rise are in order
pub in_order-rising : (xs : List (List ℕ)) → IsRising xs → in_order xs ≡ xs
in_order-rising xs rising = ap (map (λ (e : List ℕ × Unit {0}). e.0)) (entries-rising xs rising) ∙ keys-marked xs

-- something where the test holds
abbrev mark : Bool → Option (Unit {0})
mark b = cond b (Some tt) None

-- a text is a key where it is listed
find-marked : (q : List ℕ) (xs : List (List ℕ)) → finite.find text_cmp q (map marked xs) ≡ cond (lists xs q) (Some tt) None
find-marked q [] = refl
find-marked q (x ∷ xs) =
    ap (λ b. cond b (Some tt) (finite.find text_cmp q (map marked xs))) (tied q x)
    ∙ elim (bytes_eq q x) as (λ b. cond b (Some tt) (finite.find text_cmp q (map marked xs)) ≡ cond (b || lists xs q) (Some tt) None) [
      | true ↦ refl
      | false ↦ find-marked q xs
    ]

get-as_keys : (xs : List (List ℕ)) (q : List ℕ) → finite.get (as_keys xs) q ≡ cond (lists xs q) (Some tt) None
get-as_keys xs q = finite.get-from_entries nat_list_cmp_total (map marked xs) q ∙ find-marked q xs

-- lists of the same texts are the same in order
pub in_order-same : (xs ys : List (List ℕ)) → ((q : List ℕ) → lists xs q ≡ lists ys q) → in_order xs ≡ in_order ys
in_order-same xs ys same =
    ap (λ (m : finite.FinMap text_cmp (Unit {0})). finite.keys m) (finite.same_map nat_list_cmp_total text_cmp_ties (as_keys xs) (as_keys ys) (λ q.
    get-as_keys xs q ∙ ap (λ b. cond b (Some tt) None) (same q) ∙ sym (get-as_keys ys q)))

-- what is sorted and rid of repeats is in order
pub in_order-sorted : (given sorted now : List (List ℕ)) → IsPermutation given sorted → IsSorted text_cmp sorted → now ≡ dedup bytes_eq sorted → now ≡ in_order given
in_order-sorted given sorted now moved is deduped =
    deduped ∙ sym (in_order-rising (dedup bytes_eq sorted) (IsRising-sorted sorted is)) ∙ in_order-same (dedup bytes_eq sorted) given (lists-sorted given sorted moved)

is_some-mark : (b : Bool) → is_some (mark b) ≡ b
is_some-mark true = refl
is_some-mark false = refl

-- in order it lists what it did
pub lists-in_order : (xs : List (List ℕ)) (q : List ℕ) → lists (in_order xs) q ≡ lists xs q
lists-in_order xs q =
    sym (any-tied q (in_order xs))
    ∙ sym (finite.contains_key-keys (as_keys xs) q)
    ∙ ap is_some (get-as_keys xs q)
    ∙ is_some-mark (lists xs q)

-- and is in order already
pub in_order-again : (xs : List (List ℕ)) → in_order (in_order xs) ≡ in_order xs
in_order-again xs = in_order-same (in_order xs) xs (lists-in_order xs)
