-- Pairs that are put in their order, each once.
use Rattle.std.proofs.Common.{◌≡◌, ◌||◌, Bool, true, false, cond, List, [], ◌∷◌, map, length, Option, None, Some, is_some, refl, sym, ap, ◌∙◌, arith}
use Rattle.std.specs.declared.cmp.Ordering.TheVariants.{Less, Equal}
use Rattle.std.specs.Ordering.{is_eq}
use Rattle.std.specs.FinMap as finite
use Rattle.std.specs.FinMap.Entries.{put, by_order}
use Rattle.std.specs.List.{AllByRecursion}
use Rattle.std.specs.List.Sorted.{IsStrictlySortedBy}
use Rattle.search_query.proofs.PairLemmas.{pair_same}
use Rattle.search_query.specs.Pair.{IsRising, Pair, lists, pair_cmp, pair_cmp_total, same_pair}
use Rattle.org_machine.specs.Finding.{as_keys, in_order}

-- pairs that tie are one
pair_ties : (x y : Pair) → pair_cmp x y ≡ Equal → x ≡ y
pair_ties x y is = pair_same x y (ap is_eq is)

-- a pair as a key
abbrev marked : Pair → Pair × Unit {0}
marked p = (p, tt)

-- a list of no length
no_entries : (es : List (Pair × Unit {0})) → length es ≡ 0 → es ≡ []
no_entries [] none = refl
no_entries (e ∷ es) none = absurd (omega (arith, none))

-- a pair below the others goes first
put-first : (x : Pair) (xs : List Pair) → AllByRecursion (λ y. pair_cmp x y ≡ Less) xs → put pair_cmp x tt (map marked xs) ≡ marked x ∷ map marked xs
put-first x [] below = refl
put-first x (y ∷ ys) below =
    ap (λ r. by_order r (marked x ∷ marked y ∷ map marked ys) ((y, tt) ∷ map marked ys) (marked y ∷ put pair_cmp x tt (map marked ys))) below.0

-- the entries of pairs that rise are these pairs
entries-rising : (xs : List Pair) → IsRising xs → finite.entries (as_keys xs) ≡ map marked xs
unfolding IsStrictlySortedBy
entries-rising [] rising = no_entries (finite.entries (as_keys [])) (sym (finite.len-entries (as_keys [])) ∙ finite.len-empty pair_cmp (Unit {0}))
entries-rising (x ∷ xs) rising = finite.entries-insert pair_cmp_total (as_keys xs) x tt ∙ ap (put pair_cmp x tt) (entries-rising xs rising.1) ∙ put-first x xs rising.0

keys-marked : (xs : List Pair) → map (λ (e : Pair × Unit {0}). e.0) (map marked xs) ≡ xs
keys-marked [] = refl
keys-marked (x ∷ xs) = ap (λ rest. x ∷ rest) (keys-marked xs)

-- pairs that rise are in order
in_order-rising : (xs : List Pair) → IsRising xs → in_order xs ≡ xs
in_order-rising xs rising = ap (map (λ (e : Pair × Unit {0}). e.0)) (entries-rising xs rising) ∙ keys-marked xs

-- something where the test holds
abbrev mark : Bool → Option (Unit {0})
mark b = cond b (Some tt) None

-- a pair is a key where it is listed
find-marked : (q : Pair) (xs : List Pair) → finite.find pair_cmp q (map marked xs) ≡ mark (lists xs q)
find-marked q [] = refl
find-marked q (x ∷ xs) =
    elim (same_pair q x) as (λ b. cond b (Some tt) (finite.find pair_cmp q (map marked xs)) ≡ cond (b || lists xs q) (Some tt) None) [
      | true ↦ refl
      | false ↦ find-marked q xs
    ]

get-as_keys : (xs : List Pair) (q : Pair) → finite.get (as_keys xs) q ≡ mark (lists xs q)
get-as_keys xs q = finite.get-from_entries pair_cmp_total (map marked xs) q ∙ find-marked q xs

-- lists of the same pairs are the same in order
in_order-same : (xs ys : List Pair) → ((q : Pair) → lists xs q ≡ lists ys q) → in_order xs ≡ in_order ys
in_order-same xs ys same =
    ap (λ (m : finite.FinMap pair_cmp (Unit {0})). finite.keys m) (finite.same_map pair_cmp_total pair_ties (as_keys xs) (as_keys ys) (λ q. get-as_keys xs q ∙ ap mark (same q) ∙ sym (get-as_keys ys q)))

-- pairs that rise, and are those of a list, are that list in order
pub made_in_order : (made given : List Pair) → IsRising made → ((q : Pair) → lists made q ≡ lists given q) → made ≡ in_order given
made_in_order made given rising same = sym (in_order-rising made rising) ∙ in_order-same made given same

is_some-mark : (b : Bool) → is_some (mark b) ≡ b
is_some-mark true = refl
is_some-mark false = refl

-- in order it lists what it did
pub lists-in_order : (xs : List Pair) (q : Pair) → lists (in_order xs) q ≡ lists xs q
lists-in_order xs q = sym (finite.contains_key-keys (as_keys xs) q) ∙ ap is_some (get-as_keys xs q) ∙ is_some-mark (lists xs q)
