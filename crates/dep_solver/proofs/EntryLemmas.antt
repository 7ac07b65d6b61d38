-- Finite maps of names, and the lists in byte order that are made of them.
use Rattle.std.proofs.Common.{◌≡◌, ◌&&◌, ◌||◌, Bool, true, false, T, List, [], ◌∷◌, length, map, Contains, Option, Some, None, Less, Equal, Greater, Ordering, is_lt, is_some, cond, ap, refl, sym, subst, ◌∙◌, arith}
use Rattle.std.proofs.lemmas.Map.Views.{Contains-from_any, list_any-from_Contains}
use Rattle.std.specs.Cmp.Lexicographic.{nat_list_cmp_total, nat_list_eq_equiv, texts_ties}
use Rattle.std.specs.FinMap as finite
use Rattle.std.specs.FinMap.Entries.{below_all, by_order, is_sorted, put}
use Rattle.std.specs.List.{AllByRecursion, list_any}
use Rattle.std.specs.List.Sorted.{IsStrictlySortedBy}
use Rattle.std.specs.Ordering.{eq_by_cmp}
use Rattle.doc_tree.specs.Text.{text_cmp}
use Rattle.version_rules.specs.declared.versions.Version.{Version}
use Rattle.dep_solver.specs.declared.roots.Pin.{Pin}
use Rattle.dep_solver.specs.Chosen.{as_keys, in_order, pins_of}
use Rattle.dep_solver.specs.Names.{CookbookName, same_name}
use Rattle.dep_solver.specs.Solutions.{Choice, choice_of}
use Rattle.dep_solver.proofs.ChoiceLemmas.{names_apart}
use Rattle.dep_solver.proofs.WalkLemmas.{name_from_same}

-- ---- entries whose names rise

first : (a b : Bool) → T (a && b) → T a
first true b h = tt
first false b h = h

second : (a b : Bool) → T (a && b) → T b
second true b h = h
second false b h = absurd h

less_from : (o : Ordering) → T (is_lt o) → o ≡ Less
less_from Less h = refl
less_from Equal h = absurd h
less_from Greater h = absurd h

module _ {X : Type 0} where
  no_entries : (es : List (CookbookName × X)) → length es ≡ 0 → es ≡ []
  no_entries [] none = refl
  no_entries (e ∷ es) none = absurd (omega (arith, none))

  -- an entry below the others goes first
  put_first : (k : CookbookName) (v : X) (es : List (CookbookName × X)) → AllByRecursion (λ y. text_cmp k y ≡ Less) (map (λ (e : CookbookName × X). e.0) es) → put text_cmp k v es ≡ (k, v) ∷ es
  put_first k v [] below = refl
  put_first k v (e ∷ es) below = ap (λ o. by_order o ((k, v) ∷ e ∷ es) ((e.0, v) ∷ es) (e ∷ put text_cmp k v es)) below.0

  pub entries_rising : (es : List (CookbookName × X)) → IsStrictlySortedBy text_cmp (map (λ (e : CookbookName × X). e.0) es) → finite.entries (finite.from_entries {R = text_cmp} es) ≡ es
  unfolding IsStrictlySortedBy
  entries_rising [] up = no_entries (finite.entries (finite.empty {X = X} {R = text_cmp})) (sym (finite.len-entries (finite.empty {X = X} {R = text_cmp})) ∙ finite.len-empty text_cmp X)
  entries_rising (e ∷ es) up =
      finite.entries-insert nat_list_cmp_total (finite.from_entries {R = text_cmp} es) e.0 e.1
      ∙ ap (put text_cmp e.0 e.1) (entries_rising es up.1)
      ∙ put_first e.0 e.1 es up.0

  below_each : (k : CookbookName) (es : List (CookbookName × X)) → T (below_all text_cmp k es) → AllByRecursion (λ y. text_cmp k y ≡ Less) (map (λ (e : CookbookName × X). e.0) es)
  below_each k [] h = tt
  below_each k (e ∷ es) h = (less_from (text_cmp k e.0) (first (is_lt (text_cmp k e.0)) (below_all text_cmp k es) h), below_each k es (second (is_lt (text_cmp k e.0)) (below_all text_cmp k es) h))

  rising_from : (es : List (CookbookName × X)) → T (is_sorted text_cmp es) → IsStrictlySortedBy text_cmp (map (λ (e : CookbookName × X). e.0) es)
  unfolding IsStrictlySortedBy
  rising_from [] h = tt
  rising_from (e ∷ es) h = (below_each e.0 es (first (below_all text_cmp e.0 es) (is_sorted text_cmp es) h), rising_from es (second (below_all text_cmp e.0 es) (is_sorted text_cmp es) h))

  -- the names of a finite map rise
  pub keys_rise : (m : finite.FinMap text_cmp X) → IsStrictlySortedBy text_cmp (finite.keys m)
  keys_rise m = rising_from (finite.entries m) (finite.entries_sorted m)

-- ---- the pins of a choice

abbrev pin_from : CookbookName × Version → Pin
pin_from e = record { name = e.0; version = e.1 }

abbrev entry_of : Pin → CookbookName × Version
entry_of p = (p.name, p.version)

names_of : (es : List (CookbookName × Version)) → map (λ (p : Pin). p.name) (map pin_from es) ≡ map (λ (e : CookbookName × Version). e.0) es
names_of [] = refl
names_of (e ∷ es) = ap (λ rest. e.0 ∷ rest) (names_of es)

entries_back : (es : List (CookbookName × Version)) → map entry_of (map pin_from es) ≡ es
entries_back [] = refl
entries_back (e ∷ es) = ap (λ rest. e ∷ rest) (entries_back es)

pins_back : (pins : List Pin) → map pin_from (map entry_of pins) ≡ pins
pins_back [] = refl
pins_back (p ∷ pins) = ap (λ rest. p ∷ rest) (pins_back pins)

keys_of : (pins : List Pin) → map (λ (e : CookbookName × Version). e.0) (map entry_of pins) ≡ map (λ (p : Pin). p.name) pins
keys_of [] = refl
keys_of (p ∷ pins) = ap (λ rest. p.name ∷ rest) (keys_of pins)

-- the pins of a choice rise
pub pins_rise : (choice : Choice) → IsStrictlySortedBy text_cmp (map (λ (p : Pin). p.name) (pins_of choice))
pins_rise choice = subst (IsStrictlySortedBy text_cmp) (sym (names_of (finite.entries choice))) (keys_rise choice)

-- and are its own
pub choice_back : (choice : Choice) → choice_of (pins_of choice) ≡ choice
choice_back choice =
    ap (λ (es : List (CookbookName × Version)). finite.from_entries {R = text_cmp} es) (entries_back (finite.entries choice))
    ∙ finite.same_entries_map (finite.from_entries {R = text_cmp} (finite.entries choice)) choice (entries_rising (finite.entries choice) (keys_rise choice))

-- pins whose names rise are those of their choice
pub pins_of_rising : (pins : List Pin) → IsStrictlySortedBy text_cmp (map (λ (p : Pin). p.name) pins) → pins_of (choice_of pins) ≡ pins
pins_of_rising pins up = ap (map pin_from) (entries_rising (map entry_of pins) (subst (IsStrictlySortedBy text_cmp) (sym (keys_of pins)) up)) ∙ pins_back pins

-- ---- names in order

abbrev marked : CookbookName → CookbookName × Unit {0}
marked name = (name, tt)

keys_marked : (names : List CookbookName) → map (λ (e : CookbookName × Unit {0}). e.0) (map marked names) ≡ names
keys_marked [] = refl
keys_marked (n ∷ names) = ap (λ rest. n ∷ rest) (keys_marked names)

any_tied : (q : CookbookName) (names : List CookbookName) → list_any (eq_by_cmp text_cmp q) names ≡ list_any (same_name q) names
any_tied q [] = refl
any_tied q (n ∷ names) = λ i. sym (texts_ties q n) i || any_tied q names i

abbrev mark : Bool → Option (Unit {0})
mark b = cond b (Some tt) None

is_some_mark : (b : Bool) → is_some (mark b) ≡ b
is_some_mark true = refl
is_some_mark false = refl

find_marked : (q : CookbookName) (names : List CookbookName) → finite.find text_cmp q (map marked names) ≡ cond (list_any (eq_by_cmp text_cmp q) names) (Some tt) None
find_marked q [] = refl
find_marked q (n ∷ names) = elim (eq_by_cmp text_cmp q n) as (λ b. cond b (Some tt) (finite.find text_cmp q (map marked names)) ≡ cond (b || list_any (eq_by_cmp text_cmp q) names) (Some tt) None) [
  | true ↦ refl
  | false ↦ find_marked q names
]

get_marked : (names : List CookbookName) (q : CookbookName) → finite.get (as_keys names) q ≡ cond (list_any (same_name q) names) (Some tt) None
get_marked names q = finite.get-from_entries nat_list_cmp_total (map marked names) q ∙ find_marked q names ∙ ap (λ b. cond b (Some tt) None) (any_tied q names)

-- names in order rise
pub in_order_rises : (names : List CookbookName) → IsStrictlySortedBy text_cmp (in_order names)
unfolding in_order
in_order_rises names = keys_rise (as_keys names)

-- in order they are the same names
any_in_order : (names : List CookbookName) (q : CookbookName) → list_any (same_name q) (in_order names) ≡ list_any (same_name q) names
unfolding in_order
any_in_order names q =
    sym (any_tied q (finite.keys (as_keys names))) ∙ sym (finite.contains_key-keys (as_keys names) q)
    ∙ ap is_some (get_marked names q) ∙ is_some_mark (list_any (same_name q) names)

one_from : (names others : List CookbookName) → ((q : CookbookName) → list_any (same_name q) names ≡ list_any (same_name q) others) → (q : CookbookName) → Contains names q → Contains others q
one_from names others same q h = Contains-from_any name_from_same q others (sym (same q) ∙ list_any-from_Contains nat_list_eq_equiv q names h)

pub from_in_order : (names : List CookbookName) (q : CookbookName) → Contains (in_order names) q → Contains names q
from_in_order names q h = one_from (in_order names) names (any_in_order names) q h

pub to_in_order : (names : List CookbookName) (q : CookbookName) → Contains names q → Contains (in_order names) q
to_in_order names q h = one_from names (in_order names) (λ r. sym (any_in_order names r)) q h

-- names that rise are in order
in_order_rising : (names : List CookbookName) → IsStrictlySortedBy text_cmp names → in_order names ≡ names
unfolding in_order
in_order_rising names up = ap (map (λ (e : CookbookName × Unit {0}). e.0)) (entries_rising (map marked names) (subst (IsStrictlySortedBy text_cmp) (sym (keys_marked names)) up)) ∙ keys_marked names

any_alike : (xs ys : List CookbookName) → ((n : CookbookName) → Contains xs n → Contains ys n) → ((n : CookbookName) → Contains ys n → Contains xs n) → (q : CookbookName) → list_any (same_name q) xs ≡ list_any (same_name q) ys
any_alike xs ys to from q = by (list_any (same_name q) xs) (list_any (same_name q) ys) refl refl
  where
    has : (b : Bool) (zs : List CookbookName) → list_any (same_name q) zs ≡ b → b ≡ true → Contains zs q
    has b zs e on = Contains-from_any name_from_same q zs (e ∙ on)

    by : (a b : Bool) → list_any (same_name q) xs ≡ a → list_any (same_name q) ys ≡ b → list_any (same_name q) xs ≡ list_any (same_name q) ys
    by true b e f = e ∙ sym (list_any-from_Contains nat_list_eq_equiv q ys (to q (has true xs e refl)))
    by false true e f = list_any-from_Contains nat_list_eq_equiv q xs (from q (has true ys f refl)) ∙ sym f
    by false false e f = e ∙ sym f

-- names that rise are those of another list in order, where both have the same names
pub same_in_order : (names others : List CookbookName) → IsStrictlySortedBy text_cmp names → ((n : CookbookName) → Contains names n → Contains others n) → ((n : CookbookName) → Contains others n → Contains names n)
    → names ≡ in_order others
unfolding in_order
same_in_order names others up to from =
    sym (in_order_rising names up)
    ∙ ap (λ (m : finite.FinMap text_cmp (Unit {0})). finite.keys m) (finite.same_map nat_list_cmp_total names_apart (as_keys names) (as_keys others) (λ q.
    get_marked names q ∙ ap (λ b. cond b (Some tt) None) (any_alike names others to from q) ∙ sym (get_marked others q)))
