-- The router of the table finds the rows of the table.
use Rattle.std.proofs.Common.{◌≡◌, ℕ, List, [], ◌∷◌, ◌++◌, length, nat_lt, Option, Some, None, Bool, true, false, cond, not, ◌&&◌, ◌||◌, ◌==◌, refl, sym, ap, ◌∙◌, arith}
use Rattle.std.proofs.lemmas.Bool.Decides.{nat_tests}
use Rattle.std.specs.List.{list_all, list_any}
use Rattle.std.specs.Str.{IsUtf8}
use Rattle.std.specs.Option.{option_map}
use Rattle.matchit.specs.Rows.{RowsOf}
use Rattle.matchit.specs.Router.{RouteOf, rename, map_key}
use Rattle.matchit.specs.Seek.{first}
use Rattle.matchit.proofs.RenameLemmas.{seek-rename}
use Rattle.org_requests.specs.declared.table.Row.{Row}
use Rattle.org_requests.specs.Patterns.{Part, fixed, any, Table, is_segment, joined, route_of}
use Rattle.http_routes.specs.Router.{FindsRows}
use Rattle.org_requests.specs.Table.{Target, table, patterns, target_at, target_of}
use Rattle.http_routes.proofs.SeekLemmas.{IsPlain, AreNames, ArePlain, IsTable, rows_of, walks}
use Rattle.http_routes.proofs.Utf8Lemmas.{AreBytes, are_bytes}
use Rattle.http_routes.proofs.OrderLemmas.{sorted, are_distinct, same_sorted}

-- the table's patterns, in the router's order
abbrev pub in_order : Table Target
in_order = sorted (patterns table)

abbrev is_plain : List ℕ → Bool
is_plain text = list_all (λ b. nat_lt b 256 && not (b == 47)) text

abbrev are_plain : List Part → Bool
are_plain [] = true
are_plain (fixed text ∷ parts) = is_plain text && are_plain parts
are_plain (any ∷ parts) = are_plain parts

abbrev is_table : {K : Type 0} → Table K → Bool
is_table [] = true
is_table ((parts, key) ∷ rest) = are_plain parts && is_table rest

left : (a b : Bool) → (a && b) ≡ true → a ≡ true
left true b e = refl
left false b e = e

right : (a b : Bool) → (a && b) ≡ true → b ≡ true
right true b e = e
right false b e = cc

plain_from : (text : List ℕ) → is_plain text ≡ true → IsPlain text
plain_from [] e = tt
plain_from (b ∷ text) e =
    let here : (nat_lt b 256 && not (b == 47)) ≡ true = left (nat_lt b 256 && not (b == 47)) (is_plain text) e in
    (grind (arith, nat_tests), grind (arith, nat_tests), plain_from text (right (nat_lt b 256 && not (b == 47)) (is_plain text) e))

parts_from : (parts : List Part) → are_plain parts ≡ true → ArePlain parts
parts_from [] e = tt
parts_from (fixed text ∷ parts) e = (plain_from text (left (is_plain text) (are_plain parts) e), parts_from parts (right (is_plain text) (are_plain parts) e))
parts_from (any ∷ parts) e = parts_from parts e

table_from : {K : Type 0} → (rows : Table K) → is_table rows ≡ true → IsTable rows
table_from [] e = tt
table_from ((parts, key) ∷ rest) e = (parts_from parts (left (are_plain parts) (is_table rest) e), table_from rest (right (are_plain parts) (is_table rest) e))

nor : (a b : Bool) → not (a || b) ≡ true → (a ≡ false) × (not b ≡ true)
nor true b e = cc
nor false b e = (refl, e)

-- segments whose path is UTF-8 have the form that the walk asks for
plain_segment : (s rest : List ℕ) → not (list_any (λ b. b == 47) s) ≡ true → AreBytes (s ++ rest) → IsPlain s
plain_segment [] rest e h = tt
plain_segment (b ∷ s) rest e h =
    let parts = nor (b == 47) (list_any (λ c. c == 47) s) e in
    let here : (b == 47) ≡ false = parts.0 in
    (h.0, grind (arith, nat_tests), plain_segment s rest parts.1 h.1)

bytes_behind : (s rest : List ℕ) → AreBytes (s ++ rest) → AreBytes rest
bytes_behind [] rest h = h
bytes_behind (b ∷ s) rest h = bytes_behind s rest h.1

names_from : (ss : List (List ℕ)) → list_all is_segment ss ≡ true → AreBytes (joined ss) → AreNames ss
names_from [] e h = tt
names_from ([] ∷ ss) e h = cc
names_from ((b ∷ s) ∷ ss) e h =
    let here : (nat_lt 0 (length (b ∷ s)) && not (list_any (λ c. c == 47) (b ∷ s))) ≡ true = left (is_segment (b ∷ s)) (list_all is_segment ss) e in (
      plain_segment (b ∷ s) (joined ss) (right (nat_lt 0 (length (b ∷ s))) (not (list_any (λ c. c == 47) (b ∷ s))) here) h.1,
      names_from ss (right (is_segment (b ∷ s)) (list_all is_segment ss) e) (bytes_behind (b ∷ s) (joined ss) h.1),
    )

table_good : is_table in_order ≡ true
unfolding table
table_good = refl

table_distinct : are_distinct (patterns table) ≡ true
unfolding table
table_distinct = refl

same_key : (found : Option (RouteOf Row)) → option_map (λ route. target_of route.value) found ≡ map_key (λ route. target_of route.value) found
same_key None = refl
same_key (Some route) = refl

pub finds_rows : (router : RowsOf (RouteOf Row)) → rename (λ route. target_of route.value) router ≡ rows_of in_order → FindsRows router
unfolding target_at
finds_rows router e = record { finds = found }
  where
    found : (ss : List (List ℕ)) → list_all is_segment ss ≡ true → IsUtf8 (joined ss) → option_map (λ route. target_of route.value) (first router (joined ss)) ≡ target_at ss
    found ss good utf8 =
        same_key (first router (joined ss))
        ∙ sym (seek-rename (λ route. target_of route.value) 0 router (joined ss))
        ∙ ap (λ rows. first rows (joined ss)) e
        ∙ walks ss (names_from ss good (are_bytes (joined ss) utf8)) in_order (table_from in_order table_good)
        ∙ same_sorted (patterns table) table_distinct ss
        ∙ sym (ap (λ v. cond v (route_of (patterns table) ss) None) good)
