-- What a search finds: parts joined by AND and OR, items under NOTs, and the terms of a field.
use Rattle.std.proofs.Common.{◌≡◌, ◌∙◌, ◌↔◌, ◌⊎◌, ◌+◌, ◌<◌, ◌≤◌, ◌&&◌, if◌then◌else◌, ℕ, zero, suc, arith, Bool, true, false, not, IsTrue, List, [], ◌∷◌, ◌++◌, length, take, drop, get_or, Some, Result, Ok, Err, IfOk, refl, sym, ap, subst, inl, inr}
use Rattle.std.specs.List.{slice_get}
use Rattle.std.proofs.lemmas.Bool.{cases_Bool, false≢true}
use Rattle.std.proofs.lemmas.List.{drop_more, drop_all, take_more, take_all}
use Rattle.query_text.specs.Items.{what_of, item_with}
use Rattle.query_text.specs.Query.{Ors, Ands, Item, ors_of, ands_of}
use Rattle.query_text.specs.declared.query.What.{What}
use Rattle.query_text.specs.declared.term.Wanted.{Wanted}
use Rattle.search_query.specs.Pair.{Pair, pair, pair_cmp}
use Rattle.search_query.specs.Matching.{Meets, MeetsAll, MeetsItem, HasWanted, IsWanted, turned}
use Rattle.search_query.proofs.MeetLemmas.{item_meets}
use Rattle.search_index.specs.declared.found.Found.{Found}
use Rattle.search_index.specs.declared.bounds.Bounds.{Bounds}
use Rattle.search_index.specs.Bounds.{IsBounded}
use Rattle.ordered_keys.specs.Numbers.{Among}
use Rattle.search_index.specs.Found.{has, is_in}
use Rattle.ordered_keys.specs.Keys.{Keys, AreBetween}
use Rattle.search_index.specs.KeyOrder.{TermKey, term_cmp, term_key}
use Rattle.search_index.specs.Net.{Net, Has}
use Rattle.search_index.specs.Arena.{Member}
use Rattle.search_index.specs.Seeking.{Finds, Gives, HasGiven, PairsAt, Spares}
use Rattle.ordered_keys.proofs.NumberLemmas.{Among-left, Among-right, Among-split}
use Rattle.search_index.proofs.GivenLemmas.{term_of}
use Rattle.search_index.proofs.Neighbours.{same_is_equal, then_right}

pub among_at : (xs : List ℕ) (j : ℕ) → j < length xs → Among xs (get_or xs j 0)
among_at [] j h = absurd (omega arith)
among_at (x ∷ xs) zero h = inl refl
among_at (x ∷ xs) (suc j) h = inr (among_at xs j (omega arith))

-- ---- OR

abbrev pub AnySoFar : Keys TermKey → Net → ℕ → Found → Ors → Ors → Found → Type 0
AnySoFar terms net scope among query rest missing = (object : ℕ) (pairs : List Pair) → PairsAt terms net scope object pairs → IsTrue (has among object) →
    ((has missing object ≡ true) × (Meets rest pairs ↔ Meets query pairs)) ⊎ ((has missing object ≡ false) × Meets query pairs)

pub any_begins : (terms : Keys TermKey) (net : Net) (scope : ℕ) (among : Found) (query : Ors) (items : List Ands) (missing : Found) → ors_of items ≡ query → ((x : ℕ) → has missing x ≡ true) → AnySoFar terms net scope among query (ors_of (drop 0 items)) missing
any_begins terms net scope among query items missing is every object pairs at here = inl (every object, subst (λ (q : Ors). Meets (ors_of items) pairs ↔ Meets q pairs) is (λ h. h, λ h. h))

and_true : (a b : Bool) → a ≡ true → (a && b) ≡ b
and_true a b e = ap (λ z. z && b) e

and_false : (a b : Bool) → a ≡ false → (a && b) ≡ false
and_false a b e = ap (λ z. z && b) e

not_true : (b : Bool) → IsTrue b → not b ≡ false
not_true true h = refl
not_true false h = absurd (false≢true h)

not_false : (b : Bool) → b ≡ false → not b ≡ true
not_false true h = absurd (false≢true (sym h))
not_false false h = refl

pub any_more : (terms : Keys TermKey) (net : Net) (scope : ℕ) (among : Found) (query : Ors) (items : List Ands) (i : ℕ) (a : Ands) (missing part other now : Found) → i < length items → a ≡ get_or items i a → AnySoFar terms net scope among query (ors_of (drop i items)) missing
    → Finds terms net scope among (MeetsAll a) part → ((x : ℕ) → has other x ≡ not (has part x)) → ((x : ℕ) → has now x ≡ (has missing x && has other x)) → AnySoFar terms net scope among query (ors_of (drop (i + 1) items)) now
any_more terms net scope among query items i a missing part other now within is so_far finds turns joins object pairs at here =
    let front : drop i items ≡ a ∷ drop (i + 1) items = drop_more items i a within ∙ ap (λ z. z ∷ drop (i + 1) items) (sym is) in
    let told = joins object ∙ ap (λ z. has missing object && z) (turns object) in
    elim (so_far object pairs at here) [
      | inr (gone, met) ↦ inr (told ∙ and_false (has missing object) (not (has part object)) gone, met)
      | inl (there, decides) ↦
          let rest = subst (λ xs. Meets (ors_of xs) pairs ↔ Meets query pairs) front decides in
          elim (cases_Bool (has part object)) [
            | inl met ↦ inr (told ∙ and_true (has missing object) (not (has part object)) there ∙ not_true (has part object) met, rest.0 (inl ((finds object pairs at here).0 met)))
            | inr unmet ↦ inl (
              told ∙ and_true (has missing object) (not (has part object)) there ∙ not_false (has part object) unmet,
              (λ m. rest.0 (inr m), λ m. elim (rest.1 m) [ inl first ↦ absurd (false≢true (sym unmet ∙ (finds object pairs at here).1 first)) | inr later ↦ later ]),
            )
          ]
    ]

pub any_ends : (terms : Keys TermKey) (net : Net) (scope : ℕ) (among : Found) (query : Ors) (items : List Ands) (i : ℕ) (missing result : Found) → length items ≤ i → AnySoFar terms net scope among query (ors_of (drop i items)) missing → ((x : ℕ) → has result x ≡ not (has missing x)) → Finds terms net scope among (Meets query) result
any_ends terms net scope among query items i missing result past so_far turns object pairs at here =
    elim (so_far object pairs at here) [
      | inr (gone, met) ↦ (λ h. met, λ m. turns object ∙ not_false (has missing object) gone)
      | inl (there, decides) ↦
          let rest = subst (λ xs. Meets (ors_of xs) pairs ↔ Meets query pairs) (drop_all i items past) decides in
          (λ h. absurd (false≢true (sym (turns object ∙ not_true (has missing object) there) ∙ h)), λ m. absurd (rest.1 m))
    ]

-- ---- AND

abbrev pub AllSoFar : Keys TermKey → Net → ℕ → Found → Ands → Ands → Found → Type 0
AllSoFar terms net scope among all_of rest found = (object : ℕ) (pairs : List Pair) → PairsAt terms net scope object pairs → IsTrue (has among object) →
    ((has found object ≡ true) × (MeetsAll rest pairs ↔ MeetsAll all_of pairs)) ⊎ ((has found object ≡ false) × (MeetsAll all_of pairs → ⊥))

pub all_begins : (terms : Keys TermKey) (net : Net) (scope : ℕ) (among : Found) (all_of : Ands) (items : List Item) (found : Found) → ands_of items ≡ all_of → Spares terms net scope among (MeetsAll (ands_of items)) found → AllSoFar terms net scope among all_of (ands_of (drop 0 items)) found
all_begins terms net scope among all_of items found is spares object pairs at here =
    elim (cases_Bool (has found object)) [
      | inl there ↦ inl (there, subst (λ (q : Ands). MeetsAll (ands_of items) pairs ↔ MeetsAll q pairs) is (λ h. h, λ h. h))
      | inr gone ↦ inr (gone, λ m. false≢true (sym gone ∙ spares object pairs at here (subst (λ (q : Ands). MeetsAll q pairs) (sym is) m)))
    ]

pub all_more : (terms : Keys TermKey) (net : Net) (scope : ℕ) (among : Found) (all_of : Ands) (items : List Item) (i : ℕ) (x : Item) (found part now : Found) → i < length items → x ≡ get_or items i x → AllSoFar terms net scope among all_of (ands_of (drop i items)) found
    → Finds terms net scope found (MeetsItem x) part → ((o : ℕ) → has now o ≡ (has found o && has part o)) → AllSoFar terms net scope among all_of (ands_of (drop (i + 1) items)) now
all_more terms net scope among all_of items i x found part now within is so_far finds joins object pairs at here =
    let front : drop i items ≡ x ∷ drop (i + 1) items = drop_more items i x within ∙ ap (λ z. z ∷ drop (i + 1) items) (sym is) in
    elim (so_far object pairs at here) [
      | inr (gone, out) ↦ inr (joins object ∙ and_false (has found object) (has part object) gone, out)
      | inl (there, decides) ↦
          let rest = subst (λ xs. MeetsAll (ands_of xs) pairs ↔ MeetsAll all_of pairs) front decides in
          elim (cases_Bool (has part object)) [
            | inl met ↦ inl (joins object ∙ and_true (has found object) (has part object) there ∙ met, (λ m. rest.0 ((finds object pairs at there).0 met, m), λ m. (rest.1 m).1))
            | inr unmet ↦ inr (joins object ∙ and_true (has found object) (has part object) there ∙ unmet, λ m. false≢true (sym unmet ∙ (finds object pairs at there).1 (rest.1 m).0))
          ]
    ]

pub all_ends : (terms : Keys TermKey) (net : Net) (scope : ℕ) (among : Found) (all_of : Ands) (items : List Item) (i : ℕ) (found : Found) → length items ≤ i → AllSoFar terms net scope among all_of (ands_of (drop i items)) found → Finds terms net scope among (MeetsAll all_of) found
all_ends terms net scope among all_of items i found past so_far object pairs at here =
    elim (so_far object pairs at here) [
      | inr (gone, out) ↦ (λ h. absurd (false≢true (sym gone ∙ h)), λ m. absurd (out m))
      | inl (there, decides) ↦
          let rest = subst (λ xs. MeetsAll (ands_of xs) pairs ↔ MeetsAll all_of pairs) (drop_all i items past) decides in
          (λ h. rest.0 tt, λ m. there)
    ]

-- what meets all meets each
each_of_all : (items : List Item) (k : ℕ) (x : Item) (pairs : List Pair) → slice_get items k ≡ Some x → MeetsAll (ands_of items) pairs → MeetsItem x pairs
each_of_all [] k x pairs is m = let none : ⊥ = cc is in absurd none
each_of_all (y ∷ items) zero x pairs is m = let same : y ≡ x = cc in subst (λ (z : Item). MeetsItem z pairs) same m.0
each_of_all (y ∷ items) (suc k) x pairs is m = each_of_all items k x pairs is m.1

-- so an AND may begin with the objects of one of its items
pub begun_is : {E : Type 0} (terms : Keys TermKey) (net : Net) (scope : ℕ) (among : Found) (items : List Item) (k : ℕ) (x : Item) (result : Result Found E) → slice_get items k ≡ Some x
    → IfOk result (Spares terms net scope among (MeetsItem x)) → IfOk result (Spares terms net scope among (MeetsAll (ands_of items)))
begun_is terms net scope among items k x (Ok found) is spares = λ object pairs at here m. spares object pairs at here (each_of_all items k x pairs is m)
begun_is terms net scope among items k x (Err e) is spares = tt

-- ---- NOT

pub one_is : (terms : Keys TermKey) (net : Net) (scope : ℕ) (among : Found) (item : Item) (n : ℕ) (w : What) (found result : Found) → item_with n w ≡ item → Finds terms net scope among (MeetsItem (what_of w)) found → ((x : ℕ) → has result x ≡ turned n (has found x)) → Finds terms net scope among (MeetsItem item) result
one_is terms net scope among item n w found result view finds turns object pairs at here = item_meets item n w pairs (has found object) (has result object) view (finds object pairs at here) (turns object)

-- ---- a term

pub wanted_member : (field : List ℕ) (w : Wanted) (pairs : List Pair) → HasWanted field w pairs ↔ ((p : Pair) × Member pairs p × (p.field ≡ field) × IsWanted w p.value)
wanted_member field w [] = (λ h. absurd h, λ t. absurd t.1)
wanted_member field w (q ∷ pairs) =
    let rest = wanted_member field w pairs in (
      elim [
        | inl here ↦ (q, inl refl, here.0, here.1)
        | inr there ↦ let t = rest.0 there in (t.0, inr t.1, t.2, t.3)
      ],
      λ t. elim t.1 [
        | inl e ↦ inl (ap (λ (z : Pair). z.field) e ∙ t.2, subst (λ z. IsWanted w z) (sym (ap (λ (z : Pair). z.value) e)) t.3)
        | inr m ↦ inr (rest.1 (t.0, m, t.2, t.3))
      ],
    )

pub field_is : (terms : Keys TermKey) (net : Net) (scope : ℕ) (among : Found) (field : List ℕ) (w : Wanted) (found : Found) → found.others ≡ false → ((x : ℕ) → IsTrue (has among x) → IsTrue (is_in found.numbers x) ↔ HasGiven terms net scope field w x) → Finds terms net scope among (HasWanted field w) found
field_is terms net scope among field w found these gives object pairs at here =
    let members = wanted_member field w pairs in
    let told : has found object ≡ is_in found.numbers object = ap (λ (b : Bool). if b then not (is_in found.numbers object) else is_in found.numbers object) these in (
      λ h. let t = (gives object here).0 (sym told ∙ h) in members.1 (t.1.0, (at t.1.0).1 (t.0, t.1.1, t.2), t.1.2, t.1.3),
      λ m. let t = members.0 m in let j = (at t.0).0 t.1 in told ∙ (gives object here).1 (j.0, (t.0, j.1, t.2, t.3), j.2),
    )

-- ---- the terms of a field

abbrev pub AtSoFar : Keys TermKey → Net → ℕ → List ℕ → Wanted → List ℕ → List ℕ → Type 0
AtSoFar terms net scope field w numbers found = (x : ℕ) → Among found x ↔ ((j : ℕ) × Among numbers j × Gives terms scope field w j × Has net x j)

pub at_more : (terms : Keys TermKey) (net : Net) (scope : ℕ) (field : List ℕ) (w : Wanted) (numbers found objects : List ℕ) (i j : ℕ) → i < length numbers → j ≡ get_or numbers i j → AtSoFar terms net scope field w (take i numbers) found
    → Gives terms scope field w j → ((x : ℕ) → Among objects x ↔ Has net x j) → AtSoFar terms net scope field w (take (i + 1) numbers) (found ++ objects)
at_more terms net scope field w numbers found objects i j within is so_far gives these x =
    subst (λ (ns : List ℕ). Among (found ++ objects) x ↔ ((k : ℕ) × Among ns k × Gives terms scope field w k × Has net x k)) (sym (take_more numbers i j within ∙ ap (λ z. take i numbers ++ z ∷ []) (sym is))) (
      λ a. elim (Among-split found objects x a) [
        | inl b ↦ let t = (so_far x).0 b in (t.0, Among-left (take i numbers) (j ∷ []) t.0 t.1, t.2, t.3)
        | inr b ↦ (j, Among-right (take i numbers) (j ∷ []) j (inl refl), gives, (these x).0 b)
      ],
      λ t. elim (Among-split (take i numbers) (j ∷ []) t.0 t.1) [
        | inl b ↦ Among-left found objects x ((so_far x).1 (t.0, b, t.2, t.3))
        | inr (inl e) ↦ Among-right found objects x ((these x).1 (subst (λ k. Has net x k) (sym e) t.3))
        | inr (inr b) ↦ absurd b
      ],
    )

pub at_less : (terms : Keys TermKey) (net : Net) (scope : ℕ) (field : List ℕ) (w : Wanted) (numbers found : List ℕ) (i j : ℕ) → i < length numbers → j ≡ get_or numbers i j → AtSoFar terms net scope field w (take i numbers) found
    → (Gives terms scope field w j → ⊥) → AtSoFar terms net scope field w (take (i + 1) numbers) found
at_less terms net scope field w numbers found i j within is so_far out x =
    subst (λ (ns : List ℕ). Among found x ↔ ((k : ℕ) × Among ns k × Gives terms scope field w k × Has net x k)) (sym (take_more numbers i j within ∙ ap (λ z. take i numbers ++ z ∷ []) (sym is))) (
      λ a. let t = (so_far x).0 a in (t.0, Among-left (take i numbers) (j ∷ []) t.0 t.1, t.2, t.3),
      λ t. elim (Among-split (take i numbers) (j ∷ []) t.0 t.1) [
        | inl b ↦ (so_far x).1 (t.0, b, t.2, t.3)
        | inr (inl e) ↦ absurd (out (subst (λ k. Gives terms scope field w k) (sym e) t.2))
        | inr (inr b) ↦ absurd b
      ],
    )

pub at_ends : (terms : Keys TermKey) (net : Net) (scope : ℕ) (field : List ℕ) (w : Wanted) (numbers found : List ℕ) (i : ℕ) (b : Bounds) → length numbers ≤ i → AtSoFar terms net scope field w (take i numbers) found
    → AreBetween term_cmp terms (term_key scope field b.low.items) (term_key scope b.past.items b.high.items) numbers → IsBounded field w b → (x : ℕ) → Among found x ↔ ((j : ℕ) × Gives terms scope field w j × Has net x j)
at_ends terms net scope field w numbers found i b past so_far between bounded x =
    let all = subst (λ (ns : List ℕ). Among found x ↔ ((k : ℕ) × Among ns k × Gives terms scope field w k × Has net x k)) (take_all i numbers past) (so_far x) in (
      λ a. let t = all.0 a in (t.0, t.2, t.3),
      λ t.
          let p = t.1.0 in
          let bounds = bounded p t.1.2 t.1.3 in
          let same : (y : Pair) → term_cmp (term_of scope p) (term_of scope y) ≡ pair_cmp p y = λ y. then_right _ (pair_cmp p y) (same_is_equal scope) in
          all.1 (t.0, (between t.0).1 (term_of scope p, t.1.1, (λ less. bounds.0 (sym (same (pair field b.low.items)) ∙ less)), same (pair b.past.items b.high.items) ∙ bounds.1), t.1, t.2),
    )

-- ---- objects one by one

pub each_more : (P : ℕ → Type 0) (numbers found : List ℕ) (i n : ℕ) → i < length numbers → n ≡ get_or numbers i n → ((x : ℕ) → Among found x ↔ (Among (take i numbers) x × P x)) → P n → (x : ℕ) → Among (found ++ n ∷ []) x ↔ (Among (take (i + 1) numbers) x × P x)
each_more P numbers found i n within is so_far met x =
    subst (λ (ns : List ℕ). Among (found ++ n ∷ []) x ↔ (Among ns x × P x)) (sym (take_more numbers i n within ∙ ap (λ z. take i numbers ++ z ∷ []) (sym is))) (
      λ a. elim (Among-split found (n ∷ []) x a) [
        | inl b ↦ let t = (so_far x).0 b in (Among-left (take i numbers) (n ∷ []) x t.0, t.1)
        | inr (inl e) ↦ (Among-right (take i numbers) (n ∷ []) x (inl e), subst P e met)
        | inr (inr b) ↦ absurd b
      ],
      λ t. elim (Among-split (take i numbers) (n ∷ []) x t.0) [
        | inl b ↦ Among-left found (n ∷ []) x ((so_far x).1 (b, t.1))
        | inr b ↦ Among-right found (n ∷ []) x b
      ],
    )

pub each_less : (P : ℕ → Type 0) (numbers found : List ℕ) (i n : ℕ) → i < length numbers → n ≡ get_or numbers i n → ((x : ℕ) → Among found x ↔ (Among (take i numbers) x × P x)) → (P n → ⊥) → (x : ℕ) → Among found x ↔ (Among (take (i + 1) numbers) x × P x)
each_less P numbers found i n within is so_far out x =
    subst (λ (ns : List ℕ). Among found x ↔ (Among ns x × P x)) (sym (take_more numbers i n within ∙ ap (λ z. take i numbers ++ z ∷ []) (sym is))) (
      λ a. let t = (so_far x).0 a in (Among-left (take i numbers) (n ∷ []) x t.0, t.1),
      λ t. elim (Among-split (take i numbers) (n ∷ []) x t.0) [
        | inl b ↦ (so_far x).1 (b, t.1)
        | inr (inl e) ↦ absurd (out (subst P (sym e) t.1))
        | inr (inr b) ↦ absurd b
      ],
    )

pub none_more : (P : ℕ → Type 0) (numbers : List ℕ) (i n : ℕ) → i < length numbers → n ≡ get_or numbers i n → ((j : ℕ) → Among (take i numbers) j → P j → ⊥) → (P n → ⊥) → (j : ℕ) → Among (take (i + 1) numbers) j → P j → ⊥
none_more P numbers i n within is so_far out j among met =
    elim (Among-split (take i numbers) (n ∷ []) j (subst (λ (ns : List ℕ). Among ns j) (take_more numbers i n within ∙ ap (λ z. take i numbers ++ z ∷ []) (sym is)) among)) [
      | inl b ↦ so_far j b met
      | inr (inl e) ↦ out (subst P (sym e) met)
      | inr (inr b) ↦ absurd b
    ]
