-- The table of links: a place put last, and the next place taken.
use Rattle.std.proofs.Common.{◌≡◌, ◌≢◌, ℕ, zero, suc, ◌+◌, ◌<◌, ◌≤◌, inl, inr, Bool, true, false, not, ◌||◌, cond, List, [], ◌∷◌, ◌++◌, length, get_or, set, Option, Some, None, slice_get, count_by, nat_eq, refl, sym, ap, subst, ◌∙◌, arith}
use Rattle.std.specs.List.{list_any}
use Rattle.std.specs.Option.{option_or}
use Rattle.std.proofs.lemmas.Bool.{cases_eq, false≢true}
use Rattle.std.proofs.lemmas.List.{get_or-set_same, get_or-set_other, length-set, length_push}
use Rattle.std.proofs.lemmas.List.Folds.{list_any-append}
use Rattle.std.proofs.lemmas.List.Sums.{sum_by-set}
use Rattle.notify_queue.specs.Linked.{AreLinked, IsLinked, PutLast, TakenFrom, behind, is_never, last_from, last_of, led_on, link_to, next_in, with_place}
use Rattle.notify_queue.specs.declared.links.Link.{Link}
use Rattle.notify_queue.specs.declared.links.Link.TheVariants.{Never, Last, Before}
use Rattle.notify_queue.specs.declared.links.Links.{Links}

eq_same : (n : ℕ) → nat_eq n n ≡ true
eq_same n = grind arith

eq_other : (m n : ℕ) → m ≢ n → nat_eq m n ≡ false
eq_other m n h = grind arith

or_true : (b : Bool) → (b || true) ≡ true
or_true true = refl
or_true false = refl

or_false : (b : Bool) → (b || false) ≡ b
or_false true = refl
or_false false = refl

not_true : (b : Bool) → not b ≡ true → b ≡ false
not_true true h = absurd (false≢true h)
not_true false h = refl

not_false : (b : Bool) → not b ≡ false → b ≡ true
not_false true h = refl
not_false false h = absurd (false≢true (sym h))

-- a place that is new has `Never`
never_is : (link : Link) → is_never link ≡ true → link ≡ Never
never_is Never h = refl
never_is Last h = absurd (false≢true h)
never_is (Before next) h = absurd (false≢true h)

-- what leads on was queued
linked_known : (more : List ℕ) → is_never (link_to more) ≡ false
linked_known [] = refl
linked_known (next ∷ more) = refl

-- a place of the table has what it leads to as the next
next_linked : (more : List ℕ) → next_in (link_to more) ≡ slice_get more 0
next_linked [] = refl
next_linked (next ∷ more) = refl

-- a place at which something stands is one of the table
pub held : (table : List Link) (place : ℕ) → is_never (get_or table place Never) ≡ false → place < length table
held [] place h = absurd (false≢true (sym h))
held (link ∷ table) zero h = omega arith
held (link ∷ table) (suc place) h = let less = held table place h in omega arith

get_more : (ever : List ℕ) (p k : ℕ) → k ≤ length ever → slice_get (ever ++ p ∷ []) k ≡ option_or (slice_get ever k) (Some p)
get_more [] p zero h = refl
get_more [] p (suc k) h = absurd (omega arith)
get_more (q ∷ ever) p zero h = refl
get_more (q ∷ ever) p (suc k) h = get_more ever p k (omega arith)

last_more : (q : ℕ) (ever : List ℕ) (p : ℕ) → last_from q (ever ++ p ∷ []) ≡ p
last_more q [] p = refl
last_more q (r ∷ ever) p = last_more r ever p

last_of_more : (ever : List ℕ) (p : ℕ) → last_of (ever ++ p ∷ []) ≡ Some p
last_of_more [] p = refl
last_of_more (q ∷ ever) p = ap Some (last_more q ever p)

one_off : (a b c : ℕ) → a + b ≡ c + 0 → b ≡ 1 → a + 1 ≡ c
one_off a b c e f = omega arith

none_off : (a b c : ℕ) → a + b ≡ c + 0 → b ≡ 0 → a ≡ c
none_off a b c e f = omega arith

module _ (table : List Link) where
  -- nothing stands behind the last place
  last_linked : (place : ℕ) (more : List ℕ) → AreLinked table (place ∷ more) → get_or table (last_from place more) Never ≡ Last
  last_linked place [] linked = linked.0
  last_linked place (next ∷ more) linked = last_linked next more linked.1

  -- behind a place stands the one that was queued next
  behind_linked : (ever : List ℕ) (k p : ℕ) → AreLinked table ever → slice_get ever k ≡ Some p → next_in (get_or table p Never) ≡ slice_get ever (suc k)
  behind_linked [] k p linked h = cc
  behind_linked (q ∷ more) zero p linked h =
      let same : q ≡ p = cc in
      ap (λ n. next_in (get_or table n Never)) (sym same) ∙ ap next_in linked.0 ∙ next_linked more
  behind_linked (q ∷ more) (suc k) p linked h = behind_linked more k p linked.1 h

  module _ (p : ℕ) (fresh : get_or table p Never ≡ Never) (inside : p < length table) where
    -- what was queued isn't new
    apart : (place : ℕ) → is_never (get_or table place Never) ≡ false → place ≢ p
    apart place h e = let a : is_never (get_or table p Never) ≡ false = subst (λ n. is_never (get_or table n Never) ≡ false) e h in
        false≢true (sym a ∙ ap is_never fresh)

    known_at : (place : ℕ) (link : Link) → get_or table place Never ≡ link → is_never link ≡ false → is_never (get_or table place Never) ≡ false
    known_at place link e h = ap is_never e ∙ h

    relinked : (place : ℕ) (more : List ℕ) → AreLinked table (place ∷ more) → (l : ℕ) → last_from place more ≡ l → AreLinked (set (set table p Last) l (Before p)) ((place ∷ more) ++ p ∷ [])
    relinked place [] linked l e =
        let known = known_at place Last linked.0 refl in
        let less : place < length (set table p Last) = subst (λ n. place < n) (sym (length-set table p Last)) (held table place known) in
        let other : p ≢ place = λ same. apart place known (sym same) in
        let first : get_or (set (set table p Last) place (Before p)) place Never ≡ Before p = get_or-set_same (set table p Last) place (Before p) Never less in
        let second : get_or (set (set table p Last) place (Before p)) p Never ≡ Last = get_or-set_other (set table p Last) place p (Before p) Never other ∙ get_or-set_same table p Last Never inside in
        subst (λ n. AreLinked (set (set table p Last) n (Before p)) (place ∷ p ∷ [])) e (first, (second, tt))
    relinked place (next ∷ more) linked l e =
        let known = known_at place (Before next) linked.0 refl in
        let other : place ≢ p = apart place known in
        let last : get_or table l Never ≡ Last = subst (λ n. get_or table n Never ≡ Last) e (last_linked place (next ∷ more) linked) in
        let not_last : place ≢ l = λ same. before≢last (sym linked.0 ∙ ap (λ n. get_or table n Never) same ∙ last) in
        let here : get_or (set (set table p Last) l (Before p)) place Never ≡ Before next =
        get_or-set_other (set table p Last) l place (Before p) Never not_last ∙ get_or-set_other table p place Last Never other ∙ linked.0 in
        (here, relinked next more linked.1 l e)
      where
        before≢last : {n : ℕ} → Before n ≢ Last
        before≢last h = cc

    -- what the table has for another place than the new one: as new as before
    known_other : (last : Option ℕ) → ((l : ℕ) → last ≡ Some l → is_never (get_or table l Never) ≡ false) → (q : ℕ) → q ≢ p
        → is_never (get_or (led_on (set table p Last) last p) q Never) ≡ is_never (get_or table q Never)
    known_other None at_last q other = ap is_never (get_or-set_other table p q Last Never other)
    known_other (Some l) at_last q other = elim (cases_eq q l) [
      | inl same ↦
          let known = at_last l refl in
          let less : l < length (set table p Last) = subst (λ n. l < n) (sym (length-set table p Last)) (held table l known) in
          subst (λ n. is_never (get_or (set (set table p Last) l (Before p)) n Never) ≡ is_never (get_or table n Never)) (sym same)
          (ap is_never (get_or-set_same (set table p Last) l (Before p) Never less) ∙ sym known)
      | inr differs ↦ ap is_never (get_or-set_other (set table p Last) l q (Before p) Never differs ∙ get_or-set_other table p q Last Never other)
    ]

    known_new : (last : Option ℕ) → ((l : ℕ) → last ≡ Some l → is_never (get_or table l Never) ≡ false) → is_never (get_or (led_on (set table p Last) last p) p Never) ≡ false
    known_new None at_last = ap is_never (get_or-set_same table p Last Never inside)
    known_new (Some l) at_last =
        ap is_never (get_or-set_other (set table p Last) l p (Before p) Never (λ same. apart l (at_last l refl) (sym same)) ∙ get_or-set_same table p Last Never inside)

    length_led : (last : Option ℕ) → length (led_on (set table p Last) last p) ≡ length table
    length_led None = length-set table p Last
    length_led (Some l) = length-set (set table p Last) l (Before p) ∙ length-set table p Last

    -- one place is new no more
    one_less : count_by is_never (set table p Last) + 1 ≡ count_by is_never table
    one_less =
        one_off (count_by is_never (set table p Last)) (cond (is_never (get_or table p Never)) 1 0) (count_by is_never table)
        (sum_by-set (λ link. cond (is_never link) 1 0) table p Last Never inside) (ap (λ link. cond (is_never link) 1 0) fresh)

    count_led : (last : Option ℕ) → ((l : ℕ) → last ≡ Some l → is_never (get_or table l Never) ≡ false) → count_by is_never (led_on (set table p Last) last p) + 1 ≡ count_by is_never table
    count_led None at_last = one_less
    count_led (Some l) at_last =
        let known = at_last l refl in
        let less : l < length (set table p Last) = subst (λ n. l < n) (sym (length-set table p Last)) (held table l known) in
        let f : cond (is_never (get_or (set table p Last) l Never)) 1 0 ≡ 0 =
        ap (λ link. cond (is_never link) 1 0) (get_or-set_other table p l Last Never (apart l known)) ∙ ap (λ b. cond b 1 0) known in
        ap (λ n. n + 1) (none_off (count_by is_never (set (set table p Last) l (Before p))) (cond (is_never (get_or (set table p Last) l Never)) 1 0) (count_by is_never (set table p Last))
        (sum_by-set (λ link. cond (is_never link) 1 0) (set table p Last) l (Before p) Never less) f)
        ∙ one_less

    linked_led : (ever : List ℕ) → AreLinked table ever → AreLinked (led_on (set table p Last) (last_of ever) p) (ever ++ p ∷ [])
    linked_led [] linked = (get_or-set_same table p Last Never inside, tt)
    linked_led (place ∷ more) linked = relinked place more linked (last_from place more) refl

    last_known : (ever : List ℕ) → AreLinked table ever → (l : ℕ) → last_of ever ≡ Some l → is_never (get_or table l Never) ≡ false
    last_known [] linked l e = cc
    last_known (place ∷ more) linked l e =
        let same : last_from place more ≡ l = cc in
        ap is_never (subst (λ n. get_or table n Never ≡ Last) same (last_linked place more linked))

-- a new place is queued behind all others
put_new : (old new : Links) (ever : List ℕ) (taken p : ℕ) → IsLinked old ever taken → get_or old.table.items p Never ≡ Never → p < length old.table.items → PutLast old new p → IsLinked new (ever ++ p ∷ []) taken
put_new old new ever taken p is fresh inside put = record {
  linked = subst (λ t. AreLinked t (ever ++ p ∷ [])) (sym table_is) (linked_led table p fresh inside ever is.linked);
  first = put.first ∙ ap (λ o. option_or o (Some p)) is.first ∙ sym (get_more ever p 0 (omega arith));
  head = put.head ∙ ap (λ o. option_or o (Some p)) is.head ∙ sym (get_more ever p taken is.within);
  last = put.last ∙ sym (last_of_more ever p);
  known = λ q h. elim (cases_eq q p) [
    | inl same ↦ subst (λ n. is_never (get_or new.table.items n Never) ≡ not (list_any (nat_eq n) (ever ++ p ∷ []))) (sym same) (known_p)
    | inr other ↦ ap (λ t. is_never (get_or t q Never)) table_is ∙ known_other table p fresh inside (last_of ever) at_last q other ∙ is.known q (subst (λ n. q < n) size h)
        ∙ ap not (sym (list_any-append (nat_eq q) ever (p ∷ []) ∙ ap (λ b. list_any (nat_eq q) ever || (b || false)) (eq_other q p other) ∙ or_false (list_any (nat_eq q) ever)))
  ];
  room =
      let e : count_by is_never new.table.items + 1 ≡ count_by is_never table = ap (λ t. count_by is_never t + 1) table_is ∙ count_led table p fresh inside (last_of ever) at_last in
      let l = length_push ever p in
      let r = is.room in
      let s = size in
      omega arith;
  within = let l = length_push ever p in let w = is.within in omega arith;
}
  where
    table : List Link
    table = old.table.items

    at_last : (l : ℕ) → last_of ever ≡ Some l → is_never (get_or old.table.items l Never) ≡ false
    at_last = last_known old.table.items p fresh inside ever is.linked

    table_is : new.table.items ≡ led_on (set old.table.items p Last) (last_of ever) p
    table_is = put.table ∙ ap (λ o. led_on (set old.table.items p Last) o p) is.last

    size : length new.table.items ≡ length old.table.items
    size = ap length table_is ∙ length_led old.table.items p fresh inside (last_of ever)

    known_p : is_never (get_or new.table.items p Never) ≡ not (list_any (nat_eq p) (ever ++ p ∷ []))
    known_p = ap (λ t. is_never (get_or t p Never)) table_is ∙ known_new old.table.items p fresh inside (last_of ever) at_last
        ∙ ap not (sym (list_any-append (nat_eq p) ever (p ∷ []) ∙ ap (λ b. list_any (nat_eq p) ever || (b || false)) (eq_same p) ∙ or_true (list_any (nat_eq p) ever)))

pub link_new : (old new : Links) (p : ℕ) → is_never (get_or old.table.items p Never) ≡ true → p < length old.table.items → PutLast old new p
    → (ever : List ℕ) (taken : ℕ) → IsLinked old ever taken → IsLinked new (with_place ever p) taken
link_new old new p fresh inside put ever taken is =
    let absent : list_any (nat_eq p) ever ≡ false = not_true (list_any (nat_eq p) ever) (sym (is.known p inside) ∙ fresh) in
    subst (λ b. IsLinked new (cond b ever (ever ++ p ∷ [])) taken) (sym absent) (put_new old new ever taken p is (never_is (get_or old.table.items p Never) fresh) inside put)

pub link_old : (links : Links) (p : ℕ) → is_never (get_or links.table.items p Never) ≡ false → p < length links.table.items
    → (ever : List ℕ) (taken : ℕ) → IsLinked links ever taken → IsLinked links (with_place ever p) taken
link_old links p known inside ever taken is =
    let there : list_any (nat_eq p) ever ≡ true = not_false (list_any (nat_eq p) ever) (sym (is.known p inside) ∙ known) in
    subst (λ b. IsLinked links (cond b ever (ever ++ p ∷ [])) taken) (sym there) is

pub put_size : (old new : Links) (p : ℕ) → PutLast old new p → length new.table.items ≡ length old.table.items
put_size old new p put = ap length put.table ∙ led old.last
  where
    led : (last : Option ℕ) → length (led_on (set old.table.items p Last) last p) ≡ length old.table.items
    led None = length-set old.table.items p Last
    led (Some l) = length-set (set old.table.items p Last) l (Before p) ∙ length-set old.table.items p Last

-- what was taken is the next of those ever queued
pub take_some : (old new : Links) (ever : List ℕ) (taken p : ℕ) → IsLinked old ever taken → TakenFrom old new → old.head ≡ Some p → IsLinked new ever (taken + 1) × (slice_get ever taken ≡ Some p) × (taken < length ever)
take_some old new ever taken p is took h =
    let at : slice_get ever taken ≡ Some p = sym is.head ∙ h in
    let less = got ever taken p at in (
      record {
        linked = subst (λ t. AreLinked t ever) (sym took.table) is.linked;
        first = took.first ∙ is.first;
        head = took.head ∙ ap (behind old.table.items) h ∙ behind_linked old.table.items ever taken p is.linked at ∙ ap (slice_get ever) (omega arith);
        last = took.last ∙ is.last;
        known = λ q inside. ap (λ t. is_never (get_or t q Never)) took.table ∙ is.known q (subst (λ t. q < length t) took.table inside);
        room = ap (λ t. count_by is_never t + length ever) took.table ∙ is.room ∙ sym (ap length took.table);
        within = omega arith;
      },
      at,
      less,
    )
  where
    got : (ever : List ℕ) (k p : ℕ) → slice_get ever k ≡ Some p → k < length ever
    got [] k p h = cc
    got (q ∷ ever) zero p h = omega arith
    got (q ∷ ever) (suc k) p h = let less = got ever k p h in omega arith

-- where none waits all were taken, and nothing changes
pub take_none : (old new : Links) (ever : List ℕ) (taken : ℕ) → IsLinked old ever taken → TakenFrom old new → old.head ≡ None → IsLinked new ever taken × (slice_get ever taken ≡ None) × (taken ≡ length ever)
take_none old new ever taken is took h =
    let at : slice_get ever taken ≡ None = sym is.head ∙ h in
    let past = gone ever taken at in
    let within = is.within in (
      record {
        linked = subst (λ t. AreLinked t ever) (sym took.table) is.linked;
        first = took.first ∙ is.first;
        head = took.head ∙ ap (behind old.table.items) h ∙ sym at;
        last = took.last ∙ is.last;
        known = λ q inside. ap (λ t. is_never (get_or t q Never)) took.table ∙ is.known q (subst (λ t. q < length t) took.table inside);
        room = ap (λ t. count_by is_never t + length ever) took.table ∙ is.room ∙ sym (ap length took.table);
        within = is.within;
      },
      at,
      omega arith,
    )
  where
    gone : (ever : List ℕ) (k : ℕ) → slice_get ever k ≡ None → length ever ≤ k
    gone [] k h = omega arith
    gone (q ∷ ever) zero h = cc
    gone (q ∷ ever) (suc k) h = let more = gone ever k h in omega arith
