-- The arena: what a change of two links leaves, and a posting out of a chain.
use Rattle.std.proofs.Common.{◌≡◌, ◌≢◌, ◌⊎◌, ◌↔◌, ℕ, ◌+◌, ◌<◌, inl, inr, cond, List, [], ◌∷◌, ◌++◌, length, map, slice_get, Option, Some, None, is_some, option_map, count_by, sum_by, get_or, set, refl, sym, ap, subst, ◌∙◌, arith}
use Rattle.std.proofs.lemmas.Bool.{cases_eq, cases_lt}
use Rattle.std.proofs.lemmas.List.{append-nil, get_or_past, length-set}
use Rattle.std.proofs.lemmas.Option.{slice_get_within, slice_get-get_or}
use Rattle.std.proofs.Math.ListN.{get_or-map}
use Rattle.std.proofs.lemmas.List.Sums.{sum_by-cons, sum_by-set}
use Rattle.search_index.specs.Places.{Places, get, with_value, taken_count, Updates}
use Rattle.search_index.proofs.StoreLemmas.{updates_written, taken_within}
use Rattle.search_index.specs.Posting.{link, link_of, owner_of, owner_in, with_next, with_before, pair_of, other_side}
use Rattle.ordered_keys.specs.Numbers.{Among}
use Rattle.ordered_keys.proofs.NumberLemmas.{Among-left, Among-right}
use Rattle.search_index.specs.Chains.{Enters, HasChain, IsChain, IsLinked, Joins, IsWithout, IsWith, first_in, last_from}
use Rattle.search_index.specs.Net.{links, pairs, owners, changed_at, heads_without, Unlinks, held, used, net_of, IsSound, Takes, Adds, Pads}
use Rattle.search_index.proofs.OrderLemmas.{chain_kept, chain_members, enters_chain, first_among, last_in, linked_enters, sides_apart, unlinks_chain}
use Rattle.search_index.proofs.ChainLemmas.{alone, path, linked_unlinks, linked_pushes, linked_kept, linked_pads, length-heads_without, neighbours_differ, next_among, chained}
use Rattle.search_index.specs.declared.posting.Link.{Link}
use Rattle.search_index.specs.declared.posting.Side.{Side}
use Rattle.search_index.specs.declared.posting.Side.TheVariants as side
use Rattle.search_index.specs.declared.posting.Posting.{Posting}

pub cases_option : {X : Type 0} (o : Option X) → (o ≡ None) ⊎ ((x : X) × (o ≡ Some x))
cases_option None = inl refl
cases_option (Some x) = inr (x, refl)

changed_some : (s : Places) (p : ℕ) (f : Posting → Posting) (x : Posting) → get s p ≡ Some x → changed_at s (Some p) f ≡ with_value s p (f x)
changed_some s p f x e = rw (e, changed_at) refl

changed_none : (s : Places) (p : ℕ) (f : Posting → Posting) → get s p ≡ None → changed_at s (Some p) f ≡ s
changed_none s p f e = rw (e, changed_at) refl

updates : (s : Places) (p : ℕ) (f : Posting → Posting) (x : Posting) → get s p ≡ Some x → Updates s (changed_at s (Some p) f) p (Some (f x))
updates s p f x e = subst (λ t. Updates s t p (Some (f x))) (sym (changed_some s p f x e)) (updates_written s p (f x) (rw e refl))

other_read : (s : Places) (place : Option ℕ) (f : Posting → Posting) (q : ℕ) → place ≢ Some q → get (changed_at s place f) q ≡ get s q
other_read s None f q differs = refl
other_read s (Some p) f q differs = elim (cases_option (get s p)) [
  | inl e ↦ ap (λ t. get t q) (changed_none s p f e)
  | inr (x, e) ↦ (updates s p f x e).others q (λ same. differs (ap Some (sym same)))
]

here_read : (s : Places) (q : ℕ) (f : Posting → Posting) (x : Posting) → get s q ≡ Some x → get (changed_at s (Some q) f) q ≡ Some (f x)
here_read s q f x e = (updates s q f x e).changed

pub same_read : {Y : Type 0} (g : Posting → Y) (f : Posting → Posting) → ((x : Posting) → g (f x) ≡ g x) → (s : Places) (place : Option ℕ) (q : ℕ) → option_map g (get (changed_at s place f) q) ≡ option_map g (get s q)
same_read g f same s None q = refl
same_read g f same s (Some p) q = elim (cases_eq q p) [
  | inr differs ↦ ap (option_map g) (other_read s (Some p) f q (λ e. let back : p ≡ q = cc in differs (sym back)))
  | inl here ↦ elim (cases_option (get s p)) [
    | inl e ↦ ap (λ t. option_map g (get t q)) (changed_none s p f e)
    | inr (x, e) ↦ ap (λ z. option_map g (get (changed_at s (Some p) f) z)) here ∙ ap (option_map g) (here_read s p f x e) ∙ ap Some (same x) ∙ sym (ap (λ z. option_map g (get s z)) here ∙ ap (option_map g) e)
  ]
]

pub changed-len : (s : Places) (place : Option ℕ) (f : Posting → Posting) → taken_count (changed_at s place f) ≡ taken_count s
changed-len s None f = refl
changed-len s (Some p) f = elim (cases_option (get s p)) [
  | inl e ↦ ap taken_count (changed_none s p f e)
  | inr (x, e) ↦
      let count : Option Posting → ℕ = λ o. cond (is_some o) 1 0 in
      let sums = sum_by-set count s.slots p (Some (f x)) None (taken_within s p (rw e refl)) in
      let was : count (get s p) ≡ 1 = ap count e in
      let now : sum_by count (set s.slots p (Some (f x))) ≡ sum_by count s.slots = omega arith in
      ap taken_count (changed_some s p f x e) ∙ now
]

pub changed-capacity : (s : Places) (place : Option ℕ) (f : Posting → Posting) → (changed_at s place f).capacity ≡ s.capacity
changed-capacity s None f = refl
changed-capacity s (Some p) f = elim (cases_option (get s p)) [
  | inl e ↦ ap (λ (t : Places). t.capacity) (changed_none s p f e)
  | inr (x, e) ↦ ap (λ (t : Places). t.capacity) (changed_some s p f x e)
]

-- ---- links and owners

pub next_link : (s : Side) (n : Option ℕ) (x : Posting) → link_of s (with_next s n x) ≡ link (link_of s x).before n
next_link side.Term n x = refl
next_link side.Object n x = refl

pub before_link : (s : Side) (b : Option ℕ) (x : Posting) → link_of s (with_before s b x) ≡ link b (link_of s x).next
before_link side.Term b x = refl
before_link side.Object b x = refl

pub next_pair : (s : Side) (n : Option ℕ) (x : Posting) → pair_of (with_next s n x) ≡ pair_of x
next_pair side.Term n x = refl
next_pair side.Object n x = refl

pub before_pair : (s : Side) (b : Option ℕ) (x : Posting) → pair_of (with_before s b x) ≡ pair_of x
before_pair side.Term b x = refl
before_pair side.Object b x = refl

pub next_other : (s : Side) (n : Option ℕ) (x : Posting) → link_of (other_side s) (with_next s n x) ≡ link_of (other_side s) x
next_other side.Term n x = refl
next_other side.Object n x = refl

pub before_other : (s : Side) (b : Option ℕ) (x : Posting) → link_of (other_side s) (with_before s b x) ≡ link_of (other_side s) x
before_other side.Term b x = refl
before_other side.Object b x = refl

pub owner_pair : (s : Side) (x : Posting) → owner_in s (pair_of x) ≡ owner_of s x
owner_pair side.Term x = refl
owner_pair side.Object x = refl

read_link : (s : Side) (items : Places) (q : ℕ) (l : Link) → links s items q ≡ Some l → (x : Posting) × (get items q ≡ Some x) × (link_of s x ≡ l)
read_link s items q l e = elim (cases_option (get items q)) [
  | inl none ↦ let f : links s items q ≡ None = ap (option_map (link_of s)) none in absurd (cc)
  | inr (x, is) ↦ let f : links s items q ≡ Some (link_of s x) = ap (option_map (link_of s)) is in (x, is, let same : link_of s x ≡ l = cc in same)
]

-- both neighbours of a place were written
pub rejoined : Side → Places → Option ℕ → Option ℕ → Places
rejoined s items b n = changed_at (changed_at items b (with_next s n)) n (with_before s b)

pub joined : (s : Side) (items : Places) (b n : Option ℕ) → ((z : ℕ) → b ≡ Some z → n ≡ Some z → ⊥) → Joins (links s items) (links s (rejoined s items b n)) b n
unfolding rejoined
joined s items b n differ = record {
  front = λ x l e is.
      let read = read_link s items x l is in
      ap (option_map (link_of s)) (other_read (changed_at items b (with_next s n)) n (with_before s b) x (differ x e))
      ∙ ap (λ z. links s (changed_at items z (with_next s n)) x) e
      ∙ ap (option_map (link_of s)) (here_read items x (with_next s n) read.0 read.1)
      ∙ ap Some (next_link s n read.0) ∙ ap (λ (k : Link). Some (link k.before n)) read.2;
  back = λ x l e is.
      let read = read_link s items x l is in
      let between : get (changed_at items b (with_next s n)) x ≡ Some read.0 = other_read items b (with_next s n) x (λ f. differ x f e) ∙ read.1 in
      ap (λ z. links s (changed_at (changed_at items b (with_next s n)) z (with_before s b)) x) e
      ∙ ap (option_map (link_of s)) (here_read (changed_at items b (with_next s n)) x (with_before s b) read.0 between)
      ∙ ap Some (before_link s b read.0) ∙ ap (λ (k : Link). Some (link b k.next)) read.2;
  others = λ x e f. ap (option_map (link_of s)) (other_read (changed_at items b (with_next s n)) n (with_before s b) x f ∙ other_read items b (with_next s n) x e);
}

pub rejoined_same : {Y : Type 0} (g : Posting → Y) (s : Side) → ((n : Option ℕ) (x : Posting) → g (with_next s n x) ≡ g x) → ((b : Option ℕ) (x : Posting) → g (with_before s b x) ≡ g x) → (items : Places) (b n : Option ℕ) (q : ℕ) → option_map g (get (rejoined s items b n) q) ≡ option_map g (get items q)
unfolding rejoined
rejoined_same g s one two items b n q = same_read g (with_before s b) (two b) (changed_at items b (with_next s n)) n q ∙ same_read g (with_next s n) (one n) items b q

-- a posting out of one of its chains
pub unlinked : (s : Side) (old new : Places) (heads less : List (Option ℕ)) (place : ℕ) (x : Posting)
    → get old place ≡ Some x → IsLinked (links s old) (owners s (pairs old)) heads
    → new ≡ changed_at (changed_at old (link_of s x).before (with_next s (link_of s x).next)) (link_of s x).next (with_before s (link_of s x).before)
    → less ≡ heads_without heads (owner_of s x) (link_of s x).before (link_of s x).next
    → Unlinks s old new heads less place
unfolding rejoined
unlinked s old new heads less place x at was written headed =
    let b = (link_of s x).before in
    let n = (link_of s x).next in
    let whole : new ≡ rejoined s old b n = written in
    let mine : owners s (pairs old) place ≡ Some (owner_of s x) = ap (λ o. option_map (owner_in s) (option_map pair_of o)) at ∙ ap Some (owner_pair s x) in
    let is : links s old place ≡ Some (link_of s x) = ap (option_map (link_of s)) at in
    record {
      linked = λ owner without. subst (λ z. IsLinked (links s z) owner less) (sym whole) (subst (λ z. IsLinked (links s (rejoined s old b n)) owner z) (sym headed)
          (linked_unlinks (links s old) (links s (rejoined s old b n)) (owners s (pairs old)) owner heads (owner_of s x) place (link_of s x) was mine is
          (joined s old b n (neighbours_differ (links s old) (owners s (pairs old)) heads (owner_of s x) place (link_of s x) was mine is)) without));
      pairs = λ q. ap (λ z. pairs z q) whole ∙ rejoined_same pair_of s (next_pair s) (before_pair s) old b n q;
      other = λ q. ap (λ z. links (other_side s) z q) whole ∙ rejoined_same (link_of (other_side s)) s (next_other s) (before_other s) old b n q;
      len = ap taken_count written ∙ changed-len (changed_at old b (with_next s n)) n (with_before s b) ∙ changed-len old b (with_next s n);
      capacity = ap (λ (t : Places). t.capacity) written ∙ changed-capacity (changed_at old b (with_next s n)) n (with_before s b) ∙ changed-capacity old b (with_next s n);
      count = ap length headed ∙ length-heads_without heads (owner_of s x) b n;
      chain = λ h front back has.
          let here = (chain_members (links s old) (owners s (pairs old)) heads h (front ++ place ∷ back) was has place).0 (Among-right front (place ∷ back) place (inl refl)) in
          let same : owner_of s x ≡ h = cc in
          subst (λ z. HasChain (links s z) less h (front ++ back)) (sym whole) (subst (λ z. HasChain (links s (rejoined s old b n)) z h (front ++ back)) (sym headed)
          (subst (λ k. HasChain (links s (rejoined s old b n)) (heads_without heads k b n) h (front ++ back)) (sym same)
          (unlinks_chain (links s old) (links s (rejoined s old b n)) heads h place (link_of s x) front back (slice_get_within heads h has.first has.there) has is
          (joined s old b n (neighbours_differ (links s old) (owners s (pairs old)) heads (owner_of s x) place (link_of s x) was mine is)))));
    }

-- the owner of a posting has a head
pub owner_headed : (s : Side) (items : Places) (heads : List (Option ℕ)) (place : ℕ) (x : Posting) → get items place ≡ Some x → IsLinked (links s items) (owners s (pairs items)) heads → owner_of s x < length heads
owner_headed s items heads place x at linked = linked.headed place (owner_of s x) (ap (λ o. option_map (owner_in s) (option_map pair_of o)) at ∙ ap Some (owner_pair s x))

-- ---- what contracts see

pub held-net : (items : Places) (objects terms : List (Option ℕ)) (q : ℕ) → held (net_of items objects terms) q ≡ pairs items q
held-net items objects terms q = get_or-map (option_map pair_of) items.slots q None

counted : (slots : List (Option Posting)) → count_by is_some (map (option_map pair_of) slots) ≡ count_by is_some slots
counted [] = refl
counted (None ∷ slots) =
    let one = sum_by-cons (λ (o : Option (ℕ × ℕ)). cond (is_some o) 1 0) None (map (option_map pair_of) slots) in
    let two = sum_by-cons (λ (o : Option Posting). cond (is_some o) 1 0) None slots in
    omega (arith, counted slots, one, two)
counted (Some x ∷ slots) =
    let one = sum_by-cons (λ (o : Option (ℕ × ℕ)). cond (is_some o) 1 0) (Some (pair_of x)) (map (option_map pair_of) slots) in
    let two = sum_by-cons (λ (o : Option Posting). cond (is_some o) 1 0) (Some x) slots in
    omega (arith, counted slots, one, two)

pub used-net : (items : Places) (objects terms : List (Option ℕ)) → used (net_of items objects terms) ≡ taken_count items
used-net items objects terms = counted items.slots

-- ---- heads

pub headed_by : (m : ℕ → Option Link) (owner : ℕ → Option ℕ) (heads : List (Option ℕ)) (h p : ℕ) → IsLinked m owner heads → get_or heads h None ≡ Some p → owner p ≡ Some h
headed_by m owner heads h p linked e = elim (cases_lt h (length heads)) [
  | inl within ↦
      let at : slice_get heads h ≡ Some (Some p) = slice_get-get_or heads h None within ∙ ap Some e in
      let chain = linked.chain h (Some p) at in
      (chain.2 p).0 (next_among m None (Some p) chain.0 p chain.1 refl)
  | inr past ↦ let none : get_or heads h None ≡ None = get_or_past heads h None past in absurd (cc)
]

ended : (m : ℕ → Option Link) (first : Option ℕ) (ps : List ℕ) (q : ℕ) → IsChain m None first ps → first ≡ None → Among ps q → ⊥
ended m first [] q chain e a = a
ended m first (p ∷ ps) q (next, f, is, rest) e a = absurd (cc)

pub unheaded : (m : ℕ → Option Link) (owner : ℕ → Option ℕ) (heads : List (Option ℕ)) (h : ℕ) → IsLinked m owner heads → get_or heads h None ≡ None → (q : ℕ) → owner q ≡ Some h → ⊥
unheaded m owner heads h linked e q mine =
    let within = linked.headed q h mine in
    let at : slice_get heads h ≡ Some None = slice_get-get_or heads h None within ∙ ap Some e in
    let chain = linked.chain h None at in
    ended m None chain.0 q chain.1 refl ((chain.2 q).1 mine)

-- ---- a posting out of both chains

pub kept_side : (s : Side) (one two : Places) (heads : List (Option ℕ)) → ((q : ℕ) → pairs two q ≡ pairs one q) → ((q : ℕ) → links s two q ≡ links s one q) → IsLinked (links s one) (owners s (pairs one)) heads → IsLinked (links s two) (owners s (pairs two)) heads
kept_side s one two heads same linked was = linked_kept (links s one) (links s two) (owners s (pairs one)) (owners s (pairs two)) heads (λ q h e. linked q) (λ q. ap (option_map (owner_in s)) (same q)) was

removed_side : (s : Side) (old items less : Places) (heads fewer : List (Option ℕ)) (place : ℕ) → Updates items less place None → ((q : ℕ) → pairs items q ≡ pairs old q)
    → ((owner : ℕ → Option ℕ) → IsWithout (owners s (pairs old)) owner place → IsLinked (links s items) owner fewer) → IsLinked (links s less) (owners s (pairs less)) fewer
removed_side s old items less heads fewer place updates same linked =
    let owner = owners s (pairs less) in
    let gone : get less place ≡ None = updates.changed in
    let without : IsWithout (owners s (pairs old)) owner place = record {
      gone = ap (λ o. option_map (owner_in s) (option_map pair_of o)) gone;
      others = λ q differs. ap (λ o. option_map (owner_in s) (option_map pair_of o)) (updates.others q differs) ∙ ap (option_map (owner_in s)) (same q);
    } in
    linked_kept (links s items) (links s less) owner owner fewer
    (λ q h e. ap (option_map (link_of s)) (updates.others q (λ here. let none : owner q ≡ None = ap owner here ∙ without.gone in absurd (cc))))
    (λ q. refl) (linked owner without)

-- a posting was taken out
pub record IsTaken (items less : Places) (objects terms fewer_objects fewer_terms : List (Option ℕ)) (place : ℕ) (x : Posting) : Type 0 where
  pub sound : IsSound less fewer_objects fewer_terms
  pub takes : Takes (net_of items objects terms) (net_of less fewer_objects fewer_terms) x.object x.term
  pub at : takes.place ≡ place
  pub chain : (h : ℕ) (front back : List ℕ) → HasChain (links side.Object items) objects h (front ++ place ∷ back) → HasChain (links side.Object less) fewer_objects h (front ++ back)

pub taken : (items one two less : Places) (objects terms fewer_objects fewer_terms : List (Option ℕ)) (place : ℕ) (x : Posting)
    → IsSound items objects terms → get items place ≡ Some x → Unlinks side.Term items one terms fewer_terms place → Unlinks side.Object one two objects fewer_objects place
    → Updates two less place None → taken_count less + 1 ≡ taken_count two → less.capacity ≡ two.capacity → IsTaken items less objects terms fewer_objects fewer_terms place x
taken items one two less objects terms fewer_objects fewer_terms place x sound at of_term of_object updates len capacity =
    let pairs_one : (q : ℕ) → pairs one q ≡ pairs items q = of_term.pairs in
    let pairs_two : (q : ℕ) → pairs two q ≡ pairs items q = λ q. of_object.pairs q ∙ of_term.pairs q in
    let here : pairs items place ≡ Some (x.object, x.term) = ap (option_map pair_of) at in
    record {
      sound = record {
        of_objects = removed_side side.Object one two less objects fewer_objects place updates of_object.pairs of_object.linked;
        of_terms = removed_side side.Term items two less terms fewer_terms place updates pairs_two
            (λ owner without. linked_kept (links side.Term one) (links side.Term two) owner owner fewer_terms (λ q h e. of_object.other q) (λ q. refl) (of_term.linked owner without));
      };
      takes = record {
        place = place;
        was = held-net items objects terms place ∙ here;
        changes = record {
          at = held-net less fewer_objects fewer_terms place ∙ ap (option_map pair_of) updates.changed;
          others = λ q differs. held-net less fewer_objects fewer_terms q ∙ ap (option_map pair_of) (updates.others q differs) ∙ pairs_two q ∙ sym (held-net items objects terms q);
        };
        used = omega (arith, used-net items objects terms, used-net less fewer_objects fewer_terms, len, of_object.len, of_term.len);
        size = record { capacity = capacity ∙ of_object.capacity ∙ of_term.capacity; objects = of_object.count; terms = of_term.count };
      };
      at = refl;
      chain = λ h front back has.
          chain_kept (links side.Object two) (links side.Object less) fewer_objects h (front ++ back)
          (λ q a. ap (option_map (link_of side.Object)) (updates.others q (λ e. alone (links side.Object items) has.first front place back (path (links side.Object items) None has.first (front ++ place ∷ back) has.chain) (subst (λ z. Among (front ++ back) z) e a))))
          (of_object.chain h front back (chain_kept (links side.Object items) (links side.Object one) objects h (front ++ place ∷ back) (λ q a. of_term.other q) has));
    }

-- ---- a posting into both chains

side_pushes : (s : Side) (items t : Places) (owner more : ℕ → Option ℕ) (heads : List (Option ℕ)) (h place : ℕ) (first : Option ℕ)
    → IsLinked (links s items) owner heads → slice_get heads h ≡ Some first → IsWith owner more place h → links s items place ≡ None → links s t place ≡ Some (link None first)
    → ((q : ℕ) → q ≢ place → links s t q ≡ links s items q) → IsLinked (links s (changed_at t first (with_before s (Some place)))) more (set heads h (Some place))
side_pushes s items t owner more heads h place first linked at with none is same =
    let chain = linked.chain h first at in
    let not_place : (q : ℕ) → first ≡ Some q → q ≢ place = λ q e f.
    let known = chained (links s items) None first chain.0 q chain.1 (next_among (links s items) None first chain.0 q chain.1 e) in
    let no : links s items q ≡ None = ap (links s items) f ∙ none in absurd (cc) in
    linked_pushes (links s items) (links s (changed_at t first (with_before s (Some place)))) owner more heads h place first linked at with none
    (ap (option_map (link_of s)) (other_read t first (with_before s (Some place)) place (λ e. not_place place e refl)) ∙ is)
    (λ y l e f.
    let read = read_link s t y l (same y (not_place y e) ∙ f) in
    ap (λ z. links s (changed_at t z (with_before s (Some place))) y) e
    ∙ ap (option_map (link_of s)) (here_read t y (with_before s (Some place)) read.0 read.1)
    ∙ ap Some (before_link s (Some place) read.0) ∙ ap (λ (k : Link). Some (link (Some place) k.next)) read.2)
    (λ y differs e. ap (option_map (link_of s)) (other_read t first (with_before s (Some place)) y e) ∙ same y differs)

-- a place between its neighbours in a chain
between : Side → Places → ℕ → Option ℕ → Option ℕ → Places
between s one place before next = changed_at (changed_at one before (with_next s (Some place))) next (with_before s (Some place))

entered : (s : Side) (items one : Places) (place : ℕ) (b n : Option ℕ) → ((z : ℕ) → b ≡ Some z → n ≡ Some z → ⊥) → b ≢ Some place → n ≢ Some place → links s one place ≡ Some (link b n) → ((q : ℕ) → q ≢ place → links s one q ≡ links s items q)
    → Enters (links s items) (links s (between s one place b n)) place b n
unfolding between
entered s items one place b n differ not_b not_n is same = record {
  put = ap (option_map (link_of s)) (other_read (changed_at one b (with_next s (Some place))) n (with_before s (Some place)) place not_n ∙ other_read one b (with_next s (Some place)) place not_b) ∙ is;
  front = λ x l e at.
      let read = read_link s one x l (same x (λ f. not_b (e ∙ ap Some f)) ∙ at) in
      ap (option_map (link_of s)) (other_read (changed_at one b (with_next s (Some place))) n (with_before s (Some place)) x (differ x e))
      ∙ ap (λ z. links s (changed_at one z (with_next s (Some place))) x) e
      ∙ ap (option_map (link_of s)) (here_read one x (with_next s (Some place)) read.0 read.1)
      ∙ ap Some (next_link s (Some place) read.0) ∙ ap (λ (k : Link). Some (link k.before (Some place))) read.2;
  back = λ x l e at.
      let read = read_link s one x l (same x (λ f. not_n (e ∙ ap Some f)) ∙ at) in
      let middle : get (changed_at one b (with_next s (Some place))) x ≡ Some read.0 = other_read one b (with_next s (Some place)) x (λ f. differ x f e) ∙ read.1 in
      ap (λ z. links s (changed_at (changed_at one b (with_next s (Some place))) z (with_before s (Some place))) x) e
      ∙ ap (option_map (link_of s)) (here_read (changed_at one b (with_next s (Some place))) x (with_before s (Some place)) read.0 middle)
      ∙ ap Some (before_link s (Some place) read.0) ∙ ap (λ (k : Link). Some (link (Some place) k.next)) read.2;
  others = λ x off e f. ap (option_map (link_of s)) (other_read (changed_at one b (with_next s (Some place))) n (with_before s (Some place)) x f ∙ other_read one b (with_next s (Some place)) x e) ∙ same x off;
}

-- a posting was put in, between two of its object
pub record IsAdded (items more : Places) (objects terms more_objects more_terms : List (Option ℕ)) (object term place : ℕ) (front back : List ℕ) : Type 0 where
  pub sound : IsSound more more_objects more_terms
  pub adds : Adds (net_of items objects terms) (net_of more more_objects more_terms) object term
  pub at : adds.place ≡ place
  pub chain : HasChain (links side.Object more) more_objects object (front ++ place ∷ back)

pub added : (items one two three four : Places) (objects terms : List (Option ℕ)) (object term place : ℕ) (before next first_term : Option ℕ) (front back : List ℕ)
    → IsSound items objects terms → HasChain (links side.Object items) objects object (front ++ back) → last_from None front ≡ before → first_in back ≡ next → slice_get terms term ≡ Some first_term → get items place ≡ None
    → Updates items one place (Some (record { object = object; term = term; of_object = link before next; of_term = link None first_term }))
    → taken_count one ≡ taken_count items + 1 → one.capacity ≡ items.capacity
    → two ≡ changed_at one before (with_next side.Object (Some place)) → three ≡ changed_at two next (with_before side.Object (Some place)) → four ≡ changed_at three first_term (with_before side.Term (Some place))
    → IsAdded items four objects terms (heads_without objects object before (Some place)) (set terms term (Some place)) object term place front back
unfolding between
added items one two three four objects terms object term place before next first_term front back sound has last firsts at_term free updates len capacity second third fourth =
    let x : Posting = record { object = object; term = term; of_object = link before next; of_term = link None first_term } in
    let heads : List (Option ℕ) = heads_without objects object before (Some place) in
    let pairs_two : (q : ℕ) → pairs two q ≡ pairs one q = λ q. ap (λ z. pairs z q) second ∙ same_read pair_of (with_next side.Object (Some place)) (next_pair side.Object (Some place)) one before q in
    let pairs_three : (q : ℕ) → pairs three q ≡ pairs one q = λ q. ap (λ z. pairs z q) third ∙ same_read pair_of (with_before side.Object (Some place)) (before_pair side.Object (Some place)) two next q ∙ pairs_two q in
    let pairs_four : (q : ℕ) → pairs four q ≡ pairs one q = λ q. ap (λ z. pairs z q) fourth ∙ same_read pair_of (with_before side.Term (Some place)) (before_pair side.Term (Some place)) three first_term q ∙ pairs_three q in
    let terms_two : (q : ℕ) → links side.Term two q ≡ links side.Term one q = λ q. ap (λ z. links side.Term z q) second ∙ same_read (link_of side.Term) (with_next side.Object (Some place)) (next_other side.Object (Some place)) one before q in
    let terms_three : (q : ℕ) → links side.Term three q ≡ links side.Term one q = λ q. ap (λ z. links side.Term z q) third ∙ same_read (link_of side.Term) (with_before side.Object (Some place)) (before_other side.Object (Some place)) two next q ∙ terms_two q in
    let objects_four : (q : ℕ) → links side.Object four q ≡ links side.Object three q = λ q. ap (λ z. links side.Object z q) fourth ∙ same_read (link_of side.Object) (with_before side.Term (Some place)) (before_other side.Term (Some place)) three first_term q in
    let with : (s : Side) → IsWith (owners s (pairs items)) (owners s (pairs four)) place (owner_of s x) = λ s. record {
      free = ap (λ o. option_map (owner_in s) (option_map pair_of o)) free;
      put = ap (option_map (owner_in s)) (pairs_four place ∙ ap (option_map pair_of) updates.changed) ∙ ap Some (owner_pair s x);
      others = λ q differs. ap (option_map (owner_in s)) (pairs_four q ∙ ap (option_map pair_of) (updates.others q differs));
    } in
    let members : (q : ℕ) → Among (front ++ back) q ↔ (owners side.Object (pairs items) q ≡ Some object) = chain_members (links side.Object items) (owners side.Object (pairs items)) objects object (front ++ back) sound.of_objects has in
    let out : Among (front ++ back) place → ⊥ = λ a. let mine = (members place).0 a in let none : owners side.Object (pairs items) place ≡ None = ap (λ o. option_map (owner_in side.Object) (option_map pair_of o)) free in absurd (cc) in
    let differ : (z : ℕ) → before ≡ Some z → next ≡ Some z → ⊥ = λ z e f. sides_apart (links side.Object items) has.first front back z (path (links side.Object items) None has.first (front ++ back) has.chain) (last_in front z (last ∙ e)) (first_among back z (firsts ∙ f)) in
    let whole : three ≡ between side.Object one place before next = third ∙ ap (λ z. changed_at z next (with_before side.Object (Some place))) second in
    let enters : Enters (links side.Object items) (links side.Object three) place before next =
    subst (λ z. Enters (links side.Object items) (links side.Object z) place before next) (sym whole)
    (entered side.Object items one place before next differ (λ e. out (Among-left front back place (last_in front place (last ∙ e)))) (λ e. out (Among-right front back place (first_among back place (firsts ∙ e))))
    (ap (option_map (link_of side.Object)) updates.changed) (λ q differs. ap (option_map (link_of side.Object)) (updates.others q differs))) in
    let in_three : IsLinked (links side.Object three) (owners side.Object (pairs four)) heads =
    linked_enters (links side.Object items) (links side.Object three) (owners side.Object (pairs items)) (owners side.Object (pairs four)) objects object place before next front back sound.of_objects has last firsts (with side.Object) enters in
    let in_four : IsLinked (links side.Term four) (owners side.Term (pairs four)) (set terms term (Some place)) =
    subst (λ z. IsLinked (links side.Term z) (owners side.Term (pairs four)) (set terms term (Some place))) (sym fourth)
    (side_pushes side.Term items three (owners side.Term (pairs items)) (owners side.Term (pairs four)) terms term place first_term sound.of_terms at_term (with side.Term)
    (ap (option_map (link_of side.Term)) free) (terms_three place ∙ ap (option_map (link_of side.Term)) updates.changed) (λ q differs. terms_three q ∙ ap (option_map (link_of side.Term)) (updates.others q differs))) in
    record {
      sound = record {
        of_objects = linked_kept (links side.Object three) (links side.Object four) (owners side.Object (pairs four)) (owners side.Object (pairs four)) heads (λ q h e. objects_four q) (λ q. refl) in_three;
        of_terms = in_four;
      };
      adds = record {
        place = place;
        was = held-net items objects terms place ∙ ap (option_map pair_of) free;
        changes = record {
          at = held-net four heads (set terms term (Some place)) place ∙ pairs_four place ∙ ap (option_map pair_of) updates.changed;
          others = λ q differs. held-net four heads (set terms term (Some place)) q ∙ pairs_four q ∙ ap (option_map pair_of) (updates.others q differs) ∙ sym (held-net items objects terms q);
        };
        used = omega (
          arith,
          used-net items objects terms,
          used-net four heads (set terms term (Some place)),
          len,
          ap taken_count second ∙ changed-len one before (with_next side.Object (Some place)),
          ap taken_count third ∙ changed-len two next (with_before side.Object (Some place)),
          ap taken_count fourth ∙ changed-len three first_term (with_before side.Term (Some place)),
        );
        size = record {
          capacity = ap (λ (t : Places). t.capacity) fourth ∙ changed-capacity three first_term (with_before side.Term (Some place)) ∙ ap (λ (t : Places). t.capacity) third ∙ changed-capacity two next (with_before side.Object (Some place)) ∙ ap (λ (t : Places). t.capacity) second ∙ changed-capacity one before (with_next side.Object (Some place)) ∙ capacity;
          objects = length-heads_without objects object before (Some place);
          terms = length-set terms term (Some place);
        };
      };
      at = refl;
      chain = chain_kept (links side.Object three) (links side.Object four) heads object (front ++ place ∷ back) (λ q a. objects_four q)
          (enters_chain (links side.Object items) (links side.Object three) objects object place before next front back (slice_get_within objects object has.first has.there) has last firsts enters out);
    }

-- ---- more heads, and more room

pub linked_pads_to : (m : ℕ → Option Link) (owner : ℕ → Option ℕ) (heads more : List (Option ℕ)) → Pads heads more → IsLinked m owner heads → IsLinked m owner more
linked_pads_to m owner heads more pads linked = subst (λ z. IsLinked m owner z) (sym pads.1) (linked_pads m owner heads pads.0 linked)

pub sound_pads : (items : Places) (objects more_objects terms more_terms : List (Option ℕ)) → Pads objects more_objects → Pads terms more_terms → IsSound items objects terms → IsSound items more_objects more_terms
sound_pads items objects more_objects terms more_terms one two sound = record {
  of_objects = linked_pads_to (links side.Object items) (owners side.Object (pairs items)) objects more_objects one sound.of_objects;
  of_terms = linked_pads_to (links side.Term items) (owners side.Term (pairs items)) terms more_terms two sound.of_terms;
}

pub no_pads : (heads : List (Option ℕ)) → Pads heads heads
no_pads heads = (0, sym (append-nil heads))

pub sound_reserves : (items roomy : Places) (objects terms : List (Option ℕ)) → roomy ≡ record items { capacity = roomy.capacity } → IsSound items objects terms → IsSound roomy objects terms
sound_reserves items roomy objects terms same sound = subst (λ z. IsSound z objects terms) (sym same) (record { of_objects = sound.of_objects; of_terms = sound.of_terms })
