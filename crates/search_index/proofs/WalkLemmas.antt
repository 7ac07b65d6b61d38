-- A walk along a chain comes to each of its places once.
use Rattle.std.proofs.Common.{◌≡◌, ◌≢◌, ◌↔◌, ℕ, ◌<◌, ◌≤◌, inl, inr, true, false, eqb, ◌||◌, List, [], ◌∷◌, ◌++◌, length, Option, Some, None, option_map, Result, Ok, Err, IfOk, get_or, refl, sym, ap, subst, ◌∙◌, arith}
use Rattle.std.specs.List.{IsDistinct, AllByRecursion, list_any}
use Rattle.std.proofs.lemmas.Bool.{cases_Bool, cases_lt, false≢true}
use Rattle.std.proofs.lemmas.Option.{slice_get-get_or}
use Rattle.std.proofs.lemmas.List.{append_assoc, get_or_past, length-append}
use Rattle.std.proofs.lemmas.Map.Steps.{length-le_from_distinct_below}
use Rattle.search_index.specs.Places.{Places, get}
use Rattle.ordered_keys.specs.Numbers.{Among}
use Rattle.search_index.specs.Chains.{IsLinked, IsPath}
use Rattle.search_index.specs.Posting.{link_of, other_side, owner_in, owner_of, pair_of}
use Rattle.search_index.specs.Net.{links, pairs, owners, held, net_of, IsSound, Has, HasNone, IsUnused, Leads}
use Rattle.ordered_keys.proofs.NumberLemmas.{Among-left, Among-right, Among-split}
use Rattle.search_index.proofs.ChainLemmas.{apart, path}
use Rattle.search_index.proofs.NetLemmas.{cases_option, held-net, headed_by, unheaded}
use Rattle.search_index.specs.declared.posting.Link.{Link}
use Rattle.search_index.specs.declared.posting.Side.{Side}
use Rattle.search_index.specs.declared.posting.Side.TheVariants as side
use Rattle.search_index.specs.declared.posting.Posting.{Posting}

eq_other : (m n : ℕ) → m ≢ n → eqb m n ≡ false
eq_other m n h = grind arith

same_eq : (m n : ℕ) → eqb m n ≡ true → m ≡ n
same_eq m n h = grind arith

all_apart : (p : ℕ) (ps : List ℕ) → (Among ps p → ⊥) → AllByRecursion (λ y. eqb p y ≡ false) ps
all_apart p [] out = tt
all_apart p (y ∷ ys) out = (eq_other p y (λ e. out (inl (sym e))), all_apart p ys (λ a. out (inr a)))

distinct : (m : ℕ → Option Link) (first : Option ℕ) (ps : List ℕ) → IsPath m first ps → IsDistinct eqb ps
unfolding IsDistinct
distinct m first [] h = tt
distinct m first (p ∷ ps) (l, e, is, rest) = (all_apart p ps (apart m first p ps (l, e, is, rest)), distinct m l.next ps rest)

among : (ps : List ℕ) (q : ℕ) → list_any (eqb q) ps ≡ true → Among ps q
among [] q h = absurd (false≢true h)
among (y ∷ ys) q h = elim (cases_Bool (eqb q y)) [
  | inl same ↦ inl (sym (same_eq q y same))
  | inr other ↦ inr (among ys q (sym (ap (λ b. b || list_any (eqb q) ys) other) ∙ h))
]

pub path_length : (m : ℕ → Option Link) (first : Option ℕ) (ps : List ℕ) (n : ℕ) → IsPath m first ps → ((q : ℕ) → Among ps q → q < n) → length ps ≤ n
path_length m first ps n h below = length-le_from_distinct_below ps n (distinct m first ps h) (λ q e. below q (among ps q e))

pub owned : (s : Side) (items : Places) (q h : ℕ) → owners s (pairs items) q ≡ Some h → q < length items.slots
owned s items q h e = elim (cases_lt q (length items.slots)) [
  | inl within ↦ within
  | inr past ↦
      let gone : get items q ≡ None = get_or_past items.slots q None past in
      let none : owners s (pairs items) q ≡ None = ap (λ o. option_map (owner_in s) (option_map pair_of o)) gone in
      absurd (cc)
]

-- a walk has found what the places behind it have at their other side, and the others of the chain lie ahead
pub record IsWalk (s : Side) (items : Places) (owner : ℕ) (first : Option ℕ) (found : List ℕ) (at : Option ℕ) : Type 0 where
  pub done : List ℕ
  pub rest : List ℕ
  pub whole : IsPath (links s items) first (done ++ rest)
  pub left : IsPath (links s items) at rest
  pub members : (q : ℕ) → Among (done ++ rest) q ↔ (owners s (pairs items) q ≡ Some owner)
  pub seen : (o : ℕ) → Among found o ↔ ((q : ℕ) × Among done q × (owners (other_side s) (pairs items) q ≡ Some o))
  pub count : length found ≡ length done

pub walk_begins : (s : Side) (items : Places) (heads : List (Option ℕ)) (owner : ℕ) (first : Option ℕ) → IsLinked (links s items) (owners s (pairs items)) heads → first ≡ get_or heads owner None → IsWalk s items owner first [] first
walk_begins s items heads owner first linked e = elim (cases_lt owner (length heads)) [
  | inl within ↦
      let at = slice_get-get_or heads owner None within ∙ ap Some (sym e) in
      let chain = linked.chain owner first at in
      let whole = path (links s items) None first chain.0 chain.1 in
      record { done = []; rest = chain.0; whole = whole; left = whole; members = chain.2; seen = λ o. (λ a. absurd a, λ t. absurd t.1); count = refl }
  | inr past ↦
      let none : first ≡ None = e ∙ get_or_past heads owner None past in
      record { done = []; rest = []; whole = none; left = none; members = λ q. (λ a. absurd a, λ mine. let within = linked.headed q owner mine in absurd (omega arith)); seen = λ o. (λ a. absurd a, λ t. absurd t.1); count = refl }
]

pub record Steps (s : Side) (items : Places) (owner : ℕ) (first : Option ℕ) (found : List ℕ) (place : ℕ) (x : Posting) : Type 0 where
  pub after : IsWalk s items owner first (found ++ owner_in (other_side s) (pair_of x) ∷ []) (link_of s x).next
  pub within : length found < length items.slots

pub walk_there : (s : Side) (items : Places) (owner : ℕ) (first : Option ℕ) (found : List ℕ) (at : Option ℕ) (place : ℕ) → IsWalk s items owner first found at → at ≡ Some place → (x : Posting) × (get items place ≡ Some x)
walk_there s items owner first found at place walk e = there walk.rest walk.left
  where
    there : (rest : List ℕ) → IsPath (links s items) at rest → (x : Posting) × (get items place ≡ Some x)
    there [] none = absurd (cc)
    there (p ∷ rest) (l, f, is, more) =
        let same : p ≡ place = cc in
        elim (cases_option (get items p)) [
          | inl gone ↦ let none : links s items p ≡ None = ap (option_map (link_of s)) gone in absurd (cc)
          | inr (x, there_is) ↦ (x, ap (get items) (sym same) ∙ there_is)
        ]

pub walk_steps : (s : Side) (items : Places) (owner : ℕ) (first : Option ℕ) (found : List ℕ) (at : Option ℕ) (place : ℕ) (x : Posting) → IsWalk s items owner first found at → at ≡ Some place → get items place ≡ Some x → Steps s items owner first found place x
walk_steps s items owner first found at place x walk e is_x = steps walk.rest walk.whole walk.left walk.members
  where
    done : List ℕ
    done = walk.done

    other : ℕ
    other = owner_in (other_side s) (pair_of x)

    steps : (rest : List ℕ) → IsPath (links s items) first (done ++ rest) → IsPath (links s items) at rest → ((q : ℕ) → Among (done ++ rest) q ↔ (owners s (pairs items) q ≡ Some owner)) → Steps s items owner first found place x
    steps [] whole none members = absurd (cc)
    steps (p ∷ rest) whole (l, f, is, more) members =
        let same : p ≡ place = cc in
        let link_is : links s items p ≡ Some (link_of s x) = ap (links s items) same ∙ ap (option_map (link_of s)) is_x in
        let next : l ≡ link_of s x = cc in
        let mine : owners (other_side s) (pairs items) p ≡ Some other = ap (owners (other_side s) (pairs items)) same ∙ ap (λ o. option_map (owner_in (other_side s)) (option_map pair_of o)) is_x in
        let shift : done ++ p ∷ rest ≡ (done ++ p ∷ []) ++ rest = sym (append_assoc done (p ∷ []) rest) in
        let long = path_length (links s items) first (done ++ p ∷ rest) (length items.slots) whole (λ q a. owned s items q owner ((members q).0 a)) in
        let sizes = length-append done (p ∷ rest) in
        record {
          after = record {
            done = done ++ p ∷ [];
            rest = rest;
            whole = subst (λ z. IsPath (links s items) first z) shift whole;
            left = subst (λ (z : Link). IsPath (links s items) z.next rest) next more;
            members = subst (λ (z : List ℕ). (q : ℕ) → Among z q ↔ (owners s (pairs items) q ≡ Some owner)) shift members;
            seen = λ o. (
              λ a. elim (Among-split found (other ∷ []) o a) [
                | inl b ↦ let old = (walk.seen o).0 b in (old.0, Among-left done (p ∷ []) old.0 old.1, old.2)
                | inr (inl b) ↦ (p, Among-right done (p ∷ []) p (inl refl), mine ∙ ap Some b)
                | inr (inr b) ↦ absurd b
              ],
              λ t. elim (Among-split done (p ∷ []) t.0 t.1) [
                | inl b ↦ Among-left found (other ∷ []) o ((walk.seen o).1 (t.0, b, t.2))
                | inr (inl b) ↦ Among-right found (other ∷ []) o (inl (let theirs : owners (other_side s) (pairs items) t.0 ≡ Some o = t.2 in let here : owners (other_side s) (pairs items) t.0 ≡ Some other = ap (owners (other_side s) (pairs items)) (sym b) ∙ mine in let one : other ≡ o = cc in one))
                | inr (inr b) ↦ absurd b
              ],
            );
            count = omega (arith, length-append found (other ∷ []), length-append done (p ∷ []), walk.count);
          };
          within = omega (arith, long, sizes, walk.count);
        }

pub walk_ends : (s : Side) (items : Places) (owner : ℕ) (first : Option ℕ) (found : List ℕ) (at : Option ℕ) → IsWalk s items owner first found at → at ≡ None → (other : ℕ) → Among found other ↔ Leads s items owner other
walk_ends s items owner first found at walk e other = ends walk.rest walk.left walk.members
  where
    ends : (rest : List ℕ) → IsPath (links s items) at rest → ((q : ℕ) → Among (walk.done ++ rest) q ↔ (owners s (pairs items) q ≡ Some owner)) → Among found other ↔ Leads s items owner other
    ends (p ∷ rest) (l, f, is, more) members = absurd (cc)
    ends [] none members = (
      λ a. let old = (walk.seen other).0 a in (old.0, (members old.0).0 (Among-left walk.done [] old.0 old.1), old.2),
      λ h. (walk.seen other).1 (h.0, elim (Among-split walk.done [] h.0 ((members h.0).1 h.1)) [ inl a ↦ a | inr b ↦ absurd b ], h.2),
    )

-- the number of a posting's owner is that of its pair
pub owner_same : (s : Side) (x : Posting) → owner_of s x ≡ owner_in s (pair_of x)
owner_same side.Term x = refl
owner_same side.Object x = refl

has_pair : (items : Places) (objects terms : List (Option ℕ)) (q object term : ℕ) → owners side.Term (pairs items) q ≡ Some term → owners side.Object (pairs items) q ≡ Some object → held (net_of items objects terms) q ≡ Some (object, term)
has_pair items objects terms q object term t o = elim (cases_option (pairs items q)) [
  | inl none ↦ let no : owners side.Term (pairs items) q ≡ None = ap (option_map (owner_in side.Term)) none in absurd (cc)
  | inr (pair, is) ↦
      let one : owners side.Term (pairs items) q ≡ Some pair.1 = ap (option_map (owner_in side.Term)) is in
      let two : owners side.Object (pairs items) q ≡ Some pair.0 = ap (option_map (owner_in side.Object)) is in
      let e : pair.1 ≡ term = cc in
      let f : pair.0 ≡ object = cc in
      held-net items objects terms q ∙ is ∙ ap Some (λ i. (f i, e i))
]

pub owner_held : (s : Side) (items : Places) (objects terms : List (Option ℕ)) (q object term : ℕ) → held (net_of items objects terms) q ≡ Some (object, term) → owners s (pairs items) q ≡ Some (owner_in s (object, term))
owner_held s items objects terms q object term e = ap (option_map (owner_in s)) (sym (held-net items objects terms q) ∙ e)

-- a term leads to the objects that have it
pub to_objects : (items : Places) (objects terms : List (Option ℕ)) (term object : ℕ) → Leads side.Term items term object ↔ Has (net_of items objects terms) object term
to_objects items objects terms term object = (
  λ h. (h.0, has_pair items objects terms h.0 object term h.1 h.2),
  λ h. (h.0, owner_held side.Term items objects terms h.0 object term h.1, owner_held side.Object items objects terms h.0 object term h.1),
)

-- and an object to the terms that it has
pub to_terms : (items : Places) (objects terms : List (Option ℕ)) (object term : ℕ) → Leads side.Object items object term ↔ Has (net_of items objects terms) object term
to_terms items objects terms object term = (
  λ h. (h.0, has_pair items objects terms h.0 object term h.2 h.1),
  λ h. (h.0, owner_held side.Object items objects terms h.0 object term h.1, owner_held side.Term items objects terms h.0 object term h.1),
)

-- what a result promises, said otherwise
pub told_so : {T E : Type 0} (P Q : T → Type 0) (r : Result T E) → ((x : T) → P x → Q x) → IfOk r P → IfOk r Q
told_so P Q (Ok x) so told = so x told
told_so P Q (Err e) so told = tt

pub either_way : {A B C : Type 0} → A ↔ B → B ↔ C → A ↔ C
either_way one other = (λ a. other.0 (one.0 a), λ c. one.1 (other.1 c))

-- ---- heads

pub no_posting : (items : Places) (objects terms : List (Option ℕ)) (object : ℕ) → IsSound items objects terms → get_or objects object None ≡ None → HasNone (net_of items objects terms) object
no_posting items objects terms object sound e term has =
    unheaded (links side.Object items) (owners side.Object (pairs items)) objects object sound.of_objects e has.0 (owner_held side.Object items objects terms has.0 object term has.1)

pub unused_is : (items : Places) (objects terms : List (Option ℕ)) (term : ℕ) → IsSound items objects terms → (get_or terms term None ≡ None) ↔ IsUnused (net_of items objects terms) term
unused_is items objects terms term sound = (
  λ e object has. unheaded (links side.Term items) (owners side.Term (pairs items)) terms term sound.of_terms e has.0 (owner_held side.Term items objects terms has.0 object term has.1),
  λ unused. elim (cases_option (get_or terms term None)) [
    | inl none ↦ none
    | inr (p, is) ↦
        let mine = headed_by (links side.Term items) (owners side.Term (pairs items)) terms term p sound.of_terms is in
        elim (cases_option (pairs items p)) [
          | inl gone ↦ let no : owners side.Term (pairs items) p ≡ None = ap (option_map (owner_in side.Term)) gone in absurd (cc)
          | inr (pair, at) ↦
              let one : owners side.Term (pairs items) p ≡ Some pair.1 = ap (option_map (owner_in side.Term)) at in
              let e : pair.1 ≡ term = cc in
              absurd (unused pair.0 (p, held-net items objects terms p ∙ at ∙ ap Some (λ i. (pair.0, e i))))
        ]
  ],
)

-- the first place of an object's chain has a posting of that object
pub first_there : (items : Places) (objects terms : List (Option ℕ)) (object place : ℕ) → IsSound items objects terms → get_or objects object None ≡ Some place → (x : Posting) × (get items place ≡ Some x) × (x.object ≡ object)
first_there items objects terms object place sound e =
    let mine = headed_by (links side.Object items) (owners side.Object (pairs items)) objects object place sound.of_objects e in
    elim (cases_option (get items place)) [
      | inl gone ↦ let no : owners side.Object (pairs items) place ≡ None = ap (λ o. option_map (owner_in side.Object) (option_map pair_of o)) gone in absurd (cc)
      | inr (x, is) ↦
          let one : owners side.Object (pairs items) place ≡ Some x.object = ap (λ o. option_map (owner_in side.Object) (option_map pair_of o)) is in
          (x, is, let same : x.object ≡ object = cc in same)
    ]
