-- A chain in its order: what a change of the links leaves of it.
use Rattle.std.proofs.Common.{◌≡◌, ◌≢◌, ◌↔◌, ℕ, zero, suc, ◌<◌, ◌≤◌, inl, inr, List, [], ◌∷◌, ◌++◌, length, Option, Some, None, slice_get, refl, sym, ap, subst, ◌∙◌, arith}
use Rattle.std.proofs.lemmas.Bool.{cases_eq}
use Rattle.std.proofs.lemmas.Option.{slice_get_within}
use Rattle.ordered_keys.specs.Numbers.{Among}
use Rattle.ordered_keys.proofs.NumberLemmas.{Among-left, Among-right, Among-split}
use Rattle.search_index.specs.Posting.{link}
use Rattle.search_index.specs.Net.{heads_without}
use Rattle.search_index.specs.Chains.{Enters, HasChain, IsChain, IsLinked, IsPath, IsWith, Joins, first_in, last_from, next_in, walk}
use Rattle.search_index.specs.declared.posting.Link.{Link}
use Rattle.search_index.proofs.ChainLemmas.{apart, heads_without-other, kept, length-heads_without, one_path, path, slice_get-set_same, unlinks_first, unlinks_later}

-- ---- the first and the last of some places

pub first_is : (m : ℕ → Option Link) (b first : Option ℕ) (ps : List ℕ) → IsChain m b first ps → first ≡ first_in ps
first_is m b first [] h = h
first_is m b first (p ∷ ps) (next, e, is, rest) = e

pub first_among : (ps : List ℕ) (z : ℕ) → first_in ps ≡ Some z → Among ps z
first_among [] z e = absurd (cc)
first_among (p ∷ ps) z e = let same : p ≡ z = cc in inl same

pub last_some : (x : ℕ) (xs : List ℕ) → (z : ℕ) × (last_from (Some x) xs ≡ Some z) × Among (x ∷ xs) z
last_some x [] = (x, refl, inl refl)
last_some x (y ∷ ys) = let later = last_some y ys in (later.0, later.1, inr later.2)

pub last_among : (x : ℕ) (xs : List ℕ) (z : ℕ) → last_from (Some x) xs ≡ Some z → Among (x ∷ xs) z
last_among x xs z e =
    let last = last_some x xs in
    let at = last.1 in
    let same : last.0 ≡ z = cc in
    subst (λ w. Among (x ∷ xs) w) same last.2

pub last_in : (front : List ℕ) (z : ℕ) → last_from None front ≡ Some z → Among front z
last_in [] z e = absurd (cc)
last_in (x ∷ xs) z e = last_among x xs z e

-- the last of the places in front leads to the first of those behind
pub next_is : (m : ℕ → Option Link) (b first : Option ℕ) (x : ℕ) (xs ys : List ℕ) (z : ℕ) → IsChain m b first (x ∷ (xs ++ ys)) → last_from (Some x) xs ≡ Some z → (c : Option ℕ) × (m z ≡ Some (link c (first_in ys)))
next_is m b first x [] ys z (next, e, is, rest) at =
    let same : x ≡ z = cc in
    (b, ap m (sym same) ∙ is ∙ ap (λ n. Some (link b n)) (first_is m (Some x) next ys rest))
next_is m b first x (y ∷ xs) ys z (next, e, is, rest) at = next_is m (Some x) next y xs ys z rest at

-- no place stands on both sides
pub sides_apart : (m : ℕ → Option Link) (first : Option ℕ) (xs ys : List ℕ) (z : ℕ) → IsPath m first (xs ++ ys) → Among xs z → Among ys z → ⊥
sides_apart m first [] ys z h a b = a
sides_apart m first (x ∷ xs) ys z (l, e, is, rest) (inl s) b = apart m first x (xs ++ ys) (l, e, is, rest) (Among-right xs ys x (subst (λ w. Among ys w) (sym s) b))
sides_apart m first (x ∷ xs) ys z (l, e, is, rest) (inr a) b = sides_apart m l.next xs ys z rest a b

-- ---- whose chain it is

pub chain_members : (m : ℕ → Option Link) (owner : ℕ → Option ℕ) (heads : List (Option ℕ)) (h : ℕ) (ps : List ℕ) → IsLinked m owner heads → HasChain m heads h ps → (q : ℕ) → Among ps q ↔ (owner q ≡ Some h)
chain_members m owner heads h ps linked has q =
    let old = linked.chain h has.first has.there in
    let same : old.0 ≡ ps = one_path m has.first old.0 ps (path m None has.first old.0 old.1) (path m None has.first ps has.chain) in
    subst (λ z. Among z q ↔ (owner q ≡ Some h)) same (old.2 q)

pub chain_kept : (m n : ℕ → Option Link) (heads : List (Option ℕ)) (h : ℕ) (ps : List ℕ) → ((q : ℕ) → Among ps q → n q ≡ m q) → HasChain m heads h ps → HasChain n heads h ps
chain_kept m n heads h ps same has = record { first = has.first; there = has.there; chain = kept m n None has.first ps same has.chain }

-- ---- a place out of its chain

pub unlinks_chain : (m n : ℕ → Option Link) (heads : List (Option ℕ)) (h p : ℕ) (l : Link) (front back : List ℕ) → h < length heads → HasChain m heads h (front ++ p ∷ back) → m p ≡ Some l → Joins m n l.before l.next → HasChain n (heads_without heads h l.before l.next) h (front ++ back)
unlinks_chain m n heads h p l [] back within has is joins =
    let later = unlinks_first m n None has.first p l back has.chain is joins (λ x f a. absurd (cc)) in
    record { first = l.next; there = subst (λ z. slice_get (heads_without heads h z l.next) h ≡ Some l.next) (sym later.0) (slice_get-set_same heads h l.next within); chain = subst (λ z. IsChain n z l.next back) later.0 (subst (λ z. IsChain n z l.next back) (sym later.0) later.1) }
unlinks_chain m n heads h p l (x ∷ xs) back within has is joins =
    let later = unlinks_later m n None has.first x xs p l back has.chain is joins in
    record { first = has.first; there = subst (λ z. slice_get (heads_without heads h z l.next) h ≡ Some has.first) (sym later.1) has.there; chain = later.4 }

-- ---- a place into a chain

behind_new : (m n : ℕ → Option Link) (before first : Option ℕ) (p : ℕ) (ys : List ℕ) → IsChain m before first ys → ((x : ℕ) (l : Link) → first ≡ Some x → m x ≡ Some l → n x ≡ Some (link (Some p) l.next)) → ((x : ℕ) → Among ys x → first ≢ Some x → n x ≡ m x) → IsChain n (Some p) first ys
behind_new m n before first p [] h back others = h
behind_new m n before first p (y ∷ ys) (next, e, is, rest) back others = (
  next,
  e,
  back y (link before next) e is,
  kept m n (Some y) next ys (λ q a. others q (inr a) (λ f. let same : y ≡ q = cc in apart m first y ys (link before next, e, is, path m (Some y) next ys rest) (subst (λ z. Among ys z) (sym same) a))) rest,
)

enters_later : (m n : ℕ → Option Link) (b first : Option ℕ) (x : ℕ) (xs ys : List ℕ) (p : ℕ) (before next : Option ℕ) → IsChain m b first (x ∷ (xs ++ ys)) → last_from (Some x) xs ≡ before → first_in ys ≡ next → Enters m n p before next
    → (Among (x ∷ (xs ++ ys)) p → ⊥) → IsChain n b first (x ∷ (xs ++ p ∷ ys))
enters_later m n b first x [] ys p before next (nx, e, is, rest) last firsts en out =
    let whole = path m b first (x ∷ ys) (nx, e, is, rest) in
    let same : nx ≡ next = first_is m (Some x) nx ys rest ∙ firsts in (
      Some p,
      e,
      en.front x (link b nx) (sym last) is,
      (
        nx,
        refl,
        en.put ∙ ap (λ z. Some (link z next)) (sym last) ∙ ap (λ z. Some (link (Some x) z)) (sym same),
        behind_new m n (Some x) nx p ys rest (λ y l f g. en.back y l (sym same ∙ f) g)
            (λ y a f. en.others y (λ s. out (inr (subst (λ z. Among ys z) s a))) (λ g. let here : x ≡ y = cc in apart m first x ys whole (subst (λ z. Among ys z) (sym here) a)) (λ g. f (same ∙ g))),
      ),
    )
enters_later m n b first x (y ∷ xs) ys p before next (nx, e, is, rest) last firsts en out =
    let whole = path m b first (x ∷ (y ∷ (xs ++ ys))) (nx, e, is, rest) in
    let alone : Among (y ∷ (xs ++ ys)) x → ⊥ = apart m first x (y ∷ (xs ++ ys)) whole in (
      nx,
      e,
      en.others x (λ s. out (inl s)) (λ f. alone (Among-left (y ∷ xs) ys x (last_among y xs x (last ∙ f)))) (λ f. alone (Among-right (y ∷ xs) ys x (first_among ys x (firsts ∙ f)))) ∙ is,
      enters_later m n (Some x) nx y xs ys p before next rest last firsts en (λ a. out (inr a)),
    )

pub enters_chain : (m n : ℕ → Option Link) (heads : List (Option ℕ)) (h p : ℕ) (before next : Option ℕ) (front back : List ℕ) → h < length heads → HasChain m heads h (front ++ back) → last_from None front ≡ before → first_in back ≡ next → Enters m n p before next
    → (Among (front ++ back) p → ⊥) → HasChain n (heads_without heads h before (Some p)) h (front ++ p ∷ back)
enters_chain m n heads h p before next [] back within has last firsts en out =
    let same : has.first ≡ next = first_is m None has.first back has.chain ∙ firsts in
    record {
      first = Some p;
      there = subst (λ z. slice_get (heads_without heads h z (Some p)) h ≡ Some (Some p)) last (slice_get-set_same heads h (Some p) within);
      chain = (
        has.first,
        refl,
        en.put ∙ ap (λ z. Some (link z next)) (sym last) ∙ ap (λ z. Some (link None z)) (sym same),
        behind_new m n None has.first p back has.chain (λ y l f g. en.back y l (sym same ∙ f) g)
            (λ y a f. en.others y (λ s. out (subst (λ z. Among back z) s a)) (λ g. absurd (cc)) (λ g. f (same ∙ g))),
      );
    }
enters_chain m n heads h p before next (x ∷ xs) back within has last firsts en out =
    let some = last_some x xs in
    let at : before ≡ Some some.0 = sym last ∙ some.1 in
    record {
      first = has.first;
      there = subst (λ z. slice_get (heads_without heads h z (Some p)) h ≡ Some has.first) (sym at) has.there;
      chain = enters_later m n None has.first x xs back p before next has.chain last firsts en out;
    }

pub linked_enters : (m n : ℕ → Option Link) (owner more : ℕ → Option ℕ) (heads : List (Option ℕ)) (h p : ℕ) (before next : Option ℕ) (front back : List ℕ) → IsLinked m owner heads → HasChain m heads h (front ++ back) → last_from None front ≡ before → first_in back ≡ next
    → IsWith owner more p h → Enters m n p before next → IsLinked n more (heads_without heads h before (Some p))
linked_enters m n owner more heads h p before next front back linked has last firsts with en = record { chain = chains; headed = heads_of }
  where
    within : h < length heads
    within = slice_get_within heads h has.first has.there

    free : (q k : ℕ) → owner q ≡ Some k → q ≢ p
    free q k e s = let none : owner q ≡ None = ap owner s ∙ with.free in absurd (cc)

    heads_of : (q k : ℕ) → more q ≡ Some k → k < length (heads_without heads h before (Some p))
    heads_of q k e = elim (cases_eq q p) [
      | inl s ↦ let put : more q ≡ Some h = ap more s ∙ with.put in let same : k ≡ h = cc in rw (length-heads_without, same) within
      | inr differs ↦ rw length-heads_without (linked.headed q k (sym (with.others q differs) ∙ e))
    ]

    members : (q : ℕ) → Among (front ++ back) q ↔ (owner q ≡ Some h)
    members = chain_members m owner heads h (front ++ back) linked has

    mine : HasChain n (heads_without heads h before (Some p)) h (front ++ p ∷ back)
    mine = enters_chain m n heads h p before next front back within has last firsts en (λ a. free p h ((members p).0 a) refl)

    still : (q : ℕ) → owner q ≡ Some h → more q ≡ Some h
    still q e = with.others q (free q h e) ∙ e

    mine_members : (q : ℕ) → Among (front ++ p ∷ back) q ↔ (more q ≡ Some h)
    mine_members q = (
      λ a. elim (Among-split front (p ∷ back) q a) [
        | inl b ↦ still q ((members q).0 (Among-left front back q b))
        | inr (inl s) ↦ ap more (sym s) ∙ with.put
        | inr (inr b) ↦ still q ((members q).0 (Among-right front back q b))
      ],
      λ e. elim (cases_eq q p) [
        | inl s ↦ Among-right front (p ∷ back) q (inl (sym s))
        | inr differs ↦ elim (Among-split front back q ((members q).1 (sym (with.others q differs) ∙ e))) [
          | inl b ↦ Among-left front (p ∷ back) q b
          | inr b ↦ Among-right front (p ∷ back) q (inr b)
        ]
      ],
    )

    chains : (k : ℕ) (f : Option ℕ) → slice_get (heads_without heads h before (Some p)) k ≡ Some f → (ps : List ℕ) × IsChain n None f ps × ((q : ℕ) → Among ps q ↔ (more q ≡ Some k))
    chains k f there = elim (cases_eq k h) [
      | inl same ↦
          let got : slice_get (heads_without heads h before (Some p)) k ≡ Some mine.first = ap (slice_get (heads_without heads h before (Some p))) same ∙ mine.there in
          let firsts : mine.first ≡ f = cc in
          (front ++ p ∷ back, subst (λ z. IsChain n None z (front ++ p ∷ back)) firsts mine.chain, λ q. (λ a. (mine_members q).0 a ∙ ap Some (sym same), λ e. (mine_members q).1 (e ∙ ap Some same)))
      | inr differs ↦
          let was = linked.chain k f (sym (heads_without-other heads h k before (Some p) differs) ∙ there) in
          let two : (q : ℕ) → owner q ≡ Some k → owner q ≡ Some h → ⊥ = λ q e g. let same : k ≡ h = cc in differs same in (
            was.0,
            kept m n None f was.0
                (λ q a. en.others q (free q k ((was.2 q).0 a)) (λ e. two q ((was.2 q).0 a) ((members q).0 (Among-left front back q (last_in front q (last ∙ e))))) (λ e. two q ((was.2 q).0 a) ((members q).0 (Among-right front back q (first_among back q (firsts ∙ e)))))) was.1,
            λ q. (
              λ a. with.others q (free q k ((was.2 q).0 a)) ∙ (was.2 q).0 a,
              λ e. let other : q ≢ p = λ s. let put : more q ≡ Some h = ap more s ∙ with.put in let same : k ≡ h = cc in differs same in (was.2 q).1 (sym (with.others q other) ∙ e),
            ),
          )
    ]

-- ---- the list of a chain

pub walk_is : (m : ℕ → Option Link) (first : Option ℕ) (ps : List ℕ) (n : ℕ) → IsPath m first ps → length ps ≤ n → walk m n first ≡ ps
walk_is m first [] zero h few = refl
walk_is m first [] (suc n) h few = ap (walk m (suc n)) h
walk_is m first (p ∷ ps) zero h few = absurd (omega arith)
walk_is m first (p ∷ ps) (suc n) (l, e, is, rest) few = ap (walk m (suc n)) e ∙ ap (λ z. p ∷ walk m n (next_in z)) is ∙ ap (λ z. p ∷ z) (walk_is m l.next ps n rest (omega arith))
