-- Chains of places: one path leads from a place, and what a change of two links leaves.
use Rattle.std.proofs.Common.{◌≡◌, ◌≢◌, ◌⊎◌, ◌↔◌, ℕ, zero, suc, ◌<◌, ◌≤◌, inl, inr, List, [], ◌∷◌, ◌++◌, length, Option, Some, None, slice_get, set, replicate, refl, sym, ap, subst, ◌∙◌, arith}
use Rattle.std.proofs.lemmas.Bool.{cases_eq}
use Rattle.std.proofs.lemmas.List.{get_or-set_same, length-set, length-append}
use Rattle.std.proofs.lemmas.Option.{slice_get_within, slice_get-get_or}
use Rattle.ordered_keys.proofs.NumberLemmas.{Among-left, Among-right, Among-split}
use Rattle.search_index.specs.Posting.{link}
use Rattle.search_index.specs.Net.{heads_without}
use Rattle.ordered_keys.specs.Numbers.{Among}
use Rattle.search_index.specs.Chains.{IsPath, IsChain, IsLinked, Joins, IsWithout, IsWith}
use Rattle.search_index.specs.declared.posting.Link.{Link}

pub split_at : (ps : List ℕ) (p : ℕ) → Among ps p → (xs ys : List ℕ) × (ps ≡ xs ++ p ∷ ys)
split_at [] p h = absurd h
split_at (q ∷ ps) p (inl e) = ([], ps, ap (λ z. z ∷ ps) e)
split_at (q ∷ ps) p (inr h) = let later = split_at ps p h in (q ∷ later.0, later.1, ap (λ z. q ∷ z) later.2)

pub one_path : (m : ℕ → Option Link) (first : Option ℕ) (ps qs : List ℕ) → IsPath m first ps → IsPath m first qs → ps ≡ qs
one_path m first [] [] a b = refl
one_path m first [] (q ∷ qs) a (l, e, is, r) = absurd (cc)
one_path m first (p ∷ ps) [] (l, e, is, r) b = absurd (cc)
one_path m first (p ∷ ps) (q ∷ qs) (l, e, is, rest) (k, f, js, more) =
    let same : p ≡ q = cc in
    let links : l ≡ k = cc in
    let tail : ps ≡ qs = one_path m l.next ps qs rest (subst (λ (z : Link). IsPath m z.next qs) (sym links) more) in
    cc

pub path_from : (m : ℕ → Option Link) (first : Option ℕ) (ps : List ℕ) (p : ℕ) → IsPath m first ps → Among ps p → (qs : List ℕ) × IsPath m (Some p) qs × (length qs ≤ length ps)
path_from m first [] p a h = absurd h
path_from m first (q ∷ ps) p (l, e, is, rest) (inl s) = (q ∷ ps, (l, ap Some (sym s), is, rest), omega arith)
path_from m first (q ∷ ps) p (l, e, is, rest) (inr h) =
    let later = path_from m l.next ps p rest h in
    (later.0, later.1, omega (arith, later.2))

-- a place doesn't come again behind itself
pub apart : (m : ℕ → Option Link) (first : Option ℕ) (p : ℕ) (ps : List ℕ) → IsPath m first (p ∷ ps) → Among ps p → ⊥
apart m first p ps (l, e, is, rest) h =
    let again = path_from m l.next ps p rest h in
    let same : p ∷ ps ≡ again.0 = one_path m (Some p) (p ∷ ps) again.0 (l, refl, is, rest) again.1 in
    absurd (omega (arith, ap length same, again.2))

pub path : (m : ℕ → Option Link) (before first : Option ℕ) (ps : List ℕ) → IsChain m before first ps → IsPath m first ps
path m before first [] h = h
path m before first (p ∷ ps) (next, e, is, rest) = (link before next, e, is, path m (Some p) next ps rest)

pub path_kept : (m n : ℕ → Option Link) (first : Option ℕ) (ps : List ℕ) → ((q : ℕ) → Among ps q → n q ≡ m q) → IsPath m first ps → IsPath n first ps
path_kept m n first [] same h = h
path_kept m n first (p ∷ ps) same (l, e, is, rest) = (l, e, same p (inl refl) ∙ is, path_kept m n l.next ps (λ q h. same q (inr h)) rest)

pub kept : (m n : ℕ → Option Link) (before first : Option ℕ) (ps : List ℕ) → ((q : ℕ) → Among ps q → n q ≡ m q) → IsChain m before first ps → IsChain n before first ps
kept m n before first [] same h = h
kept m n before first (p ∷ ps) same (next, e, is, rest) = (next, e, same p (inl refl) ∙ is, kept m n (Some p) next ps (λ q h. same q (inr h)) rest)

-- the links and what stands before a place are those of its posting
pub chained : (m : ℕ → Option Link) (before first : Option ℕ) (ps : List ℕ) (q : ℕ) → IsChain m before first ps → Among ps q → (l : Link) × (m q ≡ Some l)
chained m before first [] q h a = absurd a
chained m before first (p ∷ ps) q (next, e, is, rest) (inl s) = (link before next, ap m (sym s) ∙ is)
chained m before first (p ∷ ps) q (next, e, is, rest) (inr a) = chained m (Some p) next ps q rest a

-- what stands behind a place is in the rest of the chain
pub next_among : (m : ℕ → Option Link) (before first : Option ℕ) (ps : List ℕ) (w : ℕ) → IsChain m before first ps → first ≡ Some w → Among ps w
next_among m before first [] w h e = absurd (cc)
next_among m before first (p ∷ ps) w (next, f, is, rest) e = let same : p ≡ w = cc in inl same

-- behind a place that goes: the first gets another before it
pub behind : (m n : ℕ → Option Link) (before : Option ℕ) (b first : Option ℕ) (ps : List ℕ) → IsChain m before first ps → Joins m n b first → ((x : ℕ) → b ≡ Some x → Among ps x → ⊥) → IsChain n b first ps
behind m n before b first [] h joins out = h
behind m n before b first (p ∷ ps) (next, e, is, rest) joins out = (
  next,
  e,
  joins.back p _ e is,
  kept m n (Some p) next ps
      (λ q a. joins.others q (λ f. out q f (inr a)) (λ f. let same : p ≡ q = cc in apart m first p ps (link before next, e, is, path m (Some p) next ps rest) (subst (λ z. Among ps z) (sym same) a))) rest,
)

-- a chain whose first place goes
pub unlinks_first : (m n : ℕ → Option Link) (before first : Option ℕ) (p : ℕ) (l : Link) (ps : List ℕ) → IsChain m before first (p ∷ ps) → m p ≡ Some l → Joins m n l.before l.next → ((x : ℕ) → before ≡ Some x → Among ps x → ⊥) → (l.before ≡ before) × IsChain n before l.next ps
unlinks_first m n before first p l ps (next, e, is, rest) at joins out =
    let same : l ≡ link before next = cc in
    let front : l.before ≡ before = ap (λ (z : Link). z.before) same in
    let back : l.next ≡ next = ap (λ (z : Link). z.next) same in (
      front,
      subst (λ z. IsChain n z l.next ps) front
          (behind m n (Some p) l.before l.next ps (subst (λ z. IsChain m (Some p) z ps) (sym back) rest) joins (λ x f. out x (sym front ∙ f))),
    )

-- a chain in which a place behind another goes
pub unlinks_later : (m n : ℕ → Option Link) (before first : Option ℕ) (x : ℕ) (xs : List ℕ) (p : ℕ) (l : Link) (ps : List ℕ) → IsChain m before first (x ∷ (xs ++ p ∷ ps)) → m p ≡ Some l → Joins m n l.before l.next
    → (z : ℕ) × (l.before ≡ Some z) × Among (x ∷ xs) z × ((w : ℕ) → l.next ≡ Some w → Among ps w) × IsChain n before first (x ∷ (xs ++ ps))
unlinks_later m n before first x [] p l ps (next, e, is, rest) at joins =
    let whole = path m before first (x ∷ p ∷ ps) (next, e, is, rest) in
    let later = unlinks_first m n (Some x) next p l ps rest at joins (λ q f a. let same : x ≡ q = cc in apart m first x (p ∷ ps) whole (inr (subst (λ z. Among ps z) (sym same) a))) in
    let front : l.before ≡ Some x = later.0 in
    let shown : next ≡ Some p = rest.1 in
    let same : l ≡ link (Some x) rest.0 = cc in (
      x,
      front,
      inl refl,
      λ w f. next_among m (Some p) rest.0 ps w rest.3 (sym (ap (λ (z : Link). z.next) same) ∙ f),
      (l.next, e, joins.front x _ front is, later.1),
    )
unlinks_later m n before first x (y ∷ xs) p l ps (next, e, is, rest) at joins =
    let whole = path m before first (x ∷ (y ∷ (xs ++ p ∷ ps))) (next, e, is, rest) in
    let later = unlinks_later m n (Some x) next y xs p l ps rest at joins in
    let out : Among (y ∷ (xs ++ p ∷ ps)) x → ⊥ = apart m first x (y ∷ (xs ++ p ∷ ps)) whole in (
      later.0,
      later.1,
      inr later.2,
      later.3,
      (
        next,
        e,
        joins.others x
            (λ f. let same : later.0 ≡ x = cc in out (Among-left (y ∷ xs) (p ∷ ps) x (subst (λ z. Among (y ∷ xs) z) same later.2)))
            (λ f. out (Among-right (y ∷ xs) (p ∷ ps) x (inr (later.3 x f)))) ∙ is,
        later.4,
      ),
    )

-- a place stands once in its chain
pub alone : (m : ℕ → Option Link) (first : Option ℕ) (xs : List ℕ) (p : ℕ) (ys : List ℕ) → IsPath m first (xs ++ p ∷ ys) → Among (xs ++ ys) p → ⊥
alone m first [] p ys h a = apart m first p ys h a
alone m first (x ∷ xs) p ys (l, e, is, rest) (inl s) = apart m first x (xs ++ p ∷ ys) (l, e, is, rest) (Among-right xs (p ∷ ys) x (inl (sym s)))
alone m first (x ∷ xs) p ys (l, e, is, rest) (inr a) = alone m l.next xs p ys rest a

-- ---- heads

pub slice_get-set_same : {X : Type 0} (xs : List X) (i : ℕ) (v : X) → i < length xs → slice_get (set xs i v) i ≡ Some v
slice_get-set_same xs i v within =
    let n : i < length (set xs i v) = rw length-set within in
    slice_get-get_or (set xs i v) i v n ∙ ap Some (get_or-set_same xs i v v within)

pub slice_get-set_other : {X : Type 0} (xs : List X) (i k : ℕ) (v : X) → k ≢ i → slice_get (set xs i v) k ≡ slice_get xs k
slice_get-set_other [] i k v differs = refl
slice_get-set_other (x ∷ xs) zero zero v differs = absurd (differs refl)
slice_get-set_other (x ∷ xs) zero (suc k) v differs = refl
slice_get-set_other (x ∷ xs) (suc i) zero v differs = refl
slice_get-set_other (x ∷ xs) (suc i) (suc k) v differs = slice_get-set_other xs i k v (λ e. differs (ap suc e))

pub head_at : {X : Type 0} (xs : List X) (i : ℕ) → i < length xs → (x : X) × (slice_get xs i ≡ Some x)
head_at [] i h = absurd (omega arith)
head_at (x ∷ xs) zero h = (x, refl)
head_at (x ∷ xs) (suc i) h = head_at xs i (omega arith)

pub length-heads_without : (heads : List (Option ℕ)) (h : ℕ) (b n : Option ℕ) → length (heads_without heads h b n) ≡ length heads
length-heads_without heads h None n = length-set heads h n
length-heads_without heads h (Some b) n = refl

pub heads_without-other : (heads : List (Option ℕ)) (h k : ℕ) (b n : Option ℕ) → k ≢ h → slice_get (heads_without heads h b n) k ≡ slice_get heads k
heads_without-other heads h k None n differs = slice_get-set_other heads h k n differs
heads_without-other heads h k (Some b) n differs = refl

-- ---- a place out of its chain

-- what is left of the chain of h, and whose the neighbours are
record Leaves (n : ℕ → Option Link) (owner less : ℕ → Option ℕ) (heads : List (Option ℕ)) (h : ℕ) (l : Link) : Type 0 where
  first : Option ℕ
  there : slice_get (heads_without heads h l.before l.next) h ≡ Some first
  list : List ℕ
  chain : IsChain n None first list
  members : (q : ℕ) → Among list q ↔ (less q ≡ Some h)
  front : (z : ℕ) → l.before ≡ Some z → owner z ≡ Some h
  back : (z : ℕ) → l.next ≡ Some z → owner z ≡ Some h

members_without : (owner less : ℕ → Option ℕ) (h p : ℕ) (xs ys : List ℕ) → ((q : ℕ) → Among (xs ++ p ∷ ys) q ↔ (owner q ≡ Some h)) → IsWithout owner less p → (Among (xs ++ ys) p → ⊥) → (q : ℕ) → Among (xs ++ ys) q ↔ (less q ≡ Some h)
members_without owner less h p xs ys members without once q = (
  λ a. elim (cases_eq q p) [
    | inl e ↦ absurd (once (subst (λ z. Among (xs ++ ys) z) e a))
    | inr differs ↦ without.others q differs ∙ (members q).0 (elim (Among-split xs ys q a) [ inl b ↦ Among-left xs (p ∷ ys) q b | inr b ↦ Among-right xs (p ∷ ys) q (inr b) ])
  ],
  λ e. let differs : q ≢ p = λ s. let none : less q ≡ None = ap less s ∙ without.gone in absurd (cc) in
      elim (Among-split xs (p ∷ ys) q ((members q).1 (sym (without.others q differs) ∙ e))) [
        | inl b ↦ Among-left xs ys q b
        | inr (inl s) ↦ absurd (differs (sym s))
        | inr (inr b) ↦ Among-right xs ys q b
      ],
)

leaves : (m n : ℕ → Option Link) (owner less : ℕ → Option ℕ) (heads : List (Option ℕ)) (h p : ℕ) (l : Link) (first : Option ℕ) (xs ys : List ℕ)
    → h < length heads → slice_get heads h ≡ Some first → IsChain m None first (xs ++ p ∷ ys) → ((q : ℕ) → Among (xs ++ p ∷ ys) q ↔ (owner q ≡ Some h))
    → m p ≡ Some l → Joins m n l.before l.next → IsWithout owner less p → Leaves n owner less heads h l
leaves m n owner less heads h p l first [] ys within at chain members is joins without =
    let later = unlinks_first m n None first p l ys chain is joins (λ x f a. absurd (cc)) in
    let none : l.before ≡ None = later.0 in
    let known : l ≡ link None chain.0 = (let e : m p ≡ Some (link None chain.0) = chain.2 in cc) in
    record {
      first = l.next;
      there = subst (λ z. slice_get (heads_without heads h z l.next) h ≡ Some l.next) (sym none) (slice_get-set_same heads h l.next within);
      list = ys;
      chain = subst (λ z. IsChain n z l.next ys) none (subst (λ z. IsChain n z l.next ys) (sym none) later.1);
      members = members_without owner less h p [] ys members without (alone m first [] p ys (path m None first (p ∷ ys) chain));
      front = λ z e. absurd (cc);
      back = λ z e. (members z).0 (inr (next_among m (Some p) chain.0 ys z chain.3 (sym (ap (λ (k : Link). k.next) known) ∙ e)));
    }
leaves m n owner less heads h p l first (x ∷ xs) ys within at chain members is joins without =
    let later = unlinks_later m n None first x xs p l ys chain is joins in
    record {
      first = first;
      there = subst (λ z. slice_get (heads_without heads h z l.next) h ≡ Some first) (sym later.1) at;
      list = x ∷ (xs ++ ys);
      chain = later.4;
      members = members_without owner less h p (x ∷ xs) ys members without (alone m first (x ∷ xs) p ys (path m None first (x ∷ (xs ++ p ∷ ys)) chain));
      front = λ z e. let same : later.0 ≡ z = (let f : l.before ≡ Some later.0 = later.1 in cc) in (members z).0 (Among-left (x ∷ xs) (p ∷ ys) z (subst (λ w. Among (x ∷ xs) w) same later.2));
      back = λ z e. (members z).0 (Among-right (x ∷ xs) (p ∷ ys) z (inr (later.3 z e)));
    }

pub linked_unlinks : (m n : ℕ → Option Link) (owner less : ℕ → Option ℕ) (heads : List (Option ℕ)) (h p : ℕ) (l : Link)
    → IsLinked m owner heads → owner p ≡ Some h → m p ≡ Some l → Joins m n l.before l.next → IsWithout owner less p → IsLinked n less (heads_without heads h l.before l.next)
linked_unlinks m n owner less heads h p l linked mine is joins without = record { chain = chains; headed = heads_of }
  where
    within : h < length heads
    within = linked.headed p h mine

    left : Leaves n owner less heads h l
    left =
        let at = head_at heads h within in
        let old = linked.chain h at.0 at.1 in
        let parts = split_at old.0 p ((old.2 p).1 mine) in
        leaves m n owner less heads h p l at.0 parts.0 parts.1 within at.1 (subst (λ z. IsChain m None at.0 z) parts.2 old.1) (subst (λ (z : List ℕ). (q : ℕ) → Among z q ↔ (owner q ≡ Some h)) parts.2 old.2) is joins without

    heads_of : (q k : ℕ) → less q ≡ Some k → k < length (heads_without heads h l.before l.next)
    heads_of q k e =
        let differs : q ≢ p = λ s. let none : less q ≡ None = ap less s ∙ without.gone in absurd (cc) in
        let old : k < length heads = linked.headed q k (sym (without.others q differs) ∙ e) in
        rw length-heads_without old

    chains : (k : ℕ) (first : Option ℕ) → slice_get (heads_without heads h l.before l.next) k ≡ Some first → (ps : List ℕ) × IsChain n None first ps × ((q : ℕ) → Among ps q ↔ (less q ≡ Some k))
    chains k first at = elim (cases_eq k h) [
      | inl same ↦
          let there : slice_get (heads_without heads h l.before l.next) k ≡ Some left.first = ap (slice_get (heads_without heads h l.before l.next)) same ∙ left.there in
          let firsts : left.first ≡ first = cc in
          (left.list, subst (λ z. IsChain n None z left.list) firsts left.chain, λ q. (λ a. (left.members q).0 a ∙ ap Some (sym same), λ e. (left.members q).1 (e ∙ ap Some same)))
      | inr differs ↦
          let old = linked.chain k first (sym (heads_without-other heads h k l.before l.next differs) ∙ at) in
          let mine_not : (q : ℕ) → owner q ≡ Some k → owner q ≡ Some h → ⊥ = λ q e f. let same : k ≡ h = cc in differs same in
          let apart_from : (q : ℕ) → owner q ≡ Some k → q ≢ p = λ q e s. mine_not q e (ap owner s ∙ mine) in (
            old.0,
            kept m n None first old.0 (λ q a. joins.others q (λ f. mine_not q ((old.2 q).0 a) (left.front q f)) (λ f. mine_not q ((old.2 q).0 a) (left.back q f))) old.1,
            λ q. (
              λ a. without.others q (apart_from q ((old.2 q).0 a)) ∙ (old.2 q).0 a,
              λ e. let other : q ≢ p = λ s. let none : less q ≡ None = ap less s ∙ without.gone in absurd (cc) in (old.2 q).1 (sym (without.others q other) ∙ e),
            ),
          )
    ]

-- ---- a place into a chain, in front

pub linked_pushes : (m n : ℕ → Option Link) (owner more : ℕ → Option ℕ) (heads : List (Option ℕ)) (h p : ℕ) (first : Option ℕ)
    → IsLinked m owner heads → slice_get heads h ≡ Some first → IsWith owner more p h → m p ≡ None → n p ≡ Some (link None first)
    → ((x : ℕ) (l : Link) → first ≡ Some x → m x ≡ Some l → n x ≡ Some (link (Some p) l.next)) → ((x : ℕ) → x ≢ p → first ≢ Some x → n x ≡ m x)
    → IsLinked n more (set heads h (Some p))
linked_pushes m n owner more heads h p first linked at with none is back others = record { chain = chains; headed = heads_of }
  where
    within : h < length heads
    within = slice_get_within heads h first at

    free : (q k : ℕ) → owner q ≡ Some k → q ≢ p
    free q k e s = let none : owner q ≡ None = ap owner s ∙ with.free in absurd (cc)

    heads_of : (q k : ℕ) → more q ≡ Some k → k < length (set heads h (Some p))
    heads_of q k e = elim (cases_eq q p) [
      | inl s ↦ let put : more q ≡ Some h = ap more s ∙ with.put in let same : k ≡ h = cc in rw (length-set, same) within
      | inr differs ↦ rw length-set (linked.headed q k (sym (with.others q differs) ∙ e))
    ]

    old : (ps : List ℕ) × IsChain m None first ps × ((q : ℕ) → Among ps q ↔ (owner q ≡ Some h))
    old = linked.chain h first at

    joins : Joins m n (Some p) first → IsChain n None (Some p) (p ∷ old.0)
    joins j = (first, refl, is, behind m n None (Some p) first old.0 old.1 j (λ x f a. free x h ((old.2 x).0 a) (let same : p ≡ x = cc in sym same)))

    mine : (q : ℕ) → Among (p ∷ old.0) q ↔ (more q ≡ Some h)
    mine q = (
      elim [
        | inl s ↦ ap more (sym s) ∙ with.put
        | inr a ↦ with.others q (free q h ((old.2 q).0 a)) ∙ (old.2 q).0 a
      ],
      λ e. elim (cases_eq q p) [
        | inl s ↦ inl (sym s)
        | inr differs ↦ inr ((old.2 q).1 (sym (with.others q differs) ∙ e))
      ],
    )

    chains : (k : ℕ) (f : Option ℕ) → slice_get (set heads h (Some p)) k ≡ Some f → (ps : List ℕ) × IsChain n None f ps × ((q : ℕ) → Among ps q ↔ (more q ≡ Some k))
    chains k f there = elim (cases_eq k h) [
      | inl same ↦
          let got : slice_get (set heads h (Some p)) k ≡ Some (Some p) = ap (slice_get (set heads h (Some p))) same ∙ slice_get-set_same heads h (Some p) within in
          let firsts : Some p ≡ f = cc in
          (p ∷ old.0, subst (λ z. IsChain n None z (p ∷ old.0)) firsts (joins (record { front = λ x l e i. let same : p ≡ x = cc in let gone : m x ≡ None = ap m (sym same) ∙ none in absurd (cc); back = back; others = λ x e g. others x (λ s. e (ap Some (sym s))) g })), λ q. (λ a. (mine q).0 a ∙ ap Some (sym same), λ e. (mine q).1 (e ∙ ap Some same)))
      | inr differs ↦
          let was = linked.chain k f (sym (slice_get-set_other heads h k (Some p) differs) ∙ there) in (
            was.0,
            kept m n None f was.0 (λ q a. others q (free q k ((was.2 q).0 a)) (λ e. let here : owner q ≡ Some h = (old.2 q).0 (next_among m None first old.0 q old.1 e) in let theirs : owner q ≡ Some k = (was.2 q).0 a in let same : k ≡ h = cc in differs same)) was.1,
            λ q. (
              λ a. with.others q (free q k ((was.2 q).0 a)) ∙ (was.2 q).0 a,
              λ e. let other : q ≢ p = λ s. let put : more q ≡ Some h = ap more s ∙ with.put in let same : k ≡ h = cc in differs same in (was.2 q).1 (sym (with.others q other) ∙ e),
            ),
          )
    ]

-- ---- nothing that the chains read has changed

pub linked_kept : (m n : ℕ → Option Link) (owner less : ℕ → Option ℕ) (heads : List (Option ℕ)) → ((q h : ℕ) → owner q ≡ Some h → n q ≡ m q) → ((q : ℕ) → less q ≡ owner q) → IsLinked m owner heads → IsLinked n less heads
linked_kept m n owner less heads links same linked = record {
  chain = λ h first at.
      let was = linked.chain h first at in
      (was.0, kept m n None first was.0 (λ q a. links q h ((was.2 q).0 a)) was.1, λ q. (λ a. same q ∙ (was.2 q).0 a, λ e. (was.2 q).1 (sym (same q) ∙ e)));
  headed = λ q h e. linked.headed q h (sym (same q) ∙ e);
}

replicated : (n h : ℕ) (first : Option ℕ) → slice_get (replicate n None) h ≡ Some first → first ≡ None
replicated zero h first e = absurd (cc)
replicated (suc n) zero first e = let same : first ≡ None = cc in same
replicated (suc n) (suc h) first e = replicated n h first e

padded : (heads : List (Option ℕ)) (n h : ℕ) (first : Option ℕ) → slice_get (heads ++ replicate n None) h ≡ Some first → (slice_get heads h ≡ Some first) ⊎ ((length heads ≤ h) × (first ≡ None))
padded [] n h first e = inr (omega arith, replicated n h first e)
padded (x ∷ heads) n zero first e = inl e
padded (x ∷ heads) n (suc h) first e = elim (padded heads n h first e) [ inl a ↦ inl a | inr b ↦ inr (let within = b.0 in omega arith, b.1) ]

-- more heads, which lead nowhere
pub linked_pads : (m : ℕ → Option Link) (owner : ℕ → Option ℕ) (heads : List (Option ℕ)) (n : ℕ) → IsLinked m owner heads → IsLinked m owner (heads ++ replicate n None)
linked_pads m owner heads n linked = record { chain = chains; headed = λ q h e. let within = linked.headed q h e in let both = length-append heads (replicate n None) in omega arith }
  where
    chains : (h : ℕ) (first : Option ℕ) → slice_get (heads ++ replicate n None) h ≡ Some first → (ps : List ℕ) × IsChain m None first ps × ((q : ℕ) → Among ps q ↔ (owner q ≡ Some h))
    chains h first at = elim (padded heads n h first at) [
      | inl there ↦ linked.chain h first there
      | inr past ↦ ([], past.1, λ q. (λ a. absurd a, λ e. let within = linked.headed q h e in absurd (let beyond = past.0 in omega arith)))
    ]

-- ---- the neighbours of a place differ

before_among : (m : ℕ → Option Link) (before first : Option ℕ) (x : ℕ) (xs : List ℕ) (p : ℕ) (l : Link) (ps : List ℕ) → IsChain m before first (x ∷ (xs ++ p ∷ ps)) → m p ≡ Some l
    → (z : ℕ) × (l.before ≡ Some z) × Among (x ∷ xs) z × ((w : ℕ) → l.next ≡ Some w → Among ps w)
before_among m before first x [] p l ps (next, e, is, rest) at =
    let same : l ≡ link (Some x) rest.0 = (let f : m p ≡ Some (link (Some x) rest.0) = rest.2 in cc) in
    (x, ap (λ (z : Link). z.before) same, inl refl, λ w f. next_among m (Some p) rest.0 ps w rest.3 (sym (ap (λ (z : Link). z.next) same) ∙ f))
before_among m before first x (y ∷ xs) p l ps (next, e, is, rest) at =
    let later = before_among m (Some x) next y xs p l ps rest at in
    (later.0, later.1, inr later.2, later.3)

two_sides : (m : ℕ → Option Link) (first : Option ℕ) (xs : List ℕ) (p : ℕ) (ys : List ℕ) (z : ℕ) → IsPath m first (xs ++ p ∷ ys) → Among xs z → Among ys z → ⊥
two_sides m first [] p ys z h a b = a
two_sides m first (x ∷ xs) p ys z (l, e, is, rest) (inl s) b = apart m first x (xs ++ p ∷ ys) (l, e, is, rest) (subst (λ w. Among (xs ++ p ∷ ys) w) (sym s) (Among-right xs (p ∷ ys) z (inr b)))
two_sides m first (x ∷ xs) p ys z (l, e, is, rest) (inr a) b = two_sides m l.next xs p ys z rest a b

neighbours_in : (m : ℕ → Option Link) (first : Option ℕ) (xs : List ℕ) (p : ℕ) (l : Link) (ys : List ℕ) → IsChain m None first (xs ++ p ∷ ys) → m p ≡ Some l → (z : ℕ) → l.before ≡ Some z → l.next ≡ Some z → ⊥
neighbours_in m first [] p l ys chain at z b n =
    let f : m p ≡ Some (link None chain.0) = chain.2 in
    let same : l ≡ link None chain.0 = cc in
    let none : l.before ≡ None = ap (λ (z : Link). z.before) same in
    absurd (cc)
neighbours_in m first (x ∷ xs) p l ys chain at z b n =
    let more = before_among m None first x xs p l ys chain at in
    let one : l.before ≡ Some more.0 = more.1 in
    let same : more.0 ≡ z = cc in
    two_sides m first (x ∷ xs) p ys z (path m None first (x ∷ (xs ++ p ∷ ys)) chain) (subst (λ w. Among (x ∷ xs) w) same more.2) (more.3 z n)

pub neighbours_differ : (m : ℕ → Option Link) (owner : ℕ → Option ℕ) (heads : List (Option ℕ)) (h p : ℕ) (l : Link) → IsLinked m owner heads → owner p ≡ Some h → m p ≡ Some l → (z : ℕ) → l.before ≡ Some z → l.next ≡ Some z → ⊥
neighbours_differ m owner heads h p l linked mine is =
    let at = head_at heads h (linked.headed p h mine) in
    let old = linked.chain h at.0 at.1 in
    let parts = split_at old.0 p ((old.2 p).1 mine) in
    neighbours_in m at.0 parts.0 p l parts.1 (subst (λ z. IsChain m None at.0 z) parts.2 old.1) is
