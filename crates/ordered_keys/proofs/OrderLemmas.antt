-- Keys that rise: a number more and a number fewer, and how they are cut by any key.
use Rattle.std.proofs.Common.{◌≡◌, ◌≢◌, ◌⊎◌, ℕ, inl, inr, List, [], ◌∷◌, ◌++◌, Option, Some, None, IsSome, is_some, MatchOption, OnErr, OnOk, refl, sym, ap, subst, ◌∙◌}
use Rattle.std.specs.Cmp.{IsTotalOrder, alike_right, tied_itself}
use Rattle.std.specs.declared.cmp.Ordering.{Ordering}
use Rattle.std.specs.declared.cmp.Ordering.TheVariants.{Less, Equal, Greater}
use Rattle.std.specs.Ordering.{ordering_reverse}
use Rattle.std.specs.declared.result.Result.{Result}
use Rattle.std.specs.declared.result.Result.TheVariants.{Ok, Err}
use Rattle.ordered_keys.specs.Numbers.{Among, AreApart, Loses}
use Rattle.ordered_keys.specs.Keys.{Grows, Inserts, IsAbsent, IsAt, Removes}
use Rattle.ordered_keys.specs.Arranged.{AllAre, Arrangement, CanLeave, IsCut, IsCutOf, IsListing, NoneStands, Places, StandsAt, item_of, keys_of}
use Rattle.ordered_keys.specs.Order.{IsInOrder, IsLess, IsRising}
use Rattle.ordered_keys.proofs.NumberLemmas.{Among-left, Among-right, Among-split, apart_remove}
use Rattle.ordered_keys.proofs.RunLemmas.{above_of, some_of}
use Rattle.ordered_keys.proofs.ItemLemmas.{listing_in, listing_kept, listing_out, none_is_not_some}

all_first : {T : Type 0} (standing : T → Ordering) (item : ℕ → Option T) (how : Ordering) (i : ℕ) (is : List ℕ) (x : T) → item i ≡ Some x → standing x ≡ how → AllAre standing item how is → AllAre standing item how (i ∷ is)
all_first standing item how i is x at e all j (inl f) = (x, ap item (sym f) ∙ at, e)
all_first standing item how i is x at e all j (inr a) = all j a

module _ {K : Type 0} (cmp : K → K → Ordering) where
  pub rising_kept : (key now : ℕ → Option K) (is : List ℕ) → ((i : ℕ) → Among is i → now i ≡ key i) → IsRising cmp key is → IsRising cmp now is
  rising_kept key now [] same h = tt
  rising_kept key now (i ∷ is) same h = (
    λ j a. let less = h.0 j a in (less.0, less.1, same i (inl refl) ∙ less.2, same j (inr a) ∙ less.3, less.4),
    rising_kept key now is (λ j a. same j (inr a)) h.1,
  )

  pub rising_insert : (key : ℕ → Option K) (xs ys : List ℕ) (id : ℕ) → IsRising cmp key (xs ++ ys) → ((i : ℕ) → Among xs i → IsLess cmp key i id) → ((j : ℕ) → Among ys j → IsLess cmp key id j) → IsRising cmp key (xs ++ id ∷ ys)
  rising_insert key [] ys id h front back = (back, h)
  rising_insert key (x ∷ xs) ys id h front back = (
    λ j a. elim (Among-split xs (id ∷ ys) j a) [
      | inl b ↦ h.0 j (Among-left xs ys j b)
      | inr (inl e) ↦ subst (λ z. IsLess cmp key x z) e (front x (inl refl))
      | inr (inr b) ↦ h.0 j (Among-right xs ys j b)
    ],
    rising_insert key xs ys id h.1 (λ i a. front i (inr a)) back,
  )

  pub rising_remove : (key : ℕ → Option K) (xs ys : List ℕ) (id : ℕ) → IsRising cmp key (xs ++ id ∷ ys) → IsRising cmp key (xs ++ ys)
  rising_remove key [] ys id h = h.1
  rising_remove key (x ∷ xs) ys id h = (
    λ j a. h.0 j (elim (Among-split xs ys j a) [ inl b ↦ Among-left xs (id ∷ ys) j b | inr b ↦ Among-right xs (id ∷ ys) j (inr b) ]),
    rising_remove key xs ys id h.1,
  )

  -- of two numbers that aren't the same one's key is below the other's
  pub one_is_less : (key : ℕ → Option K) (is : List ℕ) (i j : ℕ) → IsRising cmp key is → Among is i → Among is j → (i ≡ j) ⊎ (IsLess cmp key i j ⊎ IsLess cmp key j i)
  one_is_less key [] i j h a b = absurd a
  one_is_less key (x ∷ is) i j h (inl e) (inl f) = inl (sym e ∙ f)
  one_is_less key (x ∷ is) i j h (inl e) (inr b) = inr (inl (subst (λ z. IsLess cmp key z j) e (h.0 j b)))
  one_is_less key (x ∷ is) i j h (inr a) (inl f) = inr (inr (subst (λ z. IsLess cmp key z i) f (h.0 i a)))
  one_is_less key (x ∷ is) i j h (inr a) (inr b) = one_is_less key is i j h.1 a b

  same_key : (o : Option K) (x y : K) → o ≡ Some x → o ≡ Some y → x ≡ y
  same_key o x y one two = cc

  module _ (o : IsTotalOrder cmp) where
    above : (x k : K) → cmp x k ≡ Greater → cmp k x ≡ Less
    above x k e = o.antisymm k x ∙ ap ordering_reverse e

    less_is_not_equal : (x y : K) → cmp x y ≡ Less → cmp x y ≡ Equal → ⊥
    less_is_not_equal x y e f = absurd (cc)

    -- two keys that are equal to one are under one number
    pub equal_once : (key : ℕ → Option K) (is : List ℕ) (k x y : K) (i j : ℕ) → IsRising cmp key is → Among is i → Among is j → key i ≡ Some x → key j ≡ Some y → cmp x k ≡ Equal → cmp y k ≡ Equal → i ≡ j
    equal_once key is k x y i j rising a b at_i at_j equal_i equal_j = elim (one_is_less key is i j rising a b) [
      | inl e ↦ e
      | inr (inl less) ↦ absurd (clash i j x y at_i at_j equal_i equal_j less)
      | inr (inr less) ↦ absurd (clash j i y x at_j at_i equal_j equal_i less)
    ]
      where
        clash : (m n : ℕ) (z w : K) → key m ≡ Some z → key n ≡ Some w → cmp z k ≡ Equal → cmp w k ≡ Equal → IsLess cmp key m n → ⊥
        clash m n z w at_m at_n equal_z equal_w less =
            let first : less.0 ≡ z = same_key (key m) less.0 z less.2 at_m in
            let second : less.1 ≡ w = same_key (key n) less.1 w less.3 at_n in
            let below : cmp z w ≡ Less = subst (λ u. cmp u w ≡ Less) first (subst (λ u. cmp less.0 u ≡ Less) second less.4) in
            less_is_not_equal z k (sym (alike_right o w k z equal_w) ∙ below) equal_z

    -- what is above a key that isn't below this is above this
    behind : (x y k : K) → cmp x y ≡ Less → cmp x k ≢ Less → cmp y k ≡ Greater
    behind x y k less not_less = above_of (cmp y k) (λ e. not_less (o.trans x y k less e)) (λ e. not_less (sym (alike_right o y k x e) ∙ less))

    all_behind : (key : ℕ → Option K) (k : K) (i : ℕ) (is : List ℕ) (x : K) → key i ≡ Some x → cmp x k ≢ Less → ((j : ℕ) → Among is j → IsLess cmp key i j) → AllAre (λ y. cmp y k) key Greater is
    all_behind key k i is x at not_less h j a =
        let less = h j a in
        (less.1, less.3, behind x less.1 k (subst (λ u. cmp u less.1 ≡ Less) (same_key (key i) less.0 x less.2 at) less.4) not_less)

    -- keys that rise are cut by any key
    rising_cut : (key : ℕ → Option K) (k : K) (is : List ℕ) → ((i : ℕ) → Among is i → IsSome (key i)) → IsRising cmp key is → IsCutOf (λ y. cmp y k) key is
    rising_cut key k [] live h = record { front = []; same = []; back = []; whole = refl; below = λ i a. absurd a; equal = λ i a. absurd a; above = λ i a. absurd a }
    rising_cut key k (i ∷ is) live h =
        let x = some_of (key i) (live i (inl refl)) in
        let rest = rising_cut key k is (λ j a. live j (inr a)) h.1 in
        elim (cmp x.0 k) as (λ r. cmp x.0 k ≡ r → IsCutOf (λ y. cmp y k) key (i ∷ is)) [
          | Less ↦ λ e. record { front = i ∷ rest.front; same = rest.same; back = rest.back; whole = ap (λ z. i ∷ z) rest.whole; below = all_first (λ y. cmp y k) key Less i rest.front x.0 x.1 e rest.below; equal = rest.equal; above = rest.above }
          | Equal ↦ λ e. record { front = []; same = i ∷ []; back = is; whole = refl; below = λ j a. absurd a; equal = all_first (λ y. cmp y k) key Equal i [] x.0 x.1 e (λ j a. absurd a); above = all_behind key k i is x.0 x.1 (λ f. less_is_not_equal x.0 k f e) h.0 }
          | Greater ↦ λ e. record { front = []; same = []; back = i ∷ is; whole = refl; below = λ j a. absurd a; equal = λ j a. absurd a; above = all_first (λ y. cmp y k) key Greater i is x.0 x.1 e (all_behind key k i is x.0 x.1 (λ f. absurd (cc)) h.0) }
        ] refl

    pub cut_by : (a : Arrangement K) (k : K) → IsInOrder cmp a → IsCut (λ y. cmp y k) a
    cut_by a k old = rising_cut (item_of a) k a.order (λ i. (old.listed.live i).0) old.rising

    -- ---- Keys found, put in and taken out

    pub found_at : (a : Arrangement K) (k : K) (i : ℕ) → IsInOrder cmp a → StandsAt (λ y. cmp y k) a i → IsAt cmp (keys_of a) k i
    found_at a k i old at = record {
      key = at.0;
      there = at.1;
      equal = at.2;
      alone = λ j x at_j equal. equal_once (item_of a) a.order k x at.0 j i old.rising ((old.listed.live j).1 (ap is_some at_j)) ((old.listed.live i).1 (ap is_some at.1)) at_j at.1 equal at.2;
    }

    pub found_by : (a : Arrangement K) (k : K) (found : Option ℕ) → IsInOrder cmp a → MatchOption found (NoneStands (λ y. cmp y k) a) (StandsAt (λ y. cmp y k) a) → MatchOption found (IsAbsent cmp (keys_of a) k) (IsAt cmp (keys_of a) k)
    found_by a k None old h = h
    found_by a k (Some i) old h = found_at a k i old h

    pub can_leave : (a : Arrangement K) (i : ℕ) → IsInOrder cmp a → IsSome (item_of a i) → CanLeave cmp a i
    can_leave a i old some =
        let x = some_of (item_of a i) some in
        let at = found_at a x.0 i old (x.0, x.1, tied_itself o x.0) in
        record { item = x.0; there = x.1; cut = cut_by a x.0 old; equal = tied_itself o x.0; alone = at.alone }

    pub in_order_grown : (old new : Arrangement K) (more : ℕ) → IsInOrder cmp old → Grows (keys_of old) (keys_of new) more → new.order ≡ old.order → IsInOrder cmp new
    in_order_grown old new more was g same = record {
      listed = subst (λ z. IsListing (item_of new) z) (sym same) (listing_kept (item_of old) (item_of new) old.order was.listed g.same);
      rising = subst (λ z. IsRising cmp (item_of new) z) (sym same) (rising_kept (item_of old) (item_of new) old.order (λ i a. g.same i) was.rising);
    }

    -- whether memory was there or not
    pub in_order_still : {A E : Type 0} (old new : Arrangement K) (more : ℕ) (r : Result A E) → IsInOrder cmp old → OnOk r (Grows (keys_of old) (keys_of new) more) → new.order ≡ old.order → OnErr r (new ≡ old) → IsInOrder cmp new
    in_order_still old new more (Ok x) was g same kept = in_order_grown old new more was g same
    in_order_still old new more (Err y) was g same kept = subst (IsInOrder cmp) (sym kept) was

    pub in_order_in : (old new : Arrangement K) (k : K) (id : ℕ) → IsInOrder cmp old → Inserts (keys_of old) (keys_of new) k id → Places (λ y. cmp y k) old new id → IsInOrder cmp new
    in_order_in old new k id was put p = record {
      listed = subst (λ z. IsListing (item_of new) z) (sym p.now) (listing_in (item_of old) (item_of new) old.order p.front p.back id was.listed p.was put.free (ap is_some put.put) put.others);
      rising = subst (λ z. IsRising cmp (item_of new) z) (sym p.now) (rising_insert (item_of new) p.front p.back id
          (rising_kept (item_of old) (item_of new) (p.front ++ p.back) (λ i a. put.others i (differs i a)) (subst (λ z. IsRising cmp (item_of old) z) p.was was.rising))
          (λ i a. let x = p.below i a in (x.0, k, put.others i (differs i (Among-left p.front p.back i a)) ∙ x.1, put.put, x.2))
          (λ j a. let x = p.above j a in (k, x.0, put.put, put.others j (differs j (Among-right p.front p.back j a)) ∙ x.1, above x.0 k x.2)));
    }
      where
        differs : (i : ℕ) → Among (p.front ++ p.back) i → i ≢ id
        differs i a e = none_is_not_some (item_of old i) (ap (item_of old) e ∙ put.free) ((was.listed.live i).0 (subst (λ z. Among z i) (sym p.was) a))

    pub in_order_out : (old new : Arrangement K) (id : ℕ) → IsInOrder cmp old → Removes (keys_of old) (keys_of new) id → Loses old.order id new.order → IsInOrder cmp new
    in_order_out old new id was out gone =
        let rest = apart_remove gone.0 gone.1 id (subst AreApart gone.2 was.listed.apart) in
        record {
          listed = subst (λ z. IsListing (item_of new) z) (sym gone.3) (listing_out (item_of old) (item_of new) old.order gone.0 gone.1 id was.listed gone.2 out.gone out.others);
          rising = subst (λ z. IsRising cmp (item_of new) z) (sym gone.3) (rising_kept (item_of old) (item_of new) (gone.0 ++ gone.1)
              (λ i a. out.others i (λ e. rest.1 (subst (λ z. Among (gone.0 ++ gone.1) z) e a)))
              (rising_remove (item_of old) gone.0 gone.1 id (subst (λ z. IsRising cmp (item_of old) z) gone.2 was.rising)));
        }
