-- What a change on one side of a number makes of the whole tree.
use Rattle.std.proofs.Common.{◌≡◌, ◌≢◌, ◌⊎◌, ℕ, ◌+◌, ◌≤◌, inl, inr, List, [], ◌∷◌, ◌++◌, length, Option, set, refl, sym, ap, subst, ◌∙◌, arith, append_assoc}
use Rattle.std.proofs.lemmas.List.{length-append}
use Rattle.std.specs.declared.cmp.Ordering.{Ordering}
use Rattle.std.specs.declared.cmp.Ordering.TheVariants.{Less, Equal, Greater}
use Rattle.ordered_keys.specs.declared.nodes.Node.{Node}
use Rattle.ordered_keys.specs.Numbers.{Among, AreApart}
use Rattle.ordered_keys.specs.Nodes.{CanJoin, Changes, IsNew, IsTree, IsWhole, Joins, left_in, node_in, none, numbers_in, right_in}
use Rattle.ordered_keys.specs.Tree.{GivesUp, IsParted, IsPlaced, Parts, TakesIn, stand}
use Rattle.ordered_keys.proofs.NumberLemmas.{Among-left, Among-right, Among-split, apart_join, apart_parts}
use Rattle.ordered_keys.proofs.NodeLemmas.{Opens, changes_both, changes_none, empty_tree, hangs, hung, nothing, opens, stays}
use Rattle.ordered_keys.proofs.TreeLemmas.{left_out_here, left_out_left, left_out_right, parted_left, parted_right, placed_left, placed_right}

-- ---- either side of a number

-- what is known of a number of a tree whose numbers are apart
record Branch (nodes : List Node) (i : ℕ) : Type 0 where
  opened : Opens nodes i
  left_apart : AreApart (numbers_in nodes (left_in nodes i))
  right_apart : AreApart (numbers_in nodes (right_in nodes i))
  not_left : Among (numbers_in nodes (left_in nodes i)) i → ⊥
  not_right : Among (numbers_in nodes (right_in nodes i)) i → ⊥
  across : (j : ℕ) → Among (numbers_in nodes (left_in nodes i)) j → Among (numbers_in nodes (right_in nodes i)) j → ⊥
  in_left : (j : ℕ) → Among (numbers_in nodes (left_in nodes i)) j → Among (numbers_in nodes i) j
  in_right : (j : ℕ) → Among (numbers_in nodes (right_in nodes i)) j → Among (numbers_in nodes i) j
  in_all : Among (numbers_in nodes i) i
  count : length (numbers_in nodes i) ≡ length (numbers_in nodes (left_in nodes i)) + length (numbers_in nodes (right_in nodes i)) + 1
  fits : length (numbers_in nodes i) ≤ length nodes

branch : (nodes : List Node) (i : ℕ) → IsWhole nodes i → i ≢ none → Branch nodes i
branch nodes i whole differs =
    let o = opens nodes i whole.tree differs in
    let L = numbers_in nodes (left_in nodes i) in
    let R = numbers_in nodes (right_in nodes i) in
    let parts = apart_parts L (i ∷ R) (subst AreApart o.all whole.apart) in
    record {
      opened = o;
      left_apart = parts.left;
      right_apart = parts.right.1;
      not_left = λ a. parts.across i a (inl refl);
      not_right = parts.right.0;
      across = λ j a b. parts.across j a (inr b);
      in_left = λ j a. subst (λ z. Among z j) (sym o.all) (Among-left L (i ∷ R) j a);
      in_right = λ j a. subst (λ z. Among z j) (sym o.all) (Among-right L (i ∷ R) j (inr a));
      in_all = subst (λ z. Among z i) (sym o.all) (Among-right L (i ∷ R) i (inl refl));
      count = omega (arith, ap length o.all, length-append L (i ∷ R));
      fits = whole.tree.fits;
    }

pub whole_left : (nodes : List Node) (i : ℕ) → IsWhole nodes i → i ≢ none → IsWhole nodes (left_in nodes i)
whole_left nodes i whole differs = let b = branch nodes i whole differs in record { tree = b.opened.left_tree; apart = b.left_apart }

pub whole_right : (nodes : List Node) (i : ℕ) → IsWhole nodes i → i ≢ none → IsWhole nodes (right_in nodes i)
whole_right nodes i whole differs = let b = branch nodes i whole differs in record { tree = b.opened.right_tree; apart = b.right_apart }

-- the tree below a number after one side of it was changed
record Side (mid new : List Node) (i : ℕ) (now : List ℕ) : Type 0 where
  tree : IsTree new i
  numbers_are : numbers_in new i ≡ now
  changes : Changes mid new (i ∷ [])

right_side : (old mid new : List Node) (i r : ℕ) (touched : List ℕ) → Branch old i → Changes old mid touched → ((j : ℕ) → Among (numbers_in old (left_in old i)) j → Among touched j → ⊥) → IsTree mid r → (Among (numbers_in mid r) i → ⊥)
    → length (numbers_in old (left_in old i)) + length (numbers_in mid r) + 1 ≤ length old → new ≡ set mid i (record { left = left_in old i; right = r }) → Side mid new i (numbers_in old (left_in old i) ++ i ∷ numbers_in mid r)
right_side old mid new i r touched b change away tree other fits is =
    let size = change.size in
    let within = b.opened.within in
    let left = stays old mid (left_in old i) b.opened.left_tree (omega (arith, size)) (λ j a. change.others j (away j a)) in
    let h = hangs mid new i (left_in old i) r (omega (arith, size, within)) is in
    let done = hung mid new i (left_in old i) r left.tree tree (λ a. b.not_left (subst (λ z. Among z i) left.numbers_are a)) other b.opened.small (omega (arith, size, within)) (omega (arith, size, fits, ap length left.numbers_are)) h in
    record { tree = done.tree; numbers_are = done.numbers_are ∙ ap (λ z. z ++ i ∷ numbers_in mid r) left.numbers_are; changes = h.changes }

left_side : (old mid new : List Node) (i l : ℕ) (touched : List ℕ) → Branch old i → Changes old mid touched → ((j : ℕ) → Among (numbers_in old (right_in old i)) j → Among touched j → ⊥) → IsTree mid l → (Among (numbers_in mid l) i → ⊥)
    → length (numbers_in mid l) + length (numbers_in old (right_in old i)) + 1 ≤ length old → new ≡ set mid i (record { left = l; right = right_in old i }) → Side mid new i (numbers_in mid l ++ i ∷ numbers_in old (right_in old i))
left_side old mid new i l touched b change away tree other fits is =
    let size = change.size in
    let within = b.opened.within in
    let right = stays old mid (right_in old i) b.opened.right_tree (omega (arith, size)) (λ j a. change.others j (away j a)) in
    let h = hangs mid new i l (right_in old i) (omega (arith, size, within)) is in
    let done = hung mid new i l (right_in old i) tree right.tree other (λ a. b.not_right (subst (λ z. Among z i) right.numbers_are a)) b.opened.small (omega (arith, size, within)) (omega (arith, size, fits, ap length right.numbers_are)) h in
    record { tree = done.tree; numbers_are = done.numbers_are ∙ ap (λ z. numbers_in mid l ++ i ∷ z) right.numbers_are; changes = h.changes }

one_of : (i j : ℕ) (xs : List ℕ) → Among (i ∷ []) j → Among xs i → Among xs j
one_of i j xs (inl e) a = subst (λ z. Among xs z) e a
one_of i j xs (inr b) a = absurd b

-- ---- one tree behind the other

front_whole : (nodes : List Node) (front back : ℕ) → CanJoin nodes front back → IsWhole nodes front
front_whole nodes front back can = record { tree = can.front_tree; apart = let p = apart_parts (numbers_in nodes front) (numbers_in nodes back) can.apart in p.left }

back_whole : (nodes : List Node) (front back : ℕ) → CanJoin nodes front back → IsWhole nodes back
back_whole nodes front back can = record { tree = can.back_tree; apart = let p = apart_parts (numbers_in nodes front) (numbers_in nodes back) can.apart in p.right }

pub can_join_sides : (nodes : List Node) (i : ℕ) → IsWhole nodes i → i ≢ none → CanJoin nodes (left_in nodes i) (right_in nodes i)
can_join_sides nodes i whole differs =
    let b = branch nodes i whole differs in
    record {
      front_tree = b.opened.left_tree;
      back_tree = b.opened.right_tree;
      apart = apart_join (numbers_in nodes (left_in nodes i)) (numbers_in nodes (right_in nodes i)) b.left_apart b.right_apart b.across;
      fits = omega (arith, b.count, b.fits);
    }

pub can_join_right : (nodes : List Node) (front back : ℕ) → CanJoin nodes front back → front ≢ none → CanJoin nodes (right_in nodes front) back
can_join_right nodes front back can differs =
    let b = branch nodes front (front_whole nodes front back can) differs in
    let p = apart_parts (numbers_in nodes front) (numbers_in nodes back) can.apart in
    record {
      front_tree = b.opened.right_tree;
      back_tree = can.back_tree;
      apart = apart_join (numbers_in nodes (right_in nodes front)) (numbers_in nodes back) b.right_apart p.right (λ j a. p.across j (b.in_right j a));
      fits = omega (arith, b.count, can.fits);
    }

pub can_join_left : (nodes : List Node) (front back : ℕ) → CanJoin nodes front back → back ≢ none → CanJoin nodes front (left_in nodes back)
can_join_left nodes front back can differs =
    let b = branch nodes back (back_whole nodes front back can) differs in
    let p = apart_parts (numbers_in nodes front) (numbers_in nodes back) can.apart in
    record {
      front_tree = can.front_tree;
      back_tree = b.opened.left_tree;
      apart = apart_join (numbers_in nodes front) (numbers_in nodes (left_in nodes back)) p.left b.left_apart (λ j a c. p.across j a (b.in_left j c));
      fits = omega (arith, b.count, can.fits);
    }

pub joins_right : (old mid new : List Node) (front back r : ℕ) (node : Node) → node ≡ node_in old front → CanJoin old front back → front ≢ none → Joins old mid node.right back r → new ≡ set mid front (record { left = node.left; right = r }) → Joins old new front back front
joins_right old mid new front back r node at can differs joined is =
    let j = subst (λ n. Joins old mid n.right back r) at joined in
    let F = numbers_in old front in
    let B = numbers_in old back in
    let L = numbers_in old (left_in old front) in
    let R = numbers_in old (right_in old front) in
    let b = branch old front (front_whole old front back can) differs in
    let p = apart_parts F B can.apart in
    let count = ap length j.numbers_are in
    let away : (k : ℕ) → Among L k → Among (R ++ B) k → ⊥ = λ k a t. elim (Among-split R B k t) [ inl c ↦ b.across k a c | inr c ↦ p.across k (b.in_left k a) c ] in
    let other : Among (numbers_in mid r) front → ⊥ = λ a. elim (Among-split R B front (subst (λ z. Among z front) j.numbers_are a)) [ inl c ↦ b.not_right c | inr c ↦ p.across front b.in_all c ] in
    let side = right_side old mid new front r (R ++ B) b j.changes away j.tree other (omega (arith, count, length-append R B, b.count, can.fits)) (subst (λ n. new ≡ set mid front (record { left = n.left; right = r })) at is) in
    record {
      tree = side.tree;
      numbers_are = side.numbers_are ∙ ap (λ z. L ++ front ∷ z) j.numbers_are ∙ sym (append_assoc L (front ∷ R) B) ∙ ap (λ z. z ++ B) (sym b.opened.all);
      changes = changes_both old mid new (R ++ B) (front ∷ []) (F ++ B) j.changes side.changes
          (λ k t. elim (Among-split R B k t) [ inl c ↦ Among-left F B k (b.in_right k c) | inr c ↦ Among-right F B k c ])
          (λ k t. one_of front k (F ++ B) t (Among-left F B front b.in_all));
    }

pub joins_left : (old mid new : List Node) (front back l : ℕ) (node : Node) → node ≡ node_in old back → CanJoin old front back → back ≢ none → Joins old mid front node.left l → new ≡ set mid back (record { left = l; right = node.right }) → Joins old new front back back
joins_left old mid new front back l node at can differs joined is =
    let j = subst (λ n. Joins old mid front n.left l) at joined in
    let F = numbers_in old front in
    let B = numbers_in old back in
    let L = numbers_in old (left_in old back) in
    let R = numbers_in old (right_in old back) in
    let b = branch old back (back_whole old front back can) differs in
    let p = apart_parts F B can.apart in
    let count = ap length j.numbers_are in
    let away : (k : ℕ) → Among R k → Among (F ++ L) k → ⊥ = λ k a t. elim (Among-split F L k t) [ inl c ↦ p.across k c (b.in_right k a) | inr c ↦ b.across k c a ] in
    let other : Among (numbers_in mid l) back → ⊥ = λ a. elim (Among-split F L back (subst (λ z. Among z back) j.numbers_are a)) [ inl c ↦ p.across back c b.in_all | inr c ↦ b.not_left c ] in
    let side = left_side old mid new back l (F ++ L) b j.changes away j.tree other (omega (arith, count, length-append F L, b.count, can.fits)) (subst (λ n. new ≡ set mid back (record { left = l; right = n.right })) at is) in
    record {
      tree = side.tree;
      numbers_are = side.numbers_are ∙ ap (λ z. z ++ back ∷ R) j.numbers_are ∙ append_assoc F L (back ∷ R) ∙ ap (λ z. F ++ z) (sym b.opened.all);
      changes = changes_both old mid new (F ++ L) (back ∷ []) (F ++ B) j.changes side.changes
          (λ k t. elim (Among-split F L k t) [ inl c ↦ Among-left F B k c | inr c ↦ Among-right F B k (b.in_left k c) ])
          (λ k t. one_of back k (F ++ B) t (Among-right F B back b.in_all));
    }

pub new_left : (nodes : List Node) (root id : ℕ) → IsNew nodes root id → root ≢ none → IsNew nodes (left_in nodes root) id
new_left nodes root id new differs =
    let b = branch nodes root new.whole differs in
    record { whole = whole_left nodes root new.whole differs; other = λ a. new.other (b.in_left id a); small = new.small; within = new.within; fits = omega (arith, b.count, new.fits) }

pub new_right : (nodes : List Node) (root id : ℕ) → IsNew nodes root id → root ≢ none → IsNew nodes (right_in nodes root) id
new_right nodes root id new differs =
    let b = branch nodes root new.whole differs in
    record { whole = whole_right nodes root new.whole differs; other = λ a. new.other (b.in_right id a); small = new.small; within = new.within; fits = omega (arith, b.count, new.fits) }

-- the same by a number's node
pub can_join_on_right : (nodes : List Node) (front back : ℕ) (node : Node) → node ≡ node_in nodes front → CanJoin nodes front back → front ≢ none → CanJoin nodes node.right back
can_join_on_right nodes front back node at can differs = subst (λ n. CanJoin nodes n.right back) (sym at) (can_join_right nodes front back can differs)

pub can_join_on_left : (nodes : List Node) (front back : ℕ) (node : Node) → node ≡ node_in nodes back → CanJoin nodes front back → back ≢ none → CanJoin nodes front node.left
can_join_on_left nodes front back node at can differs = subst (λ n. CanJoin nodes front n.left) (sym at) (can_join_left nodes front back can differs)

pub can_join_both : (nodes : List Node) (i : ℕ) (node : Node) → node ≡ node_in nodes i → IsWhole nodes i → i ≢ none → CanJoin nodes node.left node.right
can_join_both nodes i node at whole differs = subst (λ n. CanJoin nodes n.left n.right) (sym at) (can_join_sides nodes i whole differs)

pub whole_on_left : (nodes : List Node) (i : ℕ) (node : Node) → node ≡ node_in nodes i → IsWhole nodes i → i ≢ none → IsWhole nodes node.left
whole_on_left nodes i node at whole differs = subst (λ n. IsWhole nodes n.left) (sym at) (whole_left nodes i whole differs)

pub whole_on_right : (nodes : List Node) (i : ℕ) (node : Node) → node ≡ node_in nodes i → IsWhole nodes i → i ≢ none → IsWhole nodes node.right
whole_on_right nodes i node at whole differs = subst (λ n. IsWhole nodes n.right) (sym at) (whole_right nodes i whole differs)

pub new_on_left : (nodes : List Node) (root id : ℕ) (node : Node) → node ≡ node_in nodes root → IsNew nodes root id → root ≢ none → IsNew nodes node.left id
new_on_left nodes root id node at new differs = subst (λ n. IsNew nodes n.left id) (sym at) (new_left nodes root id new differs)

pub new_on_right : (nodes : List Node) (root id : ℕ) (node : Node) → node ≡ node_in nodes root → IsNew nodes root id → root ≢ none → IsNew nodes node.right id
new_on_right nodes root id node at new differs = subst (λ n. IsNew nodes n.right id) (sym at) (new_right nodes root id new differs)

module _ {T : Type 0} (standing : T → Ordering) (item : ℕ → Option T) where
  -- ---- a tree cut in two

  pub parts_none : (nodes : List Node) (root : ℕ) → root ≡ none → Parts standing item nodes nodes root none none
  parts_none nodes root is =
      let empty = nothing nodes in
      record {
        front_tree = empty_tree nodes;
        back_tree = empty_tree nodes;
        parted = record {
          whole = ap (numbers_in nodes) is ∙ empty ∙ ap (λ z. z ++ []) (sym empty) ∙ ap (λ z. numbers_in nodes none ++ z) (sym empty);
          below = λ run i a. absurd (subst (λ z. Among z i) empty a);
          rest = λ run i a. absurd (subst (λ z. Among z i) empty a);
        };
        changes = changes_none nodes (numbers_in nodes root);
      }

  pub parts_right : (old mid new : List Node) (root front back : ℕ) (node : Node) → node ≡ node_in old root → IsWhole old root → root ≢ none → stand standing (item root) ≡ Less → Parts standing item old mid node.right front back
      → new ≡ set mid root (record { left = node.left; right = front }) → Parts standing item old new root root back
  parts_right old mid new root front back node at whole differs less parts is =
      let p = subst (λ n. Parts standing item old mid n.right front back) at parts in
      let L = numbers_in old (left_in old root) in
      let R = numbers_in old (right_in old root) in
      let F = numbers_in mid front in
      let B = numbers_in mid back in
      let b = branch old root whole differs in
      let count = ap length p.parted.whole in
      let in_front : (k : ℕ) → Among F k → Among R k = λ k a. subst (λ z. Among z k) (sym p.parted.whole) (Among-left F B k a) in
      let in_back : (k : ℕ) → Among B k → Among R k = λ k a. subst (λ z. Among z k) (sym p.parted.whole) (Among-right F B k a) in
      let side = right_side old mid new root front R b p.changes b.across p.front_tree (λ a. b.not_right (in_front root a)) (omega (arith, count, length-append F B, b.count, b.fits)) (subst (λ n. new ≡ set mid root (record { left = n.left; right = front })) at is) in
      let size = side.changes.size in
      let rest = stays mid new back p.back_tree (omega (arith, size)) (λ k a. side.changes.others k (λ t. b.not_right (one_of k root R (elim t [ inl e ↦ inl (sym e) | inr f ↦ absurd f ]) (in_back k a)))) in
      record {
        front_tree = side.tree;
        back_tree = rest.tree;
        parted = subst (λ z. IsParted standing item (numbers_in old root) (numbers_in new root) z) (sym rest.numbers_are) (parted_right standing item (numbers_in old root) L root R F B (numbers_in new root) b.opened.all less p.parted side.numbers_are);
        changes = changes_both old mid new R (root ∷ []) (numbers_in old root) p.changes side.changes b.in_right (λ k t. one_of root k (numbers_in old root) t b.in_all);
      }

  pub parts_left : (old mid new : List Node) (root front back : ℕ) (node : Node) → node ≡ node_in old root → IsWhole old root → root ≢ none → stand standing (item root) ≢ Less → Parts standing item old mid node.left front back
      → new ≡ set mid root (record { left = back; right = node.right }) → Parts standing item old new root front root
  parts_left old mid new root front back node at whole differs not_less parts is =
      let p = subst (λ n. Parts standing item old mid n.left front back) at parts in
      let L = numbers_in old (left_in old root) in
      let R = numbers_in old (right_in old root) in
      let F = numbers_in mid front in
      let B = numbers_in mid back in
      let b = branch old root whole differs in
      let count = ap length p.parted.whole in
      let in_front : (k : ℕ) → Among F k → Among L k = λ k a. subst (λ z. Among z k) (sym p.parted.whole) (Among-left F B k a) in
      let in_back : (k : ℕ) → Among B k → Among L k = λ k a. subst (λ z. Among z k) (sym p.parted.whole) (Among-right F B k a) in
      let side = left_side old mid new root back L b p.changes (λ k a c. b.across k c a) p.back_tree (λ a. b.not_left (in_back root a)) (omega (arith, count, length-append F B, b.count, b.fits)) (subst (λ n. new ≡ set mid root (record { left = back; right = n.right })) at is) in
      let size = side.changes.size in
      let rest = stays mid new front p.front_tree (omega (arith, size)) (λ k a. side.changes.others k (λ t. b.not_left (one_of k root L (elim t [ inl e ↦ inl (sym e) | inr f ↦ absurd f ]) (in_front k a)))) in
      record {
        front_tree = rest.tree;
        back_tree = side.tree;
        parted = subst (λ z. IsParted standing item (numbers_in old root) z (numbers_in new root)) (sym rest.numbers_are) (parted_left standing item (numbers_in old root) L root R F B (numbers_in new root) b.opened.all not_less p.parted side.numbers_are);
        changes = changes_both old mid new L (root ∷ []) (numbers_in old root) p.changes side.changes b.in_left (λ k t. one_of root k (numbers_in old root) t b.in_all);
      }

  -- ---- a number more

  pub takes_in_here : (old mid new : List Node) (root id front back : ℕ) → IsNew old root id → Parts standing item old mid root front back → new ≡ set mid id (record { left = front; right = back }) → TakesIn standing item old new root id id
  takes_in_here old mid new root id front back fresh p is =
      let A = numbers_in old root in
      let F = numbers_in mid front in
      let B = numbers_in mid back in
      let size = p.changes.size in
      let within = fresh.within in
      let count = ap length p.parted.whole in
      let h = hangs mid new id front back (omega (arith, size, within)) is in
      let done = hung mid new id front back p.front_tree p.back_tree
      (λ a. fresh.other (subst (λ z. Among z id) (sym p.parted.whole) (Among-left F B id a))) (λ a. fresh.other (subst (λ z. Among z id) (sym p.parted.whole) (Among-right F B id a)))
      fresh.small (omega (arith, size, within)) (omega (arith, size, count, length-append F B, fresh.fits)) h in
      record {
        tree = done.tree;
        placed = record { front = F; back = B; parted = p.parted; placed = done.numbers_are };
        changes = changes_both old mid new A (id ∷ []) (id ∷ A) p.changes h.changes (λ k a. inr a) (λ k t. one_of id k (id ∷ A) t (inl refl));
      }

  placed_from : (all : List ℕ) (id : ℕ) (now : List ℕ) → IsPlaced standing item all id now → (j : ℕ) → Among now j → (id ≡ j) ⊎ Among all j
  placed_from all id now p j a = elim (Among-split p.front (id ∷ p.back) j (subst (λ z. Among z j) p.placed a)) [
    | inl b ↦ inr (subst (λ z. Among z j) (sym p.parted.whole) (Among-left p.front p.back j b))
    | inr (inl e) ↦ inl e
    | inr (inr b) ↦ inr (subst (λ z. Among z j) (sym p.parted.whole) (Among-right p.front p.back j b))
  ]

  placed_count : (all : List ℕ) (id : ℕ) (now : List ℕ) → IsPlaced standing item all id now → length now ≡ length all + 1
  placed_count all id now p = omega (arith, ap length p.placed, ap length p.parted.whole, length-append p.front (id ∷ p.back), length-append p.front p.back)

  pub takes_in_right : (old mid new : List Node) (root id r : ℕ) (node : Node) → node ≡ node_in old root → IsNew old root id → root ≢ none → stand standing (item root) ≡ Less → TakesIn standing item old mid node.right id r
      → new ≡ set mid root (record { left = node.left; right = r }) → TakesIn standing item old new root id root
  takes_in_right old mid new root id r node at fresh differs less takes is =
      let t = subst (λ n. TakesIn standing item old mid n.right id r) at takes in
      let A = numbers_in old root in
      let L = numbers_in old (left_in old root) in
      let R = numbers_in old (right_in old root) in
      let N = numbers_in mid r in
      let b = branch old root fresh.whole differs in
      let away : (k : ℕ) → Among L k → Among (id ∷ R) k → ⊥ = λ k a. elim [ inl e ↦ fresh.other (b.in_left id (subst (λ z. Among L z) (sym e) a)) | inr c ↦ b.across k a c ] in
      let other : Among N root → ⊥ = λ a. elim (placed_from R id N t.placed root a) [ inl e ↦ fresh.other (subst (λ z. Among A z) (sym e) b.in_all) | inr c ↦ b.not_right c ] in
      let side = right_side old mid new root r (id ∷ R) b t.changes away t.tree other (omega (arith, placed_count R id N t.placed, b.count, fresh.fits)) (subst (λ n. new ≡ set mid root (record { left = n.left; right = r })) at is) in
      record {
        tree = side.tree;
        placed = placed_right standing item A L root R N id (numbers_in new root) b.opened.all less t.placed side.numbers_are;
        changes = changes_both old mid new (id ∷ R) (root ∷ []) (id ∷ A) t.changes side.changes (λ k. elim [ inl e ↦ inl e | inr c ↦ inr (b.in_right k c) ]) (λ k c. one_of root k (id ∷ A) c (inr b.in_all));
      }

  pub takes_in_left : (old mid new : List Node) (root id l : ℕ) (node : Node) → node ≡ node_in old root → IsNew old root id → root ≢ none → stand standing (item root) ≢ Less → TakesIn standing item old mid node.left id l
      → new ≡ set mid root (record { left = l; right = node.right }) → TakesIn standing item old new root id root
  takes_in_left old mid new root id l node at fresh differs not_less takes is =
      let t = subst (λ n. TakesIn standing item old mid n.left id l) at takes in
      let A = numbers_in old root in
      let L = numbers_in old (left_in old root) in
      let R = numbers_in old (right_in old root) in
      let N = numbers_in mid l in
      let b = branch old root fresh.whole differs in
      let away : (k : ℕ) → Among R k → Among (id ∷ L) k → ⊥ = λ k a. elim [ inl e ↦ fresh.other (b.in_right id (subst (λ z. Among R z) (sym e) a)) | inr c ↦ b.across k c a ] in
      let other : Among N root → ⊥ = λ a. elim (placed_from L id N t.placed root a) [ inl e ↦ fresh.other (subst (λ z. Among A z) (sym e) b.in_all) | inr c ↦ b.not_left c ] in
      let side = left_side old mid new root l (id ∷ L) b t.changes away t.tree other (omega (arith, placed_count L id N t.placed, b.count, fresh.fits)) (subst (λ n. new ≡ set mid root (record { left = l; right = n.right })) at is) in
      record {
        tree = side.tree;
        placed = placed_left standing item A L root R N id (numbers_in new root) b.opened.all not_less t.placed side.numbers_are;
        changes = changes_both old mid new (id ∷ L) (root ∷ []) (id ∷ A) t.changes side.changes (λ k. elim [ inl e ↦ inl e | inr c ↦ inr (b.in_left k c) ]) (λ k c. one_of root k (id ∷ A) c (inr b.in_all));
      }

  -- ---- a number fewer

  pub gives_up_none : (nodes : List Node) (root : ℕ) → root ≡ none → GivesUp standing item nodes nodes root none
  gives_up_none nodes root is =
      let all : numbers_in nodes root ≡ [] = ap (numbers_in nodes) is ∙ nothing nodes in
      record {
        tree = empty_tree nodes;
        left_out = λ run id one. absurd (subst (λ z. Among z id) all one.among);
        from = λ i a. absurd (subst (λ z. Among z i) (nothing nodes) a);
        fewer = omega (arith, ap length (nothing nodes));
        changes = changes_none nodes (numbers_in nodes root);
      }

  pub gives_up_right : (old mid new : List Node) (root r : ℕ) (node : Node) → node ≡ node_in old root → IsWhole old root → root ≢ none → stand standing (item root) ≡ Less → GivesUp standing item old mid node.right r
      → new ≡ set mid root (record { left = node.left; right = r }) → GivesUp standing item old new root root
  gives_up_right old mid new root r node at whole differs less gives is =
      let t = subst (λ n. GivesUp standing item old mid n.right r) at gives in
      let A = numbers_in old root in
      let L = numbers_in old (left_in old root) in
      let R = numbers_in old (right_in old root) in
      let N = numbers_in mid r in
      let b = branch old root whole differs in
      let side = right_side old mid new root r R b t.changes b.across t.tree (λ a. b.not_right (t.from root a)) (omega (arith, t.fewer, b.count, b.fits)) (subst (λ n. new ≡ set mid root (record { left = n.left; right = r })) at is) in
      record {
        tree = side.tree;
        left_out = left_out_right standing item A L root R N (numbers_in new root) b.opened.all less t.left_out side.numbers_are;
        from = λ k a. elim (Among-split L (root ∷ N) k (subst (λ z. Among z k) side.numbers_are a)) [ inl c ↦ b.in_left k c | inr (inl e) ↦ subst (λ z. Among A z) e b.in_all | inr (inr c) ↦ b.in_right k (t.from k c) ];
        fewer = omega (arith, ap length side.numbers_are, length-append L (root ∷ N), t.fewer, b.count);
        changes = changes_both old mid new R (root ∷ []) A t.changes side.changes b.in_right (λ k c. one_of root k A c b.in_all);
      }

  pub gives_up_left : (old mid new : List Node) (root l : ℕ) (node : Node) → node ≡ node_in old root → IsWhole old root → root ≢ none → stand standing (item root) ≡ Greater → GivesUp standing item old mid node.left l
      → new ≡ set mid root (record { left = l; right = node.right }) → GivesUp standing item old new root root
  gives_up_left old mid new root l node at whole differs greater gives is =
      let t = subst (λ n. GivesUp standing item old mid n.left l) at gives in
      let A = numbers_in old root in
      let L = numbers_in old (left_in old root) in
      let R = numbers_in old (right_in old root) in
      let N = numbers_in mid l in
      let b = branch old root whole differs in
      let side = left_side old mid new root l L b t.changes (λ k a c. b.across k c a) t.tree (λ a. b.not_left (t.from root a)) (omega (arith, t.fewer, b.count, b.fits)) (subst (λ n. new ≡ set mid root (record { left = l; right = n.right })) at is) in
      record {
        tree = side.tree;
        left_out = left_out_left standing item A L root R N (numbers_in new root) b.opened.all greater t.left_out side.numbers_are;
        from = λ k a. elim (Among-split N (root ∷ R) k (subst (λ z. Among z k) side.numbers_are a)) [ inl c ↦ b.in_left k (t.from k c) | inr (inl e) ↦ subst (λ z. Among A z) e b.in_all | inr (inr c) ↦ b.in_right k c ];
        fewer = omega (arith, ap length side.numbers_are, length-append N (root ∷ R), t.fewer, b.count);
        changes = changes_both old mid new L (root ∷ []) A t.changes side.changes b.in_left (λ k c. one_of root k A c b.in_all);
      }

  pub gives_up_here : (old new : List Node) (root now : ℕ) (node : Node) → node ≡ node_in old root → IsWhole old root → root ≢ none → stand standing (item root) ≡ Equal → Joins old new node.left node.right now → GivesUp standing item old new root now
  gives_up_here old new root now node at whole differs equal joined =
      let j = subst (λ n. Joins old new n.left n.right now) at joined in
      let A = numbers_in old root in
      let L = numbers_in old (left_in old root) in
      let R = numbers_in old (right_in old root) in
      let b = branch old root whole differs in
      record {
        tree = j.tree;
        left_out = left_out_here standing item A L root R (numbers_in new now) b.opened.all equal j.numbers_are;
        from = λ k a. elim (Among-split L R k (subst (λ z. Among z k) j.numbers_are a)) [ inl c ↦ b.in_left k c | inr c ↦ b.in_right k c ];
        fewer = omega (arith, ap length j.numbers_are, length-append L R, b.count);
        changes = record { size = j.changes.size; others = λ k out. j.changes.others k (λ c. out (elim (Among-split L R k c) [ inl d ↦ b.in_left k d | inr d ↦ b.in_right k d ])) };
      }
