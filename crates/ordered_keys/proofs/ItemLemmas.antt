-- An item in and an item out: the items, their order and the free numbers together.
use Rattle.std.proofs.Common.{◌≡◌, ◌≢◌, ℕ, zero, suc, ◌+◌, ◌<◌, ◌≤◌, inl, inr, List, [], ◌∷◌, ◌++◌, length, Option, Some, None, is_some, IsSome, set, refl, sym, ap, subst, ◌∙◌, arith}
use Rattle.std.specs.declared.cmp.Ordering.{Ordering}
use Rattle.std.specs.declared.cmp.Ordering.TheVariants.{Equal}
use Rattle.std.proofs.lemmas.Bool.{cases_eq, cases_lt}
use Rattle.std.proofs.lemmas.List.{length-append, length-set, get_or-set_same, get_or-set_other, get_or_past}
use Rattle.ordered_keys.specs.declared.nodes.Node.{Node}
use Rattle.ordered_keys.specs.Numbers.{Among, AreApart, Loses}
use Rattle.ordered_keys.specs.Keys.{key_in, Inserts, Removes}
use Rattle.ordered_keys.specs.Arranged.{CanLeave, IsCutOf, IsListing, Places}
use Rattle.ordered_keys.specs.Nodes.{IsChain, IsNew, node_in, none, numbers_in, right_in}
use Rattle.ordered_keys.specs.Stored.{AreFree, IsStored}
use Rattle.ordered_keys.specs.Tree.{GivesUp, IsTheOne, TakesIn, stand}
use Rattle.ordered_keys.proofs.NumberLemmas.{Among-left, Among-right, Among-split, apart_insert, apart_remove}
use Rattle.ordered_keys.proofs.NodeLemmas.{chain_stays, empty_tree, hangs, last_node, more_node, stays, within_chain, within_tree}
use Rattle.ordered_keys.proofs.RunLemmas.{above_of, equal_of, run_of_cut}

-- one number has something else
record Changed {T : Type 0} (old new : List (Option T)) (id : ℕ) (now : Option T) : Type 0 where
  changed : key_in new id ≡ now
  others : (i : ℕ) → i ≢ id → key_in new i ≡ key_in old i

module _ {T : Type 0} where
  key_grown : (slots : List (Option T)) (i : ℕ) → key_in (slots ++ None ∷ []) i ≡ key_in slots i
  key_grown [] zero = refl
  key_grown [] (suc i) = refl
  key_grown (x ∷ slots) zero = refl
  key_grown (x ∷ slots) (suc i) = key_grown slots i

  pub none_is_not_some : (o : Option T) → o ≡ None → IsSome o → ⊥
  none_is_not_some (Some x) e h = absurd (cc)
  none_is_not_some None e h = absurd (cc)

  pub none_not_some : (o : Option T) (x : T) → o ≡ None → o ≡ Some x → ⊥
  none_not_some o x none some = absurd (cc)

  pub there : (slots : List (Option T)) (i : ℕ) → IsSome (key_in slots i) → i < length slots
  there slots i some = elim (cases_lt i (length slots)) [
    | inl within ↦ within
    | inr past ↦ absurd (none_is_not_some (key_in slots i) (get_or_past slots i None past) some)
  ]

  set_changes : (slots : List (Option T)) (id : ℕ) (now : Option T) → id < length slots → Changed slots (set slots id now) id now
  set_changes slots id now within = record {
    changed = get_or-set_same slots id now None within;
    others = λ i differs. get_or-set_other slots id i now None differs;
  }

  -- ---- a listing

  pub listing_in : (old new : ℕ → Option T) (order front back : List ℕ) (id : ℕ) → IsListing old order → order ≡ front ++ back → old id ≡ None → IsSome (new id) → ((i : ℕ) → i ≢ id → new i ≡ old i) → IsListing new (front ++ id ∷ back)
  listing_in old new order front back id was whole free put others = record {
    live = λ i. (
      λ a. elim (Among-split front (id ∷ back) i a) [
        | inl b ↦ lives i (Among-left front back i b)
        | inr (inl e) ↦ subst (λ z. IsSome (new z)) e put
        | inr (inr b) ↦ lives i (Among-right front back i b)
      ],
      λ some. elim (cases_eq i id) [
        | inl e ↦ Among-right front (id ∷ back) i (inl (sym e))
        | inr differs ↦ elim (Among-split front back i (subst (λ z. Among z i) whole ((was.live i).1 (ap is_some (sym (others i differs)) ∙ some)))) [
          | inl b ↦ Among-left front (id ∷ back) i b
          | inr b ↦ Among-right front (id ∷ back) i (inr b)
        ]
      ],
    );
    apart = apart_insert front back id (subst AreApart whole was.apart) (λ a. none_is_not_some (old id) free ((was.live id).0 (subst (λ z. Among z id) (sym whole) a)));
  }
    where
      differs_from : (i : ℕ) → Among (front ++ back) i → i ≢ id
      differs_from i a e = none_is_not_some (old i) (ap old e ∙ free) ((was.live i).0 (subst (λ z. Among z i) (sym whole) a))

      lives : (i : ℕ) → Among (front ++ back) i → IsSome (new i)
      lives i a = ap is_some (others i (differs_from i a)) ∙ (was.live i).0 (subst (λ z. Among z i) (sym whole) a)

  pub listing_out : (old new : ℕ → Option T) (order front back : List ℕ) (id : ℕ) → IsListing old order → order ≡ front ++ id ∷ back → new id ≡ None → ((i : ℕ) → i ≢ id → new i ≡ old i) → IsListing new (front ++ back)
  listing_out old new order front back id was whole gone others = record {
    live = λ i. (
      λ a.
          let differs : i ≢ id = λ e. rest.1 (subst (λ z. Among (front ++ back) z) e a) in
          ap is_some (others i differs) ∙ (was.live i).0 (subst (λ z. Among z i) (sym whole) (wider i a)),
      λ some.
          let differs : i ≢ id = λ e. none_is_not_some (new i) (ap new e ∙ gone) some in
          elim (Among-split front (id ∷ back) i (subst (λ z. Among z i) whole ((was.live i).1 (ap is_some (sym (others i differs)) ∙ some)))) [
            | inl b ↦ Among-left front back i b
            | inr (inl e) ↦ absurd (differs (sym e))
            | inr (inr b) ↦ Among-right front back i b
          ],
    );
    apart = rest.0;
  }
    where
      rest : AreApart (front ++ back) × (Among (front ++ back) id → ⊥)
      rest = apart_remove front back id (subst AreApart whole was.apart)

      wider : (i : ℕ) → Among (front ++ back) i → Among (front ++ id ∷ back) i
      wider i a = elim (Among-split front back i a) [ inl b ↦ Among-left front (id ∷ back) i b | inr b ↦ Among-right front (id ∷ back) i (inr b) ]

  pub listing_kept : (old new : ℕ → Option T) (order : List ℕ) → IsListing old order → ((i : ℕ) → new i ≡ old i) → IsListing new order
  listing_kept old new order was same = record {
    live = λ i. (λ a. ap is_some (same i) ∙ (was.live i).0 a, λ some. (was.live i).1 (ap is_some (sym (same i)) ∙ some));
    apart = was.apart;
  }

  -- ---- no number, and more numbers

  pub none_stored : (slots : List (Option T)) (nodes : List Node) → slots ≡ [] → nodes ≡ [] → IsStored slots nodes none none 0
  none_stored slots nodes no_slots no_nodes = subst (λ (z : List (Option T)). IsStored z nodes none none 0) (sym no_slots) (subst (λ z. IsStored {T = T} [] z none none 0) (sym no_nodes) (record {
    tree = empty_tree [];
    listed = record { live = λ i. (λ a. absurd a, λ some. absurd (none_is_not_some (key_in {K = T} [] i) (get_or_past {X = Option T} [] i None (omega arith)) some)); apart = tt };
    unused = [];
    chain = refl;
    free_are = record { members = λ i. (λ a. absurd a, λ t. absurd (let lt = t.0 in omega (arith, lt))); apart = tt };
    count = refl;
    total = refl;
    even = refl;
    bound = omega arith;
  }))

  grown : (slots : List (Option T)) (nodes : List Node) (top free room : ℕ) → IsStored slots nodes top free room → length slots < none → IsStored (slots ++ None ∷ []) (nodes ++ record { left = none; right = free } ∷ []) top (length slots) (room + 1)
  grown slots nodes top free room old small =
      let node : Node = record { left = none; right = free } in
      let even = old.even in
      let more = length-append nodes (node ∷ []) in
      let longer = length-append slots (None ∷ []) in
      let is = stays nodes (nodes ++ node ∷ []) top old.tree (omega (arith, more)) (λ j a. more_node nodes node j (within_tree nodes top old.tree j a)) in
      let last : node_in (nodes ++ node ∷ []) (length slots) ≡ node = ap (node_in (nodes ++ node ∷ [])) (sym even) ∙ last_node nodes node in
      record {
        tree = is.tree;
        listed = subst (IsListing (key_in (slots ++ None ∷ []))) (sym is.numbers_are) (listing_kept (key_in slots) (key_in (slots ++ None ∷ [])) (numbers_in nodes top) old.listed (key_grown slots));
        unused = length slots ∷ old.unused;
        chain = (
          refl,
          small,
          omega (arith, more, even),
          subst (λ z. IsChain (nodes ++ node ∷ []) z old.unused) (sym (ap (λ n. n.right) last)) (chain_stays nodes (nodes ++ node ∷ []) free old.unused old.chain (omega (arith, more)) (λ j a. more_node nodes node j (within_chain nodes free old.unused old.chain j a))),
        );
        free_are = record {
          members = λ i. (
            elim [
              | inl e ↦ (omega (arith, e, longer), key_grown slots i ∙ get_or_past slots i None (omega (arith, e)))
              | inr a ↦ let was = (old.free_are.members i).0 a in (omega (arith, was.0, longer), key_grown slots i ∙ was.1)
            ],
            λ t. elim (cases_lt i (length slots)) [
              | inl within ↦ inr ((old.free_are.members i).1 (within, sym (key_grown slots i) ∙ t.1))
              | inr past ↦ inl (omega (arith, t.0, longer))
            ],
          );
          apart = (λ a. let was = (old.free_are.members (length slots)).0 a in absurd (omega (arith, was.0)), old.free_are.apart);
        };
        count = omega (arith, old.count);
        total = omega (arith, old.total, longer, ap length is.numbers_are);
        even = omega (arith, even, more, longer);
        bound = omega (arith, longer, small);
      }

  -- a loop that adds numbers has come to this one
  pub record Growing (old slots : List (Option T)) (nodes : List Node) (order : List ℕ) (top free room was slots_room nodes_room number size : ℕ) : Type 0 where
    pub stored : IsStored slots nodes top free room
    pub order_is : numbers_in nodes top ≡ order
    pub same : (i : ℕ) → key_in slots i ≡ key_in old i
    pub length_is : length slots ≡ number
    pub within : number ≤ size
    pub more : room + length old ≡ was + length slots
    pub slots_hold : size ≤ slots_room
    pub nodes_hold : size ≤ nodes_room
    pub small : size < none

  growing_more : (old slots : List (Option T)) (nodes : List Node) (order : List ℕ) (top free room was slots_room nodes_room number size : ℕ) → Growing old slots nodes order top free room was slots_room nodes_room number size → number < size
      → Growing old (slots ++ None ∷ []) (nodes ++ record { left = none; right = free } ∷ []) order top number (room + 1) was slots_room nodes_room (number + 1) size
  growing_more old slots nodes order top free room was slots_room nodes_room number size g lt =
      let node : Node = record { left = none; right = free } in
      let is = stays nodes (nodes ++ node ∷ []) top g.stored.tree (omega (arith, length-append nodes (node ∷ []))) (λ j a. more_node nodes node j (within_tree nodes top g.stored.tree j a)) in
      let length_is = g.length_is in
      let small = g.small in
      record {
        stored = subst (λ n. IsStored (slots ++ None ∷ []) (nodes ++ node ∷ []) top n (room + 1)) g.length_is (grown slots nodes top free room g.stored (omega (arith, length_is, small)));
        order_is = is.numbers_are ∙ g.order_is;
        same = λ i. key_grown slots i ∙ g.same i;
        length_is = omega (arith, length-append slots (None ∷ []), g.length_is);
        within = omega arith;
        more = omega (arith, length-append slots (None ∷ []), g.more);
        slots_hold = g.slots_hold;
        nodes_hold = g.nodes_hold;
        small = g.small;
      }

  pub growing_step : (old slots now : List (Option T)) (nodes new : List Node) (order : List ℕ) (top free room was slots_room nodes_room slots_now nodes_now number size : ℕ) → Growing old slots nodes order top free room was slots_room nodes_room number size → number < size
      → now ≡ slots ++ None ∷ [] → new ≡ nodes ++ record { left = none; right = free } ∷ [] → slots_now ≡ slots_room → nodes_now ≡ nodes_room → Growing old now new order top number (room + 1) was slots_now nodes_now (number + 1) size
  growing_step old slots now nodes new order top free room was slots_room nodes_room slots_now nodes_now number size g lt one two three four =
      subst (λ a. Growing old a new order top number (room + 1) was slots_now nodes_now (number + 1) size) (sym one)
      (subst (λ b. Growing old (slots ++ None ∷ []) b order top number (room + 1) was slots_now nodes_now (number + 1) size) (sym two)
      (subst (λ c. Growing old (slots ++ None ∷ []) (nodes ++ record { left = none; right = free } ∷ []) order top number (room + 1) was c nodes_now (number + 1) size) (sym three)
      (subst (λ d. Growing old (slots ++ None ∷ []) (nodes ++ record { left = none; right = free } ∷ []) order top number (room + 1) was slots_room d (number + 1) size) (sym four)
      (growing_more old slots nodes order top free room was slots_room nodes_room number size g lt))))

  -- ---- an item in

  -- the first free number, and those behind it
  record IsHead (slots : List (Option T)) (nodes : List Node) (free room : ℕ) : Type 0 where
    rest : List ℕ
    chain : IsChain nodes (right_in nodes free) rest
    are : AreFree slots (free ∷ rest)
    count : length rest + 1 ≡ room
    small : free < none

  head_by : (slots : List (Option T)) (nodes : List Node) (free room : ℕ) (unused : List ℕ) → IsChain nodes free unused → AreFree slots unused → length unused ≡ room → 1 ≤ room → IsHead slots nodes free room
  head_by slots nodes free room [] chain are count some = absurd (omega (arith, count, some))
  head_by slots nodes free room (i ∷ is) chain are count some = subst (λ z. IsHead slots nodes z room) (sym chain.0) (record { rest = is; chain = chain.3; are = are; count = omega (arith, count); small = chain.1 })

  head_of : (slots : List (Option T)) (nodes : List Node) (top free room : ℕ) → IsStored slots nodes top free room → 1 ≤ room → IsHead slots nodes free room
  head_of slots nodes top free room old some = head_by slots nodes free room old.unused old.chain old.free_are old.count some

  not_in_order : (slots : List (Option T)) (nodes : List Node) (top free room i : ℕ) → IsStored slots nodes top free room → key_in slots i ≡ None → Among (numbers_in nodes top) i → ⊥
  not_in_order slots nodes top free room i old gone a = none_is_not_some (key_in slots i) gone ((old.listed.live i).0 a)

  pub fresh_is : (slots : List (Option T)) (nodes : List Node) (top free room : ℕ) → IsStored slots nodes top free room → 1 ≤ room → IsNew nodes top free
  fresh_is slots nodes top free room old some =
      let head = head_of slots nodes top free room old some in
      let mine = (head.are.members free).0 (inl refl) in
      record {
        whole = record { tree = old.tree; apart = old.listed.apart };
        other = not_in_order slots nodes top free room free old mine.1;
        small = head.small;
        within = omega (arith, mine.0, old.even);
        fits = omega (arith, old.total, old.even, some);
      }

  pub record IsIn (standing : T → Ordering) (slots : List (Option T)) (nodes new : List Node) (top now free next room left : ℕ) (x : T) : Type 0 where
    pub stored : IsStored (set slots free (Some x)) new now next left
    pub inserts : Inserts (record { slots = slots; room = room }) (record { slots = set slots free (Some x); room = left }) x free
    pub places : Places standing (record { slots = slots; order = numbers_in nodes top; room = room }) (record { slots = set slots free (Some x); order = numbers_in new now; room = left }) free

  pub put_in : (standing : T → Ordering) (slots : List (Option T)) (nodes new : List Node) (top now free room left : ℕ) (x : T) (node : Node) → IsStored slots nodes top free room → 1 ≤ room → node ≡ node_in nodes free → TakesIn standing (key_in slots) nodes new top free now
      → IsCutOf standing (key_in slots) (numbers_in nodes top) → ((j : ℕ) (y : T) → key_in slots j ≡ Some y → standing y ≢ Equal) → left + 1 ≡ room → IsIn standing slots nodes new top now free node.right room left x
  put_in standing slots nodes new top now free room left x node old some at t cut absent spent =
      let order = numbers_in nodes top in
      let p = t.placed in
      let run = run_of_cut standing (key_in slots) order cut in
      let head = head_of slots nodes top free room old some in
      let mine = (head.are.members free).0 (inl refl) in
      let changed = set_changes slots free (Some x) mine.0 in
      let grew : length (numbers_in new now) ≡ length order + 1 = omega (arith, ap length p.placed, ap length p.parted.whole, length-append p.front (free ∷ p.back), length-append p.front p.back) in
      let kept = length-set slots free (Some x) in
      let size = t.changes.size in
      let was : (i : ℕ) → Among head.rest i → (i < length slots) × (key_in slots i ≡ None) = λ i a. (head.are.members i).0 (inr a) in
      record {
        stored = record {
          tree = t.tree;
          listed = subst (IsListing (key_in (set slots free (Some x)))) (sym p.placed) (listing_in (key_in slots) (key_in (set slots free (Some x))) order p.front p.back free old.listed p.parted.whole mine.1 (ap is_some changed.changed) changed.others);
          unused = head.rest;
          chain = subst (λ n. IsChain new n.right head.rest) (sym at) (chain_stays nodes new (right_in nodes free) head.rest head.chain (omega (arith, size))
              (λ j a. t.changes.others j (elim [ inl e ↦ head.are.apart.0 (subst (λ z. Among head.rest z) (sym e) a) | inr b ↦ not_in_order slots nodes top free room j old (was j a).1 b ])));
          free_are = record {
            members = λ i. (
              λ a. let differs : i ≢ free = λ e. head.are.apart.0 (subst (λ z. Among head.rest z) e a) in (omega (arith, (was i a).0, kept), changed.others i differs ∙ (was i a).1),
              λ u.
                  let differs : i ≢ free = λ e. none_not_some (key_in (set slots free (Some x)) i) x u.1 (ap (key_in (set slots free (Some x))) e ∙ changed.changed) in
                  elim ((head.are.members i).1 (omega (arith, u.0, kept), sym (changed.others i differs) ∙ u.1)) [ inl e ↦ absurd (differs (sym e)) | inr a ↦ a ],
            );
            apart = head.are.apart.1;
          };
          count = omega (arith, head.count, spent);
          total = omega (arith, old.total, kept, grew, spent);
          even = omega (arith, size, old.even, kept);
          bound = omega (arith, old.bound, kept);
        };
        inserts = record {
          free = mine.1;
          put = changed.changed;
          others = changed.others;
          less = spent;
          size = kept;
        };
        places = record {
          front = p.front;
          back = p.back;
          was = p.parted.whole;
          now = p.placed;
          below = p.parted.below run;
          above = λ i a. let y = p.parted.rest run i a in (y.0, y.1, above_of (standing y.0) y.2 (absent i y.0 y.1));
        };
      }

  -- ---- an item out

  pub record IsOut (slots : List (Option T)) (nodes new : List Node) (top now room id : ℕ) : Type 0 where
    pub stored : IsStored (set slots id None) new now id (room + 1)
    pub removes : Removes (record { slots = slots; room = room }) (record { slots = set slots id None; room = room + 1 }) id
    pub loses : Loses (numbers_in nodes top) id (numbers_in new now)

  same_item : (o : Option T) (x y : T) → o ≡ Some x → o ≡ Some y → x ≡ y
  same_item o x y one two = cc

  leaves : (cmp : T → T → Ordering) (slots : List (Option T)) (nodes new : List Node) (top now free room : ℕ) (x : T) (id : ℕ) → IsStored slots nodes top free room → key_in slots id ≡ Some x → CanLeave cmp (record { slots = slots; order = numbers_in nodes top; room = room }) id
      → GivesUp (λ y. cmp y x) (key_in slots) nodes new top now → Loses (numbers_in nodes top) id (numbers_in new now)
  leaves cmp slots nodes new top now free room x id old at can gives =
      let order = numbers_in nodes top in
      let standing = λ (y : T). cmp y can.item in
      let same : can.item ≡ x = same_item (key_in slots id) can.item x can.there at in
      let one : IsTheOne standing (key_in slots) order id = record {
        among = (old.listed.live id).1 (ap is_some at);
        equal = ap (stand standing) can.there ∙ can.equal;
        alone = λ j a e. let y = equal_of standing (key_in slots) j e in can.alone j y.0 y.1 y.2;
      } in
      let t = subst (λ z. GivesUp (λ y. cmp y z) (key_in slots) nodes new top now) (sym same) gives in
      t.left_out (run_of_cut standing (key_in slots) order can.cut) id one

  -- what the calls at the end of a removal ask for
  pub record CanFree (slots : List (Option T)) (nodes : List Node) (room id : ℕ) : Type 0 where
    pub within : id < length slots
    pub has_node : id < length nodes
    pub small : id < none

  pub can_free : (slots : List (Option T)) (nodes mid : List Node) (top free room id : ℕ) → IsStored slots nodes top free room → IsSome (key_in slots id) → length mid ≡ length nodes → CanFree slots mid room id
  can_free slots nodes mid top free room id old some size =
      let within = there slots id some in
      let bound = old.bound in
      record {
        within = within;
        has_node = omega (arith, within, old.even, size);
        small = omega (arith, within, bound);
      }

  pub taken_out : (cmp : T → T → Ordering) (slots : List (Option T)) (nodes mid new : List Node) (top now free room : ℕ) (x : T) (id : ℕ) → IsStored slots nodes top free room → key_in slots id ≡ Some x → CanLeave cmp (record { slots = slots; order = numbers_in nodes top; room = room }) id
      → GivesUp (λ y. cmp y x) (key_in slots) nodes mid top now → new ≡ set mid id (record { left = none; right = free }) → IsOut slots nodes new top now room id
  taken_out cmp slots nodes mid new top now free room x id old at can t is =
      let order = numbers_in nodes top in
      let some : IsSome (key_in slots id) = ap is_some at in
      let gone = leaves cmp slots nodes mid top now free room x id old at can t in
      let size = t.changes.size in
      let fit = can_free slots nodes mid top free room id old some size in
      let rest = apart_remove gone.0 gone.1 id (subst AreApart gone.2 old.listed.apart) in
      let h = hangs mid new id none free fit.has_node is in
      let resize = h.changes.size in
      let tree = stays mid new now t.tree (omega (arith, resize)) (λ j a. h.changes.others j (elim [ inl e ↦ rest.1 (subst (λ z. Among z id) gone.3 (subst (λ z. Among (numbers_in mid now) z) (sym e) a)) | inr b ↦ absurd b ])) in
      let loses : Loses order id (numbers_in new now) = (gone.0, gone.1, gone.2, tree.numbers_are ∙ gone.3) in
      let changed = set_changes slots id None fit.within in
      let kept = length-set slots id None in
      let fewer : length order ≡ length (numbers_in new now) + 1 = omega (arith, ap length gone.2, ap length loses.3, length-append gone.0 (id ∷ gone.1), length-append gone.0 gone.1) in
      let free_none : (j : ℕ) → Among old.unused j → key_in slots j ≡ None = λ j a. let was = (old.free_are.members j).0 a in was.1 in
      let other : (j : ℕ) → Among old.unused j → j ≢ id = λ j a e. none_is_not_some (key_in slots id) (ap (key_in slots) (sym e) ∙ free_none j a) some in
      record {
        stored = record {
          tree = tree.tree;
          listed = subst (IsListing (key_in (set slots id None))) (sym loses.3) (listing_out (key_in slots) (key_in (set slots id None)) order gone.0 gone.1 id old.listed gone.2 changed.changed changed.others);
          unused = id ∷ old.unused;
          chain = (
            refl,
            fit.small,
            omega (arith, fit.has_node, resize),
            subst (λ z. IsChain new z old.unused) (sym h.right_is) (chain_stays mid new free old.unused
                (chain_stays nodes mid free old.unused old.chain (omega (arith, size)) (λ j a. t.changes.others j (not_in_order slots nodes top free room j old (free_none j a))))
                (omega (arith, resize)) (λ j a. h.changes.others j (elim [ inl e ↦ other j a (sym e) | inr b ↦ absurd b ]))),
          );
          free_are = record {
            members = λ i. (
              elim [
                | inl e ↦ (omega (arith, e, fit.within, kept), ap (key_in (set slots id None)) (sym e) ∙ changed.changed)
                | inr a ↦ let was = (old.free_are.members i).0 a in (omega (arith, was.0, kept), changed.others i (other i a) ∙ was.1)
              ],
              λ u. elim (cases_eq i id) [
                | inl e ↦ inl (sym e)
                | inr differs ↦ inr ((old.free_are.members i).1 (omega (arith, u.0, kept), sym (changed.others i differs) ∙ u.1))
              ],
            );
            apart = (λ a. other id a refl, old.free_are.apart);
          };
          count = omega (arith, old.count);
          total = omega (arith, old.total, kept, fewer);
          even = omega (arith, size, resize, old.even, kept);
          bound = omega (arith, old.bound, kept);
        };
        removes = record {
          gone = changed.changed;
          others = changed.others;
          more = refl;
          size = kept;
        };
        loses = loses;
      }
