-- Trees whose nodes stand in a list: what is below a number, and what stays while others change.
use Rattle.std.proofs.Common.{◌≡◌, ◌≢◌, ℕ, zero, suc, ◌+◌, ◌<◌, ◌≤◌, inl, inr, true, false, cond, ◌==◌, List, [], ◌∷◌, ◌++◌, length, set, refl, sym, ap, subst, ◌∙◌, arith}
use Rattle.std.proofs.lemmas.Bool.{eqb-false, eqb-true, ne_eqb}
use Rattle.std.proofs.lemmas.List.{length-append, length-set, get_or-set_same, get_or-set_other, get_or_append_left}
use Rattle.ordered_keys.specs.declared.nodes.Node.{Node}
use Rattle.ordered_keys.specs.Numbers.{Among}
use Rattle.ordered_keys.specs.Nodes.{Changes, IsChain, IsTree, Shape, Stands, fork, leaf, left_in, listed, node_in, none, numbers_in, right_in, shape_in}
use Rattle.ordered_keys.proofs.NumberLemmas.{Among-left, Among-right, Among-split}

abbrev nil : Node
nil = record { left = 0; right = 0 }

-- ---- what hangs below a number

shape_none : (depth : ℕ) (nodes : List Node) → shape_in depth nodes none ≡ leaf
shape_none zero nodes = refl
shape_none (suc depth) nodes = refl

pub nothing : (nodes : List Node) → numbers_in nodes none ≡ []
nothing nodes = ap listed (shape_none (length nodes) nodes)

longer : (xs ys : List ℕ) (i : ℕ) → length (xs ++ i ∷ ys) ≡ length xs + length ys + 1
longer xs ys i = omega (arith, length-append xs (i ∷ ys))

shape_fork : (depth : ℕ) (nodes : List Node) (root : ℕ) → root ≢ none → shape_in (suc depth) nodes root ≡ fork (shape_in depth nodes (left_in nodes root)) root (shape_in depth nodes (right_in nodes root))
shape_fork depth nodes root differs = ap (λ b. cond b leaf (fork (shape_in depth nodes (left_in nodes root)) root (shape_in depth nodes (right_in nodes root)))) (ne_eqb root none differs)

-- the form of a tree is what is found by going down
shape_is : (depth : ℕ) (nodes : List Node) (root : ℕ) (s : Shape) → Stands nodes root s → length (listed s) ≤ depth → shape_in depth nodes root ≡ s
shape_is depth nodes root leaf st le = ap (shape_in depth nodes) st ∙ shape_none depth nodes
shape_is zero nodes root (fork l i r) st le = absurd (omega (arith, longer (listed l) (listed r) i))
shape_is (suc depth) nodes root (fork l i r) st le =
    let small : i < none = st.1 in
    let differs : i ≢ none = λ e. absurd (omega (arith, e, small)) in
    let one = shape_is depth nodes (left_in nodes i) l st.3 (omega (arith, longer (listed l) (listed r) i)) in
    let two = shape_is depth nodes (right_in nodes i) r st.4 (omega (arith, longer (listed l) (listed r) i)) in
    ap (shape_in (suc depth) nodes) st.0 ∙ shape_fork depth nodes i differs ∙ ap (λ z. fork z i (shape_in depth nodes (right_in nodes i))) one ∙ ap (λ z. fork l i z) two

pub record Is (nodes : List Node) (root : ℕ) (order : List ℕ) : Type 0 where
  pub tree : IsTree nodes root
  pub numbers_are : numbers_in nodes root ≡ order

tree_of : (nodes : List Node) (root : ℕ) (s : Shape) → Stands nodes root s → length (listed s) ≤ length nodes → Is nodes root (listed s)
tree_of nodes root s st le =
    let is = shape_is (length nodes) nodes root s st le in
    record {
      tree = record { stands = subst (Stands nodes root) (sym is) st; fits = subst (λ z. length (listed z) ≤ length nodes) (sym is) le };
      numbers_are = ap listed is;
    }

pub empty_tree : (nodes : List Node) → IsTree nodes none
empty_tree nodes = let is = tree_of nodes none leaf refl (omega arith) in is.tree

-- what a number of a tree is
pub record Opens (nodes : List Node) (root : ℕ) : Type 0 where
  pub small : root < none
  pub within : root < length nodes
  pub left_tree : IsTree nodes (left_in nodes root)
  pub right_tree : IsTree nodes (right_in nodes root)
  pub all : numbers_in nodes root ≡ numbers_in nodes (left_in nodes root) ++ root ∷ numbers_in nodes (right_in nodes root)

opens_at : (nodes : List Node) (i : ℕ) (l r : Shape) → i < none → i < length nodes → Stands nodes (left_in nodes i) l → Stands nodes (right_in nodes i) r → numbers_in nodes i ≡ listed l ++ i ∷ listed r → length (listed l ++ i ∷ listed r) ≤ length nodes → Opens nodes i
opens_at nodes i l r small within one two all le =
    let more = longer (listed l) (listed r) i in
    let left = tree_of nodes (left_in nodes i) l one (omega (arith, more)) in
    let right = tree_of nodes (right_in nodes i) r two (omega (arith, more)) in
    record {
      small = small;
      within = within;
      left_tree = left.tree;
      right_tree = right.tree;
      all = all ∙ ap (λ z. z ++ i ∷ listed r) (sym left.numbers_are) ∙ ap (λ z. numbers_in nodes (left_in nodes i) ++ i ∷ z) (sym right.numbers_are);
    }

opens_of : (nodes : List Node) (root : ℕ) (s : Shape) → Stands nodes root s → length (listed s) ≤ length nodes → numbers_in nodes root ≡ listed s → root ≢ none → Opens nodes root
opens_of nodes root leaf st le all differs = absurd (differs st)
opens_of nodes root (fork l i r) st le all differs = subst (Opens nodes) (sym st.0) (opens_at nodes i l r st.1 st.2 st.3 st.4 (ap (numbers_in nodes) (sym st.0) ∙ all) le)

pub opens : (nodes : List Node) (root : ℕ) → IsTree nodes root → root ≢ none → Opens nodes root
opens nodes root t differs = opens_of nodes root (shape_in (length nodes) nodes root) t.stands t.fits refl differs

-- two trees with a number between them
pub closes : (nodes : List Node) (i l r : ℕ) → IsTree nodes l → IsTree nodes r → left_in nodes i ≡ l → right_in nodes i ≡ r → i < none → i < length nodes → length (numbers_in nodes l) + length (numbers_in nodes r) + 1 ≤ length nodes → Is nodes i (numbers_in nodes l ++ i ∷ numbers_in nodes r)
closes nodes i l r left right one two small within le =
    tree_of nodes i (fork (shape_in (length nodes) nodes l) i (shape_in (length nodes) nodes r))
    (refl, small, within, subst (λ z. Stands nodes z (shape_in (length nodes) nodes l)) (sym one) left.stands, subst (λ z. Stands nodes z (shape_in (length nodes) nodes r)) (sym two) right.stands)
    (omega (arith, longer (numbers_in nodes l) (numbers_in nodes r) i))

-- ---- what stays

stands_still : (old new : List Node) (root : ℕ) (s : Shape) → Stands old root s → length old ≤ length new → ((j : ℕ) → Among (listed s) j → node_in new j ≡ node_in old j) → Stands new root s
stands_still old new root leaf st size same = st
stands_still old new root (fork l i r) st size same =
    let mine = same i (Among-right (listed l) (i ∷ listed r) i (inl refl)) in
    let within = st.2 in (
      st.0,
      st.1,
      omega (arith, within, size),
      subst (λ z. Stands new z l) (sym (ap (λ n. n.left) mine)) (stands_still old new (left_in old i) l st.3 size (λ j a. same j (Among-left (listed l) (i ∷ listed r) j a))),
      subst (λ z. Stands new z r) (sym (ap (λ n. n.right) mine)) (stands_still old new (right_in old i) r st.4 size (λ j a. same j (Among-right (listed l) (i ∷ listed r) j (inr a)))),
    )

pub stays : (old new : List Node) (root : ℕ) → IsTree old root → length old ≤ length new → ((j : ℕ) → Among (numbers_in old root) j → node_in new j ≡ node_in old j) → Is new root (numbers_in old root)
stays old new root t size same =
    let fits = t.fits in
    tree_of new root (shape_in (length old) old root) (stands_still old new root (shape_in (length old) old root) t.stands size same) (omega (arith, fits, size))

pub chain_stays : (old new : List Node) (first : ℕ) (chain : List ℕ) → IsChain old first chain → length old ≤ length new → ((j : ℕ) → Among chain j → node_in new j ≡ node_in old j) → IsChain new first chain
chain_stays old new first [] c size same = c
chain_stays old new first (i ∷ is) c size same =
    let within = c.2 in
    (c.0, c.1, omega (arith, within, size), subst (λ z. IsChain new z is) (sym (ap (λ n. n.right) (same i (inl refl)))) (chain_stays old new (right_in old i) is c.3 size (λ j a. same j (inr a))))

-- ---- changes of nodes

pub changes_none : (nodes : List Node) (touched : List ℕ) → Changes nodes nodes touched
changes_none nodes touched = record { size = refl; others = λ i out. refl }

pub changes_both : (old mid new : List Node) (a b c : List ℕ) → Changes old mid a → Changes mid new b → ((i : ℕ) → Among a i → Among c i) → ((i : ℕ) → Among b i → Among c i) → Changes old new c
changes_both old mid new a b c one two in_a in_b = record {
  size = two.size ∙ one.size;
  others = λ i out. two.others i (λ h. out (in_b i h)) ∙ one.others i (λ h. out (in_a i h));
}

-- a number has this node now
pub record Hangs (old new : List Node) (i l r : ℕ) : Type 0 where
  pub left_is : left_in new i ≡ l
  pub right_is : right_in new i ≡ r
  pub changes : Changes old new (i ∷ [])

pub hangs : (old new : List Node) (i l r : ℕ) → i < length old → new ≡ set old i (record { left = l; right = r }) → Hangs old new i l r
hangs old new i l r within is =
    let mine : node_in new i ≡ record { left = l; right = r } = ap (λ z. node_in z i) is ∙ get_or-set_same old i (record { left = l; right = r }) nil within in
    record {
      left_is = ap (λ n. n.left) mine;
      right_is = ap (λ n. n.right) mine;
      changes = record {
        size = ap length is ∙ length-set old i (record { left = l; right = r });
        others = λ j out. ap (λ z. node_in z j) is ∙ get_or-set_other old i j (record { left = l; right = r }) nil (λ e. out (inl (sym e)));
      };
    }

-- a number was put above two trees that don't have it
pub hung : (old new : List Node) (i l r : ℕ) → IsTree old l → IsTree old r → (Among (numbers_in old l) i → ⊥) → (Among (numbers_in old r) i → ⊥) → i < none → i < length old → length (numbers_in old l) + length (numbers_in old r) + 1 ≤ length old → Hangs old new i l r → Is new i (numbers_in old l ++ i ∷ numbers_in old r)
hung old new i l r left right not_left not_right small within le h =
    let size = h.changes.size in
    let one = stays old new l left (omega (arith, size)) (λ j a. h.changes.others j (λ t. elim t [ inl e ↦ not_left (subst (λ z. Among (numbers_in old l) z) (sym e) a) | inr b ↦ absurd b ])) in
    let two = stays old new r right (omega (arith, size)) (λ j a. h.changes.others j (λ t. elim t [ inl e ↦ not_right (subst (λ z. Among (numbers_in old r) z) (sym e) a) | inr b ↦ absurd b ])) in
    let is = closes new i l r one.tree two.tree h.left_is h.right_is small (omega (arith, size, within)) (omega (arith, size, le, ap length one.numbers_are, ap length two.numbers_are)) in
    record {
      tree = is.tree;
      numbers_are = is.numbers_are ∙ ap (λ z. z ++ i ∷ numbers_in new r) one.numbers_are ∙ ap (λ z. numbers_in old l ++ i ∷ z) two.numbers_are;
    }

pub more_node : (nodes : List Node) (node : Node) (j : ℕ) → j < length nodes → node_in (nodes ++ node ∷ []) j ≡ node_in nodes j
more_node nodes node j within = get_or_append_left nodes (node ∷ []) nil j within

pub last_node : (nodes : List Node) (node : Node) → node_in (nodes ++ node ∷ []) (length nodes) ≡ node
last_node [] node = refl
last_node (x ∷ nodes) node = last_node nodes node

-- the numbers of a tree and of a chain have nodes
pub tree_within : (nodes : List Node) (root : ℕ) (s : Shape) → Stands nodes root s → (j : ℕ) → Among (listed s) j → j < length nodes
tree_within nodes root leaf st j a = absurd a
tree_within nodes root (fork l i r) st j a = elim (Among-split (listed l) (i ∷ listed r) j a) [
  | inl b ↦ tree_within nodes (left_in nodes i) l st.3 j b
  | inr (inl e) ↦ subst (λ z. z < length nodes) e st.2
  | inr (inr b) ↦ tree_within nodes (right_in nodes i) r st.4 j b
]

pub within_tree : (nodes : List Node) (root : ℕ) → IsTree nodes root → (j : ℕ) → Among (numbers_in nodes root) j → j < length nodes
within_tree nodes root t j a = tree_within nodes root (shape_in (length nodes) nodes root) t.stands j a

pub within_chain : (nodes : List Node) (first : ℕ) (chain : List ℕ) → IsChain nodes first chain → (j : ℕ) → Among chain j → j < length nodes
within_chain nodes first [] c j a = absurd a
within_chain nodes first (i ∷ is) c j (inl e) = subst (λ z. z < length nodes) e c.2
within_chain nodes first (i ∷ is) c j (inr a) = within_chain nodes (right_in nodes i) is c.3 j a

-- ---- tests

pub is_none : (i : ℕ) → true ≡ (i == none) → i ≡ none
is_none i e = eqb-true i none (sym e)

pub not_none : (i : ℕ) → false ≡ (i == none) → i ≢ none
not_none i e f = eqb-false i none (sym e) f

-- ---- a way down

-- a tree below a number, with fewer numbers
pub record Below (nodes : List Node) (root next : ℕ) : Type 0 where
  pub tree : IsTree nodes next
  pub less : length (numbers_in nodes next) < length (numbers_in nodes root)

pub to_left : (nodes : List Node) (root : ℕ) (node : Node) → node ≡ node_in nodes root → IsTree nodes root → root ≢ none → Below nodes root node.left
to_left nodes root node at t differs =
    let o = opens nodes root t differs in
    subst (λ n. Below nodes root n.left) (sym at) (record { tree = o.left_tree; less = omega (arith, ap length o.all, longer (numbers_in nodes (left_in nodes root)) (numbers_in nodes (right_in nodes root)) root) })

pub to_right : (nodes : List Node) (root : ℕ) (node : Node) → node ≡ node_in nodes root → IsTree nodes root → root ≢ none → Below nodes root node.right
to_right nodes root node at t differs =
    let o = opens nodes root t differs in
    subst (λ n. Below nodes root n.right) (sym at) (record { tree = o.right_tree; less = omega (arith, ap length o.all, longer (numbers_in nodes (left_in nodes root)) (numbers_in nodes (right_in nodes root)) root) })

pub all_of : (nodes : List Node) (root : ℕ) (node : Node) → node ≡ node_in nodes root → IsTree nodes root → root ≢ none → numbers_in nodes root ≡ numbers_in nodes node.left ++ root ∷ numbers_in nodes node.right
all_of nodes root node at t differs =
    let o = opens nodes root t differs in
    subst (λ n. numbers_in nodes root ≡ numbers_in nodes n.left ++ root ∷ numbers_in nodes n.right) (sym at) o.all

pub has_node : (nodes : List Node) (root : ℕ) → IsTree nodes root → root ≢ none → root < length nodes
has_node nodes root t differs = let o = opens nodes root t differs in o.within

pub nothing_at : (nodes : List Node) (root : ℕ) → root ≡ none → numbers_in nodes root ≡ []
nothing_at nodes root is = ap (numbers_in nodes) is ∙ nothing nodes
