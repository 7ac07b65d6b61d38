use Rattle.std.proofs.Common.{◌≡◌, ◌<◌, ◌∷◌, ◌++◌, [], ℕ, List, option_and_then, length, drop, refl, sym, ap, subst, ◌∙◌, arith}
use Rattle.std.proofs.lemmas.List.{append-nil}
use Rattle.std.proofs.lemmas.Map.Iter.{rest_so_far}
use Rattle.std.specs.BTreeMap.{is_at}
use Rattle.doc_tree.specs.Doc.{Doc, docs_of, pairs_of}
use Rattle.doc_tree.specs.Part.{at, pair_at}
use Rattle.doc_tree.specs.Tree.{doc_of}
use Rattle.doc_tree.specs.declared.tree.Tree.{Tree}
use Rattle.attr_merge.specs.Children.{AreValues, children}
use Rattle.attr_merge.specs.Families.{counting_below, joined, positions}
use Rattle.attr_merge.specs.Merged.{origin_at, path_cmp}
use Rattle.attr_merge.specs.Nodes.{leaves_of, below_key}
use Rattle.attr_merge.specs.Parts.{gathered_in, piece_of, pieces_of}
use Rattle.attr_merge.specs.Pieces.{Piece}
use Rattle.attr_merge.proofs.LeafLemmas.{ok-one, ok-both, scalar-effective, array-effective, dict-effective}
use Rattle.attr_merge.proofs.ListLemmas.{map-self, head-split, rest-whole, none-long}
use Rattle.attr_merge.proofs.OriginLemmas.{lookup-append-none, origin-below-root}
use Rattle.attr_merge.proofs.SeenLemmas.{child-depth, values-children, effective-down, effective-same}
use Rattle.attr_merge.proofs.StepLemmas.{merged-more, merged-same, entry-turn}
use Rattle.attr_merge.proofs.merging.+merging.Goals as goal

pub merge_dicts-merge_parts-requires : goal.merge_dicts-merge_parts-requires
merge_dicts-merge_parts-requires t c =
    let gives = c.into_iter-key-iterator.ensures.into_iter_gives in
    let far = rest_so_far (λ x. x) c.loop-key.yielded _ _ c.loop-key.yielded_by in
    let step = c.in-Some.ensures.steps in
    let turn = entry-turn c.in_ok-children.children.entries c.loop-key.yielded c.next.new.self c.in-Some.key c.in-Some.child (sym gives.0 ∙ far ∙ (λ i. map-self c.loop-key.yielded i ++ step i)) gives.5 in
    let cs = pieces_of c.args.parts.now in
    let same : pieces_of c.deref.result.now ≡ children c.in-Some.key cs = ap pieces_of c.deref.ensures.value ∙ turn.1 ∙ c.in_ok-children.ensures c.in-Some.key in
    let some : 0 < length c.deref.result.now = grind (arith, c.is_empty.ensures, c.if-not-is_empty.true, c.deref.ensures.len) in
    let deeper = child-depth c.in-Some.key cs c.deref.result.now same some in
    (omega (arith, deeper), (some, subst AreValues (sym same) (values-children c.in-Some.key cs)))

pub merge_dicts-loop-key-preserved-then-not-is_empty : goal.merge_dicts-loop-key-preserved-then-not-is_empty
merge_dicts-loop-key-preserved-then-not-is_empty t c =
    let gives = c.into_iter-key-iterator.ensures.into_iter_gives in
    let far = rest_so_far (λ x. x) c.loop-key.yielded _ _ c.loop-key.yielded_by in
    let step = c.in-Some.ensures.steps in
    let key = c.in-Some.key in
    let turn = entry-turn c.in_ok-children.children.entries c.loop-key.yielded c.next.new.self key c.in-Some.child (sym gives.0 ∙ far ∙ (λ i. map-self c.loop-key.yielded i ++ step i)) gives.5 in
    let leaves = leaves_of c.loop-key.inner.leaves.items in
    let below = leaves_of c.in_ok-node.node.leaves.items in
    let d = doc_of c.in_ok-node.node.tree in
    record {
      can_next = tt;
      is_finite = tt;
      root = ap (origin_at []) c.in_ok-inner.ensures.leaves ∙ lookup-append-none (is_at (path_cmp [])) leaves (below_key key below) c.loop-key.invariant.root ∙ origin-below-root key below;
      below = λ q p.
          effective-same p refl
          (ap (λ (fs : List (List ℕ × Doc)). option_and_then (at p) (pair_at q (pairs_of fs))) (sym c.in_ok-inner.ensures.fields))
          (ap (origin_at (q ∷ p)) (sym c.in_ok-inner.ensures.leaves))
          (merged-more key c.in-Some.child c.loop-key.yielded c.loop-key.inner.fields leaves d below turn.0 c.loop-key.invariant.below
          (λ path. effective-same path (ap pieces_of c.deref.ensures.value) refl refl (c.in_ok-node.ensures path)) q p);
    }

pub merge_dicts-loop-key-preserved : goal.merge_dicts-loop-key-preserved
merge_dicts-loop-key-preserved t c =
    let gives = c.into_iter-key-iterator.ensures.into_iter_gives in
    let far = rest_so_far (λ x. x) c.loop-key.yielded _ _ c.loop-key.yielded_by in
    let step = c.in-Some.ensures.steps in
    let turn = entry-turn c.in_ok-children.children.entries c.loop-key.yielded c.next.new.self c.in-Some.key c.in-Some.child (sym gives.0 ∙ far ∙ (λ i. map-self c.loop-key.yielded i ++ step i)) gives.5 in
    let long : length c.in-Some.child.items ≡ 0 = grind (arith, c.is_empty.ensures, c.if-not-is_empty.false) in
    record {
      can_next = tt;
      is_finite = tt;
      root = c.loop-key.invariant.root;
      below = merged-same c.in-Some.key c.in-Some.child c.loop-key.yielded c.loop-key.inner.fields (leaves_of c.loop-key.inner.leaves.items) (none-long c.in-Some.child.items long) turn.0 c.loop-key.invariant.below;
    }

pub merge_dicts-returns-clause-below : goal.merge_dicts-returns-clause-below
merge_dicts-returns-clause-below t c = λ key path.
    let gives = c.into_iter-key-iterator.ensures.into_iter_gives in
    let far = rest_so_far (λ x. x) c.loop-key.yielded _ _ c.loop-key.yielded_by in
    let nothing = c.in-None.ensures.steps.0 in
    let all = sym gives.0 ∙ far ∙ (λ i. map-self c.loop-key.yielded i ++ nothing i) ∙ append-nil c.loop-key.yielded in
    effective-down key path (pieces_of c.args.parts.now) (option_and_then (at path) (pair_at key (pairs_of c.loop-key.inner.fields))) (origin_at (key ∷ path) (leaves_of c.loop-key.inner.leaves.items))
    (effective-same path (ap (λ es. gathered_in es key) (sym all) ∙ c.in_ok-children.ensures key) refl refl (c.loop-key.invariant.below key path))

pub merge_parts-returns-in_ok-inner-in-Dict : goal.merge_parts-returns-in_ok-inner-in-Dict
merge_parts-returns-in_ok-inner-in-Dict t c =
    let parts = c.args.parts.now in
    let top = c.index-parts-0.result in
    let inner = c.in_ok-inner-in-Dict.inner in
    let split : pieces_of parts ≡ piece_of top ∷ pieces_of (drop 1 parts) = ap pieces_of (head-split parts top c.requires.some c.index-parts-0.is) in
    ok-both c.dict_node.result c.dict_node.ensures.some c.dict_node.ensures.none
    (λ node some none. dict-effective (pieces_of parts) (piece_of top) (pieces_of (drop 1 parts)) (pairs_of c.in-Dict.field-0) inner.fields (leaves_of inner.leaves.items) (doc_of node.tree) (leaves_of node.leaves.items)
    split c.requires.values (ap doc_of c.in-Dict.is) c.in_ok-inner-in-Dict.ensures.root c.in_ok-inner-in-Dict.ensures.below (λ e. ((some e).0, ap (λ v. leaves_of v.items) (some e).1)) none)

pub merge_parts-returns-in-List : goal.merge_parts-returns-in-List
merge_parts-returns-in-List t c =
    let parts = c.args.parts.now in
    let top = c.index-parts-0.result in
    let rest = pieces_of (drop 1 parts) in
    let split : pieces_of parts ≡ piece_of top ∷ rest = ap pieces_of (head-split parts top c.requires.some c.index-parts-0.is) in
    let same = ap pieces_of (rest-whole parts) in
    ok-one c.merge_arrays.result c.merge_arrays.ensures
    (λ node h. array-effective (pieces_of parts) (piece_of top) rest (docs_of c.in-List.field-0) (doc_of node.tree) (leaves_of node.leaves.items)
    split c.requires.values (ap doc_of c.in-List.is)
    (h.0 ∙ ap (λ (ps : List Piece). joined (piece_of top) (counting_below (piece_of top) ps)) same)
    (h.1 ∙ ap (λ (ps : List Piece). ([], positions (piece_of top ∷ counting_below (piece_of top) ps)) ∷ []) same))

pub merge_parts-returns-in_default : goal.merge_parts-returns-in_default
merge_parts-returns-in_default t c =
    let parts = c.args.parts.now in
    let top = c.index-parts-0.result in
    let split : pieces_of parts ≡ piece_of top ∷ pieces_of (drop 1 parts) = ap pieces_of (head-split parts top c.requires.some c.index-parts-0.is) in
    ok-one c.scalar_node.result c.scalar_node.ensures
    (λ node h path. effective-same path refl (ap (λ (tree : Tree). at path (doc_of tree)) (sym h.0)) refl
    (scalar-effective (pieces_of parts) (piece_of top) (pieces_of (drop 1 parts)) top.tree.now (leaves_of node.leaves.items) split c.requires.values refl c.in_default.not-List c.in_default.not-Dict h.1 path))
