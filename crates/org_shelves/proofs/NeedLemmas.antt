-- The needs of a document rise.
use Rattle.std.proofs.Common.{◌≡◌, ℕ, true, false, cond, List, [], ◌∷◌, map, Option, None, Some, Ok, Err, codes, bytes_eq, refl, sym, ap, subst, ◌∙◌}
use Rattle.std.specs.List.Sorted.{IsStrictlySortedBy}
use Rattle.std.specs.Map.{keys_of}
use Rattle.std.specs.Option.{option_and_then}
use Rattle.std.specs.Prelude.{⊤}
use Rattle.doc_tree.specs.Text.{text_cmp}
use Rattle.doc_tree.specs.Doc.{Doc, null, boolean, whole, words, list, dict, Pairs, no_pairs, then_pair, pairs_list}
use Rattle.doc_tree.specs.Part.{pair_at, part_at}
use Rattle.doc_tree.specs.Valid.{IsDoc, ArePairs, InOrder}
use Rattle.version_rules.specs.declared.needs.Need.{Need}
use Rattle.doc_tree.specs.Name.{is_name}
use Rattle.cookbook_meta.specs.Metadata.{need_of, needs_of}
use Rattle.cookbook_meta.specs.Metadata as meta
use Rattle.cookbook_meta.specs.Parts.{as_name, constraint_of}
use Rattle.cookbook_meta.proofs.DoneLemmas.{same_ok, then_done, kept}
use Rattle.org_shelves.specs.Editions.{read_or, needs_in, dependencies_at}

-- ---- parts of what a tree can be

-- what was found, if anything, is what a tree can be
abbrev KnownIn : Option Doc → Type 0
KnownIn None = ⊤
KnownIn (Some d) = IsDoc d

pair_known : (key : List ℕ) (ps : Pairs) → ArePairs ps → KnownIn (pair_at key ps)
pair_known key no_pairs all = tt
pair_known key (then_pair k d ps) all = elim (bytes_eq k key) as (λ b. KnownIn (cond b (Some d) (pair_at key ps))) [ true ↦ all.1 | false ↦ pair_known key ps all.2 ]

part_known : (key : List ℕ) (d : Doc) → IsDoc d → KnownIn (part_at key d)
part_known key null known = tt
part_known key (boolean b) known = tt
part_known key (whole z) known = tt
part_known key (words text) known = tt
part_known key (list ds) known = tt
part_known key (dict ps) known = pair_known key ps known.0

part_in_known : (key : List ℕ) (found : Option Doc) → KnownIn found → KnownIn (option_and_then (part_at key) found)
part_in_known key None known = tt
part_in_known key (Some d) known = part_known key d known

-- ---- needs

abbrev names_of : List Need → List (List ℕ)
names_of needs = map (λ (need : Need). need.name) needs

need_name : (key : List ℕ) (d : Doc) (need : Need) → need_of key d ≡ Ok need → need.name ≡ key
need_name key d need is =
    let name = then_done (as_name key) _ need is in
    let test = kept (is_name key) key _ name.0 name.1 in
    let constraint = then_done (constraint_of d) _ need name.2 in
    sym (test.1 ∙ ap (λ (n : Need). n.name) (same_ok _ _ need constraint.2))

needs_names : (ps : Pairs) (needs : List Need) → meta.needs_in ps ≡ Ok needs → names_of needs ≡ keys_of (pairs_list ps)
needs_names no_pairs needs is = ap names_of (sym (same_ok _ [] needs is))
needs_names (then_pair key d ps) needs is =
    let one = then_done (need_of key d) _ needs is in
    let rest = then_done (meta.needs_in ps) _ needs one.2 in
    ap names_of (sym (same_ok _ (one.0 ∷ rest.0) needs rest.2)) ∙ (λ i. need_name key d one.0 one.1 i ∷ needs_names ps rest.0 rest.1 i)

no_needs : IsStrictlySortedBy text_cmp (names_of [])
unfolding IsStrictlySortedBy
no_needs = tt

dict_rises : (ps : Pairs) → InOrder (keys_of (pairs_list ps)) → IsStrictlySortedBy text_cmp (names_of (read_or [] (meta.needs_in ps)))
dict_rises ps order =
    elim (meta.needs_in ps) as (λ r. meta.needs_in ps ≡ r → IsStrictlySortedBy text_cmp (names_of (read_or [] r))) [
      | Ok needs ↦ λ is. subst (IsStrictlySortedBy text_cmp) (sym (needs_names ps needs is)) order
      | Err flaw ↦ λ is. no_needs
    ] refl

found_rises : (found : Option Doc) → KnownIn found → IsStrictlySortedBy text_cmp (names_of (read_or [] (needs_of found)))
found_rises None known = no_needs
found_rises (Some null) known = no_needs
found_rises (Some (boolean b)) known = no_needs
found_rises (Some (whole z)) known = no_needs
found_rises (Some (words text)) known = no_needs
found_rises (Some (list ds)) known = no_needs
found_rises (Some (dict ps)) known = dict_rises ps known.1

-- the needs of what a tree can be are in the order of their names
pub needs_rise : (doc : Doc) → IsDoc doc → IsStrictlySortedBy text_cmp (map (λ (need : Need). need.name) (needs_in doc))
needs_rise doc known = found_rises (dependencies_at doc) (part_in_known (codes "dependencies") (part_at (codes "metadata") doc) (part_known (codes "metadata") doc known))
