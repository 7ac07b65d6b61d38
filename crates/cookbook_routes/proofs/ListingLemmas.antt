-- The shelves of a listing, by their names.
use Rattle.std.proofs.Common.{◌≡◌, ℕ, List, [], ◌∷◌, ◌++◌, map, sym, ap, subst, ◌∙◌}
use Rattle.std.specs.FinMap as finite
use Rattle.std.specs.Map.{keys_of}
use Rattle.std.proofs.lemmas.List.{append-nil, map-append}
use Rattle.std.proofs.lemmas.Simd.{map-map}
use Rattle.doc_tree.specs.Text.{text_cmp}
use Rattle.org_shelves.specs.Rising.{keys_rise}
use Rattle.doc_tree.specs.Doc.{Doc, dict, pairs_of}
use Rattle.doc_tree.specs.Valid.{InOrder}
use Rattle.org_requests.proofs.ListingLemmas.{InOrder-upto}
use Rattle.org_shelves.specs.Shelved.{Cookbooks}
use Rattle.shelves.specs.SortedMap.{Sorted, map_of}
use Rattle.version_rules.specs.Order.{version_cmp}
use Rattle.version_rules.specs.declared.versions.Version.{Version}
use Rattle.cookbook_routes.specs.declared.operations.Count.{Count}
use Rattle.cookbook_routes.specs.Listings.{cookbook_doc, listing_doc}

-- ---- shelves as they are listed

abbrev pub Shelf : Type 0
Shelf = List ℕ × Sorted Version Doc

abbrev pub seen_shelf : Shelf → List ℕ × finite.FinMap version_cmp Doc
seen_shelf e = (e.0, map_of version_cmp e.1)

abbrev shown : List ℕ → Count → Shelf → List ℕ × Doc
shown org count e = (e.0, cookbook_doc org count e.0 (map_of version_cmp e.1))

module _ (org : List ℕ) (count : Count) (shelves : List Shelf) (cookbooks : Cookbooks) (same : map seen_shelf shelves ≡ finite.entries cookbooks) where
  names_in-order : InOrder (map (λ (e : Shelf). e.0) shelves)
  names_in-order = subst InOrder (ap keys_of (sym same) ∙ map-map (λ (e : List ℕ × finite.FinMap version_cmp Doc). e.0) seen_shelf shelves) (keys_rise text_cmp cookbooks)

  -- the next name is above those of the fields so far
  pub next_shelf : (fields : List (List ℕ × Doc)) (left : List Shelf) (x : Shelf) (rest : List Shelf) (copied : List ℕ)
      → fields ++ map (shown org count) left ≡ map (shown org count) shelves
      → left ≡ x ∷ rest → copied ≡ x.0 → InOrder (keys_of fields ++ copied ∷ [])
  next_shelf fields left x rest copied so_far first is =
      let name = λ (e : Shelf). e.0 in
      let key = λ (p : List ℕ × Doc). p.0 in
      let all : keys_of fields ++ x.0 ∷ map name rest ≡ map name shelves =
      ap (λ ns. keys_of fields ++ ns) (sym (map-map key (shown org count) (x ∷ rest)))
      ∙ ap (λ es. keys_of fields ++ keys_of (map (shown org count) es)) (sym first)
      ∙ sym (map-append key fields (map (shown org count) left))
      ∙ ap keys_of so_far
      ∙ map-map key (shown org count) shelves in
      subst (λ n. InOrder (keys_of fields ++ n ∷ [])) (sym is) (InOrder-upto (keys_of fields) x.0 (map name rest) (subst InOrder (sym all) names_in-order))

  -- in the end each shelf is listed
  pub all_listed : (fields : List (List ℕ × Doc)) (left : List Shelf) → fields ++ map (shown org count) left ≡ map (shown org count) shelves → left ≡ [] → dict (pairs_of fields) ≡ listing_doc org count cookbooks
  all_listed fields left so_far none =
      ap (λ (ps : List (List ℕ × Doc)). dict (pairs_of ps))
      (sym (append-nil fields) ∙ ap (λ es. fields ++ map (shown org count) es) (sym none) ∙ so_far
      ∙ sym (map-map (λ (s : List ℕ × finite.FinMap version_cmp Doc). (s.0, cookbook_doc org count s.0 s.1)) seen_shelf shelves)
      ∙ ap (map (λ (s : List ℕ × finite.FinMap version_cmp Doc). (s.0, cookbook_doc org count s.0 s.1))) same)
