-- Which files the manifests on shelves name.
use Rattle.std.proofs.Common.{◌≡◌, ℕ, true, List, map, Option, Some, None, unwrap_or, Ordering, refl, sym, ap, ◌∙◌}
use Rattle.std.proofs.lemmas.Option.{same_Some}
use Rattle.std.specs.Cmp.{IsTotalOrder}
use Rattle.std.specs.Cmp.Lexicographic.{nat_list_cmp_total}
use Rattle.std.specs.FinMap as finite
use Rattle.std.specs.List.{list_any}
use Rattle.doc_tree.specs.Text.{text_cmp}
use Rattle.org_shelves.specs.Editions.{names_sum}
use Rattle.doc_tree.specs.Doc.{Doc}
use Rattle.shelves.specs.Shelves.{Store, value_at}
use Rattle.shelves.specs.SortedMap.{Sorted, map_of}
use Rattle.org_shelves.proofs.EntryLemmas.{In, any_in, any_mapped, in_any}
use Rattle.org_shelves.specs.ShelfMoves.{shelf_names, store_names}

module _ {K : Type 0} {cmp : K → K → Ordering} where
  on_shelf : (found : Option (finite.FinMap cmp Doc)) (key : K) (manifest : Doc) → finite.get (unwrap_or found finite.empty) key ≡ Some manifest
      → (shelf : finite.FinMap cmp Doc) × (found ≡ Some shelf) × (finite.get shelf key ≡ Some manifest)
  on_shelf None key manifest at = cc (sym (finite.get-empty cmp key) ∙ at)
  on_shelf (Some shelf) key manifest at = (shelf, refl, at)

  -- a file that a manifest names is named
  pub named_by : (store : Store cmp Doc) (name : List ℕ) (key : K) (manifest : Doc) (sum : List ℕ) → value_at store name key ≡ Some manifest → names_sum manifest sum ≡ true → store_names sum store ≡ true
  named_by store name key manifest sum at names =
      let (shelf, is, stands) = on_shelf (finite.get store name) key manifest at in
      any_in text_cmp (shelf_names sum) store name shelf is (any_in cmp (λ (m : Doc). names_sum m sum) shelf key manifest stands names)

  -- a manifest that names a file
  pub record NamedBy (store : Store cmp Doc) (sum : List ℕ) : Type 0 where
    pub name : List ℕ
    pub key : K
    pub manifest : Doc
    pub at : value_at store name key ≡ Some manifest
    pub names : names_sum manifest sum ≡ true

  shelf_at : (found : Option (finite.FinMap cmp Doc)) (shelf : finite.FinMap cmp Doc) (key : K) (manifest : Doc) → found ≡ Some shelf → finite.get shelf key ≡ Some manifest
      → finite.get (unwrap_or found finite.empty) key ≡ Some manifest
  shelf_at None shelf key manifest is at = cc
  shelf_at (Some other) shelf key manifest is at = cc (same_Some other shelf is)

  -- where a file is named, a manifest names it
  pub who_names : IsTotalOrder cmp → (store : Store cmp Doc) (sum : List ℕ) → store_names sum store ≡ true → NamedBy store sum
  who_names o store sum named =
      let shelf : In text_cmp (shelf_names sum) store = in_any text_cmp (shelf_names sum) nat_list_cmp_total store named in
      let one : In cmp (λ (m : Doc). names_sum m sum) shelf.value = in_any cmp (λ (m : Doc). names_sum m sum) o shelf.value shelf.pass in
      record {
        name = shelf.key;
        key = one.key;
        manifest = one.value;
        at = shelf_at (finite.get store shelf.key) shelf.value one.key one.value shelf.is one.is;
        names = one.pass;
      }

  -- to look through shelves as they are kept is to look through the entries of their map
  pub seen_names : (kept : List (List ℕ × Sorted K Doc)) (store : Store cmp Doc) (sum : List ℕ) → map (λ e. (e.0, map_of cmp e.1)) kept ≡ finite.entries store
      → list_any (λ e. shelf_names sum (map_of cmp e.1)) kept ≡ store_names sum store
  seen_names kept store sum is =
      sym (any_mapped (λ (entry : List ℕ × finite.FinMap cmp Doc). shelf_names sum entry.1) (λ (e : List ℕ × Sorted K Doc). (e.0, map_of cmp e.1)) kept)
      ∙ ap (list_any (λ (entry : List ℕ × finite.FinMap cmp Doc). shelf_names sum entry.1)) is
