-- Files that are named stay.
use Rattle.std.proofs.Common.{◌≡◌, ℕ, Bool, true, false, cond, not, ◌&&◌, ◌||◌, ◌⊎◌, inl, inr, List, Option, Some, None, Equal, refl, sym, ap, subst, ◌∙◌}
use Rattle.std.proofs.lemmas.Option.{same_Some}
use Rattle.std.specs.Cmp.{IsTotalOrder, tied_itself}
use Rattle.std.specs.Cmp.Lexicographic.{nat_list_cmp_total}
use Rattle.std.specs.FinMap as finite
use Rattle.std.specs.Ordering.{eq_by_cmp}
use Rattle.std.specs.declared.cmp.Ordering.{Ordering}
use Rattle.doc_tree.specs.Text.{text_cmp as shelves_cmp, text_cmp}
use Rattle.org_shelves.specs.Editions.{names_sum}
use Rattle.dep_solver.proofs.VersionLemmas.{versions_total}
use Rattle.doc_tree.specs.Doc.{Doc}
use Rattle.sandboxes.specs.Sandboxes.{Holding}
use Rattle.shelves.proofs.ShelfLaws.{tied_name, value_at-put, value_at-without}
use Rattle.shelves.specs.Shelves.{Store, put, value_at, without}
use Rattle.version_rules.specs.Order.{version_cmp}
use Rattle.org_shelves.proofs.BoolLemmas.{either}
use Rattle.org_shelves.proofs.ChangeLemmas.{is_at, put_others, take_others}
use Rattle.org_shelves.proofs.DroppedLemmas.{tied_version}
use Rattle.org_shelves.proofs.NamedLemmas.{NamedBy, named_by, who_names}
use Rattle.org_shelves.proofs.PlaceLemmas.{empty_at}
use Rattle.org_shelves.specs.Files.{AreThere, is_committed, is_committed_file}
use Rattle.org_shelves.specs.Laws.{NamesWhatIsThere}
use Rattle.org_shelves.specs.Shelved.{Shelved, nothing}
use Rattle.org_shelves.specs.ShelfMoves.{after_shelf_move, dropped, files_after_shelf_move, is_named, store_names}
use Rattle.org_shelves.specs.declared.shelf_moves.ShelfMove.{ShelfMove}
use Rattle.org_shelves.specs.declared.shelf_moves.ShelfMove.TheVariants.{PutVersion, TakeVersion, PutArtifact, TakeArtifact, PutRevision, TakePolicy, PutGroup, TakeGroup}

-- ---- a committed file that is still named isn't dropped

kept_at : (b : Bool) → not (b && false) ≡ true
kept_at true = refl
kept_at false = refl

kept_named : (before after : List ℕ → Bool) (files : Holding) (sum : List ℕ) → is_committed files sum ≡ true → after sum ≡ true → is_committed (dropped before after files) sum ≡ true
kept_named before after files sum is named =
    ap is_committed_file
    (finite.get-retain_keys files.files (λ s. not (before s && not (after s))) sum (λ x tie. ap (λ (s : List ℕ). not (before s && not (after s))) (finite.slice_cmp-IsAntisymmetric finite.nat_cmp-IsAntisymmetric x sum (same_tie sum x tie)))
    ∙ ap (λ b. cond b (finite.get files.files sum) None) (ap (λ b. not (before sum && not b)) named ∙ kept_at (before sum)))
    ∙ is
  where
    same_tie : (q x : List ℕ) → text_cmp q x ≡ Equal → text_cmp x q ≡ Equal
    same_tie q x tie = ap (λ (n : List ℕ). text_cmp n q) (sym (finite.slice_cmp-IsAntisymmetric finite.nat_cmp-IsAntisymmetric q x tie)) ∙ tied_itself nat_list_cmp_total q

-- ---- who names a file after a manifest was put in or taken out

module _ {K : Type 0} {cmp : K → K → Ordering} (o : IsTotalOrder cmp) (tied : (x y : K) → eq_by_cmp cmp x y ≡ true → x ≡ y) where
  put_names_at : (store : Store cmp Doc) (name : List ℕ) (key : K) (manifest : Doc) (sum : List ℕ) (by : NamedBy (put name key manifest store) sum) (b : Bool) → is_at o tied name key by.name by.key ≡ b
      → (names_sum manifest sum ≡ true) ⊎ (store_names sum store ≡ true)
  put_names_at store name key manifest sum by true at =
      inl (subst (λ (m : Doc). names_sum m sum ≡ true) (sym (same_Some manifest by.manifest (sym (value_at-put o store name key manifest by.name by.key ∙ ap (λ b. cond b (Some manifest) (value_at store by.name by.key)) at) ∙ by.at))) by.names)
  put_names_at store name key manifest sum by false apart = inr (named_by store by.name by.key by.manifest sum (sym (put_others o tied store name key manifest by.name by.key apart) ∙ by.at) by.names)

  -- after a manifest was put in: it does, or something did before
  pub put_names : (store : Store cmp Doc) (name : List ℕ) (key : K) (manifest : Doc) (sum : List ℕ) → store_names sum (put name key manifest store) ≡ true → (names_sum manifest sum ≡ true) ⊎ (store_names sum store ≡ true)
  put_names store name key manifest sum named = let by = who_names o (put name key manifest store) sum named in put_names_at store name key manifest sum by (is_at o tied name key by.name by.key) refl

  take_names_at : (store : Store cmp Doc) (name : List ℕ) (key : K) (sum : List ℕ) (by : NamedBy (without name key store) sum) (b : Bool) → is_at o tied name key by.name by.key ≡ b → store_names sum store ≡ true
  take_names_at store name key sum by true at = cc (sym (value_at-without o store name key by.name by.key ∙ ap (λ b. cond b None (value_at store by.name by.key)) at) ∙ by.at)
  take_names_at store name key sum by false apart = named_by store by.name by.key by.manifest sum (sym (take_others o tied store name key by.name by.key apart) ∙ by.at) by.names

  -- after one was taken out: something did before
  pub take_names : (store : Store cmp Doc) (name : List ℕ) (key : K) (sum : List ℕ) → store_names sum (without name key store) ≡ true → store_names sum store ≡ true
  take_names store name key sum named = let by = who_names o (without name key store) sum named in take_names_at store name key sum by (is_at o tied name key by.name by.key) refl

or_first : (a b : Bool) → a ≡ true → (a || b) ≡ true
or_first a b is = ap (λ x. x || b) is

or_second : (a b : Bool) → b ≡ true → (a || b) ≡ true
or_second true b is = refl
or_second false b is = is

-- each file that is named after a move was there before it
were_there : (move : ShelfMove) (s : Shelved) (files : Holding) → AreThere s files → NamesWhatIsThere move files → (sum : List ℕ) → is_named (after_shelf_move move s) sum ≡ true → is_committed files sum ≡ true
were_there (PutVersion name version manifest) s files there own sum named =
    elim (either (store_names sum (put name version manifest s.cookbooks)) (store_names sum s.artifacts) named) [
      | inl one ↦ elim (put_names versions_total tied_version s.cookbooks name version manifest sum one) [
        | inl new ↦ own sum new
        | inr was ↦ there sum (or_first (store_names sum s.cookbooks) (store_names sum s.artifacts) was)
      ]
      | inr other ↦ there sum (or_second (store_names sum s.cookbooks) (store_names sum s.artifacts) other)
    ]
were_there (TakeVersion name version) s files there own sum named =
    elim (either (store_names sum (without name version s.cookbooks)) (store_names sum s.artifacts) named) [
      | inl one ↦ there sum (or_first (store_names sum s.cookbooks) (store_names sum s.artifacts) (take_names versions_total tied_version s.cookbooks name version sum one))
      | inr other ↦ there sum (or_second (store_names sum s.cookbooks) (store_names sum s.artifacts) other)
    ]
were_there (PutArtifact name id manifest) s files there own sum named =
    elim (either (store_names sum s.cookbooks) (store_names sum (put name id manifest s.artifacts)) named) [
      | inl other ↦ there sum (or_first (store_names sum s.cookbooks) (store_names sum s.artifacts) other)
      | inr one ↦ elim (put_names nat_list_cmp_total tied_name s.artifacts name id manifest sum one) [
        | inl new ↦ own sum new
        | inr was ↦ there sum (or_second (store_names sum s.cookbooks) (store_names sum s.artifacts) was)
      ]
    ]
were_there (TakeArtifact name id) s files there own sum named =
    elim (either (store_names sum s.cookbooks) (store_names sum (without name id s.artifacts)) named) [
      | inl other ↦ there sum (or_first (store_names sum s.cookbooks) (store_names sum s.artifacts) other)
      | inr one ↦ there sum (or_second (store_names sum s.cookbooks) (store_names sum s.artifacts) (take_names nat_list_cmp_total tied_name s.artifacts name id sum one))
    ]
were_there (PutRevision policy revision lock) s files there own sum named = there sum named
were_there (TakePolicy policy) s files there own sum named = there sum named
were_there (PutGroup name assigned) s files there own sum named = there sum named
were_there (TakeGroup name) s files there own sum named = there sum named

-- and stays
pub stay : (move : ShelfMove) (s : Shelved) (files : Holding) → AreThere s files → NamesWhatIsThere move files → AreThere (after_shelf_move move s) (files_after_shelf_move move s files)
stay move s files there own sum named = kept_named (is_named s) (is_named (after_shelf_move move s)) files sum (were_there move s files there own sum named) named

-- nothing names a file where nothing is on any shelf
pub nothing_there : (files : Holding) → AreThere nothing files
nothing_there files sum named =
    elim (either (store_names sum nothing.cookbooks) (store_names sum nothing.artifacts) named) [
      | inl one ↦ let by = who_names versions_total nothing.cookbooks sum one in cc (sym (empty_at version_cmp Doc by.name by.key) ∙ by.at)
      | inr one ↦ let by = who_names nat_list_cmp_total nothing.artifacts sum one in cc (sym (empty_at shelves_cmp Doc by.name by.key) ∙ by.at)
    ]
