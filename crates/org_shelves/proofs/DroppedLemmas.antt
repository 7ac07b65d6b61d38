-- Which files a move on the shelves drops.
use Rattle.std.proofs.Common.{◌≡◌, ℕ, Bool, true, false, cond, not, ◌&&◌, ◌||◌, List, [], ◌∷◌, Option, Some, None, filter, bytes_eq, Equal, arith, refl, sym, ap, ◌∙◌}
use Rattle.std.proofs.lemmas.Bool.Decides.{nat_tests}
use Rattle.std.specs.Cmp.{Equal-is}
use Rattle.std.specs.Cmp.Lexicographic.{bytes_decides, nat_list_cmp_total}
use Rattle.std.specs.FinMap as finite
use Rattle.std.specs.Ordering.{eq_by_cmp}
use Rattle.org_shelves.specs.Editions.{names_sum}
use Rattle.dep_solver.proofs.VersionLemmas.{version_from_same, versions_total}
use Rattle.dep_solver.specs.Universes.{same_version}
use Rattle.doc_tree.specs.Doc.{Doc}
use Rattle.sandboxes.specs.Sandboxes.{Holding, Stock, released}
use Rattle.sandboxes.specs.Sums.{Sums, lists}
use Rattle.shelves.proofs.ShelfLaws.{tied_name}
use Rattle.shelves.specs.Shelves.{put, without}
use Rattle.version_rules.specs.Order.{version_cmp}
use Rattle.version_rules.specs.declared.versions.Version.{Version}
use Rattle.org_shelves.proofs.BoolLemmas.{and_false, beside_left, beside_right, never}
use Rattle.org_shelves.proofs.ChangeLemmas.{found_names, freed, put_others, take_others}
use Rattle.org_shelves.specs.Shelved.{Shelved}
use Rattle.org_shelves.specs.ShelfMoves.{after_shelf_move, files_after_shelf_move, is_named, replaced_by, store_names, unnamed}
use Rattle.org_shelves.specs.declared.shelf_moves.ShelfMove.{ShelfMove}
use Rattle.org_shelves.specs.declared.shelf_moves.ShelfMove.TheVariants.{PutVersion, TakeVersion, PutArtifact, TakeArtifact, PutRevision, TakePolicy, PutGroup, TakeGroup}

-- versions that tie are one
pub tied_version : (v w : Version) → eq_by_cmp version_cmp v w ≡ true → v ≡ w
tied_version v w tie = version_from_same v w (same v w ((Equal-is _).0 tie))
  where
    same : (v w : Version) → version_cmp v w ≡ Equal → same_version v w ≡ true
    same v w e = grind (arith, nat_tests)

unchanged : (gone : Option Doc) (named : Bool) (sum : List ℕ) → None ≡ gone → (found_names gone sum && not named) ≡ (named && not named)
unchanged None named sum is = never named
unchanged (Some gone) named sum is = cc

-- the files that are freed are those that what is replaced names, and nothing names any more
freed_by : (move : ShelfMove) (s : Shelved) (gone : Option Doc) (sum : List ℕ) → replaced_by move s ≡ gone
    → (found_names gone sum && not (is_named (after_shelf_move move s) sum)) ≡ (is_named s sum && not (is_named (after_shelf_move move s) sum))
freed_by (PutVersion name version manifest) s gone sum is =
    let after = put name version manifest s.cookbooks in
    beside_right (found_names gone sum) (store_names sum s.cookbooks) (store_names sum after) (store_names sum s.artifacts)
    (freed versions_total tied_version s.cookbooks after name version (put_others versions_total tied_version s.cookbooks name version manifest) sum gone is)
freed_by (TakeVersion name version) s gone sum is =
    let after = without name version s.cookbooks in
    beside_right (found_names gone sum) (store_names sum s.cookbooks) (store_names sum after) (store_names sum s.artifacts)
    (freed versions_total tied_version s.cookbooks after name version (take_others versions_total tied_version s.cookbooks name version) sum gone is)
freed_by (PutArtifact name id manifest) s gone sum is =
    let after = put name id manifest s.artifacts in
    beside_left (found_names gone sum) (store_names sum s.artifacts) (store_names sum after) (store_names sum s.cookbooks)
    (freed nat_list_cmp_total tied_name s.artifacts after name id (put_others nat_list_cmp_total tied_name s.artifacts name id manifest) sum gone is)
freed_by (TakeArtifact name id) s gone sum is =
    let after = without name id s.artifacts in
    beside_left (found_names gone sum) (store_names sum s.artifacts) (store_names sum after) (store_names sum s.cookbooks)
    (freed nat_list_cmp_total tied_name s.artifacts after name id (take_others nat_list_cmp_total tied_name s.artifacts name id) sum gone is)
freed_by (PutRevision policy revision lock) s gone sum is = unchanged gone (is_named s sum) sum is
freed_by (TakePolicy policy) s gone sum is = unchanged gone (is_named s sum) sum is
freed_by (PutGroup name assigned) s gone sum is = unchanged gone (is_named s sum) sum is
freed_by (TakeGroup name) s gone sum is = unchanged gone (is_named s sum) sum is

-- ---- what is dropped

kept_where : (files : Stock) (p q : List ℕ → Bool) → ((sum : List ℕ) → p sum ≡ q sum) → finite.retain_keys files p ≡ finite.retain_keys files q
kept_where files p q same = λ i. finite.retain_keys files (λ sum. same sum i)

same_text : (a b : List ℕ) → bytes_eq a b ≡ true → a ≡ b
same_text a b same = (bytes_decides a b).0 same

-- a checksum stands among those that pass where it stands among them all, and passes
pub lists_filtered : (p : List ℕ → Bool) (sums : Sums) (sum : List ℕ) → lists (filter p sums) sum ≡ (lists sums sum && p sum)
lists_filtered p [] sum = refl
lists_filtered p (first ∷ rest) sum =
    elim (p first) as (λ b. p first ≡ b → lists (cond b (first ∷ filter p rest) (filter p rest)) sum ≡ ((bytes_eq sum first || lists rest sum) && p sum)) [
      | true ↦ λ passes. ap (λ b. bytes_eq sum first || b) (lists_filtered p rest sum) ∙ taken (bytes_eq sum first) (lists rest sum) (p sum) (λ same. ap p (same_text sum first same) ∙ passes)
      | false ↦ λ fails. lists_filtered p rest sum ∙ left (bytes_eq sum first) (lists rest sum) (p sum) (λ same. ap p (same_text sum first same) ∙ fails)
    ] refl
  where
    taken : (first rest passes : Bool) → (first ≡ true → passes ≡ true) → (first || (rest && passes)) ≡ ((first || rest) && passes)
    taken true rest passes then = sym (then refl)
    taken false rest passes then = refl

    left : (first rest passes : Bool) → (first ≡ true → passes ≡ false) → (rest && passes) ≡ ((first || rest) && passes)
    left true rest passes then = ap (λ b. rest && b) (then refl) ∙ and_false rest ∙ sym (then refl)
    left false rest passes then = refl

-- to release the files that what is replaced names and nothing else does is to drop those that nothing names any more
pub released_is_dropped : (move : ShelfMove) (s : Shelved) (gone : Doc) (sums : Sums) (files : Holding) → replaced_by move s ≡ Some gone
    → ((sum : List ℕ) → lists sums sum ≡ names_sum gone sum) → released (unnamed (after_shelf_move move s) sums) files ≡ files_after_shelf_move move s files
released_is_dropped move s gone sums files is members =
    let after : Shelved = after_shelf_move move s in
    let same : (sum : List ℕ) → not (lists (unnamed after sums) sum) ≡ not (is_named s sum && not (is_named after sum)) =
    λ sum. ap not (lists_filtered (λ q. not (is_named after q)) sums sum ∙ ap (λ b. b && not (is_named after sum)) (members sum) ∙ freed_by move s (Some gone) sum is) in
    λ i. record {
      files = kept_where files.files (λ sum. not (lists (unnamed after sums) sum)) (λ sum. not (is_named s sum && not (is_named after sum))) same i;
      sandboxes = files.sandboxes;
      count = files.count;
    }

all_kept : (files : Stock) (p : List ℕ → Bool) → ((sum : List ℕ) → p sum ≡ true) → finite.retain_keys files p ≡ files
all_kept files p all =
    finite.same_map nat_list_cmp_total (finite.slice_cmp-IsAntisymmetric finite.nat_cmp-IsAntisymmetric) (finite.retain_keys files p) files
    (λ q. finite.get-retain_keys files p q (λ x tie. all x ∙ sym (all q)) ∙ ap (λ b. cond b (finite.get files q) None) (all q))

-- where nothing is replaced, nothing is dropped
pub none_dropped : (move : ShelfMove) (s : Shelved) (files : Holding) → replaced_by move s ≡ None → files_after_shelf_move move s files ≡ files
none_dropped move s files is =
    let after : Shelved = after_shelf_move move s in
    let none : (sum : List ℕ) → not (is_named s sum && not (is_named after sum)) ≡ true = λ sum. ap not (sym (freed_by move s None sum is)) in
    λ i. record { files = all_kept files.files (λ sum. not (is_named s sum && not (is_named after sum))) none i; sandboxes = files.sandboxes; count = files.count }
