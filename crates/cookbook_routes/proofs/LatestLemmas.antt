-- Which version of a cookbook is the greatest: none of one that isn't there.
use Rattle.std.proofs.Common.{◌≡◌, ℕ, List, [], ◌∷◌, length, None, option_map, slice_get, refl, sym, ap, ◌∙◌}
use Rattle.std.specs.FinMap as finite
use Rattle.doc_tree.specs.Doc.{Doc}
use Rattle.shelves.specs.Shelves.{shelf_of}
use Rattle.shelves.specs.SortedMap.{last_entry}
use Rattle.version_rules.specs.Order.{version_cmp}
use Rattle.org_shelves.specs.Shelved.{Cookbooks}
use Rattle.cookbook_routes.specs.Versions.{latest_of}

none_in : {A : Type 0} (l : List A) (i : ℕ) → length l ≡ 0 → slice_get l i ≡ None
none_in [] i none = refl
none_in (x ∷ l) i none = cc

last_of_none : last_entry (finite.empty {X = Doc} {R = version_cmp}) ≡ None
last_of_none = none_in (finite.entries (finite.empty {X = Doc} {R = version_cmp})) _ (sym (finite.len-entries finite.empty) ∙ finite.len-empty version_cmp Doc)

shelf_none : (versions : Cookbooks) (name : List ℕ) → finite.get versions name ≡ None → shelf_of versions name ≡ finite.empty
shelf_none versions name none = rw none refl

-- a cookbook that isn't there has no greatest version
pub latest_none : (versions : Cookbooks) (name : List ℕ) → finite.get versions name ≡ None → latest_of versions name ≡ None
latest_none versions name none = ap (λ shelf. option_map (λ entry. entry.1) (last_entry shelf)) (shelf_none versions name none) ∙ ap (option_map (λ entry. entry.1)) last_of_none

-- the same, of the versions that an organisation is seen to keep
pub latest_seen : {seen kept : Cookbooks} → seen ≡ kept → (name : List ℕ) → None ≡ finite.get seen name → None ≡ latest_of kept name
latest_seen {seen} {kept} same name none = sym (latest_none kept name (ap (λ versions. finite.get versions name) (sym same) ∙ sym none))
