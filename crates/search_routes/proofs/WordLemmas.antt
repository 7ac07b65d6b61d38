-- A name has no slash, so it is the word of an index.
use Rattle.std.proofs.Common.{◌≡◌, ◌<◌, ℕ, Bool, true, false, not, List, length, get_or, ap, refl, sym, ◌∙◌, arith, true≢false}
use Rattle.std.specs.List.{list_all, position_or_len}
use Rattle.std.proofs.lemmas.List.Folds.{list_all_at}
use Rattle.std.proofs.lemmas.List.Sums.{passes_at_first}
use Rattle.doc_tree.specs.Name.{is_name, is_name_byte}
use Rattle.object_finder.specs.Indexes.{is_plain}
use Rattle.object_store.specs.Shelving.{has_slash, is_slash}
use Rattle.org_core.proofs.ObjectConditionsLemmas.{name_bytes}

-- a slash is no byte of a name
no_name_byte : (b : ℕ) → is_slash b ≡ true → is_name_byte b ≡ false
no_name_byte b is = let slash : b ≡ 47 = grind (arith, is) in ap is_name_byte slash

bare : (word : List ℕ) (slash : Bool) → list_all is_name_byte word ≡ true → has_slash word ≡ slash → slash ≡ false
bare word false named is = refl
bare word true named is =
    let below : position_or_len is_slash word < length word = grind (arith, is) in
    absurd (true≢false (sym named ∙ list_all_at is_name_byte word (position_or_len is_slash word) 0 below (no_name_byte (get_or word (position_or_len is_slash word) 0) (passes_at_first is_slash word 0 below))))

pub name_is_plain : (word : List ℕ) → is_name word ≡ true → is_plain word ≡ true
name_is_plain word named = ap not (bare word (has_slash word) (name_bytes word named) refl)
