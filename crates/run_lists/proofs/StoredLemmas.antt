-- The stored text of an item reads back.
use Rattle.std.proofs.Common.{◌≡◌, ℕ, ◌-◌, ◌||◌, true, false, List, ◌++◌, length, take, drop, Some, sym, ap, ◌∙◌, refl, arith, codes, inl, inr, length-append}
use Rattle.std.proofs.lemmas.Bool.{cases_Bool, or_parts}
use Rattle.std.proofs.lemmas.List.{drop-append-le, drop_all, take-append-le, take_all}
use Rattle.run_lists.specs.Items.{before_bracket, begins_recipe, begins_role, read_by, reads_item, recipe_in, stored_text}
use Rattle.run_lists.specs.Laws.{StoredReadsBack}

-- what stands before a bracket that was put behind it
before_bracket-push : (text : List ℕ) → before_bracket (text ++ codes "]") ≡ Some text
before_bracket-push text =
    let whole = text ++ codes "]" in
    let n : length whole - 1 ≡ length text = omega (arith, length-append text (codes "]")) in
    let rest : drop (length text) whole ≡ codes "]" =
    drop-append-le (length text) text (codes "]") (omega arith) ∙ ap (λ r. r ++ codes "]") (drop_all (length text) text (omega arith))
    in
    let front : take (length text) whole ≡ text =
    take-append-le (length text) text (codes "]") (omega arith) ∙ take_all (length text) text (omega arith)
    in
    rw (n, rest, front) refl

-- a text that begins with either word is stored as it is
stored_text-word : (text : List ℕ) → (begins_recipe text || begins_role text) ≡ true → stored_text text ≡ text
stored_text-word text word = rw word refl

-- and any other in `recipe[..]`
stored_text-bare : (text : List ℕ) → (begins_recipe text || begins_role text) ≡ false → stored_text text ≡ codes "recipe[" ++ (text ++ codes "]")
stored_text-bare text bare = rw bare refl

reads_item-bare : (text : List ℕ) → (begins_recipe text || begins_role text) ≡ false → reads_item text ≡ recipe_in text
reads_item-bare text bare =
    let parts = or_parts (begins_recipe text) (begins_role text) bare in
    rw (parts.0, parts.1) refl

pub stored_reads_back : (text : List ℕ) → StoredReadsBack text
stored_reads_back text = elim (cases_Bool (begins_recipe text || begins_role text)) [
  | inl word ↦ let same = stored_text-word text word in record { named = ap reads_item same; stored = ap stored_text same }
  | inr bare ↦
      let same = stored_text-bare text bare in
      record {
        named = ap reads_item same ∙ ap (read_by recipe_in) (before_bracket-push text) ∙ sym (reads_item-bare text bare);
        stored = ap stored_text same ∙ sym same;
      }
]
