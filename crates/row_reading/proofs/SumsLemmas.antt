-- Checksums that are read of texts in order.
use Rattle.std.proofs.Common.{◌≡◌, ◌<◌, ◌+◌, ℕ, List, ◌∷◌, [], ◌++◌, length, take, get_or, Bool, true, false, ◌&&◌, cond, Option, Some, None, option_map, option_and_then, refl, sym, ap, ◌∙◌}
use Rattle.std.proofs.lemmas.List.{take_more}
use Rattle.std.proofs.lemmas.List.Folds.{list_all_at, list_all_more}
use Rattle.std.specs.List.{list_all}
use Rattle.membership.specs.TextSets.{in_order}
use Rattle.org_rows.specs.Reading.{checksums_among}
use Rattle.sandboxes.specs.Checksums.{checksum_in, is_checksum}
use Rattle.row_reading.proofs.TextLemmas.{all-in_order}

-- the sums are the texts so far, of which each is a checksum
pub record SumsSoFar (texts : List (List ℕ)) (i : ℕ) (sums : List (List ℕ)) : Type 0 where
  pub are : sums ≡ take i texts
  pub all : list_all is_checksum (take i texts) ≡ true

some_sum : (test : Bool) (text sum : List ℕ) → cond test (Some text) None ≡ Some sum → (test ≡ true) × (text ≡ sum)
some_sum true text sum is = (refl, cc is)
some_sum false text sum is = cc is

no_sum : (test : Bool) (text : List ℕ) → cond test (Some text) None ≡ None → test ≡ false
no_sum true text is = cc is
no_sum false text is = refl

pub sums-more : (texts : List (List ℕ)) (i : ℕ) (text sum : List ℕ) (sums new : List (List ℕ)) → SumsSoFar texts i sums → i < length texts → text ≡ get_or texts i text → checksum_in text ≡ Some sum → new ≡ sums ++ sum ∷ [] → SumsSoFar texts (i + 1) new
sums-more texts i text sum sums new far within is read pushed =
    let found = some_sum (is_checksum text) text sum read in
    record {
      are = pushed ∙ ap (λ s. s ++ sum ∷ []) far.are ∙ ap (λ (t : List ℕ). take i texts ++ t ∷ []) (sym found.1 ∙ is) ∙ sym (take_more texts i text within);
      all =
          list_all_more is_checksum texts i text within
          ∙ ap (λ b. b && is_checksum (get_or texts i text)) far.all
          ∙ ap is_checksum (sym is)
          ∙ found.0;
    }

-- one of them is none
pub sums-none : (texts : List (List ℕ)) (i : ℕ) (text : List ℕ) → i < length texts → text ≡ get_or texts i text → checksum_in text ≡ None → list_all is_checksum texts ≡ false
sums-none texts i text within is read = list_all_at is_checksum texts i text within (ap is_checksum (sym is) ∙ no_sum (is_checksum text) text read)

some_texts : (xs ys : List (List ℕ)) → Some xs ≡ Some ys → xs ≡ ys
some_texts xs ys is = cc is

-- the texts of the list in order are checksums just where those of the list are
pub sums_among : (texts : List (List ℕ)) (found : Option (List (List ℕ))) → Some texts ≡ option_map in_order found → cond (list_all is_checksum texts) (Some texts) None ≡ option_and_then checksums_among found
sums_among texts None is = cc is
sums_among texts (Some given) is =
    let same : texts ≡ in_order given = some_texts texts (in_order given) is in
    ap (λ xs. cond (list_all is_checksum xs) (Some xs) None) same
    ∙ ap (λ b. cond b (Some (in_order given)) None) (all-in_order is_checksum given)
