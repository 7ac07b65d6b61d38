-- Words and their uses: more room, and a use more.
use Rattle.std.proofs.Common.{◌≡◌, ◌≢◌, ℕ, zero, suc, ◌+◌, ◌<◌, ◌≤◌, inl, inr, List, [], ◌∷◌, ◌++◌, length, replicate, get_or, set, Option, Some, None, is_some, IsSome, IsTrue, option_map, Result, Ok, Err, OnOk, OnErr, refl, sym, ap, subst, ◌∙◌, arith}
use Rattle.std.proofs.lemmas.Bool.{cases_eq, cases_lt}
use Rattle.std.proofs.lemmas.List.{length-append, length-set, get_or-set_same, get_or-set_other, get_or_past}
use Rattle.ordered_keys.specs.Keys.{Grows, Inserts, IsAbsent, IsOnce, Keys, Numbers, key_in, key_of}
use Rattle.std.specs.declared.random_state.RandomState.{RandomState}
use Rattle.std.proofs.lemmas.Grind.{get_or_default_zero}
use Rattle.std.proofs.lemmas.Map.Lookups.{exact_bytes}
use Rattle.std.proofs.lemmas.Slice.Eq.{bytes_eq-Decides}
use Rattle.std.specs.Cmp.{tied_itself}
use Rattle.std.specs.Cmp.Lexicographic.{nat_list_cmp_total}
use Rattle.doc_tree.specs.Text.{text_cmp}
use Rattle.ordered_keys.proofs.KeyLemmas.{numbers_new}
use Rattle.search_index.specs.Place.{no_number}
use Rattle.search_index.specs.HashedNumbers.{AreMet, Finds, IsMet, Keeps}
use Rattle.search_index.specs.declared.hashed_numbers.End.TheVariants.{FreeSlot}
use Rattle.search_index.specs.Hashing.{hash_of, word_hash_at}
use Rattle.search_index.specs.Words.{AreWords, HasNoWord, IsCounted, PadsUses, Vocabulary, is_word, uses_at}
use Rattle.search_index.proofs.HashedLemmas.{met_fewer, met_with}

pub some_of : {X : Type 0} (o : Option X) → IsSome o → (x : X) × (o ≡ Some x)
some_of (Some x) h = (x, refl)
some_of None h = absurd (cc)

pub never_none : {X : Type 0} (o : Option X) → o ≡ None → IsSome o → ⊥
never_none {X} o none some = absurd (let t : is_some o ≡ is_some {T = X} None = ap is_some none in cc)

-- what is under a number is within the slots
pub within : {X : Type 0} (slots : List (Option X)) (i : ℕ) → IsSome (key_in slots i) → i < length slots
within slots i some = elim (cases_lt i (length slots)) [
  | inl less ↦ less
  | inr past ↦ absurd (never_none (key_in slots i) (get_or_past slots i None past) some)
]

-- ---- more room

none_more : (n i z : ℕ) → get_or (replicate n z) i z ≡ z
none_more zero i z = get_or_past [] i z (omega arith)
none_more (suc n) zero z = refl
none_more (suc n) (suc i) z = none_more n i z

padded : (uses : List ℕ) (n i : ℕ) → get_or (uses ++ replicate n 0) i 0 ≡ get_or uses i 0
padded [] n i = none_more n i 0 ∙ sym (get_or_past [] i 0 (omega arith))
padded (u ∷ uses) n zero = refl
padded (u ∷ uses) n (suc i) = padded uses n i

-- more numbers, where there was memory for them
pub record GrowsAtMost {K : Type 0} (old new : Keys K) (more : ℕ) : Type 0 where
  pub same : (i : ℕ) → key_of new i ≡ key_of old i
  pub room : old.room ≤ new.room
  pub size : length new.slots ≤ length old.slots + more

pub grows_at_most : {K A E : Type 0} (r : Result A E) (old new : Keys K) (more : ℕ) → OnOk r (Grows old new more) → OnErr r (new ≡ old) → GrowsAtMost old new more
grows_at_most (Ok _) old new more ok err = record { same = ok.same; room = omega (arith, ok.room); size = omega (arith, ok.size) }
grows_at_most {K} (Err _) old new more ok err = record { same = λ i. ap (λ (k : Keys K). key_of k i) err; room = omega (arith, ap (λ (k : Keys K). k.room) err); size = omega (arith, ap (λ (k : Keys K). length k.slots) err) }

-- the same words and uses, with more room
pub reserved : (old : Vocabulary) (texts : Keys (List ℕ)) (uses : List ℕ) → IsCounted old → PadsUses old.uses uses → ((i : ℕ) → key_of texts i ≡ key_of old.texts i) → length texts.slots ≤ length uses → length texts.slots ≤ 4294967294 → IsCounted (record { texts = texts; uses = uses })
reserved old texts uses counted pads same counts few =
    let used : (i : ℕ) → get_or uses i 0 ≡ uses_at old i = λ i. ap (λ (z : List ℕ). get_or z i 0) pads.1 ∙ padded old.uses pads.0 i in
    record {
      there = λ i. (
        λ some. subst (λ n. 1 ≤ n) (sym (used i)) ((counted.there i).0 (ap is_some (sym (same i)) ∙ some)),
        λ one. ap is_some (same i) ∙ (counted.there i).1 (subst (λ n. 1 ≤ n) (used i) one),
      );
      once = λ i j x one two. counted.once i j x (sym (same i) ∙ one) (sym (same j) ∙ two);
      counts = counts;
      few = few;
    }

-- ---- a use more

pub number_within : (old : Vocabulary) (texts : Keys (List ℕ)) (word : List ℕ) (number : ℕ) → IsCounted old → Numbers old.texts texts word number → number < length old.texts.slots
number_within old texts word number counted numbers = let less = within texts.slots number (ap is_some numbers.put) in let size = numbers.size in omega arith

-- how often a word was used, as it is read
pub used_before : (old : Vocabulary) (texts : Keys (List ℕ)) (word : List ℕ) (number read : ℕ) → IsCounted old → Numbers old.texts texts word number → read ≡ get_or old.uses number read → read ≡ uses_at old number
used_before old texts word number read counted numbers is =
    let within : number < length old.uses = (let a = number_within old texts word number counted numbers in let b = counted.counts in omega arith) in
    is ∙ get_or_default_zero old.uses number read within

pub taken_in : (old : Vocabulary) (texts : Keys (List ℕ)) (uses : List ℕ) (word : List ℕ) (number : ℕ) → IsCounted old → Numbers old.texts texts word number → uses ≡ set old.uses number (uses_at old number + 1) → IsCounted (record { texts = texts; uses = uses })
taken_in old texts uses word number counted numbers is =
    let inside : number < length old.uses = (let a = number_within old texts word number counted numbers in let b = counted.counts in omega arith) in
    let used : get_or uses number 0 ≡ uses_at old number + 1 = ap (λ (z : List ℕ). get_or z number 0) is ∙ get_or-set_same old.uses number (uses_at old number + 1) 0 inside in
    let others : (i : ℕ) → i ≢ number → get_or uses i 0 ≡ uses_at old i = λ i differs. ap (λ (z : List ℕ). get_or z i 0) is ∙ get_or-set_other old.uses number i (uses_at old number + 1) 0 differs in
    record {
      there = λ i. elim (cases_eq i number) [
        | inl e ↦ (
          λ some. subst (λ n. 1 ≤ get_or uses n 0) (sym e) (omega (arith, used)),
          λ one. ap is_some (ap (key_of texts) e ∙ numbers.put),
        )
        | inr differs ↦ (
          λ some.
              let x = some_of (key_of texts i) some in
              elim (numbers.from i x.0 x.1) [
                | inl was ↦ subst (λ n. 1 ≤ n) (sym (others i differs)) ((counted.there i).0 (ap is_some was))
                | inr (e, f) ↦ absurd (differs e)
              ],
          λ one.
              let x = some_of (key_of old.texts i) ((counted.there i).1 (subst (λ n. 1 ≤ n) (others i differs) one)) in
              ap is_some (numbers.kept i x.0 x.1),
        )
      ];
      once = numbers.once;
      counts = (let a = ap length is in let b = length-set old.uses number (uses_at old number + 1) in let c = counted.counts in let d = numbers.size in omega arith);
      few = (let c = counted.few in let d = numbers.size in omega arith);
    }

-- more words may be used
pub more_uses : (old new : List ℕ) → PadsUses old new → length old ≤ length new
more_uses old new pads = let whole = ap length pads.1 in let size = length-append old (replicate pads.0 0) in omega (arith, whole, size)

-- ---- words by their hashes

-- what is the word
pub is_the_word : (o : Option (List ℕ)) (word : List ℕ) → IsTrue (is_word o word) → o ≡ Some word
is_the_word None word is = absurd (cc)
is_the_word (Some text) word is = ap Some ((bytes_eq-Decides text word).0 is)

the_word_is : (o : Option (List ℕ)) (word : List ℕ) → o ≡ Some word → IsTrue (is_word o word)
the_word_is o word is = ap (λ z. is_word z word) is ∙ (bytes_eq-Decides word word).1 refl

-- no word is equal to one that isn't there
pub none_equal : (texts : Keys (List ℕ)) (word : List ℕ) → IsAbsent text_cmp texts word → (i : ℕ) → key_of texts i ≢ Some word
none_equal texts word absent i is = absent i word is (tied_itself nat_list_cmp_total word)

-- nor is one there that is equal to it
pub absent_word : (texts : Keys (List ℕ)) (word : List ℕ) → ((i : ℕ) → key_of texts i ≢ Some word) → IsAbsent text_cmp texts word
absent_word texts word none i x is equal = none i (is ∙ ap Some (exact_bytes x word equal))

-- a number under which a word stands fits into 32 bits and isn't the one for none
pub slot_small : (texts : Keys (List ℕ)) (i : ℕ) (word : List ℕ) → length texts.slots ≤ 4294967294 → key_of texts i ≡ Some word → i < no_number
slot_small texts i word few is = let a = within texts.slots i (ap is_some is) in omega (arith, a, few)

-- what has a hash is a word
hashed_word : (hasher : RandomState) (o : Option (List ℕ)) (h : ℕ) → option_map (hash_of hasher) o ≡ Some h → (word : List ℕ) × (o ≡ Some word)
hashed_word hasher (Some word) h is = (word, refl)
hashed_word hasher None h is = absurd (cc)

-- where a way ends at a free slot, the word isn't there
pub no_word : (v : Vocabulary) (slots : List ℕ) (hasher : RandomState) (word : List ℕ) → AreMet (word_hash_at hasher v.texts) slots → Finds (λ n. is_word (key_of v.texts n) word) slots (hash_of hasher word) FreeSlot → HasNoWord v word
no_word v slots hasher word met finds i is = finds i (met i (hash_of hasher word) (ap (option_map (hash_of hasher)) is)) (the_word_is (key_of v.texts i) word is)

-- the words are met with one more
pub words_met_with : (hasher : RandomState) (old new : Keys (List ℕ)) (word : List ℕ) (id : ℕ) (slots more : List ℕ) → length old.slots ≤ 4294967294 → Inserts old new word id → AreMet (word_hash_at hasher old) slots → IsMet more (hash_of hasher word) id → Keeps slots more → AreMet (word_hash_at hasher new) more
words_met_with hasher old new word id slots more few inserts met here keeps =
    met_with (word_hash_at hasher old) (word_hash_at hasher new) slots more id (hash_of hasher word) met (ap (option_map (hash_of hasher)) inserts.put) (λ i differs. ap (option_map (hash_of hasher)) (inserts.others i differs)) here keeps
    (λ i h is e. let w = hashed_word hasher (key_of old i) h is in let small = slot_small old i w.0 few w.1 in omega (arith, small, e))

-- and with the same words
pub words_met : (hasher : RandomState) (old new : Keys (List ℕ)) (slots : List ℕ) → ((i : ℕ) → key_of new i ≡ key_of old i) → AreMet (word_hash_at hasher old) slots → AreMet (word_hash_at hasher new) slots
words_met hasher old new slots same met = met_fewer (word_hash_at hasher old) (word_hash_at hasher new) slots met (λ i h is. ap (option_map (hash_of hasher)) (sym (same i)) ∙ is)

-- and with fewer
pub words_met_still : (hasher : RandomState) (old new : Keys (List ℕ)) (slots : List ℕ) → ((i : ℕ) (word : List ℕ) → key_of new i ≡ Some word → key_of old i ≡ Some word) → AreMet (word_hash_at hasher old) slots → AreMet (word_hash_at hasher new) slots
words_met_still hasher old new slots kept met = met_fewer (word_hash_at hasher old) (word_hash_at hasher new) slots met
    (λ i h is. let w = hashed_word hasher (key_of new i) h is in ap (option_map (hash_of hasher)) (kept i w.0 w.1 ∙ sym w.1) ∙ is)

-- nothing stands under a number past 32 bits
pub no_word_past : (hasher : RandomState) (texts : Keys (List ℕ)) → length texts.slots ≤ 4294967294 → (i : ℕ) → no_number ≤ i → word_hash_at hasher texts i ≡ None
no_word_past hasher texts few i past = ap (option_map (hash_of hasher)) (get_or_past texts.slots i None (omega (arith, few, past)))

-- the words with more numbers, where there was memory for them
pub grown_words : (v : Vocabulary) (texts : Keys (List ℕ)) (uses hashed : List ℕ) (hasher : RandomState) (more size : ℕ) → AreWords v hashed hasher → PadsUses v.uses uses → GrowsAtMost v.texts texts more → length v.texts.slots + more ≡ size → size ≤ 4294967294 → size ≤ length uses → AreWords (record { texts = texts; uses = uses }) hashed hasher
grown_words v texts uses hashed hasher more size are pads grows all most padded = record {
  counted = reserved v texts uses are.counted pads grows.same (let a = grows.size in omega (arith, a, all, padded)) (let a = grows.size in omega (arith, a, all, most));
  met = words_met hasher v.texts texts hashed grows.same are.met;
}

-- ---- a word that is there or put in

pub number_there : (texts : Keys (List ℕ)) (word : List ℕ) (number : ℕ) → IsOnce texts → key_of texts number ≡ Some word → Numbers texts texts word number
number_there texts word number once is = record {
  put = is;
  kept = λ j y there. there;
  from = λ j y there. inl there;
  once = once;
  room = omega arith;
  size = refl;
}

pub number_put : (old new : Keys (List ℕ)) (word : List ℕ) (number : ℕ) → IsOnce old → ((i : ℕ) → key_of old i ≢ Some word) → Inserts old new word number → Numbers old new word number
number_put old new word number once none inserts = numbers_new text_cmp nat_list_cmp_total old new word number once (absent_word old word none) inserts
