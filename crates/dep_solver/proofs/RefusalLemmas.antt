-- The lists of a refusal: the names of a list of which a test holds, in order and each once.
use Rattle.std.proofs.Common.{◌≡◌, ◌↔◌, ℕ, ◌+◌, ◌<◌, ◌≤◌, ◌⊎◌, List, [], ◌∷◌, ◌++◌, length, take, get_or, Contains, IsPermutation, IsSorted, bytes_eq, ap, sym, refl, subst, ◌∙◌, inl, inr, take_all}
use Rattle.std.proofs.lemmas.List.{take_more}
use Rattle.std.proofs.lemmas.List.Elements.{Contains-append_left, Contains-push, Contains-push_cases}
use Rattle.std.proofs.lemmas.List.Kept.{Contains-dedup, Contains-from_dedup, IsStrictlySortedBy-dedup}
use Rattle.std.proofs.lemmas.List.Sorted.{Contains-permutation, IsPermutation-sym}
use Rattle.std.proofs.lemmas.Slice.Eq.{bytes_eq-Decides}
use Rattle.std.specs.Cmp.Lexicographic.{nat_list_eq_equiv, nat_list_cmp_total, texts_ties}
use Rattle.std.specs.List.{dedup}
use Rattle.std.specs.List.Sorted.{IsStrictlySortedBy}
use Rattle.doc_tree.specs.Text.{text_cmp}
use Rattle.dep_solver.specs.Names.{CookbookName}
use Rattle.dep_solver.specs.Refusals.{AreThose}
use Rattle.dep_solver.proofs.ListLemmas.{nowhere}

module _ (P : CookbookName → Type 0) (xs : List CookbookName) where
  -- the names have those of the first i of which P holds
  pub record ListsBefore (i : ℕ) (names : List CookbookName) : Type 0 where
    pub those : (name : CookbookName) → Contains names name ↔ (Contains (take i xs) name × P name)

  pub lists_none : (names : List CookbookName) → names ≡ [] → ListsBefore 0 names
  lists_none names e = record { those = λ n. (λ h. absurd (nowhere n (subst (λ ns. Contains ns n) e h)), λ h. absurd (nowhere n (subst (λ zs. Contains zs n) (none xs) h.0))) }
    where
      none : (xs : List CookbookName) → take 0 xs ≡ []
      none [] = refl
      none (x ∷ xs) = refl

  more : (i : ℕ) (x n : CookbookName) → i < length xs → x ≡ get_or xs i x → Contains (take i xs ++ x ∷ []) n → Contains (take (i + 1) xs) n
  more i x n within is h = subst (λ zs. Contains zs n) (ap (λ z. take i xs ++ z ∷ []) is ∙ sym (take_more xs i x within)) h

  less : (i : ℕ) (x n : CookbookName) → i < length xs → x ≡ get_or xs i x → Contains (take (i + 1) xs) n → Contains (take i xs ++ x ∷ []) n
  less i x n within is h = subst (λ zs. Contains zs n) (take_more xs i x within ∙ ap (λ z. take i xs ++ z ∷ []) (sym is)) h

  pub lists_skip : (i : ℕ) (x : CookbookName) (names : List CookbookName) → i < length xs → x ≡ get_or xs i x → (P x → ⊥) → ListsBefore i names → ListsBefore (i + 1) names
  lists_skip i x names within is not before = record {
    those = λ n. (
      λ h. let b = (before.those n).0 h in (more i x n within is (Contains-append_left (take i xs) (x ∷ []) n b.0), b.1),
      λ h. elim (Contains-push_cases (take i xs) x n (less i x n within is h.0)) [
        | inl k ↦ (before.those n).1 (k, h.1)
        | inr e ↦ absurd (not (subst P (sym e) h.1))
      ],
    );
  }

  pub lists_add : (i : ℕ) (x : CookbookName) (names after : List CookbookName) → i < length xs → x ≡ get_or xs i x → P x → after ≡ names ++ x ∷ [] → ListsBefore i names → ListsBefore (i + 1) after
  lists_add i x names after within is holds added before = record {
    those = λ n. (
      λ h. elim (Contains-push_cases names x n (subst (λ ns. Contains ns n) added h)) [
        | inl k ↦ let b = (before.those n).0 k in (more i x n within is (Contains-append_left (take i xs) (x ∷ []) n b.0), b.1)
        | inr e ↦ (more i x n within is (subst (λ z. Contains (take i xs ++ x ∷ []) z) e (Contains-push (take i xs) x)), subst P e holds)
      ],
      λ h. subst (λ ns. Contains ns n) (sym added) (by n (Contains-push_cases (take i xs) x n (less i x n within is h.0)) h.1),
    );
  }
    where
      by : (n : CookbookName) → Contains (take i xs) n ⊎ (x ≡ n) → P n → Contains (names ++ x ∷ []) n
      by n (inl k) p = Contains-append_left names (x ∷ []) n ((before.those n).1 (k, p))
      by n (inr e) p = subst (λ z. Contains (names ++ x ∷ []) z) e (Contains-push names x)

  pub lists_all : (i : ℕ) (names sorted result : List CookbookName) → length xs ≤ i → ListsBefore i names → IsPermutation names sorted → IsSorted text_cmp sorted → result ≡ dedup bytes_eq sorted → AreThose P xs result
  lists_all i names sorted result past lists moved order is = record {
    in_order = subst (IsStrictlySortedBy text_cmp) (sym is) (IsStrictlySortedBy-dedup nat_list_cmp_total texts_ties sorted order);
    those = λ n. (
      λ h. let b = (lists.those n).0 (Contains-permutation sorted names n (IsPermutation-sym names sorted moved) (Contains-from_dedup bytes_eq sorted n (subst (λ zs. Contains zs n) is h))) in
          (subst (λ zs. Contains zs n) (take_all i xs past) b.0, b.1),
      λ h. subst (λ zs. Contains zs n) (sym is) (Contains-dedup nat_list_eq_equiv (λ x y. (bytes_eq-Decides x y).0) sorted n
          (Contains-permutation names sorted n moved ((lists.those n).1 (subst (λ zs. Contains zs n) (sym (take_all i xs past)) h.0, h.1)))),
    );
  }
