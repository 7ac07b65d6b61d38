-- The size of a demo that words name is in its range.
use Rattle.std.proofs.Common.{◌≡◌, ◌≤◌, ℕ, Bool, true, false, cond, List, [], ◌∷◌, Option, None, Some, refl, subst, rules}
use Rattle.std.specs.Prelude.{bytes_eq, codes, option_map, option_and_then}
use Rattle.command_words.specs.Words.{explain, demo, knife, answer_with, explain_with, demo_with, knife_with, told_by, given_in, Knife, command_of, only_value, number_in, is_size, size_in}

in_range : (n : ℕ) → is_size n ≡ true → n ≤ 200
in_range n test = search rules

by_test : (is : Bool) (n size : ℕ) → is_size n ≡ is → option_map demo (cond is (Some n) None) ≡ Some (demo size) → size ≤ 200
by_test true n size test read =
    let same : n ≡ size = cc read in
    subst (λ k. k ≤ 200) same (in_range n test)
by_test false n size test read = absurd (cc read)

by_number : (number : Option ℕ) (size : ℕ) → option_map demo (option_and_then (λ n. cond (is_size n) (Some n) None) number) ≡ Some (demo size) → size ≤ 200
by_number None size read = absurd (cc read)
by_number (Some n) size read = by_test (is_size n) n size refl read

by_value : (value : Option (List ℕ)) (size : ℕ) → option_map demo (option_and_then size_in value) ≡ Some (demo size) → size ≤ 200
by_value None size read = absurd (cc read)
by_value (Some text) size read = by_number (number_in text) size read

not_answer : (words : List (List ℕ)) (size : ℕ) → answer_with words ≡ Some (demo size) → ⊥
not_answer [] size read = cc read
not_answer (word ∷ words) size read = cc read

not_explain : (file : Option (List ℕ)) (size : ℕ) → option_map explain file ≡ Some (demo size) → ⊥
not_explain None size read = cc read
not_explain (Some file) size read = cc read

not_knife : (told : Option Knife) (size : ℕ) → option_map knife told ≡ Some (demo size) → ⊥
not_knife None size read = cc read
not_knife (Some told) size read = cc read

by_word : (is_answer is_explain is_demo is_knife : Bool) (words : List (List ℕ)) (size : ℕ)
    → cond is_answer (answer_with words) (cond is_explain (explain_with words) (cond is_demo (demo_with words) (cond is_knife (knife_with words) None))) ≡ Some (demo size) → size ≤ 200
by_word true is_explain is_demo is_knife words size read = absurd (not_answer words size read)
by_word false true is_demo is_knife words size read = absurd (not_explain (only_value (codes "--sources") words) size read)
by_word false false true is_knife words size read = by_value (only_value (codes "--size") words) size read
by_word false false false true words size read = absurd (not_knife (option_and_then told_by (given_in words)) size read)
by_word false false false false words size read = absurd (cc read)

pub size_is_small : (given : List (List ℕ)) (size : ℕ) → command_of given ≡ Some (demo size) → size ≤ 200
size_is_small [] size read = absurd (cc read)
size_is_small (word ∷ words) size read =
    by_word (bytes_eq word (codes "answer")) (bytes_eq word (codes "explain")) (bytes_eq word (codes "demo")) (bytes_eq word (codes "knife")) words size read
