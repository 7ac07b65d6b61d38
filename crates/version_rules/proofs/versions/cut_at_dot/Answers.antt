use Rattle.std.proofs.Common.{◌≡◌, ℕ, ◌+◌, ◌-◌, ◌<◌, ◌==◌, List, ◌∷◌, length, take, drop, arith, rules}
use Rattle.std.specs.List.{position_or_len}
use Rattle.std.proofs.lemmas.List.{take_rest}
use Rattle.std.proofs.lemmas.List.Splits.{slice_split_first, slice_split_none}
use Rattle.std.proofs.lemmas.List.Sums.{position_or_len_is}
use Rattle.version_rules.specs.Versions.{parts_of}
use Rattle.version_rules.proofs.versions.cut_at_dot.Goals as goal

-- the parts of a text whose first dot stands at a place
cut_at : (text : List ℕ) (dot : ℕ) → dot < length text → position_or_len (λ (b : ℕ). b == 46) text ≡ dot
    → parts_of text ≡ take dot text ∷ parts_of (take (length text - (dot + 1)) (drop (dot + 1) text))
cut_at text dot inside first =
    let split = slice_split_first (λ (b : ℕ). b == 46) text 0 (omega arith) in
    rw (take_rest text (dot + 1), ← first) split

pub returns-in-Some : goal.returns-in-Some
returns-in-Some c =
    let text = c.args.text.now in
    cut_at text c.in-Some.dot (search rules) (position_or_len_is (λ (b : ℕ). b == 46) text c.in-Some.dot 0 (search rules) (search rules) (search rules))

pub returns-in-None : goal.returns-in-None
returns-in-None c = slice_split_none (λ (b : ℕ). b == 46) c.args.text.now (search rules)
