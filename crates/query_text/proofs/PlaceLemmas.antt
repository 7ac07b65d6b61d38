-- Where the machine stops is the place.
use Rattle.std.proofs.Common.{◌≡◌, ◌<◌, ◌≤◌, ◌+◌, ◌++◌, ℕ, zero, suc, List, [], ◌∷◌, length, take, get_or, add-one, Option, Some, None, refl, ap, sym, subst, ◌∙◌, arith}
use Rattle.std.proofs.lemmas.List.{append-nil}
use Rattle.std.proofs.Math.Seq.{take-suc}
use Rattle.query_text.specs.Query.{Ors}
use Rattle.query_text.specs.Grammar.{Spells}
use Rattle.query_text.specs.Place.{Begins, IsPlace, IsFault}
use Rattle.query_text.specs.Machine.{start, onward, step, steps, finished, ending}
use Rattle.query_text.specs.declared.fault.QueryFault.TheVariants.{NotAQuery}
use Rattle.query_text.specs.declared.frames.Config.{Config}
use Rattle.query_text.proofs.Choices.{Holds}
use Rattle.query_text.proofs.Coming.{Coming}
use Rattle.query_text.proofs.Sound.{steps_go, steps_none, start_spells, ending_comes}
use Rattle.query_text.proofs.Live.{live}
use Rattle.query_text.proofs.Runs.{spelled_runs}

pub steps-append : (s t : List ℕ) (o : Option Config) → steps (s ++ t) o ≡ steps t (steps s o)
steps-append [] t o = refl
steps-append (b ∷ s) t o = steps-append s t (onward o b)

take-length : (text : List ℕ) → take (length text) text ≡ text
take-length [] = refl
take-length (b ∷ text) = ap (λ r. b ∷ r) (take-length text)

-- where a front is gone along with, some query begins with it
begins : (front : List ℕ) (c : Config) → steps front (Some start) ≡ Some c → Begins front
begins front c is =
    let (rest, q, comes) = live c.mode c.frame c.below in
    (rest, q, start_spells (front ++ rest) q (steps_go front start rest q (subst (λ (o : Option Config). Holds (λ d. Coming d rest q) o) (sym is) comes)))

-- and where it isn't, none does
stops : (front more : List ℕ) → steps front (Some start) ≡ None → Begins (front ++ more) → ⊥
stops front more is (rest, q, spelled) =
    let whole = spelled_runs ((front ++ more) ++ rest) q spelled in
    let parts : steps ((front ++ more) ++ rest) (Some start) ≡ None =
    steps-append (front ++ more) rest (Some start) ∙ ap (λ o. steps rest o) (steps-append front more (Some start) ∙ ap (λ o. steps more o) is ∙ steps_none more) ∙ steps_none rest in
    let none : finished (steps ((front ++ more) ++ rest) (Some start)) ≡ None = ap finished parts in
    cc

-- a longer front goes on from a shorter one
longer : (m n : ℕ) (text : List ℕ) → m ≤ n → (more : List ℕ) × (take n text ≡ take m text ++ more)
longer zero n text below = (take n text, refl)
longer (suc m) zero text below = absurd (omega arith)
longer (suc m) (suc n) [] below = ([], refl)
longer (suc m) (suc n) (b ∷ text) below = let (more, is) = longer m n text (omega arith) in (more, ap (λ r. b ∷ r) is)

is_place : (text : List ℕ) (place : ℕ) (c : Config) → place ≤ length text → steps (take place text) (Some start) ≡ Some c
    → (place < length text → steps (take (suc place) text) (Some start) ≡ None) → IsPlace text place
is_place text place c within is then_none = (
  within,
  begins (take place text) c is,
  λ more above below some.
      let (rest, parts) = longer (suc place) more text (omega arith) in
      stops (take (suc place) text) rest (then_none (omega arith)) (subst Begins parts some),
)

-- the machine stops at a byte
pub fault_within : (text : List ℕ) (place : ℕ) (c : Config) → place < length text → steps (take place text) (Some start) ≡ Some c
    → steps (take (suc place) text) (Some start) ≡ None → IsFault text (NotAQuery place)
fault_within text place c within is none = (
  λ q spelled.
      let (rest, parts) = longer (suc place) (length text) text (omega arith) in
      stops (take (suc place) text) rest none ([], q, subst (λ (t : List ℕ). Spells t q) (sym (append-nil (take (suc place) text ++ rest))) (subst (λ (t : List ℕ). Spells t q) (sym (take-length text) ∙ parts) spelled)),
  is_place text place c (omega arith) is (λ _. none),
)

-- the text ends where no query may end
pub fault_at_end : (text : List ℕ) (c : Config) → steps text (Some start) ≡ Some c → ending c ≡ None → IsFault text (NotAQuery (length text))
fault_at_end text c is none = (
  λ q spelled.
      let runs = spelled_runs text q spelled in
      let ends : finished (steps text (Some start)) ≡ None = ap finished is ∙ none in
      cc,
  is_place text (length text) c (omega arith) (ap (λ t. steps t (Some start)) (take-length text) ∙ is) (λ below. absurd (omega arith)),
)

-- the text ends where a query may end
pub spelled_at_end : (text : List ℕ) (c : Config) (q : Ors) → steps text (Some start) ≡ Some c → ending c ≡ Some q → Spells text q
spelled_at_end text c q is ends =
    let comes = ending_comes c.mode c.frame c.below q ends in
    subst (λ (t : List ℕ). Spells t q) (append-nil text)
    (start_spells (text ++ []) q (steps_go text start [] q (subst (λ (o : Option Config). Holds (λ d. Coming d [] q) o) (sym is) comes)))

-- one byte more
pub one_more : (text : List ℕ) (i b : ℕ) (c : Config) → i < length text → b ≡ get_or text i 0 → steps (take i text) (Some start) ≡ Some c
    → steps (take (i + 1) text) (Some start) ≡ step c b
one_more text i b c within here is =
    ap (λ (n : ℕ). steps (take n text) (Some start)) (add-one i)
    ∙ ap (λ t. steps t (Some start)) (take-suc text i 0 within)
    ∙ steps-append (take i text) (get_or text i 0 ∷ []) (Some start)
    ∙ ap (λ o. onward o (get_or text i 0)) is
    ∙ ap (λ k. step c k) (sym here)
