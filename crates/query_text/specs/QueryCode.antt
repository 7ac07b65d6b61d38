-- How the logic stores a query: as a tree of numbers.
use Rattle.std.specs.Prelude.{◌≡◌, ◌⊎◌, ℕ, zero, suc, Bool, List, Option, refl}
use Rattle.std.proofs.Common.{ap, inl, inr, ap₂}
use Rattle.std.specs.Coded.{Coded, code_by, coded_ℕ, coded_bool, coded_list, coded_option, coded×, coded⊎}
use base.Stored.{coded_unit, Gv, gnil, gnum, gcons}
use Rattle.query_text.specs.Query.{Ors, no_ors, then_ands, Ands, no_ands, then_item, Item, term, negated, group}
use Rattle.query_text.specs.declared.term.Term.{Term}
use Rattle.query_text.specs.declared.term.Term.TheVariants as terms
use Rattle.query_text.specs.declared.term.Wanted.{Wanted}
use Rattle.query_text.specs.declared.term.Wanted.TheVariants as wanted
use Rattle.query_text.specs.declared.term.Sign.{Sign}
use Rattle.query_text.specs.declared.term.Sign.TheVariants as sign
use Rattle.query_text.specs.declared.term.Range.{Range}

abbrev sign_to : Sign → ℕ
sign_to sign.Any = 0
sign_to sign.One = 1
sign_to (sign.Byte b) = suc (suc b)

abbrev sign_back : ℕ → Sign
sign_back zero = sign.Any
sign_back (suc zero) = sign.One
sign_back (suc (suc b)) = sign.Byte b

pub sign_back-to : (s : Sign) → sign_back (sign_to s) ≡ s
sign_back-to sign.Any = refl
sign_back-to sign.One = refl
sign_back-to (sign.Byte b) = refl

abbrev sign_code : Coded Sign
sign_code = code_by ℕ coded_ℕ sign_to sign_back sign_back-to

abbrev bytes_code : Coded (List ℕ)
bytes_code = coded_list coded_ℕ

abbrev bound_code : Coded (Option (List ℕ))
bound_code = coded_option bytes_code

abbrev range_code : Coded Range
range_code =
    code_by (Bool × (Option (List ℕ) × Option (List ℕ))) (coded× coded_bool (coded× bound_code bound_code))
    (λ r. (r.with_ends, (r.low, r.high))) (λ p. record { with_ends = p.0; low = p.1.0; high = p.1.1 }) (λ _. refl)

abbrev wanted_to : Wanted → List ℕ ⊎ (List Sign ⊎ Range)
wanted_to (wanted.Equal w) = inl w
wanted_to (wanted.Like signs) = inr (inl signs)
wanted_to (wanted.Between range) = inr (inr range)

abbrev wanted_back : List ℕ ⊎ (List Sign ⊎ Range) → Wanted
wanted_back (inl w) = wanted.Equal w
wanted_back (inr (inl signs)) = wanted.Like signs
wanted_back (inr (inr range)) = wanted.Between range

pub wanted_back-to : (w : Wanted) → wanted_back (wanted_to w) ≡ w
wanted_back-to (wanted.Equal w) = refl
wanted_back-to (wanted.Like signs) = refl
wanted_back-to (wanted.Between range) = refl

abbrev wanted_code : Coded Wanted
wanted_code =
    code_by (List ℕ ⊎ (List Sign ⊎ Range)) (coded⊎ bytes_code (coded⊎ (coded_list sign_code) range_code)) wanted_to wanted_back wanted_back-to

abbrev term_to : Term → Unit {0} ⊎ (List ℕ × Wanted)
term_to terms.Every = inl tt
term_to (terms.AtField field w) = inr (field, w)

abbrev term_back : Unit {0} ⊎ (List ℕ × Wanted) → Term
term_back (inl _) = terms.Every
term_back (inr p) = terms.AtField p.0 p.1

pub term_back-to : (t : Term) → term_back (term_to t) ≡ t
term_back-to terms.Every = refl
term_back-to (terms.AtField field w) = refl

-- the code of a term
abbrev pub term_code : Coded Term
term_code = code_by (Unit {0} ⊎ (List ℕ × Wanted)) (coded⊎ coded_unit (coded× bytes_code wanted_code)) term_to term_back term_back-to

-- a query as a tree of numbers: a number says the kind of an item
abbrev mutual
  pub ors_to : Ors → Gv
  ors_to no_ors = gnil
  ors_to (then_ands a more) = gcons (ands_to a) (ors_to more)

  pub ands_to : Ands → Gv
  ands_to no_ands = gnil
  ands_to (then_item x more) = gcons (item_to x) (ands_to more)

  pub item_to : Item → Gv
  item_to (term t) = gcons (gnum 0) (term_code.code t)
  item_to (negated x) = gcons (gnum 1) (item_to x)
  item_to (group q) = gcons (gnum 2) (ors_to q)

abbrev head : Gv → Gv
head gnil = gnil
head (gnum n) = gnil
head (gcons a b) = a

abbrev tail : Gv → Gv
tail gnil = gnil
tail (gnum n) = gnil
tail (gcons a b) = b

mutual
  pub ors_inj : (p q : Ors) → ors_to p ≡ ors_to q → p ≡ q
  ors_inj no_ors no_ors same = refl
  ors_inj no_ors (then_ands a more) same = cc
  ors_inj (then_ands a more) no_ors same = cc
  ors_inj (then_ands a more) (then_ands b others) same = ap₂ then_ands (ands_inj a b (ap head same)) (ors_inj more others (ap tail same))

  pub ands_inj : (p q : Ands) → ands_to p ≡ ands_to q → p ≡ q
  ands_inj no_ands no_ands same = refl
  ands_inj no_ands (then_item x more) same = cc
  ands_inj (then_item x more) no_ands same = cc
  ands_inj (then_item x more) (then_item y others) same = ap₂ then_item (item_inj x y (ap head same)) (ands_inj more others (ap tail same))

  pub item_inj : (x y : Item) → item_to x ≡ item_to y → x ≡ y
  item_inj (term t) (term u) same = ap term (term_code.inj t u (ap tail same))
  item_inj (term t) (negated y) same = cc
  item_inj (term t) (group q) same = cc
  item_inj (negated x) (term u) same = cc
  item_inj (negated x) (negated y) same = ap negated (item_inj x y (ap tail same))
  item_inj (negated x) (group q) same = cc
  item_inj (group p) (term u) same = cc
  item_inj (group p) (negated y) same = cc
  item_inj (group p) (group q) same = ap group (ors_inj p q (ap tail same))

-- the codes of queries and their parts
abbrev pub ors_code : Coded Ors
ors_code = record { code = ors_to; inj = ors_inj }

abbrev pub ands_code : Coded Ands
ands_code = record { code = ands_to; inj = ands_inj }

abbrev pub item_code : Coded Item
item_code = record { code = item_to; inj = item_inj }
