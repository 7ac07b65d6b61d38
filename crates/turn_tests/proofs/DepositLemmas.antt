-- A deposit in turn adds its entry.
use Rattle.std.proofs.Common.{◌≡◌, ℕ, ◌+◌, min, List, [], ◌∷◌, ◌++◌, Some, true, ◌&&◌, refl, sym, ap, ◌∙◌, subst, inl, inr, arith, rules, eq-eqb, append_assoc}
use Rattle.turn_book.specs.Callers.{Known, TookOut, AddsEntry, given_back}
use Rattle.turn_tests.specs.declared.accounts.Deposit.{Deposit}
use Rattle.turn_tests.specs.declared.accounts.Account.{Account}
use Rattle.turn_tests.specs.Deposits.{deposit, after, is_legal, sum_after, Journals, EndsWith}
use Rattle.turn_tests.specs.Accounts.{StandsFor, Answers}

legal_more : (o : ℕ) (h : List Deposit) (a r : ℕ) → is_legal o h ≡ true → r ≡ sum_after o h → is_legal o (h ++ deposit a r ∷ []) ≡ true
legal_more o [] a r e is = ap (λ b. b && true) (eq-eqb r o is)
legal_more o (x ∷ h) a r e is = grind (arith, legal_more (after o x) h a r)

sum_more : (o : ℕ) (h : List Deposit) (d : Deposit) → sum_after o (h ++ d ∷ []) ≡ after (sum_after o h) d
sum_more o [] d = refl
sum_more o (x ∷ h) d = sum_more (after o x) h d

ends_more : (h old new : List Deposit) (d : Deposit) → EndsWith h old → Journals old d new → EndsWith (h ++ d ∷ []) new
ends_more h old new d e (inl is) = (e.0, ap (λ (l : List Deposit). l ++ d ∷ []) e.1 ∙ append_assoc e.0 old (d ∷ []) ∙ ap (λ (l : List Deposit). e.0 ++ l) (sym is))
ends_more h old new d e (inr is) = (h ++ d ∷ [], subst (λ (l : List Deposit). h ++ d ∷ [] ≡ (h ++ d ∷ []) ++ l) (sym is) (search rules))

pub adds_deposit : (before out : Known Deposit ℕ) (x now y : Account) (a r asked : ℕ) → TookOut StandsFor before x out → now ≡ x → asked ≡ a → r ≡ now.sum
    → y.sum ≡ min (now.sum + asked) 18446744073709551615 → Journals now.journal.items (deposit asked r) y.journal.items → AddsEntry StandsFor out (Some (deposit a r)) y
adds_deposit before out x now y a r asked took is same reply sum journal =
    let h : List Deposit = took.history in let seen : out.seen ≡ h = ap (λ (z : Known Deposit ℕ). z.seen) took.after_is in
    let o : ℕ = took.one_history.stood.0 in let stood : StandsFor o h now = subst (StandsFor o h) (sym is) took.one_history.stood.2 in
    let d : Deposit = deposit a r in
    let left : y.sum ≡ sum_after o (h ++ d ∷ []) = sum ∙ ap (λ (k : ℕ). min (k + asked) 18446744073709551615) stood.sum_is ∙ ap (λ (k : ℕ). min (sum_after o h + k) 18446744073709551615) same ∙ sym (sum_more o h d) in
    let journaled : Journals now.journal.items d y.journal.items = subst (λ (k : ℕ). Journals now.journal.items (deposit k r) y.journal.items) same journal in
    let stands : StandsFor o (h ++ d ∷ []) y = record {
      legal = legal_more o h a r stood.legal (reply ∙ stood.sum_is);
      sum_is = left;
      journal_is = ends_more h now.journal.items y.journal.items d stood.journal_is journaled;
    } in record {
      entry = d;
      picked_is = refl;
      stood = (o, ap (λ (z : Known Deposit ℕ). z.opened) took.after_is ∙ took.one_history.stood.1, subst (λ (l : List Deposit). StandsFor o (l ++ d ∷ []) y) (sym seen) stands);
    }

pub answered : (before out end : Known Deposit ℕ) (x now : Account) (a r : ℕ) → TookOut StandsFor before x out → now ≡ x → r ≡ now.sum → end ≡ given_back (deposit a r) out → Answers before a r end
answered before out end x now a r took is reply gave =
    let h : List Deposit = took.history in
    let o : ℕ = took.one_history.stood.0 in let stood : StandsFor o h now = subst (StandsFor o h) (sym is) took.one_history.stood.2 in record {
      history = h;
      begins = took.one_history.begins;
      legal = (o, took.one_history.stood.1, legal_more o h a r stood.legal (reply ∙ stood.sum_is));
      after_is = gave ∙ ap (given_back (deposit a r)) took.after_is;
    }
