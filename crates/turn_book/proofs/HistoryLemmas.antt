-- Beginnings of one history.
use Rattle.std.proofs.Common.{◌≡◌, ◌≤◌, List, [], ◌∷◌, ◌++◌, length, refl, sym, ap, ◌∙◌, arith, rules, true, false, Bool, append_assoc, nat_le}
use Rattle.std.proofs.lemmas.Bool.Decides.{nat_tests}
use Rattle.std.specs.Prelude.{if◌then◌else◌}
use Rattle.turn_book.specs.Histories.{StartsWith, longer}

module _ {E : Type 0} where
  pub starts_whole : (h : List E) → StartsWith h h
  starts_whole h = ([], search rules)

  pub starts_empty : (h : List E) → StartsWith h []
  starts_empty h = (h, refl)

  pub starts_more : (h s m : List E) → StartsWith h s → StartsWith (h ++ m) s
  starts_more h s m p = (p.0 ++ m, ap (λ l. l ++ m) p.1 ∙ append_assoc s p.0 m)

  pub starts_again : (a b c : List E) → StartsWith a b → StartsWith b c → StartsWith a c
  starts_again a b c p q = (q.0 ++ p.0, p.1 ∙ ap (λ l. l ++ p.0) q.1 ∙ append_assoc c q.0 p.0)

abbrev tail_of : {A : Type 0} → List A → List A
tail_of [] = []
tail_of (x ∷ xs) = xs

abbrev head_or : {A : Type 0} → A → List A → A
head_or d [] = d
head_or d (x ∷ xs) = x

shorter_starts : {E : Type 0} (a b r r' : List E) → a ++ r ≡ b ++ r' → length b ≤ length a → StartsWith a b
shorter_starts a [] r r' e l = (a, refl)
shorter_starts [] (y ∷ b) r r' e l = absurd (omega arith)
shorter_starts (x ∷ a) (y ∷ b) r r' e l = let t = shorter_starts a b r r' (ap tail_of e) (omega arith) in (t.0, λ i. head_or x (e i) ∷ t.1 i)

-- two beginnings of one history are beginnings of the longer of both
pub longer_starts : {E : Type 0} (h a b : List E) → StartsWith h a → StartsWith h b → StartsWith h (longer a b) × StartsWith (longer a b) a × StartsWith (longer a b) b
longer_starts h a b p q = by (nat_le (length b) (length a)) refl
  where
    by : (t : Bool) → nat_le (length b) (length a) ≡ t → StartsWith h (if t then a else b) × StartsWith (if t then a else b) a × StartsWith (if t then a else b) b
    by true e = (p, starts_whole a, shorter_starts a b p.0 q.0 (sym p.1 ∙ q.1) (grind (arith, nat_tests)))
    by false e = (q, shorter_starts b a q.0 p.0 (sym q.1 ∙ p.1) (grind (arith, nat_tests)), starts_whole b)
