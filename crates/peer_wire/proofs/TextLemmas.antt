-- A text that is put together piece by piece.
use Rattle.std.proofs.Common.{◌≡◌, ℕ, List, ◌++◌, Result, Ok, Err, OnOk, refl, ap, ◌∙◌, append_assoc}

-- one more piece, known by an equation, behind some pieces and what stood before them
one_more : (h hk hn s p p' : List ℕ) → hk ≡ h ++ s → hn ≡ hk ++ p' → p' ≡ p → hn ≡ h ++ (s ++ p)
one_more h hk hn s p p' e f q =
    f ∙ ap (λ x. x ++ p') e ∙ append_assoc h s p' ∙ ap (λ x. h ++ (s ++ x)) q

-- the last one, which is there only where there was memory for it
last_one : {T E : Type 0} (r : Result T E) (h hk hn s p p' : List ℕ)
    → hk ≡ h ++ s → OnOk r (hn ≡ hk ++ p') → p' ≡ p → OnOk r (hn ≡ h ++ (s ++ p))
last_one (Ok x) h hk hn s p p' e f q = one_more h hk hn s p p' e f q
last_one (Err x) h hk hn s p p' e f q = tt

-- seven pieces behind others, of which every other one is known by an equation
pub seven_pieces : {T E : Type 0} (r : Result T E) (h0 h1 h2 h3 h4 h5 h6 h7 a a' b c c' d e e' f g g' : List ℕ)
    → h1 ≡ h0 ++ a' → a' ≡ a → h2 ≡ h1 ++ b → h3 ≡ h2 ++ c' → c' ≡ c → h4 ≡ h3 ++ d → h5 ≡ h4 ++ e' → e' ≡ e
    → h6 ≡ h5 ++ f → OnOk r (h7 ≡ h6 ++ g') → g' ≡ g
    → OnOk r (h7 ≡ h0 ++ (a ++ b ++ c ++ d ++ e ++ f ++ g))
seven_pieces r h0 h1 h2 h3 h4 h5 h6 h7 a a' b c c' d e e' f g g' p1 q1 p2 p3 q3 p4 p5 q5 p6 p7 q7 =
    let s1 : h1 ≡ h0 ++ a = p1 ∙ ap (λ x. h0 ++ x) q1 in
    let s2 = one_more h0 h1 h2 a b b s1 p2 refl in
    let s3 = one_more h0 h2 h3 (a ++ b) c c' s2 p3 q3 in
    let s4 = one_more h0 h3 h4 (a ++ b ++ c) d d s3 p4 refl in
    let s5 = one_more h0 h4 h5 (a ++ b ++ c ++ d) e e' s4 p5 q5 in
    let s6 = one_more h0 h5 h6 (a ++ b ++ c ++ d ++ e) f f s5 p6 refl in
    last_one r h0 h6 h7 (a ++ b ++ c ++ d ++ e ++ f) g g' s6 p7 q7

-- five pieces behind others, of which the second and the fourth are known by equations
pub five_pieces : {T E : Type 0} (r : Result T E) (h0 h1 h2 h3 h4 h5 a b b' c d d' e : List ℕ)
    → h1 ≡ h0 ++ a → h2 ≡ h1 ++ b' → b' ≡ b → h3 ≡ h2 ++ c → h4 ≡ h3 ++ d' → d' ≡ d → OnOk r (h5 ≡ h4 ++ e)
    → OnOk r (h5 ≡ h0 ++ (a ++ b ++ c ++ d ++ e))
five_pieces r h0 h1 h2 h3 h4 h5 a b b' c d d' e p1 p2 q2 p3 p4 q4 p5 =
    let s2 = one_more h0 h1 h2 a b b' p1 p2 q2 in
    let s3 = one_more h0 h2 h3 (a ++ b) c c s2 p3 refl in
    let s4 = one_more h0 h3 h4 (a ++ b ++ c) d d' s3 p4 q4 in
    last_one r h0 h4 h5 (a ++ b ++ c ++ d) e e s4 p5 refl
