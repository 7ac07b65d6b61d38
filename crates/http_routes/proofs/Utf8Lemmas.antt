-- What is UTF-8 is bytes.
use Rattle.std.proofs.Common.{◌≡◌, ℕ, ◌+◌, ◌/◌, ◌<◌, List, [], ◌∷◌, ◌++◌, Bool, true, false, cond, ◌&&◌, refl, subst, ltb, arith}
use Rattle.std.proofs.lemmas.Bool.Decides.{nat_tests}
use Rattle.std.specs.Str.{IsUtf8}
use lib.Utf8.{scalar, scalars, encode, encodes, next}

abbrev pub AreBytes : List ℕ → Type 0
AreBytes [] = Unit {0}
AreBytes (b ∷ rest) = (b < 256) × AreBytes rest

append : (xs ys : List ℕ) → AreBytes xs → AreBytes ys → AreBytes (xs ++ ys)
append [] ys h k = k
append (x ∷ xs) ys h k = (h.0, append xs ys h.1 k)

encoded : (c : ℕ) → scalar c ≡ true → AreBytes (encode c)
unfolding encode
encoded c h = by (ltb c 128) refl (ltb c 2048) refl (ltb c 65536) refl
  where
    below : c < 1114112
    below = grind (arith, nat_tests)

    by : (u : Bool) → ltb c 128 ≡ u → (v : Bool) → ltb c 2048 ≡ v → (w : Bool) → ltb c 65536 ≡ w
        → AreBytes (cond u (c ∷ []) (cond v ((192 + c / 64) ∷ next c ∷ []) (cond w ((224 + c / 4096) ∷ next (c / 64) ∷ next c ∷ []) ((240 + c / 262144) ∷ next (c / 4096) ∷ next (c / 64) ∷ next c ∷ []))))
    by true e v f w g = (grind (arith, nat_tests), tt)
    by false e true f w g = let l : c < 2048 = grind (arith, nat_tests) in (omega arith, (omega arith, tt))
    by false e false f true g = let l : c < 65536 = grind (arith, nat_tests) in (omega arith, (omega arith, (omega arith, tt)))
    by false e false f false g = (omega (arith, below), (omega arith, (omega arith, (omega arith, tt))))

encoded_all : (cs : List ℕ) → scalars cs ≡ true → AreBytes (encodes cs)
encoded_all [] h = tt
encoded_all (c ∷ cs) h = by (scalar c) refl h (λ k. encoded_all cs k)
  where
    by : (v : Bool) → scalar c ≡ v → (v && scalars cs) ≡ true → (scalars cs ≡ true → AreBytes (encodes cs)) → AreBytes (encode c ++ encodes cs)
    by true e k all = append (encode c) (encodes cs) (encoded c e) (all k)
    by false e k all = cc

pub are_bytes : (bs : List ℕ) → IsUtf8 bs → AreBytes bs
are_bytes bs u = subst AreBytes u.1.1 (encoded_all u.0 u.1.0)
