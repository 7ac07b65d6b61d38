-- How what a sink gains in one write after the other adds up.
use Rattle.std.proofs.Common.{◌≡◌, ℕ, List, [], ◌++◌, None, Some, Result, Ok, Err, OnOk, OnErr, refl, sym, ap, ◌∙◌, append_assoc, append-nil}
use Rattle.std.specs.declared.option.Option.{Option}
use Rattle.std.specs.Io.KnownBytes.{append_known}
use Rattle.outside_core.specs.Sink.{GainsPart, PassesOn}

-- two pieces are one
pub append_known-append : (known : Option (List ℕ)) (xs ys : List ℕ)
    → append_known (append_known known xs) ys ≡ append_known known (xs ++ ys)
append_known-append None xs ys = refl
append_known-append (Some known) xs ys = ap Some (append_assoc known xs ys)

-- a front of some bytes is a front of them and more
pub GainsPart-longer : (old new : Option (List ℕ)) (bytes more : List ℕ)
    → GainsPart old new bytes → GainsPart old new (bytes ++ more)
GainsPart-longer old new bytes more p =
    (p.0, p.1 ++ more, ap (λ xs. xs ++ more) p.2 ∙ append_assoc p.0 p.1 more, p.3)

-- some bytes, and then a front of others
pub GainsPart-after : (old mid new : Option (List ℕ)) (first bytes : List ℕ)
    → mid ≡ append_known old first → GainsPart mid new bytes → GainsPart old new (first ++ bytes)
GainsPart-after old mid new first bytes e p = (
  first ++ p.0,
  p.1,
  ap (λ xs. first ++ xs) p.2 ∙ sym (append_assoc first p.0 p.1),
  p.3 ∙ ap (λ known. append_known known p.0) e ∙ append_known-append old first p.0,
)

-- all of the bytes are a front of them
pub GainsPart-whole : (old new : Option (List ℕ)) (bytes : List ℕ) → new ≡ append_known old bytes → GainsPart old new bytes
GainsPart-whole old new bytes e = (bytes, [], sym (append-nil bytes), e)

-- a whole write behind bytes that went out before it
pub PassesOn-write : {T E : Type 0} (r : Result T E) (old mid new : Option (List ℕ)) (first bytes waiting : List ℕ)
    → waiting ≡ [] → mid ≡ append_known old first → OnOk r (new ≡ append_known mid bytes) → OnOk r (PassesOn old new (first ++ bytes) waiting)
PassesOn-write (Ok x) old mid new first bytes waiting none e p = (
  first ++ bytes,
  sym (ap (λ xs. (first ++ bytes) ++ xs) none ∙ append-nil (first ++ bytes)),
  p ∙ ap (λ known. append_known known bytes) e ∙ append_known-append old first bytes,
)
PassesOn-write (Err x) old mid new first bytes waiting none e p = tt

-- a write behind bytes that went out before it
pub GainsPart-write : {T E : Type 0} (r : Result T E) (old mid new : Option (List ℕ)) (first bytes : List ℕ)
    → mid ≡ append_known old first → OnErr r (GainsPart mid new bytes) → OnErr r (GainsPart old new (first ++ bytes))
GainsPart-write (Ok x) old mid new first bytes e p = tt
GainsPart-write (Err x) old mid new first bytes e p = GainsPart-after old mid new first bytes e p

-- what holds anyhow holds of a result that is an error
pub OnErr-always : {T E Q : Type 0} (r : Result T E) → Q → OnErr r Q
OnErr-always (Ok x) q = tt
OnErr-always (Err e) q = q
