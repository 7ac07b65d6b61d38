-- One byte more stands for a byte or a character, or is passed over.
use Rattle.std.proofs.Common.{◌≡◌, ◌∷◌, [], refl, arith}
use Rattle.yaml_subset.proofs.QuotedLemmas.{quoted_more}
use Rattle.yaml_subset.proofs.quoted.quoted.Goals as goal

pub loop-byte-preserved-in-Continue-1 : goal.loop-byte-preserved-in-Continue-1
loop-byte-preserved-in-Continue-1 c =
    let none : c.loop-byte.skip ≡ 0 = omega arith in (
      quoted_more _ _ _ _ _ 0 _ _ _ (c.in-Plain.plain ∷ []) _ _ _ c.loop-byte.invariant.0 none c.in-Some.ensures.cases.0 c.in-Plain.ensures (λ r. refl) c.in_ok-push-in-Plain.ensures.items none,
      omega (arith, c.in-Some.ensures.cases.1),
    )

pub loop-byte-preserved-in-Escaped : goal.loop-byte-preserved-in-Escaped
loop-byte-preserved-in-Escaped c =
    let none : c.loop-byte.skip ≡ 0 = omega arith in (
      quoted_more _ _ _ _ _ 1 _ _ _ (c.in-Escaped.meant ∷ []) _ _ _ c.loop-byte.invariant.0 none c.in-Some.ensures.cases.0 c.in-Escaped.ensures (λ r. refl) c.in_ok-push-in-Escaped.ensures.items refl,
      omega (arith, c.in-Some.ensures.cases.1),
    )

pub loop-byte-preserved : goal.loop-byte-preserved
loop-byte-preserved c =
    let none : c.loop-byte.skip ≡ 0 = omega arith in (
      quoted_more _ _ _ _ _ 5 _ _ _ _ _ _ _ c.loop-byte.invariant.0 none c.in-Some.ensures.cases.0 c.in-Unicode.ensures (λ r. refl) c.in_ok-push_character-in-Unicode.ensures refl,
      omega (arith, c.in-Some.ensures.cases.1),
    )
