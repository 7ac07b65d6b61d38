-- What is laid of a list stands there, and nothing besides what stood there.
use Rattle.std.proofs.Common.{◌≡◌, ◌⊎◌, inl, inr, List, [], ◌∷◌, true, Option, Some, None, is_some, refl, sym, ap, subst, ◌∙◌}
use mathlib.Core.Bool.{true≢false}
use Rattle.std.proofs.lemmas.Option.{same_Some}
use Rattle.org_core.specs.States.{Organisation}
use Rattle.org_rows.specs.Places.{Place, IsPlace}
use Rattle.org_rows.specs.Things.{Content}
use Rattle.sandboxes.specs.Sandboxes.{Holding}
use Rattle.row_laying.proofs.StepLemmas.{KeepsOrHas, step, there}
use Rattle.row_reading.specs.declared.said.Said.{Said}
use Rattle.org_rows.specs.Contents.{content_in}
use Rattle.row_laying.specs.Laying.{with_said, files_with_said, with_all, files_with_all}
use Rattle.row_laying.specs.SaidRows.{IsAmong}
use Rattle.row_reading.specs.Sayings.{place_said, content_said}

-- one of these is said of this place, with this content
abbrev pub IsToldOf : List Said → Place → Content → Type 0
IsToldOf all q content = (said : Said) × IsAmong said all × (q ≡ place_said said) × (content ≡ content_said said)

later : (first : Said) (rest : List Said) (q : Place) (content : Content) → IsToldOf rest q content → IsToldOf (first ∷ rest) q content
later first rest q content told = (told.0, inr told.1, told.2, told.3)

-- what stands at a place after one was laid
sound_step : (said : Said) (q : Place) (before after : Option Content) (content : Content) → KeepsOrHas (place_said said) (content_said said) q before after → after ≡ Some content
    → (before ≡ Some content) ⊎ ((q ≡ place_said said) × (content ≡ content_said said))
sound_step said q before after content (inl stays) is = inl (sym stays ∙ is)
sound_step said q before after content (inr has) is = inr (has.0, same_Some content (content_said said) (sym is ∙ has.1))

-- what stands at a place after all were laid stood there, or was told of it
pub sound : (all : List Said) (o : Organisation) (files : Holding) (q : Place) (content : Content)
    → content_in (with_all all o) (files_with_all all files) q ≡ Some content → (content_in o files q ≡ Some content) ⊎ IsToldOf all q content
sound [] o files q content is = inl is
sound (first ∷ rest) o files q content is =
    sound_first first rest o files q content (sound rest (with_said first o) (files_with_said first files) q content is)
  where
    sound_first : (first : Said) (rest : List Said) (o : Organisation) (files : Holding) (q : Place) (content : Content)
        → (content_in (with_said first o) (files_with_said first files) q ≡ Some content) ⊎ IsToldOf rest q content → (content_in o files q ≡ Some content) ⊎ IsToldOf (first ∷ rest) q content
    sound_first first rest o files q content (inr told) = inr (later first rest q content told)
    sound_first first rest o files q content (inl is) =
        sound_here first rest o files q content (sound_step first q (content_in o files q) (content_in (with_said first o) (files_with_said first files) q) content (step first o files q) is)
      where
        sound_here : (first : Said) (rest : List Said) (o : Organisation) (files : Holding) (q : Place) (content : Content)
            → (content_in o files q ≡ Some content) ⊎ ((q ≡ place_said first) × (content ≡ content_said first)) → (content_in o files q ≡ Some content) ⊎ IsToldOf (first ∷ rest) q content
        sound_here first rest o files q content (inl was) = inl was
        sound_here first rest o files q content (inr has) = inr (first, inl refl, has.0, has.1)

-- what stood at a place isn't lost
kept : (said : Said) (q : Place) (before after : Option Content) → KeepsOrHas (place_said said) (content_said said) q before after → is_some before ≡ true → is_some after ≡ true
kept said q before after (inl stays) there = ap is_some stays ∙ there
kept said q before after (inr has) there = ap is_some has.1

pub stands : (all : List Said) (o : Organisation) (files : Holding) (q : Place) → is_some (content_in o files q) ≡ true → is_some (content_in (with_all all o) (files_with_all all files) q) ≡ true
stands [] o files q there = there
stands (first ∷ rest) o files q there = stands rest (with_said first o) (files_with_said first files) q (kept first q _ _ (step first o files q) there)

-- what is there is something
valued : (found : Option Content) → is_some found ≡ true → (content : Content) × (found ≡ Some content)
valued None is = absurd (true≢false (sym is))
valued (Some content) is = (content, refl)

-- what stood there, or is told of the rest
sound_from : (found : Option Content) (first content : Content) (Told : Type 0) → found ≡ Some first → (found ≡ Some content) ⊎ Told → (content ≡ first) ⊎ Told
sound_from found first content Told is (inl was) = inl (same_Some content first (sym was ∙ is))
sound_from found first content Told is (inr told) = inr told

-- is told of all
told_first : (first : Said) (rest : List Said) (q : Place) (content : Content) → q ≡ place_said first → (content ≡ content_said first) ⊎ IsToldOf rest q content → IsToldOf (first ∷ rest) q content
told_first first rest q content at (inl is) = (first, inl refl, at, is)
told_first first rest q content at (inr told) = later first rest q content told

-- each of these is there, as one of them tells
pub complete : (all : List Said) (o : Organisation) (files : Holding) (said : Said) → IsAmong said all → IsPlace (place_said said)
    → (content : Content) × (content_in (with_all all o) (files_with_all all files) (place_said said) ≡ Some content) × IsToldOf all (place_said said) content
complete [] o files said among named = absurd among
complete (first ∷ rest) o files said (inl is) named =
    let here : content_in (with_said first o) (files_with_said first files) (place_said said) ≡ Some (content_said first) =
    subst (λ (s : Said). content_in (with_said first o) (files_with_said first files) (place_said s) ≡ Some (content_said first)) (sym is)
    (there first o files (subst (λ (s : Said). IsPlace (place_said s)) is named)) in
    let content = valued (content_in (with_all rest (with_said first o)) (files_with_all rest (files_with_said first files)) (place_said said))
    (stands rest (with_said first o) (files_with_said first files) (place_said said) (ap is_some here)) in (
      content.0,
      content.1,
      told_first first rest (place_said said) content.0 (ap place_said is)
          (sound_from (content_in (with_said first o) (files_with_said first files) (place_said said)) (content_said first) content.0 (IsToldOf rest (place_said said) content.0) here
          (sound rest (with_said first o) (files_with_said first files) (place_said said) content.0 content.1)),
    )
complete (first ∷ rest) o files said (inr among) named =
    let rests = complete rest (with_said first o) (files_with_said first files) said among named in
    (rests.0, rests.1, later first rest (place_said said) rests.0 rests.2)
