-- What is still to come: which rest of a text completes what was read, and to what.
use Rattle.std.proofs.Common.{◌≡◌, ◌⊎◌, ◌++◌, ℕ, suc, Bool, true, false, List, [], ◌∷◌, Option, Some, codes}
use Rattle.std.specs.List.{list_all}
use Rattle.query_text.specs.Signs.{is_space, is_field_byte, is_quoted_byte, is_word_byte}
use Rattle.query_text.specs.Grammar.{SpellsBytes, SpellsSigns, SpellsBound, SpellsWanted, SpellsItem, SpellsMoreAnds, SpellsMoreOrs, closing, is_gap, is_open, is_closed, ends_closed}
use Rattle.query_text.specs.Query.{Ors, then_ands, Ands, Item, term, group, ands_with, ors_with}
use Rattle.query_text.specs.Machine.{pushed, ready, next_or, deeper}
use Rattle.query_text.specs.declared.term.Term.{Term}
use Rattle.query_text.specs.declared.term.Term.TheVariants.{Every, AtField}
use Rattle.query_text.specs.declared.term.Wanted.{Wanted}
use Rattle.query_text.specs.declared.term.Wanted.TheVariants.{Equal, Like, Between}
use Rattle.query_text.specs.declared.term.Sign.{Sign}
use Rattle.query_text.specs.declared.term.Sign.TheVariants.{Byte}
use Rattle.query_text.specs.declared.parts.Bound.{Bound}
use Rattle.query_text.specs.declared.parts.Bound.TheVariants as bound
use Rattle.query_text.specs.declared.parts.Part.{Part}
use Rattle.query_text.specs.declared.parts.Part.TheVariants as part
use Rattle.query_text.specs.Frames.{Frame}
use Rattle.query_text.specs.declared.frames.Mode.{Mode}
use Rattle.query_text.specs.declared.frames.Mode.TheVariants.{Due, Naming, Within, After, AndN, AndD, AndEnd, OrR, OrEnd}
use Rattle.query_text.specs.declared.frames.Config.{Config}

-- the rest of a bound: of a word, and of a quoted text
abbrev pub ToPlain : List ℕ → List ℕ → Option (List ℕ) → Type 0
ToPlain w text o = (u : List ℕ) × SpellsBytes is_word_byte u text × (o ≡ Some (w ++ u))

abbrev pub ToQuotedBound : List ℕ → List ℕ → Option (List ℕ) → Type 0
ToQuotedBound w text o = (u inner : List ℕ) × (text ≡ inner ++ 34 ∷ []) × SpellsBytes is_quoted_byte u inner × (o ≡ Some (w ++ u))

abbrev pub ToBound : Bound → List ℕ → Option (List ℕ) → Type 0
ToBound bound.Due text o = SpellsBound o text
ToBound (bound.Word w) text o = ToPlain w text o
ToBound (bound.WordEscape w) text o = (b : ℕ) × (rest : List ℕ) × (text ≡ b ∷ rest) × ToPlain (w ++ b ∷ []) rest o
ToBound (bound.Quoted w) text o = ToQuotedBound w text o
ToBound (bound.QuotedEscape w) text o = (b : ℕ) × (rest : List ℕ) × (text ≡ b ∷ rest) × ToQuotedBound (w ++ b ∷ []) rest o
ToBound (bound.Whole p) text o = (text ≡ []) × (o ≡ p)

-- the rest of a term
abbrev pub ToField : List ℕ → List ℕ → Term → Type 0
ToField f text t =
    (g : List ℕ) × (w : Wanted) × (front value : List ℕ)
    × (text ≡ front ++ 58 ∷ value) × SpellsBytes is_field_byte g front × SpellsWanted w value × (t ≡ AtField (f ++ g) w)

abbrev pub ToQuoted : List ℕ → List ℕ → List ℕ → Term → Type 0
ToQuoted f w text t = (u inner : List ℕ) × (text ≡ inner ++ 34 ∷ []) × SpellsBytes is_quoted_byte u inner × (t ≡ AtField f (Equal (w ++ u)))

abbrev pub ToWord : List ℕ → List Sign → List ℕ → Term → Type 0
ToWord f w text t = (u : List Sign) × SpellsSigns u text × (t ≡ AtField f (Like (w ++ u)))

abbrev pub between : List ℕ → Bool → Option (List ℕ) → Option (List ℕ) → Term
between f ends low high = AtField f (Between (record { with_ends = ends; low = low; high = high }))

abbrev pub ToTail : List ℕ → List ℕ → Bool → Option (List ℕ) → List ℕ → Term → Type 0
ToTail front f ends low text t =
    (high : Option (List ℕ)) × (back : List ℕ) × (text ≡ front ++ (back ++ closing ends ∷ [])) × SpellsBound high back × (t ≡ between f ends low high)

abbrev pub ToTerm : Part → List ℕ → Term → Type 0
ToTerm part.EveryColon text t = (text ≡ codes ":*") × (t ≡ Every)
ToTerm part.EveryStar text t = (text ≡ codes "*") × (t ≡ Every)
ToTerm (part.Field f) text t = ToField f text t
ToTerm (part.FieldEscape f) text t = (b : ℕ) × (rest : List ℕ) × (text ≡ b ∷ rest) × ToField (f ++ b ∷ []) rest t
ToTerm (part.ValueDue f) text t = (w : Wanted) × SpellsWanted w text × (t ≡ AtField f w)
ToTerm (part.Quoted f w) text t = ToQuoted f w text t
ToTerm (part.QuotedEscape f w) text t = (b : ℕ) × (rest : List ℕ) × (text ≡ b ∷ rest) × ToQuoted f (w ++ b ∷ []) rest t
ToTerm (part.Word f w) text t = ToWord f w text t
ToTerm (part.WordEscape f w) text t = (b : ℕ) × (rest : List ℕ) × (text ≡ b ∷ rest) × ToWord f (w ++ Byte b ∷ []) rest t
ToTerm (part.Low f ends here) text t =
    (low : Option (List ℕ)) × (front : List ℕ) × (high : Option (List ℕ)) × (back : List ℕ)
    × (text ≡ front ++ (codes " TO " ++ (back ++ closing ends ∷ []))) × ToBound here front low × SpellsBound high back × (t ≡ between f ends low high)
ToTerm (part.ToT f ends low) text t = ToTail (codes "TO ") f ends low text t
ToTerm (part.ToO f ends low) text t = ToTail (codes "O ") f ends low text t
ToTerm (part.ToEnd f ends low) text t = ToTail (codes " ") f ends low text t
ToTerm (part.High f ends low here) text t =
    (high : Option (List ℕ)) × (back : List ℕ) × (text ≡ back ++ closing ends ∷ []) × ToBound here back high × (t ≡ between f ends low high)
ToTerm (part.Whole u) text t = (text ≡ []) × (t ≡ u)

-- the rest behind an item: what AND joins, what OR joins, and then what stands around
abbrev pub AfterBy : (Ors → List ℕ → Ors → Type 0) → Bool → Frame → List ℕ → Ors → Type 0
AfterBy Rest closed f text q =
    (ys : Ands) × (zs : Ors) × (u v w : List ℕ)
    × (text ≡ u ++ (v ++ w))
    × SpellsMoreAnds ys f.room closed u
    × SpellsMoreOrs zs f.room (ends_closed closed ys) v
    × Rest (ors_with f.ors (then_ands (ands_with f.ands ys) zs)) w q

-- the rest behind the query of a group
abbrev pub Rest : List Frame → Ors → List ℕ → Ors → Type 0
Rest [] inner w q = (list_all is_space w ≡ true) × (q ≡ inner)
Rest (f ∷ below) inner w q =
    (gap u : List ℕ) × (w ≡ gap ++ 41 ∷ u) × (list_all is_space gap ≡ true) × AfterBy (Rest below) true (pushed (group inner) f) u q

-- the rest where an item is due, behind white space
abbrev pub ItemBy : (Bool → List ℕ → Bool) → ℕ → Frame → List Frame → List ℕ → Ors → Type 0
ItemBy fits room f below text q =
    (gap : List ℕ) × (x : Item) × (t u : List ℕ)
    × (text ≡ gap ++ (t ++ u))
    × (fits (is_open x) gap ≡ true)
    × SpellsItem x room t
    × AfterBy (Rest below) (is_closed x) (pushed x f) u q

-- white space, also none
abbrev pub spaces : Bool → List ℕ → Bool
spaces may_lack gap = list_all is_space gap

-- the rest where the bytes of a field are the first of NOT
abbrev pub NotBy : List ℕ → Frame → List Frame → List ℕ → Ors → Type 0
NotBy name f below text q =
    (more u : List ℕ) × (less : ℕ)
    × (name ++ more ≡ codes "NOT")
    × (text ≡ more ++ u)
    × (f.left ≡ suc less)
    × ItemBy is_gap less (deeper f) below u q

abbrev pub TermBy : Part → Frame → List Frame → List ℕ → Ors → Type 0
TermBy here f below text q =
    (t : Term) × (front u : List ℕ) × (text ≡ front ++ u) × ToTerm here front t × AfterBy (Rest below) false (pushed (term t) f) u q

-- the rest behind the first letters of an operator
abbrev pub BehindBy : List ℕ → Frame → List Frame → List ℕ → Ors → Type 0
BehindBy letters f below text q = (u : List ℕ) × (text ≡ letters ++ u) × ItemBy is_gap f.left f below u q

abbrev pub ComingAt : Mode → Frame → List Frame → List ℕ → Ors → Type 0
ComingAt Due f below text q = ItemBy spaces f.left f below text q
ComingAt (Naming name) f below text q = TermBy (part.Field name) f below text q ⊎ NotBy name f below text q
ComingAt (Within here) f below text q = TermBy here f below text q
ComingAt After f below text q = AfterBy (Rest below) true f text q
ComingAt AndN f below text q = BehindBy (codes "ND") (ready f) below text q
ComingAt AndD f below text q = BehindBy (codes "D") (ready f) below text q
ComingAt AndEnd f below text q = BehindBy [] (ready f) below text q
ComingAt OrR f below text q = BehindBy (codes "R") (next_or f) below text q
ComingAt OrEnd f below text q = BehindBy [] (next_or f) below text q

-- the text completes what was read to the query
abbrev pub Coming : Config → List ℕ → Ors → Type 0
Coming c text q = ComingAt c.mode c.frame c.below text q
