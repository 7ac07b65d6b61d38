-- How a term is read byte by byte: what was read of it, and what one byte more makes of that.
use Rattle.std.specs.Prelude.{ℕ, Bool, true, false, ◌==◌, if◌then◌else◌, List, [], ◌∷◌, ◌++◌, Option, Some, None, option_map}
use Rattle.query_text.specs.Signs.{is_field_byte, is_word_byte}
use Rattle.query_text.specs.Grammar.{closing}
use Rattle.query_text.specs.declared.term.Term.{Term}
use Rattle.query_text.specs.declared.term.Term.TheVariants as terms
use Rattle.query_text.specs.declared.term.Wanted.TheVariants as wanted
use Rattle.query_text.specs.declared.term.Sign.{Sign}
use Rattle.query_text.specs.declared.term.Sign.TheVariants as sign
use Rattle.query_text.specs.declared.parts.Bound.{Bound}
use Rattle.query_text.specs.declared.parts.Bound.TheVariants as bound
use Rattle.query_text.specs.declared.parts.Part.{Part}
use Rattle.query_text.specs.declared.parts.Part.TheVariants as part

-- one byte more of a bound that is a word
abbrev pub plain_step : List ℕ → ℕ → Option Bound
plain_step w b = if b == 92 then Some (bound.WordEscape w) else (if is_word_byte b then Some (bound.Word (w ++ b ∷ [])) else None)

-- one byte more of a bound
abbrev pub bound_step : Bound → ℕ → Option Bound
bound_step bound.Due b = if b == 42 then Some (bound.Whole None) else (if b == 34 then Some (bound.Quoted []) else plain_step [] b)
bound_step (bound.Word w) b = plain_step w b
bound_step (bound.WordEscape w) b = Some (bound.Word (w ++ b ∷ []))
bound_step (bound.Quoted w) b =
    if b == 34 then Some (bound.Whole (Some w)) else (if b == 92 then Some (bound.QuotedEscape w) else Some (bound.Quoted (w ++ b ∷ [])))
bound_step (bound.QuotedEscape w) b = Some (bound.Quoted (w ++ b ∷ []))
bound_step (bound.Whole o) b = None

-- the bound, where it may end here
abbrev pub bound_end : Bound → Option (Option (List ℕ))
bound_end bound.Due = None
bound_end (bound.Word w) = Some (Some w)
bound_end (bound.WordEscape w) = None
bound_end (bound.Quoted w) = None
bound_end (bound.QuotedEscape w) = None
bound_end (bound.Whole o) = Some o

-- one byte more of a word
abbrev pub word_step : List ℕ → List Sign → ℕ → Option Part
word_step f w b =
    if b == 92 then Some (part.WordEscape f w)
    else (if b == 42 then Some (part.Word f (w ++ sign.Any ∷ []))
    else (if b == 63 then Some (part.Word f (w ++ sign.One ∷ []))
    else (if is_word_byte b then Some (part.Word f (w ++ sign.Byte b ∷ [])) else None)))

-- one byte more of a value of which nothing was read
abbrev pub value_step : List ℕ → ℕ → Option Part
value_step f b =
    if b == 34 then Some (part.Quoted f [])
    else (if b == 91 then Some (part.Low f true bound.Due)
    else (if b == 123 then Some (part.Low f false bound.Due)
    else word_step f [] b))

-- one byte more of a lower bound, which a space may end
abbrev pub low_more : List ℕ → Bool → Bound → ℕ → Option Part
low_more f ends here b = option_map (λ next. part.Low f ends next) (bound_step here b)

abbrev pub low_end : List ℕ → Bool → Bound → ℕ → Option (Option (List ℕ)) → Option Part
low_end f ends here b (Some low) = Some (part.ToT f ends low)
low_end f ends here b None = low_more f ends here b

-- one byte more of an upper bound, which the bracket may end
abbrev pub high_more : List ℕ → Bool → Option (List ℕ) → Bound → ℕ → Option Part
high_more f ends low here b = option_map (λ next. part.High f ends low next) (bound_step here b)

abbrev pub high_end : List ℕ → Bool → Option (List ℕ) → Bound → ℕ → Option (Option (List ℕ)) → Option Part
high_end f ends low here b (Some high) =
    Some (part.Whole (terms.AtField f (wanted.Between (record { with_ends = ends; low = low; high = high }))))
high_end f ends low here b None = high_more f ends low here b

-- one byte more of a term
abbrev pub part_step : Part → ℕ → Option Part
part_step part.EveryColon b = if b == 58 then Some part.EveryStar else None
part_step part.EveryStar b = if b == 42 then Some (part.Whole terms.Every) else None
part_step (part.Field f) b =
    if b == 58 then Some (part.ValueDue f)
    else (if b == 92 then Some (part.FieldEscape f)
    else (if is_field_byte b then Some (part.Field (f ++ b ∷ [])) else None))
part_step (part.FieldEscape f) b = Some (part.Field (f ++ b ∷ []))
part_step (part.ValueDue f) b = value_step f b
part_step (part.Quoted f w) b =
    if b == 34 then Some (part.Whole (terms.AtField f (wanted.Equal w)))
    else (if b == 92 then Some (part.QuotedEscape f w) else Some (part.Quoted f (w ++ b ∷ [])))
part_step (part.QuotedEscape f w) b = Some (part.Quoted f (w ++ b ∷ []))
part_step (part.Word f w) b = word_step f w b
part_step (part.WordEscape f w) b = Some (part.Word f (w ++ sign.Byte b ∷ []))
part_step (part.Low f ends here) b = if b == 32 then low_end f ends here b (bound_end here) else low_more f ends here b
part_step (part.ToT f ends low) b = if b == 84 then Some (part.ToO f ends low) else None
part_step (part.ToO f ends low) b = if b == 79 then Some (part.ToEnd f ends low) else None
part_step (part.ToEnd f ends low) b = if b == 32 then Some (part.High f ends low bound.Due) else None
part_step (part.High f ends low here) b =
    if b == closing ends then high_end f ends low here b (bound_end here) else high_more f ends low here b
part_step (part.Whole t) b = None

-- the term, where it may end here
abbrev pub ended : Part → Option Term
ended part.EveryColon = None
ended part.EveryStar = None
ended (part.Field f) = None
ended (part.FieldEscape f) = None
ended (part.ValueDue f) = None
ended (part.Quoted f w) = None
ended (part.QuotedEscape f w) = None
ended (part.Word f w) = Some (terms.AtField f (wanted.Like w))
ended (part.WordEscape f w) = None
ended (part.Low f ends here) = None
ended (part.ToT f ends low) = None
ended (part.ToO f ends low) = None
ended (part.ToEnd f ends low) = None
ended (part.High f ends low here) = None
ended (part.Whole t) = Some t
