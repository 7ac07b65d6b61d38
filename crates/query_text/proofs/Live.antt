-- Whatever was read, some text completes it: the machine stops as soon as nothing can.
use Rattle.std.proofs.Common.{◌++◌, ℕ, Bool, true, false, List, [], ◌∷◌, Option, Some, None, codes, refl, inl}
use Rattle.query_text.specs.Query.{Ors, no_ors, no_ands, term, group}
use Rattle.query_text.specs.Grammar.{closing, is_gap}
use Rattle.query_text.specs.Machine.{pushed, ready, next_or, whole}
use Rattle.query_text.specs.declared.term.Term.{Term}
use Rattle.query_text.specs.declared.term.Term.TheVariants.{Every, AtField}
use Rattle.query_text.specs.declared.term.Wanted.TheVariants.{Equal, Like}
use Rattle.query_text.specs.declared.term.Sign.TheVariants.{Any, Byte}
use Rattle.query_text.specs.declared.parts.Bound.{Bound}
use Rattle.query_text.specs.declared.parts.Bound.TheVariants as bound
use Rattle.query_text.specs.declared.parts.Part.{Part}
use Rattle.query_text.specs.declared.parts.Part.TheVariants as part
use Rattle.query_text.specs.Frames.{Frame}
use Rattle.query_text.specs.declared.frames.Mode.{Mode}
use Rattle.query_text.specs.declared.frames.Mode.TheVariants.{Due, Naming, Within, After, AndN, AndD, AndEnd, OrR, OrEnd}
use Rattle.query_text.proofs.Coming.{ToBound, ToTerm, AfterBy, Rest, ItemBy, BehindBy, TermBy, ComingAt, between}
use Rattle.query_text.proofs.Sound.{widened}

-- the open groups close
rest_live : (below : List Frame) (inner : Ors) → (w : List ℕ) × (q : Ors) × Rest below inner w q
rest_live [] inner = ([], inner, (refl, refl))
rest_live (f ∷ below) inner =
    let (w, q, rest) = rest_live below (whole (pushed (group inner) f)) in
    (41 ∷ w, q, ([], w, refl, refl, (no_ands, no_ors, [], [], w, refl, refl, refl, rest)))

after_live : (closed : Bool) (f : Frame) (below : List Frame) → (s : List ℕ) × (q : Ors) × AfterBy (Rest below) closed f s q
after_live closed f below = let (w, q, rest) = rest_live below (whole f) in (w, q, (no_ands, no_ors, [], [], w, refl, refl, refl, rest))

item_live : (room : ℕ) (f : Frame) (below : List Frame) → (s : List ℕ) × (q : Ors) × ItemBy is_gap room f below s q
item_live room f below =
    let (w, q, after) = after_live false (pushed (term Every) f) below in
    (32 ∷ (codes "*:*" ++ w), q, (32 ∷ [], term Every, codes "*:*", w, refl, refl, refl, after))

behind_live : (letters : List ℕ) (f : Frame) (below : List Frame) → (s : List ℕ) × (q : Ors) × BehindBy letters f below s q
behind_live letters f below = let (w, q, item) = item_live f.left f below in (letters ++ w, q, (w, refl, item))

bound_live : (x : Bound) → (s : List ℕ) × (o : Option (List ℕ)) × ToBound x s o
bound_live bound.Due = (codes "*", None, refl)
bound_live (bound.Word w) = ([], Some (w ++ []), ([], refl, refl))
bound_live (bound.WordEscape w) = (97 ∷ [], Some ((w ++ 97 ∷ []) ++ []), (97, [], refl, ([], refl, refl)))
bound_live (bound.Quoted w) = (34 ∷ [], Some (w ++ []), ([], [], refl, refl, refl))
bound_live (bound.QuotedEscape w) = (97 ∷ 34 ∷ [], Some ((w ++ 97 ∷ []) ++ []), (97, 34 ∷ [], refl, ([], [], refl, refl, refl)))
bound_live (bound.Whole p) = ([], p, (refl, refl))

term_live : (x : Part) → (s : List ℕ) × (t : Term) × ToTerm x s t
term_live part.EveryColon = (codes ":*", Every, (refl, refl))
term_live part.EveryStar = (codes "*", Every, (refl, refl))
term_live (part.Field f) = (58 ∷ 42 ∷ [], AtField (f ++ []) (Like (Any ∷ [])), ([], Like (Any ∷ []), [], 42 ∷ [], refl, refl, ([], refl, refl), refl))
term_live (part.FieldEscape f) = (
  97 ∷ 58 ∷ 42 ∷ [],
  AtField ((f ++ 97 ∷ []) ++ []) (Like (Any ∷ [])),
  (97, 58 ∷ 42 ∷ [], refl, ([], Like (Any ∷ []), [], 42 ∷ [], refl, refl, ([], refl, refl), refl)),
)
term_live (part.ValueDue f) = (42 ∷ [], AtField f (Like (Any ∷ [])), (Like (Any ∷ []), ([], refl, refl), refl))
term_live (part.Quoted f w) = (34 ∷ [], AtField f (Equal (w ++ [])), ([], [], refl, refl, refl))
term_live (part.QuotedEscape f w) = (97 ∷ 34 ∷ [], AtField f (Equal ((w ++ 97 ∷ []) ++ [])), (97, 34 ∷ [], refl, ([], [], refl, refl, refl)))
term_live (part.Word f w) = ([], AtField f (Like (w ++ [])), ([], refl, refl))
term_live (part.WordEscape f w) = (97 ∷ [], AtField f (Like ((w ++ Byte 97 ∷ []) ++ [])), (97, [], refl, ([], refl, refl)))
term_live (part.Low f ends x) =
    let (front, low, to) = bound_live x in
    (front ++ (codes " TO " ++ (codes "*" ++ closing ends ∷ [])), between f ends low None, (low, front, None, codes "*", refl, to, refl, refl))
term_live (part.ToT f ends low) = (codes "TO " ++ (codes "*" ++ closing ends ∷ []), between f ends low None, (None, codes "*", refl, refl, refl))
term_live (part.ToO f ends low) = (codes "O " ++ (codes "*" ++ closing ends ∷ []), between f ends low None, (None, codes "*", refl, refl, refl))
term_live (part.ToEnd f ends low) = (codes " " ++ (codes "*" ++ closing ends ∷ []), between f ends low None, (None, codes "*", refl, refl, refl))
term_live (part.High f ends low x) =
    let (back, high, to) = bound_live x in (back ++ closing ends ∷ [], between f ends low high, (high, back, refl, to, refl))
term_live (part.Whole u) = ([], u, (refl, refl))

within_live : (x : Part) (f : Frame) (below : List Frame) → (s : List ℕ) × (q : Ors) × TermBy x f below s q
within_live x f below =
    let (front, t, to) = term_live x in
    let (w, q, after) = after_live false (pushed (term t) f) below in
    (front ++ w, q, (t, front, w, refl, to, after))

pub live : (mode : Mode) (f : Frame) (below : List Frame) → (s : List ℕ) × (q : Ors) × ComingAt mode f below s q
live Due f below = let (s, q, item) = item_live f.left f below in (s, q, widened f.left f below s q item)
live (Naming name) f below = let (s, q, field) = within_live (part.Field name) f below in (s, q, inl field)
live (Within x) f below = within_live x f below
live After f below = after_live true f below
live AndN f below = behind_live (codes "ND") (ready f) below
live AndD f below = behind_live (codes "D") (ready f) below
live AndEnd f below = behind_live [] (ready f) below
live OrR f below = behind_live (codes "R") (next_or f) below
live OrEnd f below = behind_live [] (next_or f) below
