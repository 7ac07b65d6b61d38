-- One more of those that are made, one by one.
use Rattle.std.proofs.Common.{◌≡◌, ◌<◌, ◌+◌, ℕ, List, [], ◌∷◌, ◌++◌, map, length, drop, get_or, Option, Some, None, option_map, option_and_then, Result, Ok, Err, refl, sym, ap, ◌∙◌, append_assoc}
use Rattle.std.proofs.lemmas.List.{drop_more}
use Rattle.resource_core.specs.Drafts as drafting
use Rattle.resource_core.specs.Links.{Links, each_entry, link, links}
use Rattle.resource_core.specs.Outcomes.{each_of, or_fault, then_do}
use Rattle.doc_tree.specs.Doc.{Pairs}
use Rattle.resource_core.specs.declared.entries.Entry.{Entry}
use Rattle.resource_core.specs.declared.fault.CompileFault.{CompileFault}
use Rattle.resource_core.specs.declared.fault.CompileFault.TheVariants.{NoSuchResource}
use Rattle.resource_core.specs.declared.resources.Resource.{Resource}

-- ---- what is made of each, if something is

gone_on : {Y : Type 0} (made : List Y) (y : Y) (left : Option (List Y)) → option_map (λ later. made ++ later) (option_map (λ later. y ∷ later) left) ≡ option_map (λ later. (made ++ y ∷ []) ++ later) left
gone_on made y None = refl
gone_on made y (Some later) = ap Some (sym (append_assoc made (y ∷ []) later))

-- after one more, what is made is what was made with its own, and then that of those that are left
pub made_more : {C X Y : Type 0} (make : X → Option Y) (view : C → X) (all : Option (List Y)) (cs : List C) (i : ℕ) (c : C) (made after : List Y) (y : Y) → i < length cs → c ≡ get_or cs i c → make (view c) ≡ Some y
    → after ≡ made ++ y ∷ [] → all ≡ option_map (λ later. made ++ later) (each_of make (map view (drop i cs))) → all ≡ option_map (λ later. after ++ later) (each_of make (map view (drop (i + 1) cs)))
made_more make view all cs i c made after y within is makes pushed so_far =
    let rest = each_of make (map view (drop (i + 1) cs)) in
    let here : each_of make (map view (drop i cs)) ≡ option_map (λ later. y ∷ later) rest =
    ap (λ ds. each_of make (map view ds)) (drop_more cs i c within)
    ∙ ap (λ d. option_and_then (λ first. option_map (λ later. first ∷ later) rest) (make (view d))) (sym is)
    ∙ ap (option_and_then (λ first. option_map (λ later. first ∷ later) rest)) makes in
    so_far ∙ ap (option_map (λ later. made ++ later)) here ∙ gone_on made y rest ∙ ap (λ ys. option_map (λ later. ys ++ later) rest) (sym pushed)

-- ---- entries

behind_made : {B : Type 0} (made : List B) (x : B) (left : Result (List B) CompileFault)
    → then_do (then_do left (λ xs. Ok (x ∷ xs))) (λ more. Ok (made ++ more)) ≡ then_do left (λ more. Ok ((made ++ x ∷ []) ++ more))
behind_made made x (Ok more) = ap Ok (sym (append_assoc made (x ∷ []) more))
behind_made made x (Err fault) = refl

-- after one entry more, what is made is what was made with its own, and then that of the entries that are left
pub entries_more : {B : Type 0} (make : Entry → Option B) (place : ℕ) (all : Result (List B) CompileFault) (es : List Entry) (i : ℕ) (e : Entry) (made after : List B) (x : B)
    → i < length es → e ≡ get_or es i e → make e ≡ Some x → after ≡ made ++ x ∷ []
    → all ≡ then_do (each_entry make place (drop i es)) (λ more. Ok (made ++ more)) → all ≡ then_do (each_entry make place (drop (i + 1) es)) (λ more. Ok (after ++ more))
entries_more make place all es i e made after x within is makes pushed so_far =
    let rest = each_entry make place (drop (i + 1) es) in
    let first : each_entry make place (drop i es) ≡ then_do rest (λ xs. Ok (x ∷ xs)) =
    ap (each_entry make place) (drop_more es i e within)
    ∙ ap (λ (d : Entry). then_do (or_fault (NoSuchResource place d.resource) (make d)) (λ y. then_do rest (λ ys. Ok (y ∷ ys)))) (sym is)
    ∙ ap (λ o. then_do (or_fault (NoSuchResource place e.resource) o) (λ y. then_do rest (λ ys. Ok (y ∷ ys)))) makes in
    so_far ∙ ap (λ o. then_do o (λ more. Ok (made ++ more))) first ∙ behind_made made x rest ∙ ap (λ ys. then_do rest (λ more. Ok (ys ++ more))) (sym pushed)

-- ---- resources

-- after the links of one resource more, those of the resources that are left follow
pub links_more : (all rs : List Resource) (i : ℕ) (r : Resource) (start before after : Links) → i < length rs → r ≡ get_or rs i r → link all r before ≡ Ok after
    → links all rs start ≡ links all (drop i rs) before → links all rs start ≡ links all (drop (i + 1) rs) after
links_more all rs i r start before after within is made so_far =
    so_far ∙ ap (λ (left : List Resource). links all left before) (drop_more rs i r within)
    ∙ ap (λ (x : Resource). then_do (link all x before) (links all (drop (i + 1) rs))) (sym is)
    ∙ ap (λ o. then_do o (links all (drop (i + 1) rs))) made

-- after one resource more, those that are left follow
pub drafts_more : {C : Type 0} (given : drafting.Given) (view : C → Pairs) (cs : List C) (i : ℕ) (c : C) (before after : List Resource) (r : Resource) → i < length cs → c ≡ get_or cs i c
    → drafting.draft given before (view c) ≡ Ok r → after ≡ before ++ r ∷ []
    → drafting.drafts given (map view cs) [] ≡ drafting.drafts given (map view (drop i cs)) before → drafting.drafts given (map view cs) [] ≡ drafting.drafts given (map view (drop (i + 1) cs)) after
drafts_more given view cs i c before after r within is made pushed so_far =
    let left = map view (drop (i + 1) cs) in
    so_far ∙ ap (λ ds. drafting.drafts given (map view ds) before) (drop_more cs i c within)
    ∙ ap (λ d. then_do (drafting.draft given before (view d)) (λ x. drafting.drafts given left (before ++ x ∷ []))) (sym is)
    ∙ ap (λ o. then_do o (λ x. drafting.drafts given left (before ++ x ∷ []))) made
    ∙ ap (drafting.drafts given left) (sym pushed)
