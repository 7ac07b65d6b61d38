-- How a mark comes to the block that it goes into.
use Rattle.std.proofs.Common.{◌≡◌, ◌∷◌, ◌++◌, [], ℕ, List, Bool, true, false, Option, Some, None, option_and_then, refl, ap, sym, ◌∙◌}
use Rattle.std.specs.Bool.{then_some}
use Rattle.doc_tree.specs.Doc.{words}
use Rattle.yaml_subset.specs.Machine.{closes, land, place, run, step, wants}
use Rattle.yaml_subset.specs.Layout.{is_lone, mark_of, rest_marks}
use Rattle.yaml_subset.specs.Reader.{enters, said_step}
use Rattle.yaml_subset.specs.declared.said.Said.{Said}
use Rattle.yaml_subset.specs.declared.blocks.Blocks.{Blocks}
use Rattle.yaml_subset.specs.declared.blocks.Blocks.TheVariants.{Start, Alone, Within}
use Rattle.yaml_subset.specs.declared.blocks.Frame.{Frame}
use Rattle.yaml_subset.specs.declared.mark.Mark.{Mark}

pub land_stops : (m : Mark) (due : Bool) (f : Frame) (below : List Frame) → closes m f ≡ false → land m due f below ≡ place m due f below
land_stops m due f [] stays = rw stays refl
land_stops m due f (g ∷ below) stays = rw stays refl

pub land_ends : (m : Mark) (due : Bool) (f : Frame) (below : List Frame) → closes m f ≡ true → below ≡ [] → land m due f below ≡ None
land_ends m due f [] leaves none = rw leaves refl
land_ends m due f (g ∷ below) leaves none = cc

-- ---- what a step that says whether it goes on comes to

pub goes : {T : Type 0} (b : Bool) (x : T) (o : Option T) → then_some b x ≡ o → b ≡ true → o ≡ Some x
goes true x o is holds = sym is
goes false x o is holds = cc

pub stops : {T : Type 0} (b : Bool) (x : T) (o : Option T) → then_some b x ≡ o → b ≡ false → o ≡ None
stops true x o is no_ = cc
stops false x o is no_ = sym is

-- ---- marks, one by one

pub run_none : (ms : List Mark) → run None ms ≡ None
run_none [] = refl
run_none (m ∷ ms) = run_none ms

pub run_append : (o : Option Blocks) (xs ys : List Mark) → run o (xs ++ ys) ≡ run (run o xs) ys
run_append o [] ys = refl
run_append o (x ∷ xs) ys = run_append (option_and_then (step x) o) xs ys

pub run_stops : (s : Blocks) (m : Mark) (ms rest : List Mark) → ms ≡ m ∷ rest → step m s ≡ None → run (Some s) ms ≡ None
run_stops s m ms rest is stops = ap (λ (l : List Mark). run (Some s) l) is ∙ ap (λ (o : Option Blocks). run o rest) stops ∙ run_none rest

pub said_goes : (d : Said) (s t : Blocks) (lone : Bool) → lone ≡ is_lone d.heads → run (Some s) d.heads ≡ Some t
    → option_and_then (enters lone d.above d.rest) (run (Some t) (rest_marks lone d.rest)) ≡ said_step (Some d) s
said_goes d s t lone alone goes =
    ap (λ (b : Bool). option_and_then (enters b d.above d.rest) (run (Some t) (rest_marks b d.rest))) alone
    ∙ ap (λ (o : Option Blocks). option_and_then (enters (is_lone d.heads) d.above d.rest) (run o (rest_marks (is_lone d.heads) d.rest))) (sym goes)
    ∙ ap (λ (o : Option Blocks). option_and_then (enters (is_lone d.heads) d.above d.rest) o) (sym (run_append (Some s) d.heads (rest_marks (is_lone d.heads) d.rest)))

pub said_stops : (d : Said) (s : Blocks) → run (Some s) d.heads ≡ None → said_step (Some d) s ≡ None
said_stops d s stops =
    ap (λ (o : Option Blocks). option_and_then (enters (is_lone d.heads) d.above d.rest) o)
    (run_append (Some s) d.heads (rest_marks (is_lone d.heads) d.rest) ∙ ap (λ (o : Option Blocks). run o (rest_marks (is_lone d.heads) d.rest)) stops ∙ run_none (rest_marks (is_lone d.heads) d.rest))

-- no text goes on with a literal where no value is due
pub step_unwanted : (lone : Bool) (t : List ℕ) (s : Blocks) → wants lone s ≡ false → step (mark_of lone (words t)) s ≡ None
step_unwanted true t Start no_ = cc
step_unwanted true t (Alone d) no_ = refl
step_unwanted true t (Within i) no_ = land_stops (mark_of true (words t)) i.due i.frame i.below refl
step_unwanted false t Start no_ = refl
step_unwanted false t (Alone d) no_ = refl
step_unwanted false t (Within i) no_ = land_stops (mark_of false (words t)) i.due i.frame i.below refl ∙ rw no_ refl
