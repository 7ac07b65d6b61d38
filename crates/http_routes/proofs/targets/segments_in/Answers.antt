use Rattle.std.proofs.Common.{◌≡◌, ℕ, ◌==◌, ◌∷◌, ◌++◌, [], length, drop, ap, sym, ◌∙◌, arith, rules, Some, None}
use Rattle.std.specs.List.{slice_split}
use Rattle.std.proofs.lemmas.Bool.Decides.{nat_tests}
use Rattle.std.proofs.lemmas.List.{length_push}
use Rattle.std.proofs.lemmas.Result.{IfOk-at_ok}
use Rattle.std.proofs.lemmas.Iterator.Consumers.{YieldsList-turn, YieldsList-end}
use Rattle.std.proofs.lemmas.Iterator.Splits.{YieldsList-from_slice_split}
use Rattle.http_routes.specs.Targets.{segment_in}
use Rattle.http_routes.proofs.SegmentLemmas.{made_with, one_more, no_more, all_made}
use Rattle.http_routes.proofs.targets.segments_in.Goals as goal

-- the piece is the next of all pieces, and its segment is pushed
pub loop-piece-preserved : goal.loop-piece-preserved
loop-piece-preserved c =
    let pieces = slice_split (λ (b : ℕ). b == 47) c.args.pieces.now in
    let turn = YieldsList-turn (YieldsList-from_slice_split _ (λ (b : ℕ). b == 47) c.args.pieces.now (cc) (cc) (cc) (λ x b q h. search (rules, nat_tests))) c.loop-piece.yielded _ c.loop-piece.yielded_by _ _ c.in-Some.piece c.in-Some.is c.next.ensures.steps in
    let spelt : segment_in c.in-Some.piece.now ≡ Some c.in-Some-2.segment = sym (IfOk-at_ok (λ segment. segment ≡ segment_in c.in-Some.piece.now) c.in_ok-segment.was c.segment_of.ensures) ∙ c.in-Some-2.is in
    let pushed : c.push.new.self ≡ c.loop-piece.segments ++ c.in-Some-2.segment ∷ [] = IfOk-at_ok (λ _. c.push.new.self ≡ c.loop-piece.segments ++ c.in-Some-2.segment ∷ []) c.in_ok-push-in-Some-2.was c.push.ensures.ok in
    ap (λ made. made_with made (drop (length (c.loop-piece.yielded ++ c.in-Some.piece ∷ [])) pieces)) pushed
    ∙ ap (λ n. made_with (c.loop-piece.segments ++ c.in-Some-2.segment ∷ []) (drop n pieces)) (length_push c.loop-piece.yielded c.in-Some.piece)
    ∙ one_more pieces (length c.loop-piece.yielded) c.in-Some.piece.now c.in-Some-2.segment c.loop-piece.segments turn spelt c.loop-piece.invariant

-- the piece is the next of all pieces, and it spells no segment
pub returns-in-None-2 : goal.returns-in-None-2
returns-in-None-2 c =
    let pieces = slice_split (λ (b : ℕ). b == 47) c.args.pieces.now in
    let turn = YieldsList-turn (YieldsList-from_slice_split _ (λ (b : ℕ). b == 47) c.args.pieces.now (cc) (cc) (cc) (λ x b q h. search (rules, nat_tests))) c.loop-piece.yielded _ c.loop-piece.yielded_by _ _ c.in-Some.piece c.in-Some.is c.next.ensures.steps in
    let spelt : segment_in c.in-Some.piece.now ≡ None = sym (IfOk-at_ok (λ segment. segment ≡ segment_in c.in-Some.piece.now) c.in_ok-segment.was c.segment_of.ensures) ∙ c.in-None-2.is in
    no_more pieces (length c.loop-piece.yielded) c.in-Some.piece.now c.loop-piece.segments turn spelt c.loop-piece.invariant

-- the pieces that were yielded are all pieces
pub returns : goal.returns
returns c =
    let pieces = slice_split (λ (b : ℕ). b == 47) c.args.pieces.now in
    let end = YieldsList-end (YieldsList-from_slice_split _ (λ (b : ℕ). b == 47) c.args.pieces.now (cc) (cc) (cc) (λ x b q h. search (rules, nat_tests))) c.loop-piece.yielded _ c.loop-piece.yielded_by _ _ c.in-None.is c.next.ensures.steps in
    all_made pieces (length c.loop-piece.yielded) c.loop-piece.segments (omega (arith, end.1)) c.loop-piece.invariant
