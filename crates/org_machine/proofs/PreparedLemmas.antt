-- A request that was prepared as the step says, or refused for want of memory, is answered as its mark says.
use Rattle.std.proofs.Common.{◌≡◌, ◌+◌, ◌⊎◌, ℕ, List, [], Result, Ok, Err, inl, inr, refl, sym, ap, subst, ◌∙◌, arith}
use Rattle.org_core.specs.declared.rules.Prepared.{Prepared}
use Rattle.org_core.specs.declared.moves.Move.{Move}
use Rattle.org_requests.specs.declared.refusals.Refusal.{Refusal}
use Rattle.org_requests.specs.declared.refusals.Refusal.TheVariants.{TooLarge}
use Rattle.org_requests.specs.declared.requests.Request.{Request}
use Rattle.org_core.specs.FileMoves.{after_all}
use Rattle.org_core.specs.Rooms.{HasRoom}
use Rattle.org_core.specs.Outcomes.{Success, shows, makes, gives, Done, Decided, IsAsDecided, all_looks, reply_of, outcome_of, LooksAtMost}
use Rattle.org_requests.specs.Refusals.{reply_to, out_of_memory}
use Rattle.membership.specs.Rooms as groups
use Rattle.object_store.specs.Objects.{Store}
use Rattle.org_core.specs.FullStates.{FullState}
use Rattle.org_core.specs.States.{Kept}
use Rattle.org_shelves.specs.Shelved as shelves
use Rattle.org_machine.specs.Marks.{mark_of, served, short, own_name, answer, after, IsLawful}
use Rattle.org_machine.specs.Serving.{IsGood, ComesWith, Does, Looks}
use Rattle.org_machine.specs.declared.serving.Ready.{Ready}
use Rattle.org_machine.specs.Steps.{decided, step, looks}

-- what is told of an operation is served
told_is_served : (told : Success) → mark_of (reply_of told) ≡ served
told_is_served (shows doc) = refl
told_is_served (makes doc) = refl
told_is_served (gives bytes) = refl

-- and so is the reply to a refusal
refusal_is_served : (refusal : Refusal) → mark_of (reply_to refusal) ≡ served
refusal_is_served TooLarge = refl
refusal_is_served _ = refl

outcome_is_served : (answer : Result Done Refusal) → mark_of (outcome_of answer).reply ≡ served
outcome_is_served (Ok done) = told_is_served done.told
outcome_is_served (Err refusal) = refusal_is_served refusal

-- no step is answered 500 or 503
pub step_is_served : (request : Request) (state : FullState) → mark_of (step request state).reply ≡ served
step_is_served request state = outcome_is_served (decided request state).answer

-- what is told of an operation is 200 or 201
told_is_good : (told : Success) → IsGood (reply_of told).status
told_is_good (shows doc) = inl refl
told_is_good (makes doc) = inr refl
told_is_good (gives bytes) = inl refl

comes_with : (answer : Result Done Refusal) → ComesWith (outcome_of answer).reply.status (outcome_of answer).moves
comes_with (Ok done) = inr (told_is_good done.told)
comes_with (Err refusal) = inl refl

unless_good : (status : ℕ) (moves : List Move) → ComesWith status moves → (IsGood status → ⊥) → moves ≡ []
unless_good status moves (inl none) bad = none
unless_good status moves (inr good) bad = absurd (bad good)

-- a step that isn't answered 200 or 201 makes no move
pub no_moves : (request : Request) (state : FullState) → (IsGood (step request state).reply.status → ⊥) → (step request state).moves ≡ []
no_moves request state bad = unless_good _ _ (comes_with (decided request state).answer) bad

-- what holds of a prepared request
pub record IsPrepared (finder_looks : ℕ → ℕ) (prepared : Ready) (request : Request) (state : FullState) (kept : Kept) (spare before now : ℕ) : Type 0 where
  pub reply : prepared.reply ≡ answer (mark_of prepared.reply) request state
  pub lawful : IsLawful (mark_of prepared.reply) request state
  pub moves : after_all (own_name request) prepared.moves state ≡ after (mark_of prepared.reply) request state
  pub made : ComesWith prepared.reply.status prepared.moves
  pub room : HasRoom prepared.moves kept.objects kept.groups kept.shelves spare
  pub looks : Looks finder_looks prepared.reply request state before now

-- it took just the looks of the step, and so at most these
exactly : (before now count : ℕ) → now ≡ before + count → LooksAtMost count before now
exactly before now count is = (omega (arith, is), omega (arith, is))

no_room_needed : (moves : List Move) (store : Store) (members : groups.Kept) (on : shelves.Kept) (spare : ℕ) → moves ≡ [] → HasRoom moves store members on spare
no_room_needed moves store members on spare none =
    subst (λ ms. HasRoom ms store members on spare) (sym none) (record { room = omega arith; orderly = refl; joining = tt; shelved = omega arith; files = omega arith })

short≢served : short ≡ served → ⊥
short≢served same = cc

pub is_prepared : (finder_looks : ℕ → ℕ) (prepared : Ready) (request : Request) (state : FullState) (kept : Kept) (spare before now : ℕ)
    → Does finder_looks prepared (decided request state) kept spare before now → IsPrepared finder_looks prepared request state kept spare before now
is_prepared finder_looks prepared request state kept spare before now (inl p) =
    let mark : mark_of prepared.reply ≡ served = ap mark_of p.reply ∙ step_is_served request state in
    record {
      reply = p.reply ∙ ap (λ m. answer m request state) (sym mark);
      lawful = subst (λ m. IsLawful m request state) (sym mark) tt;
      moves = ap (λ ms. after_all (own_name request) ms state) p.moves ∙ ap (λ m. after m request state) (sym mark);
      made =
          subst (λ ms. ComesWith prepared.reply.status ms) (sym p.moves)
          (subst (λ r. ComesWith r.status (step request state).moves) (sym p.reply) (comes_with (decided request state).answer));
      room = p.room;
      looks = record { exact = λ _. p.looked; most = exactly before now (looks finder_looks request state) p.looked };
    }
is_prepared finder_looks prepared request state kept spare before now (inr p) =
    let mark : mark_of prepared.reply ≡ short = ap mark_of p.reply in
    record {
      reply = p.reply ∙ ap (λ m. answer m request state) (sym mark);
      lawful = subst (λ m. IsLawful m request state) (sym mark) tt;
      moves = ap (λ ms. after_all (own_name request) ms state) p.moves ∙ ap (λ m. after m request state) (sym mark);
      made = inl p.moves;
      room = no_room_needed prepared.moves kept.objects kept.groups kept.shelves spare p.moves;
      looks = record { exact = λ is. absurd (short≢served (sym mark ∙ is)); most = p.looked };
    }

-- what was prepared as was decided has the reply and the moves that are due
prepared_is_due : (prepared : Prepared) (answer : Result Done Refusal) → IsAsDecided (Ok prepared) answer
    → (prepared.reply ≡ (outcome_of answer).reply) × (prepared.moves ≡ (outcome_of answer).moves)
prepared_is_due prepared (Ok done) same = same
prepared_is_due prepared (Err refusal) same = absurd same

-- what was prepared is done with room for it, or told as want of memory
pub prepared_with_room : (finder_looks : ℕ → ℕ) (prepared : Prepared) (result : Ready) (due : Decided) (kept : Kept) (spare before now : ℕ)
    → IsAsDecided (Ok prepared) due.answer → now ≡ before + all_looks finder_looks due → HasRoom result.moves kept.objects kept.groups kept.shelves spare
    → ((result.reply ≡ prepared.reply) × (result.moves ≡ prepared.moves)) ⊎ ((result.reply ≡ out_of_memory) × (result.moves ≡ [])) → Does finder_looks result due kept spare before now
prepared_with_room finder_looks prepared result due kept spare before now found looked room (inl same) =
    let is = prepared_is_due prepared due.answer found in
    inl (record { reply = same.0 ∙ is.0; moves = same.1 ∙ is.1; room = room; looked = looked })
prepared_with_room finder_looks prepared result due kept spare before now found looked room (inr lost) =
    inr (record { reply = lost.0; moves = lost.1; looked = exactly before now (all_looks finder_looks due) looked })
