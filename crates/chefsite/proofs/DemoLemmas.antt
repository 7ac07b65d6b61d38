-- How a demo goes on from request to request, and what it comes to in the end.
use Rattle.std.proofs.Common.{◌≡◌, ℕ, List, [], ◌∷◌, ◌++◌, length, map, drop, slice_get, Option, Some, Result, Ok, Err, IfOk, sym, ap, subst, refl, ◌∙◌, append_assoc, append-nil}
use Rattle.std.proofs.lemmas.List.{map-append}
use Rattle.demo_requests.specs.DemoRequests.{demo_requests}
use Rattle.demo_requests.specs.Lines.{Outcome, Sums, sums_of, lines_of}
use Rattle.org_core.specs.FullStates.{none}
use Rattle.org_requests.specs.declared.replies.Reply.{Reply}
use Rattle.org_requests.specs.declared.requests.Place.{Place}
use Rattle.org_requests.specs.declared.requests.Place.TheVariants.{Of, Organisations, LeftOut, NoRoute, NoMethod, NoMemory}
use Rattle.org_requests.specs.declared.requests.Request.{Request}
use Rattle.org_requests.specs.Requests.{IsReadAt, IsRead}
use Rattle.org_machine.specs.Alone.{Exchange, States, own, nobody}
use Rattle.org_machine.specs.Serving.{Progress, Serves}
use Rattle.org_machine.proofs.Going.{none_yet, one_more}
use Rattle.org_machine.proofs.PermittingLemmas.{all_permitted}
use Rattle.http_wire.specs.Replies.{reply_text}
use Rattle.chefsite.specs.Demonstrating.{outcome_of, outcomes_of, AreCountsOf, IsToldOf, Demonstrating}

-- a request that no bytes spell stands for itself
read_at : (place : Place) (request : Request) → IsReadAt place request request
read_at (Of org route) request = refl
read_at Organisations request = refl
read_at LeftOut request = refl
read_at NoRoute request = refl
read_at (NoMethod org) request = refl
read_at NoMemory request = tt

pub read_itself : (request : Request) → IsRead request request
read_itself request = read_at request.place request

-- before the first request
pub none_served : (size : ℕ) (left : List Request) (states : States) (counts : Sums)
    → left ≡ demo_requests size → ((name : List ℕ) → states name ≡ none) → counts ≡ sums_of [] → Demonstrating size left states counts
none_served size left states counts all absent none_counted = record {
  exchanges = [];
  requests = all;
  progress = subst (λ s. Progress nobody [] s) (λ i name. sym (absent name) i) (none_yet nobody);
  counted = none_counted;
}

-- the first of some requests, and those behind it
first_and_rest : (all : List Request) (first : Request) → slice_get all 0 ≡ Some first → first ∷ drop 1 all ≡ all
first_and_rest [] first is = absurd (cc)
first_and_rest (r ∷ rest) first is = ap (λ (x : Request). x ∷ rest) (sym (some_is r first is))
  where
    some_is : (x y : Request) → Some x ≡ Some y → x ≡ y
    some_is x y same = cc

-- one request more
pub one_served : (size : ℕ) (request : Request) (reply : Reply) (before left : List Request) (states after : States) (counts next : Sums)
    → Demonstrating size before states counts → slice_get before 0 ≡ Some request → left ≡ drop 1 before → Serves states request reply after
    → ((outcomes : List Outcome) → counts ≡ sums_of outcomes → next ≡ sums_of (outcomes ++ outcome_of reply ∷ []))
    → Demonstrating size left after next
one_served size request reply before left states after counts next d first rest serves counted =
    let e : Exchange = record { request = request; reply = reply } in
    record {
      exchanges = d.exchanges ++ e ∷ [];
      requests =
          ap (λ rs. rs ++ left) (map-append (λ (x : Exchange). x.request) d.exchanges (e ∷ []))
          ∙ append_assoc (map (λ (x : Exchange). x.request) d.exchanges) (request ∷ []) left
          ∙ ap (λ rs. map (λ (x : Exchange). x.request) d.exchanges ++ request ∷ rs) rest
          ∙ ap (λ rs. map (λ (x : Exchange). x.request) d.exchanges ++ rs) (first_and_rest before request first)
          ∙ d.requests;
      progress = one_more e d.progress serves;
      counted =
          counted (outcomes_of d.exchanges) d.counted
          ∙ ap sums_of (sym (map-append (λ (x : Exchange). outcome_of x.reply) d.exchanges (e ∷ [])));
    }

-- behind the last request
pub all_served : (size : ℕ) (left : List Request) (states : States) (counts : Sums) → Demonstrating size left states counts → left ≡ []
    → AreCountsOf size counts
all_served size left states counts d done = (
  d.exchanges,
  record {
    requests =
        sym (append-nil (map (λ (x : Exchange). x.request) d.exchanges))
        ∙ ap (λ rs. map (λ (x : Exchange). x.request) d.exchanges ++ rs) (sym done)
        ∙ d.requests;
    alone = d.progress.alone;
    permitted = λ name. all_permitted none (own name d.exchanges) (d.progress.alone.each name);
  },
  d.counted,
)

-- no request is to come where there is no first one
pub none_left : (left : List Request) (found : Option Request) → found ≡ slice_get left 0 → ((request : Request) → found ≡ Some request → ⊥) → left ≡ []
none_left [] found is not_some = refl
none_left (r ∷ rest) found is not_some = absurd (not_some r is)

-- the lines that tell these counts
pub told_if : {E : Type 0} (result : Result (List ℕ) E) (size : ℕ) (counts : Sums) → AreCountsOf size counts
    → IfOk result (λ text. text ≡ lines_of counts) → IfOk result (IsToldOf size)
told_if (Ok text) size counts are told = (are.0, are.1, told ∙ ap lines_of are.2)
told_if (Err error) size counts are told = tt

-- a reply is counted by the bytes of its text
pub counted_so : (reply : Reply) (bytes : ℕ) (counts next : Sums) → bytes ≡ length (reply_text reply)
    → ((outcomes : List Outcome) → counts ≡ sums_of outcomes → next ≡ sums_of (outcomes ++ record { status = reply.status; bytes = bytes } ∷ []))
    → (outcomes : List Outcome) → counts ≡ sums_of outcomes → next ≡ sums_of (outcomes ++ outcome_of reply ∷ [])
counted_so reply bytes counts next same counted outcomes was =
    subst (λ n. next ≡ sums_of (outcomes ++ record { status = reply.status; bytes = n } ∷ [])) same (counted outcomes was)
