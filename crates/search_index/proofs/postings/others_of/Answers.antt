-- The walk along a chain.
use Rattle.std.proofs.Common.{◌≡◌, ◌∙◌, ◌+◌, ◌++◌, ◌∷◌, [], ℕ, List, Option, is_some, length, sym, ap, subst, arith}
use Rattle.std.proofs.lemmas.List.{length-append}
use Rattle.search_index.specs.Posting.{link_of, other_side, owner_in, owner_of, pair_of}
use Rattle.search_index.specs.declared.posting.Link.{Link}
use Rattle.search_index.specs.declared.posting.Posting.{Posting}
use Rattle.search_index.specs.declared.posting.Side.{Side}
use Rattle.search_index.proofs.WalkLemmas.{IsWalk, owner_same, walk_begins, walk_ends, walk_steps, walk_there}
use Rattle.search_index.proofs.postings.others_of.Goals as goal

pub loop-at-init : goal.loop-at-init
loop-at-init c =
    subst (λ z. IsWalk c.args.side c.args.items.now c.args.owner c.first_of-at.result z c.first_of-at.result) (sym c.new-found.ensures.items)
    (walk_begins c.args.side c.args.items.now c.args.heads.now c.args.owner c.first_of-at.result c.requires c.first_of-at.ensures)

pub posting-posting-requires : goal.posting-posting-requires
posting-posting-requires c = ap is_some (walk_there c.args.side c.args.items.now c.args.owner c.first_of-at.result c.loop-at.found.items c.loop-at.at c.in-Some.place c.loop-at.invariant c.in-Some.is).1

pub loop-at-smaller : goal.loop-at-smaller
loop-at-smaller c =
    let step = walk_steps c.args.side c.args.items.now c.args.owner c.first_of-at.result c.loop-at.found.items c.loop-at.at c.in-Some.place c.posting-posting.result.now c.loop-at.invariant c.in-Some.is c.posting-posting.ensures in
    let longer : length c.push.new.self.items ≡ length c.loop-at.found.items + 1 = ap length c.in_ok-push.ensures.items ∙ length-append c.loop-at.found.items _ in
    let within = step.within in
    omega arith

pub loop-at-preserved : goal.loop-at-preserved
loop-at-preserved c =
    let x : Posting = c.posting-posting.result.now in
    let step = walk_steps c.args.side c.args.items.now c.args.owner c.first_of-at.result c.loop-at.found.items c.loop-at.at c.in-Some.place x c.loop-at.invariant c.in-Some.is c.posting-posting.ensures in
    let pushed : ℕ = c.owner.result in
    let is : pushed ≡ owner_in (other_side c.args.side) (pair_of x) = c.owner.ensures ∙ ap (λ (s : Side). owner_of s x) c.other.ensures ∙ owner_same (other_side c.args.side) x in
    subst (λ (n : List ℕ). IsWalk c.args.side c.args.items.now c.args.owner c.first_of-at.result n c.get-at.result) (sym c.in_ok-push.ensures.items)
    (subst (λ (w : Option ℕ). IsWalk c.args.side c.args.items.now c.args.owner c.first_of-at.result (c.loop-at.found.items ++ pushed ∷ []) w) (sym c.get-at.ensures)
    (subst (λ (l : Link). IsWalk c.args.side c.args.items.now c.args.owner c.first_of-at.result (c.loop-at.found.items ++ pushed ∷ []) l.next) (sym c.link.ensures)
    (subst (λ (o : ℕ). IsWalk c.args.side c.args.items.now c.args.owner c.first_of-at.result (c.loop-at.found.items ++ o ∷ []) (link_of c.args.side x).next) (sym is) step.after)))

pub returns : goal.returns
returns c other = walk_ends c.args.side c.args.items.now c.args.owner c.first_of-at.result c.loop-at.found.items c.loop-at.at c.loop-at.invariant c.in_default.is other
