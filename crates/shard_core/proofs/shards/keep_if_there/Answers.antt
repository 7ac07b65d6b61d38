-- One that isn't there isn't kept; one that is, is kept as it was given.
use Rattle.std.proofs.Common.{◌≡◌, Bool, true, false, Some, None, cond, is_some, bytes_eq, sym, ap, ◌∙◌}
use Rattle.org_core.specs.States.{state_in}
use Rattle.shard_core.specs.Organisations.{kept_at}
use Rattle.shard_core.proofs.ShardLemmas.{given-back, none-back, none-kept}
use Rattle.shard_core.proofs.shards.keep_if_there.Goals as goal

pub returns-in-Some : goal.returns-in-Some
returns-in-Some c name =
    let same = given-back _ c.args.key c.in-Some.key c.args.state c.in-Some.state (sym c.then_some.ensures ∙ c.in-Some.is) in
    let there : is_some (state_in c.args.state) ≡ true = sym c.is_there-is_there.ensures ∙ same.0 in
    let before = kept_at c.args.organisations.now name in
    c.keep.ensures name
    ∙ (λ i. cond (bytes_eq (same.1 i) name) (Some (same.2 i)) before)
    ∙ ap (λ (b : Bool). cond (bytes_eq c.args.key name) (cond b (Some c.args.state) None) before) (sym there)

pub returns-in-None : goal.returns-in-None
returns-in-None c name =
    let gone : is_some (state_in c.args.state) ≡ false = sym c.is_there-is_there.ensures ∙ none-back _ _ (sym c.then_some.ensures ∙ c.in-None.is) in
    none-kept c.args.organisations.now c.args.key name c.requires.absent
    ∙ ap (λ (b : Bool). cond (bytes_eq c.args.key name) (cond b (Some c.args.state) None) (kept_at c.args.organisations.now name)) (sym gone)
