-- Nobody has files yet, nor objects.
use Rattle.std.proofs.Common.{◌≡◌, Option, None, ap, rules, subst, sym, unwrap_or, ◌∙◌}
use Rattle.std.specs.FinMap as finite
use Rattle.doc_tree.specs.Text.{text_cmp}
use Rattle.sandboxes.specs.Files.{Kept, KeptByName, holding_of, none as no_part}
use Rattle.object_finder.specs.Exact.{HoldsExactly}
use Rattle.org_core.specs.States.{Kept as KeptOrganisation, objects_of}
use Rattle.shard_core.specs.Keeping.{held_in}
use Rattle.shard_core.specs.Organisations.{full_at, kept_at, state_at}
use Rattle.org_machine.proofs.FileKeepingLemmas.{none_meets}
use Rattle.shard_core.proofs.shards.Shard.new.Goals as goal

pub invariant_of-result-clause-conditions : goal.invariant_of-result-clause-conditions
invariant_of-result-clause-conditions c name =
    let no_files = ap (λ (files : KeptByName). holding_of files name) c.none.ensures
    ∙ ap (λ (found : Option Kept). (unwrap_or found no_part).holding) (finite.get-empty text_cmp name) in
    let absent : kept_at c.with_hasher.result name ≡ None = search rules in
    none_meets (full_at c.with_hasher.result c.none.result name) (λ i. record { state = state_at (absent i); files = no_files i })

pub invariant_of-result-clause-indexed : goal.invariant_of-result-clause-indexed
invariant_of-result-clause-indexed c name =
    let absent : kept_at c.with_hasher.result name ≡ None = search rules in
    subst (λ (k : Option KeptOrganisation). HoldsExactly (held_in c.none-2.result) name (objects_of (state_at k))) (sym absent) (c.none-2.ensures.exact name)
