use Rattle.std.proofs.Common.{◌==◌, ℕ, ◌∙◌, rules}
use Rattle.std.specs.List.{slice_split}
use Rattle.std.proofs.lemmas.Bool.Decides.{nat_tests}
use Rattle.std.proofs.lemmas.Iterator.Search.{any_from_yields_List}
use Rattle.std.proofs.lemmas.Iterator.Splits.{YieldsList-from_slice_split}
use Rattle.http_routes.specs.Connections.{is_close, trimmed}
use Rattle.http_routes.proofs.ConnectionLemmas.{list_any-map}
use Rattle.http_routes.proofs.connections.lists_close.Goals as goal

-- each piece between commas is tested
pub returns : goal.returns
returns c =
    let yields = YieldsList-from_slice_split _ (λ (b : ℕ). b == 44) c.args.value.now (cc) (cc) (cc) (λ x b q h. search (rules, nat_tests)) in
    any_from_yields_List (λ option. is_close (trimmed option)) _ _ c.any.result c.any.ensures.ran yields (λ x b q h. search (rules, nat_tests))
    ∙ list_any-map is_close trimmed (slice_split (λ b. b == 44) c.args.value.now)
