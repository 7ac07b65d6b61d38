use Rattle.std.proofs.Common.{◌==◌, ℕ, rules}
use Rattle.std.proofs.lemmas.Bool.Decides.{nat_tests}
use Rattle.std.proofs.lemmas.Iterator.Search.{all_from_yields_List}
use Rattle.std.proofs.lemmas.Iterator.Splits.{YieldsList-from_slice_split}
use Rattle.host_tree.specs.Paths.{is_segment}
use Rattle.host_tree.proofs.paths.are_segments.Goals as goal

-- each piece between slashes is tested
pub returns : goal.returns
returns c =
    let yields = YieldsList-from_slice_split _ (λ (b : ℕ). b == 47) c.args.behind.now (cc) (cc) (cc) (λ x b q h. search (rules, nat_tests)) in
    all_from_yields_List is_segment _ _ c.all.result c.all.ensures.ran yields (λ x b q h. search (rules, nat_tests))
