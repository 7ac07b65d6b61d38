-- The next checksum is above those before it.
use Rattle.std.proofs.Common.{ℕ, List, ◌∙◌}
use Rattle.std.proofs.lemmas.List.{drop_more}
use Rattle.sandboxes.specs.Files.{holding_of}
use Rattle.org_requests.proofs.ListingLemmas.{next_in_order}
use Rattle.cookbook_routes.specs.Sandboxes.{upload_doc}
use Rattle.cookbook_routes.proofs.sandbox_routes.uploads_tree.Goals as goal

pub push-requires : goal.push-requires
push-requires c =
    next_in_order (λ (sum : List ℕ). upload_doc c.args.org.now (holding_of c.args.files.now c.args.org.now) sum) c.args.sums.now c.loop-sum.fields _ _ _ _ c.loop-sum.invariant
    (drop_more c.args.sums.now c.loop-sum.sum-index c.sum-item.result c.loop-sum-test.true) (c.in_ok-from_str.ensures ∙ c.as_str.ensures.value ∙ c.sum-item.is) c.requires
