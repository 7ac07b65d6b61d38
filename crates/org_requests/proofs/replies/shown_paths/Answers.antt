-- The next name is above those before it.
use Rattle.std.proofs.Common.{ℕ, List, ◌++◌, ◌∙◌}
use Rattle.std.proofs.lemmas.List.{drop_more}
use Rattle.doc_tree.specs.Doc.{words}
use Rattle.org_requests.proofs.ListingLemmas.{next_in_order}
use Rattle.org_requests.proofs.replies.shown_paths.Goals as goal

pub push-requires : goal.push-requires
push-requires c =
    next_in_order (λ (name : List ℕ). words (c.args.front.now ++ name)) c.args.names.now c.loop-name.fields _ _ _ _ c.loop-name.invariant
    (drop_more c.args.names.now c.loop-name.name-index c.name-item.result c.loop-name-test.true) (c.in_ok-copy.ensures ∙ c.name-item.is) c.requires
