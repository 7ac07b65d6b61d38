use Rattle.cookbook_meta.proofs.WholeLemmas.{settled_made}
use Rattle.cookbook_meta.proofs.stored.put_settled.Goals as goal

pub returns : goal.returns
returns c =
    settled_made c.args.frozen c.args.files.now c.args.body.now c.args.made.now _ _ _ _ c.in_ok-put_tree.ensures c.in_ok-metadata.ensures c.in_ok-put_tree-2.ensures c.in_ok-put_segments.ensures
