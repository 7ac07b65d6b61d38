use Rattle.yaml_subset.proofs.FallingLemmas.{put_is}
use Rattle.yaml_subset.proofs.falling.Falling.put_first.Goals as goal

pub returns : goal.returns
returns c =
    put_is c.self.inside.entries.items c.push.new.self.items (record { key = c.args.key; tree = c.into_tree-tree.result }) c.args.document c.args.self.now
    c.in_ok-push.ensures.items c.into_tree-tree.ensures.tree c.self.view_is c.requires
