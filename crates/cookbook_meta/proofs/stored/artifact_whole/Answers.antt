use Rattle.cookbook_meta.proofs.WholeLemmas.{artifact_made}
use Rattle.cookbook_meta.proofs.stored.artifact_whole.Goals as goal

pub returns : goal.returns
returns c =
    artifact_made c.args.name.now c.args.version c.args.id.now c.args.frozen c.args.files.now c.args.body.now _ _ _ _ c.artifact_fields.ensures
    c.in_ok-made.ensures c.in_ok-put_artifact.ensures c.in_ok-put_settled.ensures
