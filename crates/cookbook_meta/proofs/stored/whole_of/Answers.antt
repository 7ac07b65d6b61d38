use Rattle.cookbook_meta.proofs.WholeLemmas.{whole_made}
use Rattle.cookbook_meta.proofs.stored.whole_of.Goals as goal

pub returns : goal.returns
returns c =
    whole_made c.args.name.now c.args.version c.args.frozen c.args.files.now c.args.body.now _ _ _ _ c.fields.ensures
    c.in_ok-made.ensures c.in_ok-put_told.ensures c.in_ok-put_settled.ensures
