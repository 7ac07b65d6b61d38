use Rattle.std.proofs.Common.{rules}
use Rattle.host_tree.proofs.KeptLemmas.{loses-part}
use Rattle.host_tree.proofs.image.ImageHostHost.remove.Goals as goal

pub returns-in_err-take_all-clause-err : goal.returns-in_err-take_all-clause-err
returns-in_err-take_all-clause-err c =
    let part = loses-part c.args.path.now c.args.self.now c.take_all.new.self c.take_all.ensures.host c.in_err-take_all.ensures.err in
    search rules
