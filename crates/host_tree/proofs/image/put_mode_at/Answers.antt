use Rattle.std.proofs.Common.{◌≡◌, rules, sym}
use Rattle.host_tree.proofs.KeptLemmas.{moded-none}
use Rattle.host_tree.proofs.image.put_mode_at.Goals as goal

pub returns-in-None : goal.returns-in-None
returns-in-None c q =
    let same : c.get_mut.follows.lender-at-none ≡ c.args.entries.now = search rules in
    rw same (moded-none c.args.entries.now c.args.path.now q c.args.mode (sym c.in-None.ensures.value))
