use Rattle.std.proofs.Common.{subst, sym}
use Rattle.host_tree.specs.Entries.{IsHost}
use Rattle.host_tree.proofs.EntryLemmas.{host-with_mode}
use Rattle.host_tree.proofs.KeptLemmas.{kept-moded}
use Rattle.host_tree.proofs.image.ImageHost.change_mode.Goals as goal

pub invariant_of-self : goal.invariant_of-self
invariant_of-self c =
    subst IsHost (sym (kept-moded c.self.inside.entries c.put_mode_at.new.entries c.args.self.now c.args.path.now c.args.mode c.self.view_is (rw c.as_text.ensures.value at c.put_mode_at.ensures)))
    (host-with_mode c.args.path.now c.args.mode c.args.self.now (subst IsHost c.self.view_is c.self.invariant))

pub returns : goal.returns
returns c = kept-moded c.self.inside.entries c.put_mode_at.new.entries c.args.self.now c.args.path.now c.args.mode c.self.view_is (rw c.as_text.ensures.value at c.put_mode_at.ensures)
