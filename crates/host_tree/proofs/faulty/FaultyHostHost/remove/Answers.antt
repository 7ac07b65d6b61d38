use Rattle.std.proofs.Common.{subst, sym}
use Rattle.host_tree.specs.Acts.{CanRemove}
use Rattle.host_tree.specs.Faulty.{Faulty}
use Rattle.host_tree.proofs.faulty.FaultyHostHost.remove.Goals as goal

pub remove-requires : goal.remove-requires
remove-requires c = subst (λ (f : Faulty). CanRemove f.host c.args.path.now) (sym c.self.view_is) c.requires
