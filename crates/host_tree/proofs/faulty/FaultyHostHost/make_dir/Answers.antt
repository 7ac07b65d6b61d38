use Rattle.std.proofs.Common.{subst, sym}
use Rattle.host_tree.specs.Acts.{CanMake}
use Rattle.host_tree.specs.Faulty.{Faulty}
use Rattle.host_tree.proofs.faulty.FaultyHostHost.make_dir.Goals as goal

pub make_dir-requires : goal.make_dir-requires
make_dir-requires c = subst (λ (f : Faulty). CanMake f.host c.args.path.now) (sym c.self.view_is) c.requires
