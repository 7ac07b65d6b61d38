use Rattle.std.proofs.Common.{subst, sym}
use Rattle.host_tree.specs.Acts.{CanWrite}
use Rattle.host_tree.specs.Faulty.{Faulty}
use Rattle.host_tree.proofs.faulty.FaultyHostHost.write_file.Goals as goal

pub write_file-requires : goal.write_file-requires
write_file-requires c = subst (λ (f : Faulty). CanWrite f.host c.args.path.now) (sym c.self.view_is) c.requires
