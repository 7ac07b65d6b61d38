-- No file is missing from a complete sandbox.
use Rattle.std.proofs.Common.{◌∙◌, sym}
use Rattle.sandboxes.specs.Files.{holding_of}
use Rattle.org_core.proofs.FileLemmas.{complete_misses_none}
use Rattle.org_core.proofs.file_moves.commit.Goals as goal

pub commit-requires : goal.commit-requires
commit-requires c =
    complete_misses_none (holding_of c.args.files.now c.args.org.now) c.args.id.now (sym c.is_complete.ensures ∙ c.if-is_complete.true)
