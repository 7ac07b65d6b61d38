use Rattle.std.proofs.Common.{◌∙◌, ap}
use Rattle.hex.specs.Hex.{encode_lower}
use Rattle.sandboxes.specs.Checksums.{checksum_of}
use Rattle.sandboxes.proofs.checksum.Checksum.of.Goals as goal

pub returns : goal.returns
unfolding checksum_of
returns c = c.from_digest.ensures ∙ ap encode_lower c.digest.ensures
