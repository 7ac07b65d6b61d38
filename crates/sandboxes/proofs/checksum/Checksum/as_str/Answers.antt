use Rattle.std.proofs.Common.{rules}
use Rattle.std.proofs.lemmas.Str.{IsUtf8-from_ascii}
use Rattle.sandboxes.proofs.ChecksumLemmas.{IsAscii-checksum}
use Rattle.sandboxes.proofs.checksum.Checksum.as_str.Goals as goal

pub unwrap-requires : goal.unwrap-requires
unwrap-requires c =
    let utf8 = IsUtf8-from_ascii c.self.inside.digits (IsAscii-checksum c.self.inside.digits c.self.invariant) in
    search rules
