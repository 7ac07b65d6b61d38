use Rattle.hex.specs.Hex.{IsBytes, encode_lower}
use Rattle.std.proofs.Common.{◌≡◌, length, true, sym, subst, rules, arith}
use Rattle.sandboxes.specs.Checksums.{is_checksum}
use Rattle.sandboxes.proofs.ChecksumLemmas.{is_checksum-encode_lower}
use Rattle.sandboxes.proofs.checksum.Checksum.from_digest.Goals as goal

pub invariant_of-result : goal.invariant_of-result
invariant_of-result c =
    let bytes : IsBytes c.args.digest = λ i. search rules in
    let long : length c.args.digest ≡ 16 = omega arith in
    let written : c.encode_to_slice.new.output ≡ encode_lower c.args.digest = search rules in
    subst (λ text. is_checksum text ≡ true) (sym written) (is_checksum-encode_lower c.args.digest bytes long)
