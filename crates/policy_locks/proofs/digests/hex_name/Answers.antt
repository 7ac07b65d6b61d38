use Rattle.std.proofs.Common.{◌≡◌, length, true≢false, sym, ap, ◌∙◌, rules, arith}
use Rattle.doc_tree.specs.Name.{is_name}
use Rattle.hex.specs.Hex.{IsBytes, encode_lower}
use Rattle.policy_locks.proofs.HexLemmas.{is_name-encode_lower}
use Rattle.policy_locks.proofs.digests.hex_name.Goals as goal

pub unreachable-requires : goal.unreachable-requires
unreachable-requires c =
    let bytes : IsBytes c.args.digest = λ i. search rules in
    let long : length c.args.digest ≡ 32 = omega arith in
    let text : c.of.result ≡ encode_lower c.args.digest = c.of.ensures ∙ c.in_ok-encode.ensures ∙ ap encode_lower c.as_slice.ensures in
    true≢false (sym (is_name-encode_lower c.args.digest bytes long) ∙ ap is_name (sym text) ∙ sym c.in-Err.ensures.test)
