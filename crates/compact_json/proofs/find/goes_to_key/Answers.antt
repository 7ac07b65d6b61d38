-- The first pair of the key has the part, and where no pair has the key there is none.
use Rattle.std.proofs.Common.{◌≡◌, List, length, true, false, bytes_eq, Some, None, option_map, sym, ap, ◌∙◌, arith}
use Rattle.json.specs.Json.{read_key}
use Rattle.json.specs.Token.{Token}
use Rattle.json.proofs.Grammar.{read_key_is}
use Rattle.doc_tree.specs.Part.{pair_at, part_at}
use Rattle.compact_json.specs.Compact.{first_doc}
use Rattle.compact_json.specs.Next.{begins_object}
use Rattle.compact_json.proofs.NextLemmas.{same_rest, shorter, first_is, AtDoc-from, dict-behind, Member, member, no_more, pair_at-here, pair_at-there}
use Rattle.compact_json.proofs.find.goes_to_key.Goals as goal

pub loop-found-init : goal.loop-found-init
loop-found-init c =
    let entered = c.enters_dict.ensures in
    let d = first_doc c.args.reader.now in
    let opens : begins_object entered.0 ≡ true = grind arith in
    let inner = dict-behind d entered.0 c.enters_dict.new.reader c.requires.at.1.0 c.requires.at.0 (sym entered.1 ∙ c.requires.at.1.1) opens in
    let one = ap (λ (ts : List Token). length ts) entered.1 in
    record {
      left = (inner.0, inner.2.0, sym (ap (part_at c.args.key.now) inner.1), inner.3);
      fewer = omega (arith, one);
    }

pub returns-then-eq-clause-part : goal.returns-then-eq-clause-part
returns-then-eq-clause-part c =
    let l = c.loop-found in
    let left = l.invariant.left in
    let k = c.in-Some.found.now in
    let after = c.next_key.new.reader in
    let first = read_key_is l.reader (Some k) after (c.next_key.ensures ∙ ap (λ o. Some (option_map (λ s. s.now) o, after)) c.in-Some.is) in
    let m : Member left.0 k after = member left.0 l.reader left.3.0 after k left.1 left.3.1 first in
    let same : bytes_eq k c.args.key.now ≡ true = grind arith in
    let part = sym left.2 ∙ ap (pair_at c.args.key.now) m.all ∙ pair_at-here k c.args.key.now m.doc m.more same in
    (AtDoc-from m.doc after _ m.valid m.is, part ∙ ap Some (sym (first_is m.doc after _ m.valid m.is)))

pub pass-requires-clause-at : goal.pass-requires-clause-at
pass-requires-clause-at c =
    let l = c.loop-found in
    let left = l.invariant.left in
    let k = c.in-Some.found.now in
    let after = c.next_key.new.reader in
    let first = read_key_is l.reader (Some k) after (c.next_key.ensures ∙ ap (λ o. Some (option_map (λ s. s.now) o, after)) c.in-Some.is) in
    let m : Member left.0 k after = member left.0 l.reader left.3.0 after k left.1 left.3.1 first in
    AtDoc-from m.doc after _ m.valid m.is

pub loop-found-preserved : goal.loop-found-preserved
loop-found-preserved c =
    let l = c.loop-found in
    let left = l.invariant.left in
    let k = c.in-Some.found.now in
    let between = c.next_key.new.reader in
    let first = read_key_is l.reader (Some k) between (c.next_key.ensures ∙ ap (λ o. Some (option_map (λ s. s.now) o, between)) c.in-Some.is) in
    let m : Member left.0 k between = member left.0 l.reader left.3.0 between k left.1 left.3.1 first in
    let other : bytes_eq k c.args.key.now ≡ false = grind arith in
    let d = first_doc between in
    let after = c.pass.new.reader in
    let one = ap (λ (ts : List Token). length ts) first in
    let less = shorter d between after c.pass.ensures in
    record {
      left = (
        m.more,
        m.later,
        sym (ap (pair_at c.args.key.now) m.all ∙ pair_at-there k c.args.key.now m.doc m.more other) ∙ left.2,
        (m.rest, same_rest d m.doc after _ (sym c.pass.ensures ∙ m.is)),
      );
      fewer = omega (arith, one, less, l.invariant.fewer);
    }

pub returns-clause-part : goal.returns-clause-part
returns-clause-part c =
    let l = c.loop-found in
    let left = l.invariant.left in
    let after = c.next_key.new.reader in
    let ended : read_key l.reader ≡ Some (None, after) = grind arith in
    sym left.2 ∙ ap (pair_at c.args.key.now) (no_more left.0 l.reader left.3.0 after left.3.1 (read_key_is l.reader None after ended))
