-- Each document, pair, bracket and brace that is read is the one that is next.
use Rattle.std.proofs.Common.{◌≡◌, ◌++◌, ◌∷◌, [], List, length, Some, None, option_map, sym, ap, ◌∙◌, subst, arith}
use Rattle.std.specs.Map.{keys_of}
use Rattle.json.specs.Json.{after_end_array, read_key}
use Rattle.json.specs.Reads.{token_of}
use Rattle.json.specs.Token.{Token}
use Rattle.json.specs.Token as token
use Rattle.json.proofs.Grammar.{closed_array, read_key_is}
use Rattle.doc_tree.specs.Doc.{pairs_list}
use Rattle.doc_tree.specs.Tree.{doc_of}
use Rattle.doc_tree.specs.Valid.{InOrder}
use Rattle.compact_json.specs.Compact.{first_doc}
use Rattle.compact_json.specs.Next.{AtDoc}
use Rattle.compact_json.proofs.ReadLemmas.{docs_front-more, docs_read, pairs_front-more, pairs_read, InOrder-front, InOrder-more}
use Rattle.compact_json.proofs.NextLemmas.{same_rest, shorter, AtDoc-from, AtDocs-behind, AtDict-behind, IsWholeText-first, AtDoc-first, AtDocs-later, Member, member}
use Rattle.compact_json.proofs.read.+read.Goals as goal

pub read_tree-whole_of-requires : goal.read_tree-whole_of-requires
read_tree-whole_of-requires t c =
    let first : c.args.reader.now ≡ token.number c.in-Number.digits.now ∷ c.next_token.new.reader = c.next_token.ensures.value ∙ ap (λ k. token_of k ∷ c.next_token.new.reader) c.in-Number.is in
    IsWholeText-first (first_doc c.args.reader.now) c.in-Number.digits.now c.next_token.new.reader c.requires.1.0 c.requires.0 (sym first ∙ c.requires.1.1)

pub read_tree-read_trees-requires : goal.read_tree-read_trees-requires
read_tree-read_trees-requires t c =
    let first : c.args.reader.now ≡ token.begin_array ∷ c.next_token.new.reader = c.next_token.ensures.value ∙ ap (λ k. token_of k ∷ c.next_token.new.reader) c.in-BeginArray.is in
    let one = ap (λ (ts : List Token). length ts) first in
    (omega (arith, one), AtDocs-behind (first_doc c.args.reader.now) c.next_token.new.reader c.requires.1.0 c.requires.0 (sym first ∙ c.requires.1.1))

pub read_tree-read_fields-requires : goal.read_tree-read_fields-requires
read_tree-read_fields-requires t c =
    let first : c.args.reader.now ≡ token.begin_object ∷ c.next_token.new.reader = c.next_token.ensures.value ∙ ap (λ k. token_of k ∷ c.next_token.new.reader) c.in-BeginObject.is in
    let one = ap (λ (ts : List Token). length ts) first in
    (omega (arith, one), AtDict-behind (first_doc c.args.reader.now) c.next_token.new.reader c.requires.1.0 c.requires.0 (sym first ∙ c.requires.1.1))

pub read_trees-read_tree-requires : goal.read_trees-read_tree-requires
read_trees-read_tree-requires t c =
    let l = c.loop-alloc in
    let left = l.invariant.left in
    let going : (after_end_array l.reader ≡ None) × (c.take_end_array.new.self ≡ l.reader) = grind arith in
    let same = ap (λ (ts : List Token). length ts) going.1 in
    (omega (arith, same, l.invariant.fewer), subst AtDoc (sym going.1) (AtDoc-first left.0 l.reader left.2.0 left.1 left.2.1 going.0))

pub read_trees-loop-alloc-preserved : goal.read_trees-loop-alloc-preserved
read_trees-loop-alloc-preserved t c =
    let l = c.loop-alloc in
    let left = l.invariant.left in
    let going : (after_end_array l.reader ≡ None) × (c.take_end_array.new.self ≡ l.reader) = grind arith in
    let d = doc_of c.in_ok-read_tree.field-0 in
    let after = c.read_tree.new.reader in
    let read = sym going.1 ∙ c.in_ok-read_tree.ensures in
    let less = shorter d l.reader after read in
    record {
      left = AtDocs-later left.0 l.reader left.2.0 after d left.1 left.2.1 going.0 read;
      read = docs_front-more l.trees c.push.new.self d c.args.reader.now l.reader after l.invariant.read read c.in_ok-push.ensures.ok;
      fewer = omega (arith, less, l.invariant.fewer);
    }

pub read_trees-returns : goal.read_trees-returns
read_trees-returns t c =
    let l = c.loop-alloc in
    let after = c.take_end_array.new.self in
    let closed : after_end_array l.reader ≡ Some after = grind arith in
    docs_read l.trees c.args.reader.now l.reader after l.invariant.read (closed_array l.reader after closed)

pub read_fields-read_tree-requires : goal.read_fields-read_tree-requires
read_fields-read_tree-requires t c =
    let l = c.loop-key in
    let left = l.invariant.left in
    let k = c.in-Some.key.now in
    let after = c.next_key.new.reader in
    let first = read_key_is l.reader (Some k) after (c.next_key.ensures ∙ ap (λ o. Some (option_map (λ s. s.now) o, after)) c.in-Some.is) in
    let m : Member left.0 k after = member left.0 l.reader left.3.0 after k left.1 left.3.1 first in
    let one = ap (λ (ts : List Token). length ts) first in
    (omega (arith, one, l.invariant.fewer), AtDoc-from m.doc after _ m.valid m.is)

pub read_fields-push-requires : goal.read_fields-push-requires
read_fields-push-requires t c =
    let l = c.loop-key in
    let left = l.invariant.left in
    let k = c.in-Some.key.now in
    let after = c.next_key.new.reader in
    let first = read_key_is l.reader (Some k) after (c.next_key.ensures ∙ ap (λ o. Some (option_map (λ s. s.now) o, after)) c.in-Some.is) in
    let m : Member left.0 k after = member left.0 l.reader left.3.0 after k left.1 left.3.1 first in
    let order = subst (λ qs. InOrder (keys_of l.fields ++ keys_of (pairs_list qs))) m.all left.2 in
    subst (λ s. InOrder (keys_of l.fields ++ s ∷ [])) (sym c.in_ok-key.ensures) (InOrder-front (keys_of l.fields) k (keys_of (pairs_list m.more)) order)

pub read_fields-loop-key-preserved : goal.read_fields-loop-key-preserved
read_fields-loop-key-preserved t c =
    let l = c.loop-key in
    let left = l.invariant.left in
    let k = c.in-Some.key.now in
    let between = c.next_key.new.reader in
    let first = read_key_is l.reader (Some k) between (c.next_key.ensures ∙ ap (λ o. Some (option_map (λ s. s.now) o, between)) c.in-Some.is) in
    let m : Member left.0 k between = member left.0 l.reader left.3.0 between k left.1 left.3.1 first in
    let order = subst (λ qs. InOrder (keys_of l.fields ++ keys_of (pairs_list qs))) m.all left.2 in
    let mine = subst (λ s. InOrder (keys_of l.fields ++ s ∷ keys_of (pairs_list m.more))) (sym c.in_ok-key.ensures) order in
    let d = doc_of c.in_ok-read_tree.field-0 in
    let after = c.read_tree.new.reader in
    let read = c.in_ok-read_tree.ensures in
    let one = ap (λ (ts : List Token). length ts) first in
    let less = shorter d between after read in
    record {
      left = (
        m.more,
        m.later,
        InOrder-more l.fields c.push.new.self c.in_ok-key.key d (keys_of (pairs_list m.more)) mine c.in_ok-push.ensures.ok,
        (m.rest, same_rest d m.doc after _ (sym read ∙ m.is)),
      );
      read = pairs_front-more l.fields c.push.new.self c.in_ok-key.key d c.args.reader.now l.reader between after l.invariant.read
          (first ∙ ap (λ s. token.key s ∷ between) (sym c.in_ok-key.ensures)) read c.in_ok-push.ensures.ok;
      fewer = omega (arith, one, less, l.invariant.fewer);
    }

pub read_fields-returns : goal.read_fields-returns
read_fields-returns t c =
    let l = c.loop-key in
    let after = c.next_key.new.reader in
    let ended : read_key l.reader ≡ Some (None, after) = grind arith in
    pairs_read l.fields c.args.reader.now l.reader after l.invariant.read (read_key_is l.reader None after ended)
