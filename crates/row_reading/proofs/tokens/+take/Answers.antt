-- Each document, field, bracket and brace that is taken is the one that is next.
use Rattle.std.proofs.Common.{◌≡◌, ◌∷◌, ◌<◌, IfSome, List, length, false, Some, None, option_map, ap, subst, arith}
use Rattle.json.specs.Json.{after_end_array, read_key}
use Rattle.json.specs.Reads.{token_of}
use Rattle.json.specs.Token.{Token}
use Rattle.json.specs.Token as token
use Rattle.json.proofs.Grammar.{closed_array, read_key_is}
use Rattle.doc_tree.specs.Tree.{doc_of}
use Rattle.compact_json.specs.Compact.{first_doc}
use Rattle.compact_json.specs.Next.{AtDoc, begins_value}
use Rattle.compact_json.proofs.NextLemmas.{not_at_end}
use Rattle.compact_json.proofs.ReadLemmas.{docs_read, pairs_read}
use Rattle.row_reading.specs.Tokens.{TookDoc}
use Rattle.row_reading.proofs.TokenLemmas.{AtDoc-behind, AtDoc-so_far, docs-more, no_doc, pairs-going, pairs-more, took_dict, took_list, took_number}
use Rattle.row_reading.proofs.tokens.+take.Goals as goal

pub take_fields-loop-key-preserved : goal.take_fields-loop-key-preserved
take_fields-loop-key-preserved t c =
    let l = c.loop-key in
    let all = c.args.reader.now in
    let k = c.in-Ok-Some.key.now in
    let between = c.next_key.new.self in
    let read : read_key l.reader ≡ Some (Some k, between) = grind arith in
    let first = read_key_is l.reader (Some k) between read in
    let d = doc_of c.in-Some.tree in
    let after = c.take_tree.new.reader in
    let took = subst (λ o. AtDoc between → TookDoc (option_map doc_of o) between after) c.in-Some.is c.in_ok-tree-in-Ok-Some.ensures.took in
    let less = subst (λ o. IfSome o (λ _. length after < length between)) c.in-Some.is c.in_ok-tree-in-Ok-Some.ensures.shorter in
    let one = ap (λ (ts : List Token). length ts) first in
    record {
      so_far = λ at.
          let far = l.invariant.so_far at in
          pairs-more all l.reader between l.fields k far first after c.put.new.self c.in_ok-key-in-Ok-Some.key d c.in_ok-key-in-Ok-Some.ensures (took (AtDoc-behind all l.reader between l.fields k far first)) c.in_ok-put-in-Some.ensures.ok;
      fewer = omega (arith, one, less, l.invariant.fewer);
    }

pub take_fields-returns-in-None-clause-took : goal.take_fields-returns-in-None-clause-took
take_fields-returns-in-None-clause-took t c at =
    let l = c.loop-key in
    let k = c.in-Ok-Some.key.now in
    let between = c.next_key.new.self in
    let read : read_key l.reader ≡ Some (Some k, between) = grind arith in
    let first = read_key_is l.reader (Some k) between read in
    let took = subst (λ o. AtDoc between → TookDoc (option_map doc_of o) between c.take_tree.new.reader) c.in-None.is c.in_ok-tree-in-Ok-Some.ensures.took in
    took (AtDoc-behind c.args.reader.now l.reader between l.fields k (l.invariant.so_far at) first)

pub take_fields-returns-in-Ok-None-clause-took : goal.take_fields-returns-in-Ok-None-clause-took
take_fields-returns-in-Ok-None-clause-took t c at =
    let l = c.loop-key in
    let after = c.next_key.new.self in
    let read : read_key l.reader ≡ Some (None, after) = grind arith in
    pairs_read l.fields c.args.reader.now l.reader after (l.invariant.so_far at).1 (read_key_is l.reader None after read)

pub take_fields-returns-in-Err-clause-took : goal.take_fields-returns-in-Err-clause-took
take_fields-returns-in-Err-clause-took t c at =
    let l = c.loop-key in
    pairs-going c.args.reader.now l.reader l.fields (l.invariant.so_far at) c.in-Err.ensures.value

pub take_tree-returns-in_default-clause-took : goal.take_tree-returns-in_default-clause-took
take_tree-returns-in_default-clause-took t c at = not_at_end (first_doc c.args.reader.now) _ _ (grind arith) at.1.1

pub take_tree-returns-in-Number-clause-took : goal.take_tree-returns-in-Number-clause-took
take_tree-returns-in-Number-clause-took t c at =
    let all = c.args.reader.now in
    let left = c.next.new.self in
    let first : all ≡ token.number c.in-Number.digits.now ∷ left = grind arith in
    took_number c.in-Number.digits.now c.whole_of.result (option_map doc_of c.whole_tree.result) all left at first c.whole_of.ensures c.whole_tree.ensures

pub take_tree-returns-in_ok-take_trees-in-BeginArray-clause-took :
    goal.take_tree-returns-in_ok-take_trees-in-BeginArray-clause-took
take_tree-returns-in_ok-take_trees-in-BeginArray-clause-took t c at =
    let all = c.args.reader.now in
    let between = c.next.new.self in
    let first : all ≡ token.begin_array ∷ between = grind arith in
    took_list c.in_ok-take_trees-in-BeginArray.field-0 (option_map doc_of c.list_tree.result) all between c.take_trees.new.reader at first c.in_ok-take_trees-in-BeginArray.ensures.took c.list_tree.ensures

pub take_tree-returns-in_ok-take_fields-in-BeginObject-clause-took :
    goal.take_tree-returns-in_ok-take_fields-in-BeginObject-clause-took
take_tree-returns-in_ok-take_fields-in-BeginObject-clause-took t c at =
    let all = c.args.reader.now in
    let between = c.next.new.self in
    let first : all ≡ token.begin_object ∷ between = grind arith in
    took_dict c.in_ok-take_fields-in-BeginObject.field-0 (option_map doc_of c.dict_tree.result) all between c.take_fields.new.reader at first c.in_ok-take_fields-in-BeginObject.ensures.took c.dict_tree.ensures

pub take_tree-returns-in-EndObject-clause-took : goal.take_tree-returns-in-EndObject-clause-took
take_tree-returns-in-EndObject-clause-took t c at =
    let all = c.args.reader.now in
    let left = c.next.new.self in
    let first : all ≡ token_of c.in-Some.token ∷ left = grind arith in
    let other : begins_value (token_of c.in-Some.token) ≡ false = grind arith in
    no_doc all left (token_of c.in-Some.token) at first other

pub take_trees-loop-alloc-preserved : goal.take_trees-loop-alloc-preserved
take_trees-loop-alloc-preserved t c =
    let l = c.loop-alloc in
    let all = c.args.reader.now in
    let going : (after_end_array l.reader ≡ None) × (c.take_end_array.new.self ≡ l.reader) = grind arith in
    let d = doc_of c.in-Some.tree in
    let after = c.take_tree.new.reader in
    let here = subst (λ (ts : List Token). (AtDoc ts → TookDoc (option_map doc_of c.in_ok-tree.field-0) ts after) × IfSome c.in_ok-tree.field-0 (λ _. length after < length ts)) going.1 (c.in_ok-tree.ensures.took, c.in_ok-tree.ensures.shorter) in
    let took = subst (λ o. AtDoc l.reader → TookDoc (option_map doc_of o) l.reader after) c.in-Some.is here.0 in
    let less = subst (λ o. IfSome o (λ _. length after < length l.reader)) c.in-Some.is here.1 in
    record {
      so_far = λ at.
          let far = l.invariant.so_far at in
          docs-more all l.reader after l.trees c.push.new.self d far going.0 (took (AtDoc-so_far all l.reader l.trees far going.0)) c.in_ok-push-in-Some.ensures.ok;
      fewer = omega (arith, less, l.invariant.fewer);
    }

pub take_trees-returns-in-None-clause-took : goal.take_trees-returns-in-None-clause-took
take_trees-returns-in-None-clause-took t c at =
    let l = c.loop-alloc in
    let going : (after_end_array l.reader ≡ None) × (c.take_end_array.new.self ≡ l.reader) = grind arith in
    let after = c.take_tree.new.reader in
    let here = subst (λ (ts : List Token). AtDoc ts → TookDoc (option_map doc_of c.in_ok-tree.field-0) ts after) going.1 c.in_ok-tree.ensures.took in
    let took = subst (λ o. AtDoc l.reader → TookDoc (option_map doc_of o) l.reader after) c.in-None.is here in
    took (AtDoc-so_far c.args.reader.now l.reader l.trees (l.invariant.so_far at) going.0)

pub take_trees-returns-clause-took : goal.take_trees-returns-clause-took
take_trees-returns-clause-took t c at =
    let l = c.loop-alloc in
    let after = c.take_end_array.new.self in
    let closed : after_end_array l.reader ≡ Some after = grind arith in
    docs_read l.trees c.args.reader.now l.reader after (l.invariant.so_far at).1 (closed_array l.reader after closed)
