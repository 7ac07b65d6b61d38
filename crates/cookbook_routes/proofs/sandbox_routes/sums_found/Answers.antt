-- The keys of a dict are those of its fields.
use Rattle.std.proofs.Common.{◌≡◌, IfOk, map, option_map, option_and_then, sym, ap, subst, ◌∙◌, rules}
use Rattle.std.specs.Map.{keys_of}
use Rattle.doc_tree.proofs.Docs.{pairs_list-pairs_of}
use Rattle.doc_tree.specs.Doc.{pairs_list, pairs_of}
use Rattle.doc_tree.specs.Tree.{doc_of, pair_of}
use Rattle.cookbook_routes.specs.Sandboxes.{all_checksums, dict_keys}
use Rattle.cookbook_routes.proofs.sandbox_routes.sums_found.Goals as goal

pub returns-in-Some-Dict : goal.returns-in-Some-Dict
returns-in-Some-Dict c =
    let keys : all_checksums (keys_of (map pair_of c.as_slice.result.now)) ≡ all_checksums (keys_of (pairs_list (pairs_of c.in-Some-Dict.fields))) =
    ap (λ ps. all_checksums (keys_of ps)) (c.as_slice.ensures.value ∙ sym (pairs_list-pairs_of c.in-Some-Dict.fields)) in
    let found : option_and_then all_checksums (option_and_then dict_keys (option_map (λ t. doc_of t.now) c.args.found)) ≡ all_checksums (keys_of (pairs_list (pairs_of c.in-Some-Dict.fields))) =
    search rules in
    subst (λ due. IfOk c.all_checksums.result (λ o. o ≡ due)) (keys ∙ sym found) c.all_checksums.ensures
