-- The key of the field stays, so the keys do.
use Rattle.std.proofs.Common.{◌<◌, length, map, ap, arith}
use Rattle.std.proofs.lemmas.List.{length-map}
use Rattle.doc_tree.specs.Tree.{doc_of, pair_of}
use Rattle.doc_tree.proofs.Place.{keys_of-replaced, ArePairs-replaced, replaced_fields}
use Rattle.doc_tree.proofs.tree.Fields.replace.Goals as goal

pub invariant_of-self : goal.invariant_of-self
invariant_of-self c =
    let old = c.self.inside.entries.items in
    let within : c.args.index < length old = omega (arith, length-map old pair_of, ap length c.self.view_is) in
    rw (replaced_fields old c.args.index c.index_mut.result.now c.args.tree within c.index_mut.ensures.value, keys_of-replaced) (
      ArePairs-replaced c.args.index (doc_of c.args.tree) (map pair_of old) c.self.invariant.0 c.known.ensures,
      c.self.invariant.1,
    )

pub returns : goal.returns
returns c =
    let old = c.self.inside.entries.items in
    let within : c.args.index < length old = omega (arith, length-map old pair_of, ap length c.self.view_is) in
    rw (replaced_fields old c.args.index c.index_mut.result.now c.args.tree within c.index_mut.ensures.value, c.self.view_is)
