-- The tokens of a compact text are those of the document that it spells.
use Rattle.std.proofs.Common.{IfSome, option_map, sym, subst}
use Rattle.doc_tree.specs.Tree.{doc_of}
use Rattle.doc_tree.specs.Valid.{IsDoc}
use Rattle.row_reading.proofs.BodyLemmas.{took_text}
use Rattle.row_reading.proofs.bodies.tree_of.Goals as goal
use Rattle.row_reading.proofs.bodies.tree_of.Goals.{in-Some, in_default}

pub returns : goal.returns
returns c compact =
    let found = c.in_ok-found.found in
    let known : IfSome (option_map doc_of found) IsDoc = elim c.match-found.branch [
      | in-Some w ↦ subst (λ o. IfSome (option_map doc_of o) IsDoc) (sym w.in-Some.is) w.known.ensures
      | in_default w ↦ subst (λ o. IfSome (option_map doc_of o) IsDoc) (sym w.in_default.is) tt
    ] in
    took_text c.args.text.now (option_map doc_of found) c.in_ok-reader.reader c.take_tree.new.reader compact c.in_ok-reader.ensures.ok known c.in_ok-found.ensures.took
