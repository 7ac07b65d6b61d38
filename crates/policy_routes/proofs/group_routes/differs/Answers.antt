-- Two locks with one text are one.
use Rattle.std.proofs.Common.{not, bytes_eq, sym, ap, ◌∙◌}
use Rattle.std.specs.Option.{option_copied}
use Rattle.doc_tree.specs.Tree.{doc_of}
use Rattle.doc_tree.specs.Written.{text}
use Rattle.policy_routes.specs.Groups as spec
use Rattle.policy_routes.proofs.SameLemmas.{same_texts}
use Rattle.policy_routes.proofs.group_routes.differs.Goals as goal

pub returns-in-Some : goal.returns-in-Some
returns-in-Some c =
    ap not (same_texts c.tree-tree.result.now c.args.lock.now c.same.result c.known.ensures c.known-in-Some.ensures c.one_text.ensures c.same.ensures)
    ∙ ap (λ d. not (bytes_eq (text d) (text (doc_of c.args.lock.now)))) c.tree-tree.ensures
    ∙ ap (λ found. spec.differs (option_copied found) (doc_of c.args.lock.now)) (sym c.in-Some.is)
