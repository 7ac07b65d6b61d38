use Rattle.std.proofs.Common.{◌≡◌, Ok, sym, ap, subst}
use Rattle.doc_tree.specs.Tree.{doc_of}
use Rattle.doc_tree.specs.Read.{reads, Gives}
use Rattle.doc_tree.proofs.Docs.{tree_of-doc_of}
use Rattle.org_requests.specs.declared.requests.Body.TheVariants.{Doc as Read}
use Rattle.http_routes.proofs.bodies.body_from.Goals as goal

-- the tree that was read is that of the document that the bytes spell
pub returns-in-Ok : goal.returns-in-Ok
returns-in-Ok c =
    let read : reads c.args.bytes.now ≡ Ok (doc_of c.in-Ok.tree) = subst (λ r. Gives r (reads c.args.bytes.now)) c.in-Ok.is c.read_json.ensures in
    rw read (ap Read (sym (tree_of-doc_of c.in-Ok.tree)))
