use Rattle.std.proofs.Common.{◌≡◌, ℕ, List, IfOk, ◌∙◌, subst}
use Rattle.std.specs.Prelude.{codes}
use Rattle.http_routes.specs.Connections.{closes}
use Rattle.http_routes.specs.Headers.{Stands}
use Rattle.http_routes.specs.Requests.{head_in}
use Rattle.http_wire.specs.Fields.{values_named}
use Rattle.http_wire.specs.Requests.{callers_in, versions_in, connections_in}
use Rattle.http_wire.proofs.requests.read_parts.Goals as goal

-- the parts of the head, and the values of both headers in it
pub returns : goal.returns
returns c head at =
    let C : List (List ℕ × List ℕ) → Type 0 = λ hs. Stands c.value_named-caller.result (values_named (codes "x-ops-userid") hs) in
    let V : List (List ℕ × List ℕ) → Type 0 = λ hs. Stands c.value_named-version.result (values_named (codes "x-ops-server-api-version") hs) in
    let E : List (List ℕ × List ℕ) → Type 0 = λ hs. c.closes-close.result ≡ closes (values_named (codes "connection") hs) in
    let connections = subst E at.fields c.closes-close.ensures in
    let callers = subst C at.fields c.value_named-caller.ensures in
    let versions = subst V at.fields c.value_named-version.ensures in
    let read = c.read.ensures (callers_in head) (versions_in head) (connections_in head) callers versions connections in
    let P : List ℕ → List ℕ → Type 0 =
    λ method target. IfOk c.read.result (λ said. said.request ≡ head_in method target (callers_in head) (versions_in head) (connections_in head)) in
    subst (λ method. P method head.target) (c.of.ensures ∙ at.method)
    (subst (P c.of.result.now) (c.of-2.ensures ∙ at.path) read)
