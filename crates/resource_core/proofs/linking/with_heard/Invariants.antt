-- What is fired by what was heard so far.
use Rattle.std.proofs.Common.{◌≡◌, take}
use Rattle.resource_core.specs.Links.{fires_from}
use Rattle.resource_core.proofs.linking.with_heard.Given as goal

abbrev pub invariant-loop-one : goal.invariant-loop-one
invariant-loop-one l = l.fires.items ≡ fires_from 0 l.fn.own.items (take l.one-index l.heard)
