use Rattle.std.proofs.Common.{◌≡◌, List, ℕ, true, false, Some, is_none, option_copied, option_map, sym, ap, ◌∙◌}
use Rattle.std.specs.List.{find}
use Rattle.policy_locks.specs.Making.{is_unidentified, locked}
use Rattle.policy_locks.specs.declared.lock.CookbookLock.{CookbookLock}
use Rattle.policy_locks.proofs.MakeLemmas.{found_more, locked_more}
use Rattle.policy_locks.proofs.making.locked.Goals as goal

pub returns-in_default-clause-fault : goal.returns-in_default-clause-fault
returns-in_default-clause-fault c =
    let none = sym c.identifier_for.ensures ∙ ap option_copied c.in_default.is in
    let found = found_more c.args.identifiers.now _ c.as_slice-pin-items.result.now c.loop-pin.pin-index c.pin-item.result true c.loop-pin-test.true c.pin-item.is (ap is_none none) c.loop-pin.invariant.1 in
    (c.pin-item.result, ap (find (is_unidentified c.args.identifiers.now)) (sym c.as_slice-pin-items.ensures) ∙ found, sym c.in_ok-copy.ensures)

pub loop-pin-preserved : goal.loop-pin-preserved
loop-pin-preserved c =
    let some = sym c.identifier_for.ensures ∙ ap option_copied c.in-Some.is in
    let lock : List ℕ → CookbookLock = λ identifier. record { name = c.pin-item.result.name; version = c.pin-item.result.version; identifier = identifier } in
    let has : locked c.args.identifiers.now c.pin-item.result ≡ Some c.in_ok-lock_of.field-0 = ap (option_map lock) some ∙ ap Some (sym c.in_ok-lock_of.ensures) in (
      locked_more c.args.identifiers.now _ c.as_slice-pin-items.result.now c.loop-pin.pin-index c.pin-item.result c.loop-pin.locks _ c.in_ok-lock_of.field-0 c.loop-pin-test.true c.pin-item.is has c.in_ok-push.ensures.ok c.loop-pin.invariant.0,
      found_more c.args.identifiers.now _ c.as_slice-pin-items.result.now c.loop-pin.pin-index c.pin-item.result false c.loop-pin-test.true c.pin-item.is (ap is_none some) c.loop-pin.invariant.1,
    )
