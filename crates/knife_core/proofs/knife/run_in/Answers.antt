use Rattle.std.proofs.Common.{None, sym, subst}
use Rattle.knife_errands.specs.declared.errands.Errand.{Errand}
use Rattle.knife_core.specs.Table.{one, run_list}
use Rattle.knife_core.specs.Ends.{on, ahead, KnifeSays}
use Rattle.knife_core.proofs.EndLemmas.{Parts-fresh}
use Rattle.knife_core.proofs.knife.run_in.Goals as goal

pub returns-in-One-clause-says : goal.returns-in-One-clause-says
returns-in-One-clause-says g c =
    let whom = c.args.whom.now in
    let files = g.D.Disk.files c.args.disk.now in
    let left = g.L.Source.left c.args.link.now in
    let gained = g.L.Sink.gained c.args.link.now in
    let old = on left gained in
    let new = on (g.L.Source.left c.one.new.link) (g.L.Sink.gained c.one.new.link) in
    let before = g.W.Sink.gained c.args.out.now in
    let now = g.W.Sink.gained c.print.new.out in
    let said = one whom c.in-One.step in
    let fresh = Parts-fresh whom said c.one.result c.args.room.now left gained (ahead c.one.new.room new) c.requires c.one.ensures.parts in
    let says = c.print.ensures.says whom said old new c.one.new.room fresh in
    subst (λ (e : Errand). KnifeSays whom e files c.print.result old new before now) (sym c.in-One.is)
    (record { held = None; is_held = tt; says = says })

pub returns-in-One-clause-link : goal.returns-in-One-clause-link
returns-in-One-clause-link g c = c.print.ensures.link _ _ c.one.ensures.cause

pub returns-in-RunList-clause-says : goal.returns-in-RunList-clause-says
returns-in-RunList-clause-says g c =
    let whom = c.args.whom.now in
    let files = g.D.Disk.files c.args.disk.now in
    let left = g.L.Source.left c.args.link.now in
    let gained = g.L.Sink.gained c.args.link.now in
    let old = on left gained in
    let new = on (g.L.Source.left c.run_list.new.link) (g.L.Sink.gained c.run_list.new.link) in
    let before = g.W.Sink.gained c.args.out.now in
    let now = g.W.Sink.gained c.print-in-RunList.new.out in
    let said = run_list whom c.in-RunList.node c.in-RunList.change c.in-RunList.item in
    let fresh = Parts-fresh whom said c.run_list.result c.args.room.now left gained (ahead c.run_list.new.room new) c.requires c.run_list.ensures.parts in
    let says = c.print-in-RunList.ensures.says whom said old new c.run_list.new.room fresh in
    subst (λ (e : Errand). KnifeSays whom e files c.print-in-RunList.result old new before now) (sym c.in-RunList.is)
    (record { held = None; is_held = tt; says = says })

pub returns-in-RunList-clause-link : goal.returns-in-RunList-clause-link
returns-in-RunList-clause-link g c = c.print-in-RunList.ensures.link _ _ c.run_list.ensures.cause
