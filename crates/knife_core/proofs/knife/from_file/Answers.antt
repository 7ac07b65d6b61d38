use Rattle.std.proofs.Common.{sym, subst}
use Rattle.std.specs.declared.option.Option.{Option}
use Rattle.talks.specs.Endings.{Parts}
use Rattle.talks.specs.Exchanges.{line}
use Rattle.knife_errands.specs.declared.errands.Errand.TheVariants.{FromFile}
use Rattle.knife_errands.specs.declared.files.Sent.{Sent}
use Rattle.knife_core.specs.Table.{prints, from_file, sends, talk}
use Rattle.knife_core.specs.Ends.{on}
use Rattle.knife_core.proofs.EndLemmas.{Parts-fresh, Says-unsent}
use Rattle.knife_core.proofs.knife.from_file.Goals as goal

pub returns-in-Ok-clause-says : goal.returns-in-Ok-clause-says
returns-in-Ok-clause-says g c =
    let whom = c.args.whom.now in
    let file = c.args.file.now in
    let s = c.in-Ok.ensures.sent in
    let left = g.L.Source.left c.args.link.now in
    let gained = g.L.Sink.gained c.args.link.now in
    let new = line c.send.new.room (g.L.Source.left c.send.new.link) (g.L.Sink.gained c.send.new.link) in
    let fresh = Parts-fresh whom (sends c.in-Ok.sent) c.send.result c.args.room.now left gained new c.requires c.send.ensures.parts in
    let whole = subst (λ (o : Option Sent). Parts whom prints (from_file file o) c.send.result (on left gained) new) (sym s.sent) fresh in
    record {
      held = s.held;
      is_held = s.is_file;
      says = c.print.ensures.says whom (talk whom (FromFile c.args.kind.now file) s.held) (on left gained) (on (g.L.Source.left c.send.new.link) (g.L.Sink.gained c.send.new.link)) c.send.new.room whole;
    }

pub returns-in-Ok-clause-link : goal.returns-in-Ok-clause-link
returns-in-Ok-clause-link g c = c.print.ensures.link _ _ c.send.ensures.cause

pub returns-in-Err-clause-says : goal.returns-in-Err-clause-says
returns-in-Err-clause-says g c =
    rw c.unsent_end.ensures
    (Says-unsent c.args.whom.now c.args.kind.now c.args.file.now (g.D.Disk.files c.args.disk.now) c.in-Err.unsent (g.L.Source.left c.args.link.now) (g.L.Sink.gained c.args.link.now) (g.W.Sink.gained c.args.out.now) c.in-Err.ensures.sent)
