use Rattle.std.proofs.Common.{ℕ, List, Ok, subst}
use Rattle.std.specs.declared.option.Option.{Option}
use Rattle.talks.specs.Exchanges.{line, IsWantedOr}
use Rattle.talks.specs.declared.exchange.Got.{Got}
use Rattle.talks.proofs.TalkLemmas.{Goes-good, Goes-other, Halts-or, Parts-then}
use Rattle.knife_core.specs.Table.{prints, posts, sends}
use Rattle.knife_core.proofs.rows.send.Goals as goal

pub returns-in-Ok-Some-clause-parts : goal.returns-in-Ok-Some-clause-parts
returns-in-Ok-Some-clause-parts g c =
    let sent = c.args.sent in
    let old = line c.args.room.now (g.L.Source.left c.args.link.now) (g.L.Sink.gained c.args.link.now) in
    let new = line c.want_or.new.room (g.L.Source.left c.want_or.new.link) (g.L.Sink.gained c.want_or.new.link) in
    Goes-good c.args.whom.now 404 sent.put (posts sent.post sent.line) (λ (body : List ℕ). prints sent.line) c.in-Ok-Some.got old new
    (subst (λ (o : Option Got). IsWantedOr c.args.whom.now 404 sent.put (Ok o) old new) c.in-Ok-Some.field-0-is c.in-Ok-Some.ensures.wanted)

pub returns-in-Ok-None-clause-parts : goal.returns-in-Ok-None-clause-parts
returns-in-Ok-None-clause-parts g c =
    let sent = c.args.sent in
    let old = line c.args.room.now (g.L.Source.left c.args.link.now) (g.L.Sink.gained c.args.link.now) in
    let new = line c.want_or.new.room (g.L.Source.left c.want_or.new.link) (g.L.Sink.gained c.want_or.new.link) in
    Parts-then c.args.whom.now prints (sends sent) (posts sent.post sent.line) c.send_new.result old new _
    (Goes-other c.args.whom.now 404 sent.put (posts sent.post sent.line) (λ (body : List ℕ). prints sent.line) old new
    (subst (λ (o : Option Got). IsWantedOr c.args.whom.now 404 sent.put (Ok o) old new) c.in-Ok-None.field-0-is c.in-Ok-None.ensures.wanted))
    c.send_new.ensures.parts

pub returns-in-Err-clause-parts : goal.returns-in-Err-clause-parts
returns-in-Err-clause-parts g c =
    let sent = c.args.sent in
    Halts-or c.args.whom.now 404 sent.put (posts sent.post sent.line) (λ (body : List ℕ). prints sent.line) c.in-Err.halt _ _ c.in-Err.ensures.wanted
